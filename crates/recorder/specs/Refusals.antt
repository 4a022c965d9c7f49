-- The number of each refusal of writing and of rewriting, and its words.
use Rattle.std.specs.Prelude.{ℕ, List, codes}
use Rattle.recordings.specs.Refusals.{opening_number, opening_text}
use Rattle.recorder.specs.declared.refusal.RewritingRefusal.{RewritingRefusal}
use Rattle.recorder.specs.declared.refusal.RewritingRefusal.TheVariants.{Opening, Writing}
use Rattle.recorder.specs.declared.refusal.WritingRefusal.{WritingRefusal}
use Rattle.recorder.specs.declared.refusal.WritingRefusal.TheVariants.{Buffer, Full, Rate}

abbrev pub writing_number : WritingRefusal → ℕ
writing_number Buffer = 14
writing_number Full = 15
writing_number Rate = 16

abbrev pub writing_text : WritingRefusal → List ℕ
writing_text Buffer = codes "the buffer must have 44 to 65536 bytes"
writing_text Full = codes "the samples do not fit the buffer or 65536 bytes"
writing_text Rate = codes "the rate must be 1 to 100000000"

-- rewriting is refused as opening or as writing is: 8 to 11 or 14 to 16
abbrev pub rewriting_number : RewritingRefusal → ℕ
rewriting_number (Opening r) = opening_number r
rewriting_number (Writing r) = writing_number r

abbrev pub rewriting_text : RewritingRefusal → List ℕ
rewriting_text (Opening r) = opening_text r
rewriting_text (Writing r) = writing_text r
