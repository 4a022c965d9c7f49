-- A run in text: a line for each step, with its answer.
use Rattle.std.specs.Prelude.{ℕ, List, [], ◌∷◌, ◌++◌, take, Some, None, Ok, Err, Option, codes, decimal, flat_map}
use Rattle.std.specs.Fmt.{signed_decimal}
use Rattle.std.specs.List.{zip}
use Rattle.samples.specs.declared.kinds.ConverterSample.{ConverterSample}
use Rattle.player.specs.Calls.{Answered, item, filled, skipped, rewound}
use Rattle.player.specs.Words.{player_fault_text}
use Rattle.text.specs.Lines.{feed}
use Rattle.text.specs.declared.numbered.Numbered.{Numbered}
use Rattle.text.specs.declared.transcript.step.Step.{Step}
use Rattle.text.specs.declared.transcript.step.Step.TheVariants.{Next, Fill, Skip, Rewind}

-- a step, as the line that it was read from
abbrev pub step_text : Step → List ℕ
step_text Next = codes "next"
step_text (Fill n) = codes "fill " ++ decimal n
step_text (Skip n) = codes "skip " ++ decimal n
step_text Rewind = codes "rewind"

-- a sample: its real part, then its imaginary part
abbrev pub sample_text : ConverterSample → List ℕ
sample_text x = signed_decimal x.re ++ (codes " " ++ signed_decimal x.im)

-- what next found
abbrev pub item_text : Option ConverterSample → List ℕ
item_text None = codes "no item"
item_text (Some x) = codes "item " ++ sample_text x

-- a sample behind a count, or behind another sample
abbrev pub placed_text : ConverterSample → List ℕ
placed_text x = codes "; " ++ sample_text x

-- what a fill placed in its buffer: how many samples, then each of them
abbrev pub filled_text : ℕ → List ConverterSample → List ℕ
filled_text count buffer = decimal count ++ flat_map placed_text (take count buffer)

-- what was answered
abbrev pub answered_text : Answered ConverterSample → List ℕ
answered_text (item (Ok found)) = item_text found
answered_text (item (Err f)) = player_fault_text f
answered_text (filled (Ok count) buffer) = filled_text count buffer
answered_text (filled (Err f) buffer) = player_fault_text f
answered_text (skipped (Ok count)) = decimal count
answered_text (skipped (Err f)) = player_fault_text f
answered_text rewound = codes "done"

-- a step and its answer
abbrev pub answer_text : Step → Answered ConverterSample → List ℕ
answer_text step answer = step_text step ++ (codes ": " ++ answered_text answer)

-- the line of a step and its answer
abbrev pub line_text : Numbered Step × Answered ConverterSample → List ℕ
line_text turn = answer_text turn.0.held turn.1 ++ feed ∷ []

-- all steps with their answers, each in a line of its own
abbrev pub answer_lines : List (Numbered Step) → List (Answered ConverterSample) → List ℕ
answer_lines steps answers = flat_map line_text (zip steps answers)
