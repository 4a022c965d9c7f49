-- What is printed, and what is read of a text file.
use Rattle.std.specs.Prelude.{ℕ, if◌then◌else◌, ◌==◌, List, [], ◌∷◌, ◌++◌, take, drop, codes, decimal, flat_map, nat_eq, Result, Ok, Err}
use Rattle.std.specs.Cmp.Lexicographic.{pointwise}
use Rattle.std.specs.Char.{encode_utf8, is_control}
use Rattle.std.specs.Char.Escape.{escape_default}
use Rattle.std.specs.Str.{chars, encode_utf8_all}
use Rattle.recordings.specs.Refusals.{opening_number, opening_place, opening_text}
use Rattle.recordings.specs.declared.refusal.OpeningRefusal.{OpeningRefusal}

-- `finished`, or `then` and the words of the fault
abbrev pub ending_text : {F : Type 0} → (F → List ℕ) → Result Unit F → List ℕ
ending_text words (Ok _) = codes "finished"
ending_text words (Err fault) = codes "then " ++ words fault

-- a character, or its escape where it is a control character
abbrev pub shown_char : ℕ → List ℕ
shown_char c = if is_control c then encode_utf8_all (escape_default c) else encode_utf8 c

-- a text with an escape in place of each control character
abbrev pub shown : List ℕ → List ℕ
shown text = flat_map shown_char (chars text)

-- `refused`, the number of the refusal, the byte place and the words
abbrev pub refused_text : OpeningRefusal → List ℕ
refused_text r =
    codes "refused "
    ++ (decimal (opening_number r) ++ (codes " at byte " ++ (decimal (opening_place r) ++ (codes ": " ++ opening_text r))))

-- `NAME: rate R, 1 file`, or `NAME to LAST: rate R, N files`
abbrev pub files_text : List ℕ → List ℕ → ℕ → ℕ → List ℕ
files_text to last rate n =
    if n == 1
    then shown to ++ (codes ": rate " ++ (decimal rate ++ codes ", 1 file"))
    else shown to
    ++ (codes " to " ++ (shown last ++ (codes ": rate " ++ (decimal rate ++ (codes ", " ++ (decimal n ++ codes " files"))))))

-- the bytes EF BB BF
abbrev pub mark : List ℕ
mark = 239 ∷ 187 ∷ 191 ∷ []

-- a text without the mark at its head
abbrev pub without_mark : List ℕ → List ℕ
without_mark b = if pointwise nat_eq (take 3 b) mark then drop 3 b else b
