-- What is wrong with a line, in words.
use Rattle.std.specs.Prelude.{ℕ, List, ◌++◌, Option, codes, decimal, string_bytes}
use Rattle.std.specs.Option.{option_map}
use Rattle.text.specs.declared.fault.Wrong.{Wrong}
use Rattle.text.specs.declared.fault.Wrong.TheVariants.{NoText, UnknownWord, NoNumber, Missing, Superfluous, Memory}
use Rattle.text.specs.declared.numbered.Numbered.{Numbered}

-- what is wrong
abbrev pub wrong_text : Wrong → List ℕ
wrong_text NoText = codes "the line is not UTF-8 text"
wrong_text (UnknownWord word kind) = codes "there is no " ++ (kind.now ++ (codes " '" ++ (string_bytes word ++ codes "'")))
wrong_text (NoNumber word range) = codes "'" ++ (string_bytes word ++ (codes "' is not " ++ range.now))
wrong_text (Missing form) = codes "a number is missing: " ++ form.now
wrong_text (Superfluous word form) = codes "'" ++ (string_bytes word ++ (codes "' is too much: " ++ form.now))
wrong_text Memory = codes "there is not enough memory"

-- a text behind the number of its line
abbrev pub at_line : ℕ → List ℕ → List ℕ
at_line line text = decimal line ++ (codes ": " ++ text)

-- what stands in a line, behind the line's number
abbrev pub numbered_text : {T : Type 0} → (T → Option (List ℕ)) → Numbered T → Option (List ℕ)
numbered_text words numbered = option_map (at_line numbered.line) (words numbered.held)
