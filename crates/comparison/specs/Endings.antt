-- Endings in words.
use Rattle.std.specs.Prelude.{ℕ, List, Option, Some, Result, Ok, Err, codes}

-- `finished`, or the words of what ended it
abbrev pub ends_text : {F : Type 0} → (F → Option (List ℕ)) → Result Unit F → Option (List ℕ)
ends_text words (Ok _) = Some (codes "finished")
ends_text words (Err fault) = words fault
