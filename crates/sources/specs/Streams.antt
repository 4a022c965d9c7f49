-- A finite list of items and how it ends.
use Rattle.std.specs.Prelude.{◌≡◌, ℕ, zero, suc, ◌+◌, List, [], ◌∷◌, length, drop, refl, Some, None, Ok, Err, Option, Result}
use Rattle.std.proofs.Common.{ap}
use Rattle.sources.specs.declared.fault.Fault.{Fault}

-- how it ends: finished, or by a fault
abbrev pub Ending : Type 0
Ending = Result (Unit {0}) Fault

pub record Stream (T : Type 0) : Type 0 where
  pub items : List T
  pub ending : Ending

-- what `next` answers where no item is left
abbrev pub at_end : {T : Type 0} → Ending → Result (Option T) Fault
at_end (Ok _) = Ok None
at_end (Err f) = Err f

abbrev pub first_of : {T : Type 0} → List T → Ending → Result (Option T) Fault
first_of [] e = at_end e
first_of (x ∷ xs) e = Ok (Some x)

-- what `next` answers: the first item, or the ending
abbrev pub answer : {T : Type 0} → Stream T → Result (Option T) Fault
answer s = first_of s.items s.ending

abbrev pub tail : {T : Type 0} → List T → List T
tail [] = []
tail (x ∷ xs) = xs

-- what is left after `next`
abbrev pub rest : {T : Type 0} → Stream T → Stream T
rest s = record { items = tail s.items; ending = s.ending }

-- a source of the whole w that stands at its start has all of it left
abbrev pub AtStart : {T : Type 0} → Stream T → Stream T → Stream T → Type 0
AtStart whole left w = (whole ≡ w) × (left ≡ w)

-- what a stream has behind its first n items
abbrev pub from : {T : Type 0} → ℕ → Stream T → Stream T
from n s = record { items = drop n s.items; ending = s.ending }

-- what is left when all of it was taken: no item, and the ending as it was
abbrev pub passed_over : {T : Type 0} → Stream T → Stream T
passed_over s = record { items = []; ending = s.ending }

-- f k, f (k + 1), .. : n items
abbrev pub tabulate : {T : Type 0} → (ℕ → T) → ℕ → ℕ → List T
tabulate f k zero = []
tabulate f k (suc n) = f k ∷ tabulate f (k + 1) n

-- n items, whatever they are
pub length_tabulate : {T : Type 0} (f : ℕ → T) (k n : ℕ) → length (tabulate f k n) ≡ n
length_tabulate f k zero = refl
length_tabulate f k (suc n) = ap suc (length_tabulate f (k + 1) n)
