-- A call that goes on from item to item: what it has got so far, and where an item belongs that comes.
use Rattle.std.proofs.Common.{◌≡◌, ℕ, zero, suc, ◌+◌, ◌<◌, ◌≤◌, Bool, List, [], ◌∷◌, ◌++◌, length, take, drop, set, Some, Ok, sym, ap, ◌∙◌, suc-add, arith}
use Rattle.std.specs.List.{slice_get}
use Rattle.player.proofs.Endings.{an_item}
use Rattle.player.proofs.Standings.{nth_drop}
use Rattle.player.specs.Standing.{Standing, coming, next_answer, left_to_later, onward}

-- k items have come: it stands k items further, and there were as many
pub record Got {T : Type 0} (start : Standing T) (k : ℕ) (s : Standing T) : Type 0 where
  pub further : s ≡ onward k start
  pub enough : k ≤ length start.left.items

-- the item that comes then is item k of those that were left at the start
pub item_came : {T : Type 0} (start : Standing T) (k : ℕ) (s : Standing T) → Got start k s → (got : Bool) (x : T) → Ok (Some x) ≡ left_to_later got (next_answer s) → slice_get start.left.items k ≡ Some x
item_came {T = T} start k s so_far got x a =
    let t : coming k start ≡ k = omega (arith, so_far.enough) in
    let d = ap (λ (u : Standing T). slice_get u.left.items 0) so_far.further ∙ nth_drop (coming k start) start.left.items ∙ ap (slice_get start.left.items) t in
    sym d ∙ an_item s.place s.left.items s.left.ending got x a

-- the buffer when k items of the source stand in it, and one more is put in
pub placed_more : {T : Type 0} (xs buffer : List T) (k : ℕ) (x : T) → k < length buffer → slice_get xs k ≡ Some x → set (take k xs ++ drop k buffer) k x ≡ take (k + 1) xs ++ drop (k + 1) buffer
placed_more [] buffer k x h i = cc
placed_more (y ∷ xs) [] k x h i = absurd (omega arith)
placed_more (y ∷ xs) (b ∷ buffer) zero x h i = let e : x ≡ y = cc in ap (λ v. v ∷ buffer) e
placed_more (y ∷ xs) (b ∷ buffer) (suc k) x h i = rw suc-add (ap (λ v. y ∷ v) (placed_more xs buffer k x (omega arith) i))
