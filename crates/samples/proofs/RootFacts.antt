-- The root is the greatest number whose square is at most n, and there is only one such.
use Rattle.std.proofs.Common.{◌≡◌, ℕ, zero, suc, ◌+◌, ◌*◌, ◌^◌, ◌<◌, ◌≤◌, leb, inl, inr, pow-suc, arith}
use Rattle.std.proofs.lemmas.Nat.{mul-le}
use Rattle.std.proofs.lemmas.Bool.{cases_Bool, leb-true, leb-false}
use Rattle.samples.specs.Roots.{Root, root, root_from, grown}

pub only_root : (n a b : ℕ) → Root n a → Root n b → a ≡ b
only_root n a b p q = grind (arith, mul-le (a + 1) (a + 1) b b, mul-le (b + 1) (b + 1) a a)

from : (b m n : ℕ) → m * m ≤ n → n < (m + 2 ^ b) * (m + 2 ^ b) → Root n (root_from b m n)
unfolding root_from grown
from zero m n l h = record { at_most = l; greatest = h }
from (suc b) m n l h =
    elim (cases_Bool (leb ((m + 2 ^ b) * (m + 2 ^ b)) n)) [
      | inl e ↦ rw e (from b (m + 2 ^ b) n (leb-true _ _ e) (let k : m + 2 ^ b + 2 ^ b ≡ m + 2 ^ suc b = omega (arith, pow-suc 2 b) in rw k h))
      | inr e ↦ rw e (from b m n l (leb-false _ _ e))
    ]

pub root_is : (n : ℕ) → n < 2 ^ 82 → Root n (root n)
unfolding root
root_is n h = from 41 0 n (omega arith) h
