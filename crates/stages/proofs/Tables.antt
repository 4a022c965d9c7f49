-- Lists made from a function of the index.
use Rattle.std.proofs.Common.{◌≡◌, ℕ, zero, suc, ◌+◌, ◌-◌, ◌<◌, ◌∷◌, refl, not-suc-le-zero, sub-one}
use Rattle.sources.specs.Streams.{tabulate}

-- equal functions make equal lists
pub tabulate_same : {T : Type 0} (f g : ℕ → T) → ((j : ℕ) → f j ≡ g j) → (k n : ℕ) → tabulate f k n ≡ tabulate g k n
tabulate_same f g h k zero = refl
tabulate_same f g h k (suc n) = let e = h k in let t = tabulate_same f g h (k + 1) n in cc

-- a function one place on makes the same list as one that is moved by a place
pub tabulate_on : {T : Type 0} (f g : ℕ → T) → ((j : ℕ) → f (j + 1) ≡ g j) → (k n : ℕ) → tabulate f (k + 1) n ≡ tabulate g k n
tabulate_on f g h k zero = refl
tabulate_on f g h k (suc n) = let e = h k in let t = tabulate_on f g h (k + 1) n in cc

-- the first item stands before the others
pub tabulate_first : {T : Type 0} (f : ℕ → T) (k n : ℕ) → 0 < n → tabulate f k n ≡ f k ∷ tabulate f (k + 1) (n - 1)
tabulate_first f k zero h = absurd (not-suc-le-zero h)
tabulate_first f k (suc n) h = rw sub-one
