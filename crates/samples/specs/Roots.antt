-- Square roots of whole numbers, rounded down.
use Rattle.std.specs.Prelude.{ℕ, zero, suc, ◌+◌, ◌*◌, ◌^◌, ◌<◌, ◌≤◌, Bool, true, false, nat_le}

-- m is the greatest whole number whose square is at most n
pub record Root (n m : ℕ) : Type 0 where
  pub at_most : m * m ≤ n
  pub greatest : n < (m + 1) * (m + 1)

-- m with 2 ^ b put on where the square then stays at most n
unfoldable pub grown : Bool → ℕ → ℕ → ℕ
grown true m b = m + 2 ^ b
grown false m b = m

-- the root of n, of which m is known and b binary digits are to come
unfoldable pub root_from : ℕ → ℕ → ℕ → ℕ
unfolding grown
root_from zero m n = m
root_from (suc b) m n = root_from b (grown (nat_le ((m + 2 ^ b) * (m + 2 ^ b)) n) m b) n

-- the root of n, for n below 2 ^ 82
unfoldable pub root : ℕ → ℕ
root n = root_from 41 0 n
