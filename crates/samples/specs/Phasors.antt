-- A phasor is the cosine and the sine of one of 1024 angles, 16384 for 1. The cosines of a quarter turn are got by
-- halving the angle between neighbours, eight times.
use Rattle.std.specs.Prelude.{◌≡◌, ℕ, zero, suc, ◌+◌, ◌-◌, ◌*◌, ◌/◌, ◌%◌, ◌^◌, ◌<◌, ◌≤◌, List, [], ◌∷◌, ℤ, pos, neg_ℤ, slice_index}
use Rattle.samples.specs.Roots.{Root, root}

-- H_j: the cosine of the angle between a number of halving j and its two neighbours, 2 ^ 40 for 1
unfoldable pub step_cosine : ℕ → ℕ
step_cosine zero = 0
step_cosine (suc zero) = root (2 ^ 79)
step_cosine (suc (suc j)) = root (2 ^ 39 * (2 ^ 40 + step_cosine (suc j)))

-- the numbers halfway between neighbours are put between them
unfoldable pub halved : ℕ → List ℕ → List ℕ
halved h [] = []
halved h (a ∷ []) = a ∷ []
halved h (a ∷ (b ∷ cs)) = a ∷ (2 ^ 39 * (a + b) / h ∷ halved h (b ∷ cs))

-- the cosines of a quarter turn after j halvings, 2 ^ 40 for 1
unfoldable pub halvings : ℕ → List ℕ
halvings zero = 2 ^ 40 ∷ 0 ∷ []
halvings (suc j) = halved (step_cosine (suc j)) (halvings j)

-- C_k, for k at most 256: the cosine of k of 1024 parts of a turn, 2 ^ 40 for 1
unfoldable pub fine_cosine : ℕ → ℕ
fine_cosine k = slice_index (halvings 8) k

unfoldable pub rounded : List ℕ → List ℕ
rounded [] = []
rounded (c ∷ cs) = (c + 2 ^ 25) / 2 ^ 26 ∷ rounded cs

-- T_k, for k at most 256: the cosine of k of 1024 parts of a turn, 16384 for 1
unfoldable pub cosine : ℕ → ℕ
cosine k = slice_index (rounded (halvings 8)) k

-- The rule of the table T: every H is a greatest root, C has its two ends, each number halfway between two neighbours
-- comes from them, and T is C rounded to the nearest.
pub record Halving (H C T : ℕ → ℕ) : Type 0 where
  pub first_root : Root (2 ^ 79) (H 1)
  pub next_root : (j : ℕ) → 1 ≤ j → j ≤ 7 → Root (2 ^ 39 * (2 ^ 40 + H j)) (H (j + 1))
  pub one : C 0 ≡ 2 ^ 40
  pub nought : C 256 ≡ 0
  pub halfway : (j a : ℕ) → 1 ≤ j → j ≤ 8 → a < 256 → a % 2 ^ (9 - j) ≡ 0 → C (a + 2 ^ (8 - j)) ≡ 2 ^ 39 * (C a + C (a + 2 ^ (9 - j))) / H j
  pub nearest : (k : ℕ) → k ≤ 256 → T k ≡ (C k + 2 ^ 25) / 2 ^ 26

-- the four quarters of a turn, from the cosine t and the sine u in the first
abbrev pub quarter : ℕ → ℤ → ℤ → ℤ × ℤ
quarter zero t u = (t, u)
quarter (suc zero) t u = (neg_ℤ u, t)
quarter (suc (suc zero)) t u = (neg_ℤ t, neg_ℤ u)
quarter (suc (suc (suc q))) t u = (u, neg_ℤ t)

-- cosine and sine of n of 1024 parts of a turn; n counts modulo 1024
unfoldable pub phasor_of : ℕ → ℤ × ℤ
phasor_of n = quarter (n % 1024 / 256) (pos (cosine (n % 256))) (pos (cosine (256 - n % 256)))
