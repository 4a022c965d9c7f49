-- An I/Q imbalance.
use Rattle.std.specs.Prelude.{◌^◌, ℤ, ◌+ℤ◌, ◌*ℤ◌}
use Rattle.samples.specs.Arithmetic.{floor_by}
use Rattle.stages.specs.declared.imbalance.Balance.{Balance}

-- the two parts of a sample out of balance, before they are clipped
abbrev pub balanced_re : Balance → ℤ → ℤ → ℤ
balanced_re m re im = floor_by ((m.a *ℤ re) +ℤ (m.c *ℤ im)) (2 ^ 14)

abbrev pub balanced_im : Balance → ℤ → ℤ
balanced_im m im = floor_by (m.b *ℤ im) (2 ^ 14)

-- the imbalance m of the parts re and im; `sample` makes the nearest sample of the kind
abbrev pub balanced : {K : Type 0} → (ℤ → ℤ → K) → Balance → ℤ → ℤ → K
balanced sample m re im = sample (balanced_re m re im) (balanced_im m im)
