-- A DC offset.
use Rattle.std.specs.Prelude.{ℤ, ◌+ℤ◌}
use Rattle.stages.specs.declared.dc_offset.Offset.{Offset}

-- the offset o added to the parts re and im; `sample` makes the nearest sample of the kind
abbrev pub offset_by : {K : Type 0} → (ℤ → ℤ → K) → Offset → ℤ → ℤ → K
offset_by sample o re im = sample (re +ℤ o.re) (im +ℤ o.im)
