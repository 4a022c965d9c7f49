-- The clock offset: each output stands on the straight line between two neighbours of the items below.
-- Positions are counted in units of 2 ^ -53 of an item.
use Rattle.std.specs.Prelude.{ℕ, ◌+◌, ◌-◌, ◌*◌, ◌/◌, ◌%◌, ◌^◌, ◌<◌, Bool, cond, ◌↔◌, List, ◌∷◌, length, ℤ, pos, ◌+ℤ◌, slice_index_or, unsigned_abs}
use Rattle.samples.specs.Interpolation.{linear}
use Rattle.samples.specs.Kinds.{silent}
use Rattle.samples.specs.declared.kinds.WorkingSample.{WorkingSample}
use Rattle.sources.specs.Streams.{Stream, tabulate}
use Rattle.sources.specs.Wholes.{transformed}

-- how far two outputs are apart: 2 ^ 53 + c
abbrev pub clock_step : ℤ → ℕ
clock_step c = unsigned_abs (pos (2 ^ 53) +ℤ c)

-- the item that a position reaches: floor (p / 2 ^ 53)
abbrev pub index : ℕ → ℕ
index p = p / 2 ^ 53

-- how far it is on the way there, in units of 2 ^ -16: floor ((p mod 2 ^ 53) / 2 ^ 37)
abbrev pub fraction : ℕ → ℕ
fraction p = p % 2 ^ 53 / 2 ^ 37

-- a + floor ((b - a) × f / 2 ^ 16)
abbrev pub between : ℤ → ℤ → ℕ → ℤ
between a b f = linear a b f 16

-- the same for each part
abbrev pub sample_between : WorkingSample → WorkingSample → ℕ → WorkingSample
sample_between x y f = record { re = between x.re y.re f; im = between x.im y.im f }

-- x_(i - 1), which is 0 before the first item
abbrev pub item_before : List WorkingSample → ℕ → WorkingSample
item_before xs i = slice_index_or (silent ∷ xs) i silent

-- the output at position p: x_(i - 1) + floor ((x_i - x_(i - 1)) × f / 2 ^ 16), with i and f of p
abbrev pub output_at : List WorkingSample → ℕ → WorkingSample
output_at xs p = sample_between (item_before xs (index p)) (slice_index_or xs (index p) silent) (fraction p)

-- how many outputs n items give: ceil (n × 2 ^ 53 / step)
abbrev pub output_count : ℕ → ℕ → ℕ
output_count step n = (n * 2 ^ 53 + (step - 1)) / step

-- output m stands at position P_m = m × step
abbrev pub outputs : ℕ → List WorkingSample → List WorkingSample
outputs step xs = tabulate (λ m. output_at xs (m * step)) 0 (output_count step (length xs))

-- the clock's whole from the whole below; bypassed it is the same
abbrev pub clocked : Bool → ℕ → Stream WorkingSample → Stream WorkingSample
clocked bypassed step s = cond bypassed s (transformed (outputs step) s)

-- output m of n items exists exactly if the item that it reaches, floor (P_m / 2 ^ 53), is one of them
abbrev pub ExistsExactly : ℕ → Type 0
ExistsExactly step = (m n : ℕ) → (m < output_count step n) ↔ (index (m * step) < n)

-- The same from any state: a line through the two items that were drawn last, where the next output stands on it at
-- a position that is counted from the older of them, and the items to come.

-- the point at position p of the line through a list of items
abbrev pub on_line : List WorkingSample → ℕ → WorkingSample
on_line xs p = sample_between (slice_index_or xs (index p) silent) (slice_index_or xs (index p + 1) silent) (fraction p)

-- how many outputs stand on the line from position p on, with n items to come
abbrev pub count_from : ℕ → ℕ → ℕ → ℕ
count_from step p n = ((n + 1) * 2 ^ 53 - p + (step - 1)) / step

-- output m stands at position p + m × step
abbrev pub outputs_from : ℕ → WorkingSample → WorkingSample → ℕ → List WorkingSample → List WorkingSample
outputs_from step before last p xs = tabulate (λ m. on_line (before ∷ last ∷ xs) (p + m * step)) 0 (count_from step p (length xs))
