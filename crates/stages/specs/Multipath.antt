-- The echoes of a multipath channel.
use Rattle.std.specs.Prelude.{◌≡◌, ℕ, ◌+◌, ◌-◌, ◌%◌, ◌^◌, cond, List, length, take, ℤ, pos, ◌+ℤ◌, fold, nat_le, slice_index_or}
use Rattle.std.proofs.Common.{lit≤}
use Rattle.samples.specs.Arithmetic.{floor_by}
use Rattle.samples.specs.Complex.{times}
use Rattle.samples.specs.Kinds.{working, silent}
use Rattle.samples.specs.declared.kinds.WorkingSample.{WorkingSample}
use Rattle.sources.specs.Streams.{tabulate, length_tabulate}
use Rattle.stages.specs.declared.multipath.Path.{Path}
use Rattle.stages.specs.declared.multipath.Paths.{Paths}

-- the signal itself: coefficient 1, no delay
abbrev pub neutral_path : Path
neutral_path = record { re = pos 8192; im = pos 0; delay = 0; delay_within = lit≤ tt }

-- the paths that count
abbrev pub used : Paths → List Path
used p = take p.count p.places

-- coefficient times sample
abbrev pub echo_re : Path → WorkingSample → ℤ
echo_re p x = (times (p.re, p.im) (x.re, x.im)).0

abbrev pub echo_im : Path → WorkingSample → ℤ
echo_im p x = (times (p.re, p.im) (x.re, x.im)).1

-- a sum over the paths
unfoldable pub total : (Path → ℤ) → List Path → ℤ
total f ps = fold (λ a p. a +ℤ f p) (pos 0) ps

-- the sums of the echoes, where x d is the sample d places back
abbrev pub total_re : List Path → (ℕ → WorkingSample) → ℤ
total_re ps x = total (λ p. echo_re p (x p.delay)) ps

abbrev pub total_im : List Path → (ℕ → WorkingSample) → ℤ
total_im ps x = total (λ p. echo_im p (x p.delay)) ps

-- the sum of the echoes over 2^13, rounded down, then clipped
unfoldable pub echo_sum : List Path → (ℕ → WorkingSample) → WorkingSample
echo_sum ps x = working (floor_by (total_re ps x) (2 ^ 13)) (floor_by (total_im ps x) (2 ^ 13))

-- the item d places before item k of xs; h is what went before xs, h j the item j places before its first
abbrev pub before : (ℕ → WorkingSample) → List WorkingSample → ℕ → ℕ → WorkingSample
before h xs k d = cond (nat_le d k) (slice_index_or xs (k - d) silent) (h (d - k - 1))

-- item k is the sum of the echoes at k
unfoldable pub echoes : List Path → (ℕ → WorkingSample) → List WorkingSample → List WorkingSample
echoes ps h xs = tabulate (λ k. echo_sum ps (before h xs k)) 0 (length xs)

-- one item out for each item in
pub length_echoes : (ps : List Path) (h : ℕ → WorkingSample) (xs : List WorkingSample) → length (echoes ps h xs) ≡ length xs
unfolding echoes
length_echoes ps h xs = length_tabulate (λ k. echo_sum ps (before h xs k)) 0 (length xs)

-- what goes before the start
abbrev pub silence : ℕ → WorkingSample
silence j = silent

-- an echo line of 64 places, a ring: the sample j places back from the newest
abbrev pub ring : List WorkingSample → ℕ → ℕ → WorkingSample
ring line newest j = slice_index_or line ((newest + j) % 64) silent
