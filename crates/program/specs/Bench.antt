-- What is reported of a run that was timed, but for its time and how often it was made.
use Rattle.std.specs.Prelude.{◌≡◌, ℕ, ◌+◌, ◌-◌, ◌*◌, ◌%◌, ◌^◌, List, ℤ, fold, length, min}
use Rattle.std.specs.Int.{cast_unsigned, w16}
use Rattle.samples.specs.declared.kinds.ConverterSample.{ConverterSample}
use Rattle.sources.specs.Streams.{Stream}
use Rattle.player.specs.Plain.{ending_answer}
use Rattle.program.specs.declared.bench.Timed.{Timed}

-- with one part more: (sum × 31 + (part mod 2 ^ 16)) mod 2 ^ 64
abbrev pub with_part : ℕ → ℤ → ℕ
with_part sum part = (sum * 31 + cast_unsigned w16 part) % 2 ^ 64

-- both parts of each sample in order, the real part first
abbrev pub sum_from : ℕ → List ConverterSample → ℕ
sum_from before xs = fold (λ sum x. with_part (with_part sum x.re) x.im) before xs

-- the number of items, as far as it can be reported, the sum over all their parts, and the ending
pub record TimedOf (w : Stream ConverterSample) (timed : Timed) : Type 0 where
  pub items : timed.items ≡ min (length w.items) (2 ^ 64 - 1)
  pub sum : timed.sum ≡ sum_from 0 w.items
  pub ending : timed.ending ≡ ending_answer w.ending (length w.items) tt
