-- Worked examples of the formulas, in plain numbers.
use Rattle.std.specs.Prelude.{◌≡◌, ℕ, zero, suc, ◌+◌, ◌^◌, List, [], ◌∷◌, replicate, ℤ, pos, negsuc, neg_ℤ, None, Ok, Err}
use Rattle.std.proofs.Common.{lit≤}
use Rattle.std.specs.Int.Signed.{le_z_yes}
use Rattle.samples.specs.Kinds.{converter, air, gain_index}
use Rattle.samples.specs.declared.gain_index.GainIndex.{GainIndex}
use Rattle.samples.specs.declared.kinds.AirSample.{AirSample}
use Rattle.samples.specs.declared.kinds.WorkingSample.{WorkingSample}
use Rattle.sources.specs.Streams.{Stream, answer, rest}
use Rattle.sources.specs.declared.fault.FaultKind.TheVariants.{LowBits}
use Rattle.stages.specs.ClockOffset.{outputs, clock_step}
use Rattle.stages.specs.Noise.{noise}
use Rattle.sources.specs.Wholes.{paired}
use Rattle.stages.specs.Gain.{gained}
use Rattle.stages.specs.Scaling.{scaled}
use Rattle.stages.specs.Multipath.{neutral_path, echoes, silence}
use Rattle.stages.specs.declared.gain.Gain.{Gain}
use Rattle.stages.specs.declared.multipath.Path.{Path}
use Rattle.stages.specs.Amplifier.{amplified}
use Rattle.stages.specs.FrequencyOffset.{frequency_offset}
use Rattle.stages.specs.declared.amplifier.Entry.{Entry}

-- minus n
abbrev pub minus : ℕ → ℤ
minus n = neg_ℤ (pos n)

-- a working sample whose imaginary part is 0
abbrev pub real : ℕ → WorkingSample
real n = record { re = pos n; im = pos 0 }

-- the lowest gain: 128 × 2 ^ (-32 - 8)
abbrev pub lowest_gain : Gain
lowest_gain =
    record {
      shift = negsuc 31;
      factor = 128;
      shift_low = le_z_yes tt;
      shift_high = le_z_yes tt;
      factor_low = lit≤ tt;
      factor_high = lit≤ tt;
    }

-- an amplifier that halves every sample and does not turn it
abbrev pub halving : List Entry
halving = replicate 513 (record { amplitude = 16384; phase = pos 0; amplitude_within = lit≤ tt })

-- an echo half as strong, one sample late
abbrev pub echo : Path
echo = record { re = pos 4096; im = pos 0; delay = 1; delay_within = lit≤ tt }

-- three samples that end in a fault, and two gain indices
abbrev pub three_then_fault : Stream AirSample
three_then_fault =
    record {
      items = air (pos 1) (pos 2) ∷ air (pos 3) (pos 4) ∷ air (pos 5) (pos 6) ∷ [];
      ending = Err (record { kind = LowBits; input = 0; item = 3 });
    }

abbrev pub two_indices : Stream GainIndex
two_indices = record { items = gain_index (pos 7) ∷ gain_index (pos 8) ∷ []; ending = Ok tt }

-- what is left after n calls of `next`
abbrev pub left_after : {T : Type 0} → ℕ → Stream T → Stream T
left_after zero s = s
left_after (suc n) s = left_after n (rest s)

pub record Worked : Type 0 where
  -- scaling by 4096
  pub scaling : scaled 4096 (converter (pos 100) (pos 0)) ≡ real 1600
  -- the lowest gain leaves -1 and makes 1 to 0, since it rounds down
  pub gain : gained lowest_gain (minus 1) (pos 1) ≡ record { re = minus 1; im = pos 0 }
  -- amplitudes of one half; each part is rounded down
  pub amplifier : amplified halving (record { re = pos 3; im = pos 4 }) ≡ record { re = pos 1; im = pos 2 }
  pub amplifier_below : amplified halving (record { re = minus 3; im = pos 0 }) ≡ record { re = minus 2; im = pos 0 }
  -- the signal, and half of it one sample later
  pub multipath : echoes (neutral_path ∷ echo ∷ []) silence (real 1600 ∷ real 0 ∷ []) ≡ real 1600 ∷ real 800 ∷ []
  -- a quarter turn back from sample to sample
  pub frequency : frequency_offset 0 (pos (2 ^ 46)) (real 100 ∷ real 100 ∷ []) ≡ real 100 ∷ record { re = pos 0; im = minus 100 } ∷ []
  -- a clock that is slow by 2 ^ -10 of a sample, and one that is fast by as much
  pub clock_slow : outputs (clock_step (pos (2 ^ 43))) (real 1000 ∷ real 2000 ∷ []) ≡ real 0 ∷ real 1000 ∷ []
  pub clock_fast : outputs (clock_step (minus (2 ^ 43))) (real 1000 ∷ real 2000 ∷ []) ≡ real 0 ∷ real 999 ∷ real 1998 ∷ []
  -- noise from seed 1
  pub noise_levels : (noise 2 1 1).items ≡ air (minus 2388) (minus 2388) ∷ air (minus 2189) (minus 2189) ∷ []
  -- a pairing of the two: two items, and then no item, at every call
  pub pairing : (paired three_then_fault two_indices).items ≡ (air (pos 1) (pos 2), gain_index (pos 7)) ∷ (air (pos 3) (pos 4), gain_index (pos 8)) ∷ []
  pub pairing_ends : (n : ℕ) → answer (left_after (2 + n) (paired three_then_fault two_indices)) ≡ Ok None
