-- What a setting call makes of the numbers that it is given: the record that carries their range, or, exactly when they
-- are outside it, the refusal.
use Rattle.std.specs.Prelude.{ℕ, cond, ℤ, pos, negsuc, Err, Result, nat_lt}
use Rattle.std.proofs.Math.Decide.{dec_lt}
use Rattle.stages.specs.declared.gain.Gain.{Gain}
use Rattle.stages.specs.declared.clock_offset.ClockOffset.{ClockOffset}
use Rattle.stages.specs.declared.noise.Seeds.{Seeds}
use Rattle.stages.specs.declared.frequency_offset.FrequencyOffset.{FrequencyOffset}
use Rattle.settings.specs.declared.refusal.SettingRefusal.{SettingRefusal}
use Rattle.settings.specs.declared.refusal.SettingRefusal.TheVariants.{ScaleOutside, GainOutside, ClockOutside, SeedZero, FrequencyOutside, IndexOver}
use Rattle.stages.specs.declared.scaling.Scaling.{Scaling}
use Rattle.settings.specs.Decisions.{both, between, between_ℤ, checked}

-- a scale factor is 1 to 32767
abbrev pub checked_scale : ℕ → Result Scaling SettingRefusal
checked_scale f = checked (between 1 f 32767) (λ h. record { factor = f; low = h.0; high = h.1 }) ScaleOutside

-- a gain's shift is -32 to 18, and its factor 128 to 255
abbrev pub checked_gain : ℤ → ℕ → Result Gain SettingRefusal
checked_gain s g =
    checked
    (both (between_ℤ (negsuc 31) s (pos 18)) (between 128 g 255))
    (λ h.
    record {
      shift = s;
      factor = g;
      shift_low = h.0.0;
      shift_high = h.0.1;
      factor_low = h.1.0;
      factor_high = h.1.1;
    })
    GainOutside

-- a clock offset is -9,007,199,254,740 to 9,007,199,254,740
abbrev pub checked_clock : ℤ → Result ClockOffset SettingRefusal
checked_clock c =
    checked
    (between_ℤ (negsuc 9007199254739) c (pos 9007199254740))
    (λ h. record { c = c; low = h.0; high = h.1 })
    ClockOutside

-- a frequency offset is -2^47 to 2^47 - 1
abbrev pub checked_frequency : ℤ → Result FrequencyOffset SettingRefusal
checked_frequency f =
    checked
    (between_ℤ (negsuc 140737488355327) f (pos 140737488355327))
    (λ h. record { f = f; low = h.0; high = h.1 })
    FrequencyOutside

-- neither seed is 0
abbrev pub checked_seeds : ℕ → ℕ → Result Seeds SettingRefusal
checked_seeds re im = checked (both (dec_lt 0 re) (dec_lt 0 im)) (λ h. record { re = re; im = im; re_moves = h.0; im_moves = h.1 }) SeedZero

-- the index is 0 to 127; only then is the gain looked at
abbrev pub checked_receive_gain : ℕ → ℤ → ℕ → Result Gain SettingRefusal
checked_receive_gain index s g = cond (nat_lt 127 index) (Err IndexOver) (checked_gain s g)
