-- A record is what the check of its numbers accepts: its own ranges say that they are inside.
use Rattle.std.proofs.Common.{◌≡◌, ℤ, pos, negsuc, Ok, ap, ◌∙◌}
use native.Mathlib.Decide.{dec_lt}
use denote.Struct.Props.{props}
use Rattle.stages.specs.declared.gain.Gain.{Gain}
use Rattle.stages.specs.declared.clock_offset.ClockOffset.{ClockOffset}
use Rattle.stages.specs.declared.noise.Seeds.{Seeds}
use Rattle.stages.specs.declared.frequency_offset.FrequencyOffset.{FrequencyOffset}
use Rattle.stages.specs.declared.scaling.Scaling.{Scaling}
use Rattle.settings.specs.Checks.{checked_scale, checked_gain, checked_clock, checked_frequency, checked_seeds}
use Rattle.settings.specs.Decisions.{both, between, between_ℤ}
use Rattle.settings.proofs.Decided.{made}

pub scale_made : (s : Scaling) → Ok s ≡ checked_scale s.factor
scale_made s = made (between 1 s.factor 32767) _ _ (s.low, s.high) (hlevel props)

pub gain_made : (g : Gain) (s : ℤ) → g.shift ≡ s → Ok g ≡ checked_gain s g.factor
gain_made g s e =
    made
    (both (between_ℤ (negsuc 31) g.shift (pos 18)) (between 128 g.factor 255))
    _
    _
    ((g.shift_low, g.shift_high), (g.factor_low, g.factor_high))
    (hlevel props)
    ∙ ap (λ (z : ℤ). checked_gain z g.factor) e

pub clock_made : (o : ClockOffset) (c : ℤ) → o.c ≡ c → Ok o ≡ checked_clock c
clock_made o c e =
    made (between_ℤ (negsuc 9007199254739) o.c (pos 9007199254740)) _ _ (o.low, o.high) (hlevel props) ∙ ap checked_clock e

pub frequency_made : (o : FrequencyOffset) (f : ℤ) → o.f ≡ f → Ok o ≡ checked_frequency f
frequency_made o f e =
    made (between_ℤ (negsuc 140737488355327) o.f (pos 140737488355327)) _ _ (o.low, o.high) (hlevel props)
    ∙ ap checked_frequency e

pub seeds_made : (s : Seeds) → Ok s ≡ checked_seeds s.re s.im
seeds_made s = made (both (dec_lt 0 s.re) (dec_lt 0 s.im)) _ _ (s.re_moves, s.im_moves) (hlevel props)
