use Rattle.std.proofs.Common.{◌≡◌, ℕ, List, refl, ap, ◌∙◌, ap₂}
use Rattle.stages.specs.Converter.{quantized}
use Rattle.stages.specs.Multipath.{echoes, used, silence}
use Rattle.stages.specs.declared.imbalance.Balance.{Balance}
use Rattle.stages.specs.declared.gain.Gain.{Gain}
use Rattle.stages.specs.declared.dc_offset.Offset.{Offset}
use Rattle.stages.specs.declared.multipath.Paths.{Paths}
use Rattle.samples.specs.declared.gain_index.GainIndex.{GainIndex}
use Rattle.samples.specs.declared.kinds.AirSample.{AirSample}
use Rattle.samples.specs.declared.kinds.WorkingSample.{WorkingSample}
use Rattle.sources.specs.Streams.{Stream}
use Rattle.stages.specs.ClockOffset.{clocked, clock_step}
use Rattle.stages.specs.Noise.{noise}
use Rattle.sources.specs.Wholes.{each, transformed, paired, behind_lead}
use Rattle.stages.specs.FrequencyOffset.{frequency_offset}
use Rattle.stages.specs.declared.frequency_offset.FrequencyOffset.{FrequencyOffset}
use Rattle.chain.specs.Formulas.{working_offset, working_balanced, air_offset, air_balanced, amplified_unless, receive_gained, added, channel_gained, all_noise}
use Rattle.chain.proofs.standard.Link.new.Goals as goal

-- the noise that the chain is made with is all of it
every_item : (re im : ℕ) → noise 4294967295 re im ≡ all_noise re im
unfolding all_noise
every_item re im = refl

-- stage by stage, each from the whole below it
pub returns : goal.returns
returns g c =
    let s = c.args.settings.now in
    let signal = g.S.Source.whole c.args.signal in
    let indices = g.G.Source.whole c.args.indices in
    let shifted = c.new-shifted.ensures.starts.0 ∙ ap (λ (o : Offset). each (working_offset o) signal) c.new.ensures in
    let balanced = c.new-balanced.ensures.starts.0 ∙ ap₂ (λ (m : Balance) (x : Stream WorkingSample). each (working_balanced m) x) c.new-2.ensures shifted in
    let amplified = c.new-amplified.ensures.starts.0 ∙ ap₂ (λ (f : WorkingSample → WorkingSample) (x : Stream WorkingSample). each f x) (ap₂ amplified_unless c.new-amplifier.ensures.bypassed c.new-amplifier.ensures.table) balanced in
    let echoed = c.new-echoed.ensures.starts.0 ∙ ap₂ (λ (p : Paths) (x : Stream WorkingSample). transformed (echoes (used p) silence) x) c.new-3.ensures.paths amplified in
    let turned = c.new-turned.ensures.starts.0 ∙ ap₂ (λ (o : FrequencyOffset) (x : Stream WorkingSample). transformed (frequency_offset 0 o.f) x) c.new-4.ensures.offset echoed in
    let resampled = c.new-resampled.ensures.starts.0 ∙ ap (clocked s.clock_bypass (clock_step s.clock.c)) turned in
    let on_air = c.new-on_air.ensures.starts.0 ∙ ap₂ (λ (h : Gain) (x : Stream WorkingSample). each (channel_gained h) x) c.new-5.ensures resampled in
    let noisy = c.new-noisy.ensures.starts.0 ∙ ap (each added) (c.new-6.ensures.0 ∙ ap₂ paired on_air (c.new-noise.ensures.0 ∙ every_item s.seeds.re s.seeds.im)) in
    let chosen = c.new-chosen.ensures.0 ∙ ap (λ (i : GainIndex). behind_lead s.lead i indices) c.new-7.ensures in
    let received = c.new-received.ensures.starts.0 ∙ ap₂ (λ (h : List Gain) (x : Stream (AirSample × GainIndex)). each (receive_gained h) x) c.new-gains.ensures (c.new-8.ensures.0 ∙ ap₂ paired noisy chosen) in
    let rx_shifted = c.new-rx_shifted.ensures.starts.0 ∙ ap₂ (λ (o : Offset) (x : Stream AirSample). each (air_offset o) x) c.new-9.ensures received in
    let rx_balanced = ap (each quantized) (c.new-rx_balanced.ensures.starts.0 ∙ ap₂ (λ (m : Balance) (x : Stream AirSample). each (air_balanced m) x) c.new-10.ensures rx_shifted) in
    (c.new-stages.ensures.starts.0 ∙ rx_balanced, c.new-stages.ensures.starts.1 ∙ rx_balanced)
