-- The standard chain: from the settings and the wholes of the signal and of the gain indices to its whole.
use Rattle.std.specs.Prelude.{pos}
use Rattle.samples.specs.Kinds.{gain_index}
use Rattle.samples.specs.declared.gain_index.GainIndex.{GainIndex}
use Rattle.samples.specs.declared.kinds.ConverterSample.{ConverterSample}
use Rattle.samples.specs.declared.kinds.WorkingSample.{WorkingSample}
use Rattle.sources.specs.Streams.{Stream}
use Rattle.stages.specs.ClockOffset.{clocked, clock_step}
use Rattle.sources.specs.Wholes.{each, transformed, paired, behind_lead}
use Rattle.stages.specs.Converter.{quantized}
use Rattle.stages.specs.Scaling.{scaled}
use Rattle.stages.specs.Multipath.{echoes, used, silence}
use Rattle.settings.specs.declared.settings.Settings.{Settings}
use Rattle.stages.specs.FrequencyOffset.{frequency_offset}
use Rattle.chain.specs.Formulas.{working_offset, working_balanced, air_offset, air_balanced, amplified_unless, channel_gained, added, receive_gained, all_noise}

-- The chain over working samples, stage by stage: DC offset, imbalance, amplifier, multipath, frequency offset, clock offset,
-- gain, noise, the gain indices behind a lead of index 0, receive gain, DC offset, imbalance, converter.
abbrev pub linked : Settings → Stream WorkingSample → Stream GainIndex → Stream ConverterSample
linked s signal indices =
    let shifted = each (working_offset s.tx_dc) signal in
    let balanced = each (working_balanced s.tx_imbalance) shifted in
    let amplified = each (amplified_unless s.amplifier_bypass s.amplifier) balanced in
    let echoed = transformed (echoes (used s.paths) silence) amplified in
    let turned = transformed (frequency_offset 0 s.frequency.f) echoed in
    let resampled = clocked s.clock_bypass (clock_step s.clock.c) turned in
    let on_air = each (channel_gained s.gain) resampled in
    let noisy = each added (paired on_air (all_noise s.seeds.re s.seeds.im)) in
    let chosen = behind_lead s.lead (gain_index (pos 0)) indices in
    let received = each (receive_gained s.receive_gains) (paired noisy chosen) in
    let rx_shifted = each (air_offset s.rx_dc) received in
    let rx_balanced = each (air_balanced s.rx_imbalance) rx_shifted in
    each quantized rx_balanced

-- the standard chain, over a signal of converter samples: scaling before all
abbrev pub played : Settings → Stream ConverterSample → Stream GainIndex → Stream ConverterSample
played s signal indices = linked s (each (scaled s.scale.factor) signal) indices
