-- What the chain means by its whole and its left, from its own state and from what the sources below mean.
use Rattle.samples.specs.declared.kinds.ConverterSample.{ConverterSample}
use Rattle.samples.specs.declared.gain_index.GainIndex.{GainIndex}
use Rattle.samples.specs.declared.kinds.WorkingSample.{WorkingSample}
use Rattle.sources.specs.Streams.{Stream}
use Rattle.sources.specs.Meanings.{each_whole, each_left, scan_whole, scan_left, pairing_whole, pairing_left, lead_whole, lead_left}
use Rattle.stages.specs.Meanings.{clock_whole, clock_left, noise_whole, noise_left}
use Rattle.stages.specs.Converter.{quantized}
use Rattle.stages.specs.Scaling.{scaled}
use Rattle.stages.specs.Multipath.{echoes, used, silence, ring}
use Rattle.stages.specs.declared.scaling.Scaling.{Scaling}
use Rattle.sources.specs.declared.each.Each.{Each}
use Rattle.stages.specs.FrequencyOffset.{frequency_offset}
use Rattle.chain.specs.Formulas.{working_offset, working_balanced, air_offset, air_balanced, amplified_unless, channel_gained, added, receive_gained}
use Rattle.chain.specs.declared.standard.Link.{Link}

-- the chain over working samples
abbrev pub link_whole : {S G : Type 0} → (S → Stream WorkingSample) → (G → Stream GainIndex) → Link S G → Stream ConverterSample
link_whole whole indices s =
    each_whole (λ m. quantized)
    (each_whole (λ m. air_balanced m.balance)
    (each_whole (λ m. air_offset m.offset)
    (each_whole (λ m. receive_gained m.gains)
    (pairing_whole
    (each_whole (λ m. added)
    (pairing_whole
    (each_whole (λ m. channel_gained m.gain)
    (clock_whole
    (scan_whole (λ m. frequency_offset 0 m.offset.f)
    (scan_whole (λ m xs. echoes (used m.paths) silence xs)
    (each_whole (λ m. amplified_unless m.bypassed m.table)
    (each_whole (λ m. working_balanced m.balance)
    (each_whole (λ m. working_offset m.offset) whole)))))))
    noise_whole))
    (lead_whole indices)))))
    s.stages

abbrev pub link_left : {S G : Type 0} → (S → Stream WorkingSample) → (G → Stream GainIndex) → Link S G → Stream ConverterSample
link_left left indices s =
    each_left (λ m. quantized)
    (each_left (λ m. air_balanced m.balance)
    (each_left (λ m. air_offset m.offset)
    (each_left (λ m. receive_gained m.gains)
    (pairing_left
    (each_left (λ m. added)
    (pairing_left
    (each_left (λ m. channel_gained m.gain)
    (clock_left
    (scan_left (λ m. frequency_offset m.phase m.offset.f)
    (scan_left (λ m xs. echoes (used m.paths) (ring m.echo_line m.newest) xs)
    (each_left (λ m. amplified_unless m.bypassed m.table)
    (each_left (λ m. working_balanced m.balance)
    (each_left (λ m. working_offset m.offset) left)))))))
    noise_left))
    (lead_left indices)))))
    s.stages

-- the chain over a signal of converter samples
abbrev pub chain_whole : {S G : Type 0} → (S → Stream ConverterSample) → (G → Stream GainIndex) → Link (Each S Scaling) G → Stream ConverterSample
chain_whole whole indices = link_whole (each_whole (λ m. scaled m.factor) whole) indices

abbrev pub chain_left : {S G : Type 0} → (S → Stream ConverterSample) → (G → Stream GainIndex) → Link (Each S Scaling) G → Stream ConverterSample
chain_left left indices = link_left (each_left (λ m. scaled m.factor) left) indices
