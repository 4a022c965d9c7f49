-- The formulas of the standard chain's stages at the kinds that they have there.
use Rattle.std.specs.Prelude.{ℕ, ◌-◌, ◌^◌, Bool, cond, List}
use Rattle.samples.specs.Kinds.{working, air}
use Rattle.samples.specs.declared.gain_index.GainIndex.{GainIndex}
use Rattle.samples.specs.declared.kinds.AirSample.{AirSample}
use Rattle.samples.specs.declared.kinds.WorkingSample.{WorkingSample}
use Rattle.sources.specs.Streams.{Stream}
use Rattle.stages.specs.Noise.{noise, summed}
use Rattle.stages.specs.DcOffset.{offset_by}
use Rattle.stages.specs.Gain.{gained, chosen}
use Rattle.stages.specs.Imbalance.{balanced}
use Rattle.stages.specs.declared.imbalance.Balance.{Balance}
use Rattle.stages.specs.declared.gain.Gain.{Gain}
use Rattle.stages.specs.declared.dc_offset.Offset.{Offset}
use Rattle.stages.specs.Amplifier.{amplified}
use Rattle.stages.specs.declared.amplifier.AmplifierTable.{AmplifierTable}

-- DC offset and imbalance at 16 bits, which the transmitter has
abbrev pub working_offset : Offset → WorkingSample → WorkingSample
working_offset o x = offset_by working o x.re x.im

abbrev pub working_balanced : Balance → WorkingSample → WorkingSample
working_balanced m x = balanced working m x.re x.im

-- the same at 32 bits, which the receiver has
abbrev pub air_offset : Offset → AirSample → AirSample
air_offset o x = offset_by air o x.re x.im

abbrev pub air_balanced : Balance → AirSample → AirSample
air_balanced m x = balanced air m x.re x.im

-- the amplifier, which passes every sample on where it is bypassed
abbrev pub amplified_unless : Bool → AmplifierTable → WorkingSample → WorkingSample
amplified_unless bypassed t x = cond bypassed x (amplified t.entries x)

-- the channel's gain
abbrev pub channel_gained : Gain → WorkingSample → AirSample
channel_gained g x = gained g x.re x.im

-- signal and noise beside each other, added
abbrev pub added : AirSample × AirSample → AirSample
added x = summed x.0 x.1

-- the gain that the index beside a sample chooses
abbrev pub receive_gained : List Gain → AirSample × GainIndex → AirSample
receive_gained gains x = gained (chosen gains x.1) x.0.re x.0.im

-- all the noise of the chain: 2 ^ 32 - 1 items
unfoldable pub all_noise : ℕ → ℕ → Stream AirSample
all_noise re im = noise (2 ^ 32 - 1) re im
