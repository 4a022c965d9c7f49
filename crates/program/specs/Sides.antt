-- How many items the two sides of the receiver have, and which of them ends first.
use Rattle.std.specs.Prelude.{ℕ, ◌+◌, ◌-◌, ◌^◌, length, min, if◌then◌else◌, Option, Some, None, Result, Ok, Err, nat_lt}
use Rattle.samples.specs.declared.kinds.ConverterSample.{ConverterSample}
use Rattle.samples.specs.declared.gain_index.GainIndex.{GainIndex}
use Rattle.settings.specs.declared.settings.Settings.{Settings}
use Rattle.recordings.specs.Opening.{Opened}
use Rattle.recordings.specs.declared.pair.Input.{Input}
use Rattle.recordings.specs.declared.pair.Input.TheVariants.{Signal, Gain}
use Rattle.sources.specs.Streams.{Stream}
use Rattle.stages.specs.ClockOffset.{clock_step, output_count}
use Rattle.program.specs.declared.sides.Sides.{Sides}

-- n samples of a signal, behind the clock offset and the noise, which has 2 ^ 32 - 1 items
abbrev pub signal_side : Settings → ℕ → ℕ
signal_side s n = min (if s.clock_bypass then n else output_count (clock_step s.clock.c) n) (2 ^ 32 - 1)

-- n gain indices, behind the lead
abbrev pub gain_side : Settings → ℕ → ℕ
gain_side s n = s.lead + n

-- the sides of two recordings
abbrev pub sides_of : Settings → Stream ConverterSample → Stream GainIndex → Sides
sides_of s signal gain = record {
  signal = signal_side s (length signal.items);
  gain = gain_side s (length gain.items);
}

abbrev pub sides_answer : {E : Type 0} → Settings → Result (Opened ConverterSample × Opened GainIndex) E → Result Sides E
sides_answer s (Ok both) = Ok (sides_of s both.0.whole both.1.whole)
sides_answer s (Err e) = Err e

-- the shorter of the two
abbrev pub shorter_side : Sides → Option Input
shorter_side sides =
    if nat_lt sides.signal sides.gain then Some Signal else if nat_lt sides.gain sides.signal then Some Gain else None

-- the side that ends first ends a chain that finishes; one that ends in a fault is ended by that
abbrev pub first_ended : {F : Type 0} → Result Unit F → Sides → Option Input
first_ended (Ok _) sides = shorter_side sides
first_ended (Err f) sides = None
