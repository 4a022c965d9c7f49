-- What a recording holds.
use Rattle.std.specs.Prelude.{ℕ, ◌-◌, ◌^◌, List, length, min, Result, Ok, Err}
use Rattle.sources.specs.Streams.{Stream}
use Rattle.recordings.specs.Opening.{Opened, signal_opening, gain_opening}
use Rattle.recordings.specs.Pair.{input_number}
use Rattle.recordings.specs.declared.pair.Input.{Input}
use Rattle.recordings.specs.declared.pair.Input.TheVariants.{Signal, Gain}
use Rattle.recordings.specs.declared.refusal.OpeningRefusal.{OpeningRefusal}
use Rattle.program.specs.declared.check.Contents.{Contents}
use Rattle.program.specs.declared.check.Counted.{Counted}

-- how many items, as far as 64 bits can count
abbrev pub capped_count : {T : Type 0} → Stream T → ℕ
capped_count w = min (length w.items) (2 ^ 64 - 1)

abbrev pub counted_of : {T : Type 0} → Stream T → Counted
counted_of w = record { items = capped_count w; ending = w.ending }

abbrev pub contents_answer : {T E : Type 0} → Result (Opened T) E → Result Contents E
contents_answer (Ok o) = Ok (record { rate = o.rate; counted = counted_of o.whole })
contents_answer (Err e) = Err e

-- the bytes, opened as this recording of a link
abbrev pub checked : Input → List ℕ → Result Contents OpeningRefusal
checked Signal b = contents_answer (signal_opening (input_number Signal) b)
checked Gain b = contents_answer (gain_opening (input_number Gain) b)
