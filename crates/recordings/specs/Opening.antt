-- What opening answers, for every byte string.
use Rattle.std.specs.Prelude.{◌≡◌, ℕ, ◌/◌, List, take, drop, Ok, Err, Result, MatchResult}
use Rattle.std.proofs.Common.{lit<}
use Rattle.samples.specs.declared.kinds.ConverterSample.{ConverterSample}
use Rattle.samples.specs.declared.gain_index.GainIndex.{GainIndex}
use Rattle.sources.specs.declared.fault.FaultKind.{FaultKind}
use Rattle.sources.specs.Streams.{Stream}
use Rattle.recordings.specs.declared.chunks.Found.{Found}
use Rattle.recordings.specs.declared.format.Format.{Format}
use Rattle.recordings.specs.declared.refusal.OpeningRefusal.{OpeningRefusal}
use Rattle.recordings.specs.Chunks.{find_data}
use Rattle.recordings.specs.Items.{held_from, signal_item, gain_item}

-- an opened recording: its rate, and everything that it holds
pub record Opened (T : Type 0) : Type 0 where
  pub rate : ℕ
  pub whole : Stream T

-- An opened recording as it is read: its rate, everything that it holds, and what is left of that.
pub record Reading (T : Type 0) : Type 0 where
  pub rate : ℕ
  pub whole : Stream T
  pub left : Stream T

-- what was opened, however far it is read
abbrev pub opened_of : {T : Type 0} → Reading T → Opened T
opened_of r = record { rate = r.rate; whole = r.whole }

-- the content of the data chunk
abbrev pub content : List ℕ → Found → List ℕ
content b found = take found.size (drop found.start b)

abbrev pub opened : {T : Type 0} → (List ℕ → Result T FaultKind) → ℕ → ℕ → List ℕ → Result Found OpeningRefusal → Result (Opened T) OpeningRefusal
opened meaning a input b (Err e) = Err e
opened meaning a input b (Ok found) = Ok (record { rate = found.rate; whole = held_from meaning a input 0 (found.size / a) (content b found) })

-- the bytes b, opened as a recording of the format f with the input number that is given
abbrev pub opening : {T : Type 0} → Format → (List ℕ → Result T FaultKind) → ℕ → List ℕ → Result (Opened T) OpeningRefusal
opening f meaning input b = opened meaning f.align input b (find_data f b)

-- a recording at its start: it is the one that is defined, and all that it holds is left
pub record OpenedAs {T E : Type 0} (defined : Result (Opened T) E) (x : Reading T) : Type 0 where
  pub answer : defined ≡ Ok (opened_of x)
  pub left : x.left ≡ x.whole

-- opening is answered as defined: by the recording at its start, or by the refusal
abbrev pub OpensAs : {T E : Type 0} → Result (Reading T) E → Result (Opened T) E → Type 0
OpensAs result defined = MatchResult result (OpenedAs defined) (λ e. defined ≡ Err e)

-- a signal recording: 2 channels, 4 bytes a sample, 12 bits
abbrev pub signal_format : Format
signal_format = record { channels = 2; align = 4; bits = 12; takes_room = lit< tt }

abbrev pub signal_opening : ℕ → List ℕ → Result (Opened ConverterSample) OpeningRefusal
signal_opening input b = opening signal_format signal_item input b

-- a gain recording: 1 channel, 1 byte an index, 8 bits
abbrev pub gain_format : Format
gain_format = record { channels = 1; align = 1; bits = 8; takes_room = lit< tt }

abbrev pub gain_opening : ℕ → List ℕ → Result (Opened GainIndex) OpeningRefusal
gain_opening input b = opening gain_format gain_item input b

-- these bytes, opened, hand out exactly these samples, at this rate, and are finished then
abbrev pub HandsOut : List ℕ → ℕ → List ConverterSample → Type 0
HandsOut b rate xs = (input : ℕ) → signal_opening input b ≡ Ok (record { rate = rate; whole = record { items = xs; ending = Ok tt } })
