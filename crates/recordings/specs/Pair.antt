-- Opening both recordings of a link.
use Rattle.std.specs.Prelude.{◌≡◌, ℕ, List, Ok, Err, Result, MatchResult}
use Rattle.samples.specs.declared.kinds.ConverterSample.{ConverterSample}
use Rattle.samples.specs.declared.gain_index.GainIndex.{GainIndex}
use Rattle.recordings.specs.declared.refusal.OpeningRefusal.{OpeningRefusal}
use Rattle.recordings.specs.Opening.{Opened, opened_of, signal_opening, gain_opening}
use Rattle.recordings.specs.declared.pair.LinkRecordings.{LinkRecordings}
use Rattle.recordings.specs.declared.pair.Input.{Input}
use Rattle.recordings.specs.declared.pair.Input.TheVariants.{Signal, Gain}

abbrev pub input_number : Input → ℕ
input_number Signal = 0
input_number Gain = 1

-- both opened; the signal is tested first
abbrev pub both : Result (Opened ConverterSample) OpeningRefusal → Result (Opened GainIndex) OpeningRefusal → Result (Opened ConverterSample × Opened GainIndex) (Input × OpeningRefusal)
both (Err e) gain = Err (Signal, e)
both (Ok signal) (Err e) = Err (Gain, e)
both (Ok signal) (Ok gain) = Ok (signal, gain)

abbrev pub link_opening : List ℕ → List ℕ → Result (Opened ConverterSample × Opened GainIndex) (Input × OpeningRefusal)
link_opening signal gain = both (signal_opening (input_number Signal) signal) (gain_opening (input_number Gain) gain)

-- both at their start: they are the two that are defined, and all that they hold is left
pub record BothAtStart {E : Type 0} (defined : Result (Opened ConverterSample × Opened GainIndex) E) (x : LinkRecordings) : Type 0 where
  pub answer : defined ≡ Ok (opened_of x.signal, opened_of x.gain)
  pub signal_left : x.signal.left ≡ x.signal.whole
  pub gain_left : x.gain.left ≡ x.gain.whole

-- opening both is answered as defined: by the two at their start, or by the first that is refused
abbrev pub BothOpenAs : {E : Type 0} → Result LinkRecordings E → Result (Opened ConverterSample × Opened GainIndex) E → Type 0
BothOpenAs result defined = MatchResult result (BothAtStart defined) (λ e. defined ≡ Err e)
