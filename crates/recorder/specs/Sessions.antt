-- A whole session: one recording of what a source has left, as far as there is room.
use Rattle.std.specs.Prelude.{◌≡◌, ℕ, ◌-◌, ◌/◌, ◌≤◌, min, Bool, true, cond, ◌&&◌, List, length, take, Some, None, Ok, Err, Option, Result, MatchResult, nat_le}
use Rattle.std.specs.List.{flat_map}
use Rattle.samples.specs.declared.kinds.ConverterSample.{ConverterSample}
use Rattle.sources.specs.Streams.{Ending, Stream, from}
use Rattle.recordings.specs.declared.refusal.OpeningRefusal.{OpeningRefusal}
use Rattle.recorder.specs.declared.refusal.RewritingRefusal.{RewritingRefusal}
use Rattle.recorder.specs.declared.refusal.RewritingRefusal.TheVariants.{Opening, Writing}
use Rattle.recorder.specs.declared.refusal.WritingRefusal.{WritingRefusal}
use Rattle.recorder.specs.declared.refusal.WritingRefusal.TheVariants.{Full}
use Rattle.recorder.specs.declared.session.Part.{Part}
use Rattle.recordings.specs.Bytes.{overwrite}
use Rattle.recordings.specs.Rates.{good_rate}
use Rattle.recordings.specs.Opening.{Opened, Reading, opened_of, HandsOut}
use Rattle.recorder.specs.Writing.{coded, size_of, recorded, good_buffer, fits, accepting}

-- how many samples a buffer of len bytes has room for
abbrev pub room : ℕ → ℕ
room len = (len - 44) / 4

-- how many items of the stream go in
abbrev pub taken : {T : Type 0} → ℕ → Stream T → ℕ
taken n s = min n (length s.items)

-- the ending, where it is met: only if there is room for one more item than there are
abbrev pub met : {T : Type 0} → ℕ → Stream T → Option Ending
met n s = cond (nat_le n (length s.items)) None (Some s.ending)

-- the bytes b of a started recording of n samples, after those of the stream that there is room for are put in
abbrev pub filled : ℕ → ℕ → Stream ConverterSample → List ℕ → List ℕ
filled n room s b = overwrite (size_of n) (flat_map coded (take (taken room s) s.items)) b

-- rate and buffer are accepted
abbrev pub accepted : ℕ → ℕ → Bool
accepted len rate = good_rate rate && good_buffer len

abbrev pub part_of : ℕ → Stream ConverterSample → Part
part_of n s = record { length = size_of (taken n s); samples = taken n s; ending = met n s }

abbrev pub record_answer : ℕ → ℕ → Stream ConverterSample → Result Part WritingRefusal
record_answer len rate s = accepting len rate (Ok (part_of (room len) s))

-- the buffer and the source after it
abbrev pub after_record : List ℕ → ℕ → Stream ConverterSample → List ℕ
after_record b rate s = cond (accepted (length b) rate) (overwrite 0 (recorded rate (take (taken (room (length b)) s) s.items)) b) b

abbrev pub left_after_record : ℕ → ℕ → Stream ConverterSample → Stream ConverterSample
left_after_record len rate s = cond (accepted len rate) (from (taken (room len) s) s) s

-- the round trip: the recording, opened, hands out what went in
abbrev pub ComesBack : ℕ → ℕ → Stream ConverterSample → List ℕ → Type 0
ComesBack len rate s after = HandsOut (take (size_of (taken (room len) s)) after) rate (take (taken (room len) s) s.items)

-- Writing a list of samples whole: refused as a start is, and where they do not fit. Then nothing changes.
abbrev pub write_answer : ℕ → ℕ → ℕ → Result ℕ WritingRefusal
write_answer len rate n = accepting len rate (cond (fits len n) (Ok (size_of n)) (Err Full))

abbrev pub after_write : List ℕ → ℕ → List ConverterSample → List ℕ
after_write b rate xs = cond (accepted (length b) rate && fits (length b) (length xs)) (overwrite 0 (recorded rate xs) b) b

-- Rewriting: what the bytes hold when they are opened is recorded, at the same rate.
abbrev pub as_writing : Result Part WritingRefusal → Result Part RewritingRefusal
as_writing (Ok part) = Ok part
as_writing (Err e) = Err (Writing e)

abbrev pub rewrite_answer : ℕ → Result (Opened ConverterSample) OpeningRefusal → Result Part RewritingRefusal
rewrite_answer len (Err e) = Err (Opening e)
rewrite_answer len (Ok o) = as_writing (record_answer len o.rate o.whole)

abbrev pub after_rewrite : List ℕ → Result (Opened ConverterSample) OpeningRefusal → List ℕ
after_rewrite b (Err e) = b
after_rewrite b (Ok o) = after_record b o.rate o.whole

-- what rewriting hands back: what was written, and the recording that was opened, with what is left of it
pub record Rewrites (len : ℕ) (opening : Result (Opened ConverterSample) OpeningRefusal) (part : Part) (recording : Reading ConverterSample) : Type 0 where
  pub answer : rewrite_answer len opening ≡ Ok part
  pub recording_is : opening ≡ Ok (opened_of recording)
  pub onward : recording.left ≡ left_after_record len recording.rate recording.whole

-- rewriting is answered as defined: by those two, or by the refusal
abbrev pub RewritesAs : Result (Part × Reading ConverterSample) RewritingRefusal → ℕ → Result (Opened ConverterSample) OpeningRefusal → Type 0
RewritesAs result len opening = MatchResult result (λ p. Rewrites len opening p.0 p.1) (λ e. rewrite_answer len opening ≡ Err e)

-- The other round trip: a recording of the shape that we write, which fits the buffer, keeps every byte.
abbrev pub Keeps : List ℕ → List ℕ → List ℕ → Result Part RewritingRefusal → Type 0
Keeps b out after answer =
    (rate : ℕ) (xs : List ConverterSample) → good_rate rate ≡ true → b ≡ recorded rate xs → length b ≤ length out → length out ≤ 65536
    → (take (length b) after ≡ b) × ((part : Part) × ((answer ≡ Ok part) × (part.length ≡ length b)))
