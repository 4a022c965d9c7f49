-- A whole session: start, put what the source has left, finish.
use Rattle.std.proofs.Common.{◌≡◌, ℕ, ◌+◌, ◌≤◌, Bool, true, false, cond, List, length, take, Ok, Err, Result, refl, ap, ◌∙◌, subst, arith}
use Rattle.std.proofs.lemmas.List.{length-take-le}
use Rattle.std.proofs.lemmas.Bool.Decides.{nat_tests}
use Rattle.std.specs.List.{flat_map}
use Rattle.samples.specs.declared.kinds.ConverterSample.{ConverterSample}
use Rattle.sources.specs.Streams.{Stream}
use Rattle.recorder.specs.declared.refusal.WritingRefusal.{WritingRefusal}
use Rattle.recorder.specs.declared.refusal.WritingRefusal.TheVariants.{Buffer, Rate}
use Rattle.recorder.specs.declared.started.StartedRecording.{StartedRecording}
use Rattle.recordings.specs.Bytes.{overwrite}
use Rattle.recordings.specs.Rates.{good_rate}
use Rattle.recordings.specs.Opening.{HandsOut, signal_opening}
use Rattle.recorder.specs.Sessions.{room, taken, after_record, ComesBack}
use Rattle.recorder.specs.Writing.{header, coded, size_of, recorded, good_buffer, fits, sized, start_answer, after_start, after_finish}
use Rattle.recorder.proofs.Back.{coded_length, recorded_length, hands_out}
use Rattle.recorder.proofs.Overwriting.{take-overwrite, overwrite_more, overwrite_length}

-- it was started: so rate and buffer are good, and no sample is in it
begun : (p q : Bool) (w : StartedRecording) → ◌≡◌ {A = Result StartedRecording WritingRefusal} (Ok w) (cond p (cond q (Ok (record { samples = 0 })) (Err Buffer)) (Err Rate)) → (p ≡ true) × (q ≡ true) × (w.samples ≡ 0)
begun true true w h = (refl, refl, let e : w ≡ record { samples = 0 } = cc in ap (λ (v : StartedRecording). v.samples) e)
begun true false w h = cc
begun false q w h = cc

-- header and samples are one write, and with its sizes it is the recording
whole : (b : List ℕ) (rate : ℕ) (xs : List ConverterSample) → sized (overwrite 44 (flat_map coded xs) (overwrite 0 (header rate 0 0) b)) (length xs) ≡ overwrite 0 (recorded rate xs) b
whole b rate xs = ap (λ (c : List ℕ). sized c (length xs)) (overwrite_more 0 (header rate 0 0) (flat_map coded xs) b 44 (omega arith) refl)

-- which hands out the samples when it is opened
pub comes_back : (b : List ℕ) (rate : ℕ) (xs : List ConverterSample) → good_rate rate ≡ true → size_of (length xs) ≤ 65536 → HandsOut (take (size_of (length xs)) (overwrite 0 (recorded rate xs) b)) rate xs
comes_back b rate xs good short input = ap (signal_opening input) (take-overwrite 0 (recorded rate xs) b (size_of (length xs)) (omega arith) (let l = recorded_length rate xs in omega arith)) ∙ hands_out rate xs good short input

-- What a session leaves, from what its three calls have reported.
pub record Session (b : List ℕ) (rate : ℕ) (s : Stream ConverterSample) (after : List ℕ) : Type 0 where
  pub bytes : after ≡ after_record b rate s
  pub opens : ComesBack (length b) rate s after

pub session : (b : List ℕ) (rate : ℕ) (s : Stream ConverterSample) (w v : StartedRecording) (n : ℕ) (started held after : List ℕ)
    → Ok w ≡ start_answer (length b) rate → started ≡ after_start b rate → n ≡ room (length b)
    → v.samples ≡ w.samples + taken n s → held ≡ overwrite (size_of w.samples) (flat_map coded (take (taken n s) s.items)) started
    → after ≡ after_finish held v.samples → Session b rate s after
session b rate s w v n started held after start starts rooms count holds finish =
    let u = begun (good_rate rate) (good_buffer (length b)) w start in
    let r : good_rate rate ≡ true = u.0 in
    let g : good_buffer (length b) ≡ true = u.1 in
    let low : 44 ≤ length b = grind (arith, nat_tests) in
    let high : length b ≤ 65536 = grind (arith, nat_tests) in
    let xs = take (taken (room (length b)) s) s.items in
    let l : length (take (taken (room (length b)) s) s.items) ≡ taken (room (length b)) s = length-take-le (taken (room (length b)) s) s.items (omega arith) in
    let m : v.samples ≡ length (take (taken (room (length b)) s) s.items) = let k = u.2 in omega arith in
    let q : size_of (length (take (taken (room (length b)) s) s.items)) ≤ length b = omega arith in
    let o : started ≡ overwrite 0 (header rate 0 0) b = rw (starts, r, g) refl in
    let e : held ≡ overwrite 44 (flat_map coded (take (taken (room (length b)) s) s.items)) (overwrite 0 (header rate 0 0) b) = rw (holds, u.2, rooms, o) refl in
    let long : length held ≡ length b = ap length e ∙ overwrite_length 44 (flat_map coded xs) (overwrite 0 (header rate 0 0) b) (let k = coded_length xs in let j = overwrite_length 0 (header rate 0 0) b low in omega arith) ∙ overwrite_length 0 (header rate 0 0) b low in
    let f : fits (length held) v.samples ≡ true = grind (arith, nat_tests) in
    let d : after ≡ overwrite 0 (recorded rate (take (taken (room (length b)) s) s.items)) b = rw (finish, f, e, m) (whole b rate xs) in
    record { bytes = rw (d, r, g) refl; opens = rw d (subst (λ (k : ℕ). HandsOut (take (size_of k) (overwrite 0 (recorded rate xs) b)) rate xs) l (comes_back b rate xs r (omega arith))) }
