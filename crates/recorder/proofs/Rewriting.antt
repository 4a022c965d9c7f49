-- A recording of the shape that we write keeps every byte when it is rewritten.
use Rattle.std.proofs.Common.{◌≡◌, ℕ, ◌+◌, ◌*◌, true, List, length, take, Ok, sym, refl, ap, ◌∙◌, arith}
use Rattle.std.proofs.lemmas.List.{take_all}
use Rattle.std.proofs.lemmas.Bool.Decides.{nat_tests}
use Rattle.samples.specs.declared.kinds.ConverterSample.{ConverterSample}
use Rattle.sources.specs.Streams.{Stream}
use Rattle.recordings.specs.Bytes.{overwrite}
use Rattle.recordings.specs.Opening.{signal_opening}
use Rattle.recorder.specs.Sessions.{room, taken, part_of, rewrite_answer, after_rewrite, Keeps}
use Rattle.recorder.specs.Writing.{size_of, recorded, good_buffer}
use Rattle.recorder.proofs.Back.{recorded_length, hands_out}
use Rattle.recorder.proofs.Overwriting.{take-overwrite}

pub keeps : (b out after : List ℕ) (input : ℕ) → after ≡ after_rewrite out (signal_opening input b) → Keeps b out after (rewrite_answer (length out) (signal_opening input b))
keeps b out after input a rate xs good e fits short =
    let long : length b ≡ 44 + 4 * length xs = ap length e ∙ recorded_length rate xs in
    let whole : Stream ConverterSample = record { items = xs; ending = Ok tt } in
    let opens : signal_opening input b ≡ Ok (record { rate = rate; whole = record { items = xs; ending = Ok tt } }) = ap (signal_opening input) e ∙ hands_out rate xs good (omega arith) input in
    let buffer : good_buffer (length out) ≡ true = grind (arith, nat_tests) in
    let count : taken (room (length out)) (record { items = xs; ending = Ok tt }) ≡ length xs = omega arith in
    let all : take (taken (room (length out)) (record { items = xs; ending = Ok tt })) xs ≡ xs = take_all _ xs (omega arith) in
    let written : after ≡ overwrite 0 (recorded rate xs) out = rw (a, opens, good, buffer, all) refl in
    let back : take (length b) after ≡ b = ap (take (length b)) written ∙ take-overwrite 0 (recorded rate xs) out (length b) (omega arith) (ap length e ∙ (omega arith)) ∙ sym e in
    let answered : rewrite_answer (length out) (signal_opening input b) ≡ Ok (part_of (room (length out)) (record { items = xs; ending = Ok tt })) = rw (opens, good, buffer) refl in
    (back, (part_of (room (length out)) whole, (answered, ap size_of count ∙ sym long)))
