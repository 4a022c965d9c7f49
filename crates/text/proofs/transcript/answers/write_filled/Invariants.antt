use Rattle.std.proofs.Common.{◌≡◌, ℕ, List, ◌++◌, take, flat_map}
use Rattle.std.specs.Fmt.{HasWritten, IsPlainFormatter}
use Rattle.std.specs.Iterator.Adapters.{take_source, take_count}
use Rattle.std.specs.Slice.Iter.{iter_rest}
use Rattle.text.specs.Answers.{filled_text, placed_text}
use Rattle.text.proofs.transcript.answers.write_filled.Given as goal

abbrev pub invariant-loop-sample : goal.invariant-loop-sample
invariant-loop-sample g l =
    (goal.iterator-loop-sample g).can_next l.sample-iterator
    × (goal.iterator-loop-sample g).is_finite l.sample-iterator
    × (IsPlainFormatter l.fn.f → (done : List ℕ) × HasWritten g.W.Write.write_str_gives l.fn.f done l.f
    × (done ++ flat_map placed_text (take (take_count l.sample-iterator) (iter_rest (take_source l.sample-iterator))) ≡ filled_text l.fn.count l.fn.buffer))
