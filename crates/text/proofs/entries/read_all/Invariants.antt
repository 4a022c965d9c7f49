use Rattle.text.specs.Entries.{entries_of, entries_left}
use Rattle.text.proofs.Passing.{Passed}
use Rattle.text.proofs.entries.read_all.Given as goal

abbrev pub invariant-loop-entry : goal.invariant-loop-entry
invariant-loop-entry g l =
    (goal.iterator-loop-entry g).can_next l.entry-iterator × (goal.iterator-loop-entry g).is_finite l.entry-iterator
    × Passed g.F.Form.Says (entries_of l.fn.bytes) (entries_left l.entry-iterator) l.all.items
