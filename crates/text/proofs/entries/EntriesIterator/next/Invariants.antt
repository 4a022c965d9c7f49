use Rattle.std.proofs.Common.{◌≡◌, ◌≤◌, length}
use Rattle.text.specs.Entries.{entries_left}
use Rattle.text.proofs.entries.EntriesIterator.next.Given as goal

abbrev pub invariant-loop-line : goal.invariant-loop-line
invariant-loop-line g l = (entries_left l.initial.self ≡ entries_left l.self) × (length l.self.lines.rest.now ≤ length l.initial.self.lines.rest.now)

abbrev pub decreases-loop-line : goal.decreases-loop-line
decreases-loop-line g l = length l.self.lines.rest.now
