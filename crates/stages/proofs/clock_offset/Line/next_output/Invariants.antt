use Rattle.std.proofs.Common.{◌≡◌, ◌-◌, ◌/◌, ◌%◌, ◌^◌, ◌≤◌, length}
use Rattle.stages.specs.Meanings.{outputs_on}
use Rattle.sources.specs.Wholes.{transformed}
use Rattle.stages.proofs.clock_offset.Line.next_output.Given as goal

-- what the line makes stays the same while items are drawn, one for each 2 ^ 53 that its position falls
abbrev pub invariant-loop-below : goal.invariant-loop-below
invariant-loop-below g l =
    (l.self.position ≤ l.initial.self.position) × ((l.initial.self.position - l.self.position) % 2 ^ 53 ≡ 0) × (length (g.S.Source.left l.below).items ≡ length (g.S.Source.left l.initial.below).items - (l.initial.self.position - l.self.position) / 2 ^ 53) × (l.self.step ≡ l.initial.self.step) × (g.S.Source.whole l.below ≡ g.S.Source.whole l.initial.below) × (transformed (outputs_on l.self) (g.S.Source.left l.below) ≡ transformed (outputs_on l.initial.self) (g.S.Source.left l.initial.below))

abbrev pub decreases-loop-below : goal.decreases-loop-below
decreases-loop-below g l = l.self.position
