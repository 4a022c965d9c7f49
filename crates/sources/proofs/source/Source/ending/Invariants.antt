use Rattle.std.proofs.Common.{◌≡◌, length}
use Rattle.sources.proofs.source.Source.ending.Given as goal

abbrev pub invariant-loop : goal.invariant-loop
invariant-loop g l =
    ((g.Self.Source.left l.self).ending ≡ (g.Self.Source.left l.fn.self).ending) × (g.Self.Source.whole l.self ≡ g.Self.Source.whole l.fn.self)

abbrev pub decreases-loop : goal.decreases-loop
decreases-loop g l = length (g.Self.Source.left l.self).items
