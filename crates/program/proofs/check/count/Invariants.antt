use Rattle.std.proofs.Common.{◌≡◌}
use Rattle.program.proofs.Counting.{Passing}
use Rattle.program.proofs.check.count.Given as goal

-- what was counted and what is left is what was left at first, and so are the ending and the whole
abbrev pub invariant-loop-item : goal.invariant-loop-item
invariant-loop-item g l = record {
  passing : Passing (g.S.Source.left l.fn.source) (g.S.Source.left l._item-iterator.source.now) l.items;
  whole : g.S.Source.whole l._item-iterator.source.now ≡ g.S.Source.whole l.fn.source;
  same : l._item-iterator.source.ghost_name ≡ l.initial._item-iterator.source.ghost_name;
}
