use Rattle.std.proofs.Common.{◌≡◌, ◌++◌}
use Rattle.sources.proofs.whole.Whole+T+Ending.of.Given as goal

-- what came and what is left is what was left at first, and so are the ending and the whole
abbrev pub invariant-loop-item : goal.invariant-loop-item
invariant-loop-item g l = record {
  came : l.items.items ++ (g.S.Source.left l.item-iterator.source.now).items ≡ (g.S.Source.left l.fn.source).items;
  ends : (g.S.Source.left l.item-iterator.source.now).ending ≡ (g.S.Source.left l.fn.source).ending;
  whole : g.S.Source.whole l.item-iterator.source.now ≡ g.S.Source.whole l.fn.source;
  same : l.item-iterator.source.ghost_name ≡ l.initial.item-iterator.source.ghost_name;
}
