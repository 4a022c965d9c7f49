use Rattle.std.proofs.Common.{arith}
use Rattle.samples.specs.Roots.{Root}
use Rattle.samples.proofs.RootFacts.{only_root, root_is}
use Rattle.stages.proofs.root.root_of.Goals as goal

pub returns-then-square-m : goal.returns-then-square-m
returns-then-square-m c =
    let p : Root c.args.n c.if-next-square.m = record { at_most = c.if-m-square.true; greatest = c.if-square-m.true } in
    record { value = only_root _ _ _ p (root_is c.args.n (omega arith)); greatest = p }

pub returns-else-m-square : goal.returns-else-m-square
returns-else-m-square c =
    let p : Root c.args.n c.isqrt.result = record { at_most = c.isqrt.ensures.square_le; greatest = c.isqrt.ensures.next_square_gt } in
    record { value = only_root _ _ _ p (root_is c.args.n (omega arith)); greatest = p }
