use Rattle.std.proofs.Common.{ap, ◌∙◌, subst, arith}
use Rattle.program.specs.Blocks.{Comes}
use Rattle.program.proofs.Coming.{block_of, comes, some_came}
use Rattle.program.proofs.block.next_block.Goals as goal

pub returns-in-Ok : goal.returns-in-Ok
returns-in-Ok g c w p at =
    let some = some_came c.in-Ok.count (let h = c.in-Ok.count-test.1 in omega arith) in
    subst (Comes w p c.args.block.now c.fill.new.buffer c.fill.new.self) (ap block_of c.in-Ok.is ∙ some)
    (comes w p c.args.block.now c.fill.new.buffer c.fill.new.self c.fill.result c.requires (c.fill.ensures.plays w p at))

pub returns-in-Err : goal.returns-in-Err
returns-in-Err g c w p at =
    subst (Comes w p c.args.block.now c.fill.new.buffer c.fill.new.self) (ap block_of c.in-Err.is)
    (comes w p c.args.block.now c.fill.new.buffer c.fill.new.self c.fill.result c.requires (c.fill.ensures.plays w p at))
