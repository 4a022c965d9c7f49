use Rattle.std.proofs.Common.{arith}
use Rattle.program.proofs.Coming.{more}
use Rattle.program.proofs.Timing.{adds}
use Rattle.program.proofs.bench.play_once.Goals as goal

pub loop-start-preserved : goal.loop-start-preserved
loop-start-preserved g c =
    adds c.args.player.now.whole c.loop-start.player c.next_block-count.new.player c.loop-start.items c.loop-start.sum c.loop-start.invariant
    c.loop-start.block c.next_block-count.new.block c.next_block-count.result (omega arith)
    (c.next_block-count.ensures c.args.player.now.whole c.loop-start.invariant.place c.loop-start.invariant.at)
    c.in_default.is _ _ c.saturating_add-items.ensures c.add_samples-sum.ensures

pub loop-start-smaller : goal.loop-start-smaller
loop-start-smaller g c =
    let m = more c.args.player.now.whole c.loop-start.invariant.place c.loop-start.block c.next_block-count.new.block c.loop-start.player c.next_block-count.new.player
    c.next_block-count.result (omega arith) c.loop-start.invariant.at
    (c.next_block-count.ensures c.args.player.now.whole c.loop-start.invariant.place c.loop-start.invariant.at) c.in_default.is in
    m.shorter
