use Rattle.std.proofs.Common.{arith}
use Rattle.program.proofs.Coming.{more}
use Rattle.program.proofs.Timing.{takes}
use Rattle.program.proofs.replay.play_whole.Goals as goal

pub loop-ending-preserved : goal.loop-ending-preserved
loop-ending-preserved g c =
    takes c.args.player.now.whole c.loop-ending.player c.next_block-count.new.player c.loop-ending.items.items c.loop-ending.invariant
    c.loop-ending.block c.next_block-count.new.block c.next_block-count.result (omega arith)
    (c.next_block-count.ensures c.args.player.now.whole c.loop-ending.invariant.place c.loop-ending.invariant.at)
    c.in_default.is _ c.in_ok-extend_from_slice.ensures.items

pub loop-ending-smaller : goal.loop-ending-smaller
loop-ending-smaller g c =
    let m = more c.args.player.now.whole c.loop-ending.invariant.place c.loop-ending.block c.next_block-count.new.block c.loop-ending.player c.next_block-count.new.player
    c.next_block-count.result (omega arith) c.loop-ending.invariant.at
    (c.next_block-count.ensures c.args.player.now.whole c.loop-ending.invariant.place c.loop-ending.invariant.at) c.in_default.is in
    m.shorter
