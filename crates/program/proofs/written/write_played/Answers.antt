use Rattle.std.proofs.Common.{arith}
use Rattle.program.proofs.Writing.{goes}
use Rattle.program.proofs.written.write_played.Goals as goal

pub loop-files-preserved : goal.loop-files-preserved
loop-files-preserved g c =
    goes c.args.player.now.whole c.args.to.now c.args.rate (g.H.Host.written c.args.host.now)
    c.loop-files.files c.loop-files.player c.loop-files.samples c.loop-files.levels.highest c.loop-files.levels.clipped (g.H.Host.written c.loop-files.host) c.loop-files.invariant
    c.loop-files.block c.next_block-count.new.block c.next_block-count.new.player c.next_block-count.result (omega arith)
    (c.next_block-count.ensures c.args.player.now.whole c.loop-files.samples c.loop-files.invariant.at) c.in_default.is
    (g.H.Host.written c.write_file.new.host) c.note.new.self.highest c.note.new.self.clipped
    c.in_ok-write_file.ensures.file c.note.ensures.highest c.note.ensures.clipped
