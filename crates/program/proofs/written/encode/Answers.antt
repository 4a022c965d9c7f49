use Rattle.std.proofs.Common.{sym, ◌∙◌}
use Rattle.program.proofs.Writing.{front}
use Rattle.program.proofs.written.encode.Goals as goal

pub returns-clause-holds : goal.returns-clause-holds
returns-clause-holds c = front c.args.rate c.args.samples.now c.args.bytes.now c.write.new.out _ (sym c.in_ok-write.was ∙ c.write.ensures.answer) c.write.ensures.bytes
