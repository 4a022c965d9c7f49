use Rattle.std.proofs.Common.{rules}
use Rattle.recorder.proofs.Rewriting.{keeps}
use Rattle.recorder.proofs.session.rewrite.Goals as goal

pub returns-in_err-recording-clause-keeps : goal.returns-in_err-recording-clause-keeps
returns-in_err-recording-clause-keeps c = keeps c.args.bytes.now c.args.out.now c.args.out.now c.args.input (search rules)

pub returns-in_err-part-clause-keeps : goal.returns-in_err-part-clause-keeps
returns-in_err-part-clause-keeps c = keeps c.args.bytes.now c.args.out.now c.record.new.out c.args.input (search rules)

pub returns-clause-keeps : goal.returns-clause-keeps
returns-clause-keeps c = keeps c.args.bytes.now c.args.out.now c.record.new.out c.args.input (search rules)
