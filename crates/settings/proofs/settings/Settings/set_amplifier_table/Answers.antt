use Rattle.std.proofs.Common.{rules}
use Rattle.settings.proofs.Calls.{table_answer}
use Rattle.settings.proofs.settings.Settings.set_amplifier_table.Goals as goal

pub returns-in_err-self-clause-first : goal.returns-in_err-self-clause-first
returns-in_err-self-clause-first c = table_answer c.args.amplitudes.now c.args.phases.now _ (search rules)

pub returns-clause-first : goal.returns-clause-first
returns-clause-first c = table_answer c.args.amplitudes.now c.args.phases.now _ (search rules)
