use Rattle.std.proofs.Common.{rules}
use Rattle.settings.proofs.Calls.{paths_answer}
use Rattle.settings.proofs.settings.Settings.set_paths.Goals as goal

pub returns-in_err-self-clause-first : goal.returns-in_err-self-clause-first
returns-in_err-self-clause-first c = paths_answer c.args.given.now _ (search rules)

pub returns-clause-first : goal.returns-clause-first
returns-clause-first c = paths_answer c.args.given.now _ (search rules)
