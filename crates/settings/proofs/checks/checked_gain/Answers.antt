use Rattle.std.proofs.Common.{rules}
use Rattle.settings.proofs.Accepted.{gain_made}
use Rattle.settings.proofs.checks.checked_gain.Goals as goal

pub returns : goal.returns
returns c = gain_made _ c.args.shift (search rules)
