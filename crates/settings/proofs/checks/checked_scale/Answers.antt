use Rattle.settings.proofs.Accepted.{scale_made}
use Rattle.settings.proofs.checks.checked_scale.Goals as goal

pub returns : goal.returns
returns c = scale_made _
