use Rattle.settings.proofs.Accepted.{seeds_made}
use Rattle.settings.proofs.checks.checked_seeds.Goals as goal

pub returns : goal.returns
returns c = seeds_made _
