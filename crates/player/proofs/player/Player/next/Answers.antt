use Rattle.std.proofs.Common.{rules}
use Rattle.player.specs.Calls.{next}
use Rattle.player.proofs.Standings.{plays}
use Rattle.player.proofs.player.Player.next.Goals as goal

pub returns-in_err-item-clause-plays : goal.returns-in_err-item-clause-plays
returns-in_err-item-clause-plays g c = plays next (search rules) (search rules)

pub returns-clause-plays : goal.returns-clause-plays
returns-clause-plays g c = plays next (search rules) (search rules)
