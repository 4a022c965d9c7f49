use Rattle.std.proofs.Common.{refl, ap}
use Rattle.stages.specs.Multipath.{used, echoes}
use Rattle.stages.proofs.Peeling.{ring_silent}
use Rattle.stages.proofs.multipath.MultipathMemory.reset.Goals as goal

pub returns : goal.returns
returns c = record { starts = ap (echoes (used c.args.self.now.paths)) (ring_silent c.args.self.now.newest); same = refl }
