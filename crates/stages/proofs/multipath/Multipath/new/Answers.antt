use Rattle.std.proofs.Common.{refl}
use Rattle.stages.proofs.Peeling.{ring_silent}
use Rattle.stages.proofs.multipath.Multipath.new.Goals as goal

pub returns : goal.returns
returns c = record { paths = refl; starts = ring_silent 0 }
