use Rattle.std.proofs.Common.{◌+◌, refl}
use Rattle.std.proofs.lemmas.Nat.{and_mask}
use Rattle.stages.specs.Multipath.{used}
use Rattle.stages.proofs.Peeling.{peel, ring_moved}
use Rattle.stages.proofs.multipath.MultipathMemory.step.Goals as goal

pub returns : goal.returns
returns c =
    let s = c.args.self.now in
    let m = ring_moved s.echo_line s.newest _ c.args.x s.places s.inside (and_mask (s.newest + 63) 6) in
    record { steps = λ xs. rw c.echo_sum.ensures (peel (used s.paths) _ _ c.args.x m xs); same = refl }
