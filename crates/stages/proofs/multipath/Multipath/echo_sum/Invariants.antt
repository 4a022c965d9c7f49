use Rattle.std.proofs.Common.{◌≤◌, take}
use Rattle.stages.specs.Multipath.{total_re, total_im, ring}
use Rattle.stages.proofs.Echoing.{Summed}
use Rattle.stages.proofs.multipath.Multipath.echo_sum.Given as goal

abbrev pub invariant-loop-i : goal.invariant-loop-i
invariant-loop-i l = (l.i ≤ l.self.paths.count) × Summed l.i (total_re (take l.i l.self.paths.places) (ring l.self.echo_line l.self.newest)) l.re × Summed l.i (total_im (take l.i l.self.paths.places) (ring l.self.echo_line l.self.newest)) l.im
