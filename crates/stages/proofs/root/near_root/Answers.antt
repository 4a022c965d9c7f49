use Rattle.std.proofs.Common.{◌+◌, ◌/◌, ◌^◌, ◌≤◌, arith, pow_mono}
use Rattle.std.proofs.lemmas.Nat.{div_below}
use Rattle.stages.proofs.root.near_root.Goals as goal

pub returns : goal.returns
returns c =
    let l : 2 ^ 20 ≤ 2 ^ (20 + c.min-half.result / 2) = pow_mono {i = 20} (omega arith) in
    div_below c.line.result _ (2 ^ 29) (omega arith) (omega arith)
