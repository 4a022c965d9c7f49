use Rattle.std.proofs.Common.{◌≡◌, max, arith}
use Rattle.program.proofs.bench.play_often.Goals as goal

pub returns-clause-runs : goal.returns-clause-runs
returns-clause-runs g c =
    let counted = c.loop-number.invariant.1 in
    let made : c.loop-number.best.runs ≡ max 1 c.args.runs = omega arith in
    made
