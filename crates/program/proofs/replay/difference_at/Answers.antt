use Rattle.std.proofs.Common.{◌≡◌, None}
use Rattle.sources.specs.Differences.{whole_difference}
use Rattle.program.proofs.Alike.{no_difference}
use Rattle.program.proofs.replay.difference_at.Goals as goal

pub returns-clause-alike : goal.returns-clause-alike
returns-clause-alike g c items ending =
    let none : whole_difference g.T.PartialEq.eq g.E.PartialEq.eq c.args.whole.now c.args.again.now ≡ None =
    no_difference g.T.PartialEq.eq g.E.PartialEq.eq g.met.T.Eq.laws.refl g.met.E.Eq.laws.refl c.args.whole.now c.args.again.now items ending in
    let some = c.in_ok-place.was in
    cc
