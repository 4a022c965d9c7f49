use Rattle.std.proofs.Common.{◌<◌, length, arith, refl}
use Rattle.std.proofs.lemmas.Bool.Decides.{nat_tests}
use Rattle.text.proofs.Splitting.{first_of_lines}
use Rattle.text.proofs.lines.LinesIterator.next.Goals as goal

pub returns-clause-steps : goal.returns-clause-steps
returns-clause-steps c =
    let some : 0 < length c.args.self.now.rest.now = grind (arith, nat_tests, c.is_empty.ensures, c.if-is_empty.false) in
    let split = c.split_line.ensures in
    (split.line, first_of_lines _ _ _ split.line split.within some, split.less some, c.saturating_add-self.ensures, refl)
