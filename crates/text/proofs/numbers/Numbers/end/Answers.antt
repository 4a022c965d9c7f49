use Rattle.std.proofs.Common.{[], refl}
use Rattle.text.specs.Taking.{words_left}
use Rattle.text.proofs.Rows.{exit}
use Rattle.text.proofs.numbers.Numbers.end.Goals as goal

pub returns-in_err-quoted-in-Some : goal.returns-in_err-quoted-in-Some
returns-in_err-quoted-in-Some c = exit _ _ _ _ c.from_residual.ensures.1 (record { spelled = []; word = c.in-Some.word.now; more = words_left c.word.new.self; words_are = c.in-Some.ensures; spell = tt; fails = tt })

pub returns-in_ok-quoted-in-Some : goal.returns-in_ok-quoted-in-Some
returns-in_ok-quoted-in-Some c = record { spelled = []; word = c.in-Some.word.now; more = words_left c.word.new.self; words_are = c.in-Some.ensures; spell = tt; fails = (c.in_ok-quoted-in-Some.ensures, refl) }
