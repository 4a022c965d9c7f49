use Rattle.std.proofs.Common.{sym, ◌∙◌, rules}
use Rattle.std.proofs.lemmas.Bool.{leb-true}
use Rattle.stages.proofs.Outputs.{exhausted}
use Rattle.stages.proofs.clock_offset.Line.next_output.Goals as goal

pub returns-in_err-x : goal.returns-in_err-x
returns-in_err-x g c =
    let e = exhausted _ c.loop-below.self.before c.loop-below.self.last _ c.loop-below.self.moves (leb-true _ _ (sym c.wants_item.ensures ∙ c.loop-below-test.true)) in
    search rules

pub returns-in_default : goal.returns-in_default
returns-in_default g c =
    let e = exhausted _ c.loop-below.self.before c.loop-below.self.last _ c.loop-below.self.moves (leb-true _ _ (sym c.wants_item.ensures ∙ c.loop-below-test.true)) in
    search rules
