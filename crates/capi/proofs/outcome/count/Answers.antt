use Rattle.std.proofs.Common.{ap, ◌∙◌}
use Rattle.capi.specs.Outcomes.{most}
use Rattle.std.specs.Result.{result_unwrap_or}
use Rattle.capi.proofs.PlayingInto.{played_into}
use Rattle.capi.proofs.outcome.count.Goals as goal

pub ending_met-ending-requires : goal.ending_met-ending-requires
ending_met-ending-requires g c =
    let s = c.new-player.result in
    let s' = c.skip.new.self in
    (played_into most (g.S.Source.whole c.args.source) s s' c.unwrap_or-items.result c.new-player.ensures.stands c.skip.ensures.moves
    (c.unwrap_or-items.ensures ∙ ap (λ r. result_unwrap_or r 0) c.skip.ensures.answers)).spent

pub returns : goal.returns
returns g c =
    let s = c.new-player.result in
    let s' = c.skip.new.self in
    let l =
    played_into most (g.S.Source.whole c.args.source) s s' c.unwrap_or-items.result c.new-player.ensures.stands c.skip.ensures.moves
    (c.unwrap_or-items.ensures ∙ ap (λ r. result_unwrap_or r 0) c.skip.ensures.answers) in
    λ i. record { items = l.items i; ending = (c.ending_met-ending.ensures ∙ l.ending) i }
