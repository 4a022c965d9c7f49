use Rattle.std.proofs.Common.{◌≡◌, ℕ, ◌<◌, cond, ltb, length, Some, None, ap, ◌∙◌, subst}
use Rattle.std.specs.Result.{result_unwrap_or}
use Rattle.sources.specs.Streams.{Stream}
use Rattle.sources.specs.Wholes.{each}
use Rattle.player.specs.Standing.{Stands}
use Rattle.capi.specs.Playing.{parts}
use Rattle.capi.proofs.PlayingInto.{played_into, same_buffer, mapped}
use Rattle.capi.proofs.outcome.play_into.Goals as goal

pub ending_met-ending-requires : goal.ending_met-ending-requires
ending_met-ending-requires g c κs =
    let s = c.new-player.result in
    let s' = c.fill.new.self in
    let w = each parts (g.S.Source.whole c.args.source) in
    let n = length c.args.out.now in
    let k : length c.fill.new.buffer ≡ n = c.fill.auto.buffer in
    let stands = subst (λ (v : Stream _). Stands s v 0) c.new-apart.ensures.starts.0 c.new-player.ensures.stands in
    let l = played_into n w s s' c.unwrap_or-items.result stands c.fill.ensures.moves (c.unwrap_or-items.ensures ∙ ap (λ r. result_unwrap_or r 0) c.fill.ensures.answers) in
    l.spent (subst (λ (m : ℕ). c.unwrap_or-items.result < m) k κs)

pub returns : goal.returns
returns g c =
    let s = c.new-player.result in
    let s' = c.fill.new.self in
    let below = g.S.Source.whole c.args.source in
    let w = each parts below in
    let n = length c.args.out.now in
    let k : length c.fill.new.buffer ≡ n = c.fill.auto.buffer in
    let stands = subst (λ (v : Stream _). Stands s v 0) c.new-apart.ensures.starts.0 c.new-player.ensures.stands in
    let l = played_into n w s s' c.unwrap_or-items.result stands c.fill.ensures.moves (c.unwrap_or-items.ensures ∙ ap (λ r. result_unwrap_or r 0) c.fill.ensures.answers) in
    let m = mapped parts n below in
    record {
      answer = λ i. record { items = (l.items ∙ m.0) i; ending = (c.ending_met-ending.ensures ∙ ap (λ (j : ℕ). cond (ltb c.unwrap_or-items.result j) (Some s'.left.ending) None) k ∙ l.ending ∙ m.1) i };
      buffer = same_buffer (c.fill.ensures.plays w 0 stands).0;
    }
