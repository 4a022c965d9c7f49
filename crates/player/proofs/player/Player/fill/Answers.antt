use Rattle.std.proofs.Common.{ltb, List, set, ap, ◌∙◌, ap₂, arith}
use Rattle.std.proofs.lemmas.Grind.{common_steps}
use Rattle.player.specs.Calls.{fill, filled}
use Rattle.player.proofs.Counting.{item_came, placed_more}
use Rattle.player.proofs.Standings.{plays}
use Rattle.player.proofs.player.Player.fill.Goals as goal

pub returns-in_err-item-clause-plays : goal.returns-in_err-item-clause-plays
returns-in_err-item-clause-plays g c = plays (fill c.args.buffer.now) (ap₂ filled (grind (arith, common_steps)) (grind (arith, common_steps))) (grind (arith, common_steps))

pub returns-in-None-clause-plays : goal.returns-in-None-clause-plays
returns-in-None-clause-plays g c = plays (fill c.args.buffer.now) (ap₂ filled (grind (arith, common_steps)) (grind (arith, common_steps))) (grind (arith, common_steps))

pub loop-placed-preserved : goal.loop-placed-preserved
loop-placed-preserved g c =
    let items = c.args.self.now.left.items in
    let k = c.loop-placed.placed in
    let x = c.in-Some.item in
    let i = item_came c.args.self.now k c.loop-placed.self c.loop-placed.invariant.0 (ltb 0 k) x (grind (arith, common_steps)) in (
      grind (arith, common_steps),
      ap (λ (v : List g.row.S-Item.Denot). set v k x) c.loop-placed.invariant.1 ∙ placed_more items c.args.buffer.now k x (omega arith) i,
    )
