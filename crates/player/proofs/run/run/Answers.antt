use Rattle.std.proofs.Common.{List, [], map, vec_items, sym, ap, subst, arith}
use Rattle.std.proofs.lemmas.Grind.{common_steps}
use Rattle.player.specs.Calls.{Answered, answered}
use Rattle.player.specs.Runs.{RunFrom, begun}
use Rattle.player.proofs.Running.{goes_on}
use Rattle.player.proofs.run.run.Goals as goal

pub loop-call-init : goal.loop-call-init
loop-call-init g c =
    let s = c.new-player.result in
    record {
      run = subst (λ (tells : List (Answered _)). RunFrom s [] tells s) (sym (ap (map answered) c.new-answers.ensures.items)) begun;
      calls = c.into_iter-call-iterator.ensures.into_iter_gives.0;
    }

pub loop-call-preserved : goal.loop-call-preserved
loop-call-preserved g c =
    let turn = c.loop-call in
    record {
      run =
          goes_on turn.yielded (vec_items turn.answers) (vec_items c.push.new.self) c.in-Some.call c.answer.result
          c.in_ok-push.ensures.items turn.invariant.run c.answer.ensures.plays;
      calls = grind (arith, common_steps);
    }
