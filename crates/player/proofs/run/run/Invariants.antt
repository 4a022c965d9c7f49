use Rattle.std.proofs.Common.{◌≡◌, ◌++◌, map, vec_items}
use Rattle.std.specs.Vec.Iter.{into_iter_items}
use Rattle.player.specs.Calls.{asked, answered}
use Rattle.player.specs.Runs.{RunFrom}
use Rattle.player.proofs.run.run.Given as goal

-- what was carried out is a run of the fresh player, and with what is left it is the whole list
abbrev pub invariant-loop-call : goal.invariant-loop-call
invariant-loop-call g l = record {
  run : RunFrom l.initial.player (map asked l.yielded) (map answered (vec_items l.answers)) l.player;
  calls : l.yielded ++ into_iter_items l.call-iterator ≡ vec_items l.fn.calls;
}
