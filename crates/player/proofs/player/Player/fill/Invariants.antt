use Rattle.std.proofs.Common.{◌≡◌, ◌++◌, take, drop}
use Rattle.player.proofs.Counting.{Got}
use Rattle.player.proofs.player.Player.fill.Given as goal

abbrev pub invariant-loop-placed : goal.invariant-loop-placed
invariant-loop-placed g l =
    Got l.initial.self l.placed l.self
    × (l.buffer ≡ take l.placed l.initial.self.left.items ++ drop l.placed l.initial.buffer)
