use Rattle.std.proofs.Common.{◌≡◌, ◌+◌, count_by, take}
use Rattle.program.specs.Levels.{highest_from, is_clipped}
use Rattle.program.proofs.levels.Levels.note.Given as goal

abbrev pub invariant-loop-sample : goal.invariant-loop-sample
invariant-loop-sample l =
    (l.self.highest ≡ highest_from l.initial.self.highest (take l.sample-index l.samples))
    × (l.self.clipped ≡ l.initial.self.clipped + count_by is_clipped (take l.sample-index l.samples))
