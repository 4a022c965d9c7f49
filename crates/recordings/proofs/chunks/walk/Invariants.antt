use Rattle.std.proofs.Common.{◌-◌, ◌≤◌, length, None}
use Rattle.recordings.specs.Chunks.{chunks}
use Rattle.recordings.proofs.Walks.{Walking}
use Rattle.recordings.proofs.chunks.walk.Given as goal

abbrev pub invariant-loop-next : goal.invariant-loop-next
invariant-loop-next l =
    record {
      within : l.at ≤ length l.bytes;
      as_all : Walking l.format l.bytes (chunks l.format l.bytes (length l.bytes) 12 None) l.at l.rate;
    }

abbrev pub decreases-loop-next : goal.decreases-loop-next
decreases-loop-next l = length l.bytes - l.at
