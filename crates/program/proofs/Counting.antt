-- Items that are counted one by one.
use Rattle.std.proofs.Common.{◌≡◌, ℕ, ◌-◌, ◌^◌, ◌≤◌, min, length}
use Rattle.sources.specs.Streams.{Stream}

-- so many were passed over, and counted as far as can be reported
pub record Passing {T : Type 0} (start left : Stream T) (items : ℕ) : Type 0 where
  pub few : length left.items ≤ length start.items
  pub counted : items ≡ min (length start.items - length left.items) (2 ^ 64 - 1)
  pub ends : left.ending ≡ start.ending
