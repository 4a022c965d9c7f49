-- The rates of recordings.
use Rattle.std.specs.Prelude.{ℕ, Bool, ◌&&◌, nat_le}

-- a rate that a recording may have
abbrev pub good_rate : ℕ → Bool
good_rate rate = nat_le 1 rate && nat_le rate 100000000
