-- Noise: two generators of 32 bits, one a part; and noise added to the signal.
use Rattle.std.specs.Prelude.{ℕ, zero, suc, ◌+◌, ◌*◌, ◌/◌, ◌%◌, ◌^◌, ℤ, pos, ◌+ℤ◌, ◌-ℤ◌, ◌*ℤ◌, bit_xor, count_ones, Ok}
use Rattle.samples.specs.Kinds.{air}
use Rattle.samples.specs.declared.kinds.AirSample.{AirSample}
use Rattle.sources.specs.Streams.{Stream, tabulate}

-- v xor (v << k), bits above 31 dropped
abbrev pub mixed_up : ℕ → ℕ → ℕ
mixed_up k v = bit_xor v (v * 2 ^ k % 2 ^ 32)

-- v xor (v >> k)
abbrev pub mixed_down : ℕ → ℕ → ℕ
mixed_down k v = bit_xor v (v / 2 ^ k)

-- one step: by 13 up, by 17 down, by 5 up
abbrev pub stepped : ℕ → ℕ
stepped v = mixed_up 5 (mixed_down 17 (mixed_up 13 v))

-- the state after k steps
abbrev pub steps : ℕ → ℕ → ℕ
steps zero v = v
steps (suc k) v = steps k (stepped v)

-- the level of a state: its ones, less 16, times 199
abbrev pub level : ℕ → ℤ
level v = (pos (count_ones v) -ℤ pos 16) *ℤ pos 199

-- item k: the levels after k + 1 steps from the states re and im
abbrev pub noise_item : ℕ → ℕ → ℕ → AirSample
noise_item re im k = record { re = level (steps (k + 1) re); im = level (steps (k + 1) im) }

-- n items from the states re and im on, finished
abbrev pub noise : ℕ → ℕ → ℕ → Stream AirSample
noise n re im = record { items = tabulate (noise_item re im) 0 n; ending = Ok tt }

-- signal and noise added
abbrev pub summed : AirSample → AirSample → AirSample
summed x n = air (x.re +ℤ n.re) (x.im +ℤ n.im)
