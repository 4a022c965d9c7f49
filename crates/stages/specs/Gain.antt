-- Gains: a fixed one, and those that an index chooses from.
use Rattle.std.specs.Prelude.{suc, ◌^◌, List, ℤ, pos, negsuc, ◌-ℤ◌, ◌*ℤ◌, slice_index_or}
use Rattle.std.specs.Int.Signed.{le_z_yes}
use Rattle.std.proofs.Common.{lit≤}
use Rattle.samples.specs.Arithmetic.{floor_by}
use Rattle.samples.specs.Kinds.{air}
use Rattle.samples.specs.declared.gain_index.GainIndex.{GainIndex}
use Rattle.samples.specs.declared.kinds.AirSample.{AirSample}
use Rattle.stages.specs.declared.gain.Gain.{Gain}

-- z times 2^e, rounded down
abbrev pub floor_scaled : ℤ → ℤ → ℤ
floor_scaled z (pos e) = z *ℤ pos (2 ^ e)
floor_scaled z (negsuc e) = floor_by z (2 ^ suc e)

-- x times factor 2^(shift - 8), rounded down
abbrev pub gained_part : Gain → ℤ → ℤ
gained_part g x = floor_scaled (x *ℤ pos g.factor) (g.shift -ℤ pos 8)

-- the gain g of a sample of parts re and im
abbrev pub gained : Gain → ℤ → ℤ → AirSample
gained g re im = air (gained_part g re) (gained_part g im)

-- the gain of 1
abbrev pub unity : Gain
unity =
    record {
      shift = pos 1;
      factor = 128;
      shift_low = le_z_yes tt;
      shift_high = le_z_yes tt;
      factor_low = lit≤ tt;
      factor_high = lit≤ tt;
    }

-- the gain that an index chooses from a table
abbrev pub chosen : List Gain → GainIndex → Gain
chosen gains i = slice_index_or gains i.index unity
