-- Fresh settings.
use Rattle.std.specs.Prelude.{true, replicate, pos}
use Rattle.std.proofs.Common.{lit<, lit≤}
use Rattle.std.proofs.lemmas.List.{length-replicate}
use Rattle.std.specs.Int.Signed.{le_z_yes}
use Rattle.stages.specs.Gain.{unity}
use Rattle.stages.specs.Multipath.{neutral_path}
use Rattle.stages.specs.declared.imbalance.Balance.{Balance}
use Rattle.stages.specs.declared.amplifier.Entry.{Entry}
use Rattle.stages.specs.declared.dc_offset.Offset.{Offset}
use Rattle.stages.specs.declared.amplifier.AmplifierTable.{AmplifierTable}
use Rattle.stages.specs.declared.multipath.Paths.{Paths}
use Rattle.settings.specs.declared.settings.Settings.{Settings}

-- no offset
abbrev pub no_offset : Offset
no_offset = record { re = pos 0; im = pos 0 }

-- an imbalance that changes nothing
abbrev pub neutral_balance : Balance
neutral_balance = record { a = pos 16384; b = pos 16384; c = pos 0 }

-- full amplitude, phase not turned
abbrev pub full_entry : Entry
full_entry = record { amplitude = 32767; phase = pos 0; amplitude_within = lit≤ tt }

-- full amplitude at every magnitude
abbrev pub full_table : AmplifierTable
full_table = record { entries = replicate 513 full_entry; all = length-replicate 513 full_entry }

-- the signal alone
abbrev pub one_path : Paths
one_path =
    record {
      places = replicate 10 neutral_path;
      count = 1;
      ten = length-replicate 10 neutral_path;
      low = lit≤ tt;
      high = lit≤ tt;
    }

-- what one begins with: factors of 1, no offset and no delay, amplifier and clock stage left out, and noise seeds of 1
abbrev pub fresh : Settings
fresh =
    record {
      scale = record { factor = 256; low = lit≤ tt; high = lit≤ tt };
      tx_dc = no_offset;
      tx_imbalance = neutral_balance;
      amplifier = full_table;
      amplifier_bypass = true;
      paths = one_path;
      frequency = record { f = pos 0; low = le_z_yes tt; high = le_z_yes tt };
      clock = record { c = pos 0; low = le_z_yes tt; high = le_z_yes tt };
      clock_bypass = true;
      gain = unity;
      seeds = record { re = 1; im = 1; re_moves = lit< tt; im_moves = lit< tt };
      receive_gains = replicate 128 unity;
      lead = 0;
      rx_dc = no_offset;
      rx_imbalance = neutral_balance;
    }
