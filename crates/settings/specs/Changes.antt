-- The settings with one group of them changed and all else as it was, and what a setting call answers and leaves.
use Rattle.std.specs.Prelude.{ℕ, Bool, List, ℤ, Ok, Err, Result, slice_set}
use Rattle.stages.specs.declared.imbalance.Balance.{Balance}
use Rattle.stages.specs.declared.gain.Gain.{Gain}
use Rattle.stages.specs.declared.dc_offset.Offset.{Offset}
use Rattle.stages.specs.declared.clock_offset.ClockOffset.{ClockOffset}
use Rattle.stages.specs.declared.noise.Seeds.{Seeds}
use Rattle.stages.specs.declared.amplifier.AmplifierTable.{AmplifierTable}
use Rattle.stages.specs.declared.frequency_offset.FrequencyOffset.{FrequencyOffset}
use Rattle.stages.specs.declared.multipath.Paths.{Paths}
use Rattle.settings.specs.declared.refusal.SettingRefusal.{SettingRefusal}
use Rattle.stages.specs.declared.scaling.Scaling.{Scaling}
use Rattle.settings.specs.declared.settings.Settings.{Settings}
use Rattle.settings.specs.Checks.{checked_receive_gain}
use Rattle.settings.specs.Lists.{checked_table}

-- what a setting call answers: the refusal, or nothing
abbrev pub answer : {X : Type 0} → Result X SettingRefusal → Result (Unit {0}) SettingRefusal
answer (Ok x) = Ok tt
answer (Err refusal) = Err refusal

-- the settings after a call: with what was accepted put in; refused, as before
abbrev pub after : {X : Type 0} → Result X SettingRefusal → (X → Settings → Settings) → Settings → Settings
after (Ok x) put s = put x s
after (Err refusal) put s = s

-- a DC offset of these parts
abbrev pub offset : ℤ → ℤ → Offset
offset re im = record { re = re; im = im }

-- an imbalance of these numbers
abbrev pub balance : ℤ → ℤ → ℤ → Balance
balance a b c = record { a = a; b = b; c = c }

-- the scale factor changed
abbrev pub with_scale : Scaling → Settings → Settings
with_scale new s = record s { scale = new }

-- the transmitter's DC offset changed
abbrev pub with_tx_dc : Offset → Settings → Settings
with_tx_dc new s = record s { tx_dc = new }

-- the transmitter's imbalance changed
abbrev pub with_tx_imbalance : Balance → Settings → Settings
with_tx_imbalance new s = record s { tx_imbalance = new }

-- the amplifier's table changed
abbrev pub with_amplifier : AmplifierTable → Settings → Settings
with_amplifier new s = record s { amplifier = new }

-- the amplifier's bypass switch changed
abbrev pub with_amplifier_bypass : Bool → Settings → Settings
with_amplifier_bypass new s = record s { amplifier_bypass = new }

-- the paths changed
abbrev pub with_paths : Paths → Settings → Settings
with_paths new s = record s { paths = new }

-- the frequency offset changed
abbrev pub with_frequency : FrequencyOffset → Settings → Settings
with_frequency new s = record s { frequency = new }

-- the clock offset changed
abbrev pub with_clock : ClockOffset → Settings → Settings
with_clock new s = record s { clock = new }

-- the clock's bypass switch changed
abbrev pub with_clock_bypass : Bool → Settings → Settings
with_clock_bypass new s = record s { clock_bypass = new }

-- the channel's gain changed
abbrev pub with_gain : Gain → Settings → Settings
with_gain new s = record s { gain = new }

-- the seeds of the noise changed
abbrev pub with_seeds : Seeds → Settings → Settings
with_seeds new s = record s { seeds = new }

-- one of the receive gains changed, and the other 127 as they were
abbrev pub with_receive_gain : ℕ → Gain → Settings → Settings
with_receive_gain index new s = record s { receive_gains = slice_set s.receive_gains index new }

-- the lead of the gain indices changed
abbrev pub with_lead : ℕ → Settings → Settings
with_lead new s = record s { lead = new }

-- the receiver's DC offset changed
abbrev pub with_rx_dc : Offset → Settings → Settings
with_rx_dc new s = record s { rx_dc = new }

-- the receiver's imbalance changed
abbrev pub with_rx_imbalance : Balance → Settings → Settings
with_rx_imbalance new s = record s { rx_imbalance = new }

-- after a call that sets the amplifier's table
abbrev pub after_table : List ℕ → List ℤ → Settings → Settings
after_table amps phases = after (checked_table amps phases) with_amplifier

-- after a call that sets a receive gain
abbrev pub after_receive_gain : ℕ → ℤ → ℕ → Settings → Settings
after_receive_gain index shift factor = after (checked_receive_gain index shift factor) (with_receive_gain index)
