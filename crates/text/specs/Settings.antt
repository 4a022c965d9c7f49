-- What a setting does: the call that it makes, with what that call answers and leaves.
use Rattle.std.specs.Prelude.{Ok, vec_items, Result}
use Rattle.settings.specs.declared.refusal.SettingRefusal.{SettingRefusal}
use Rattle.settings.specs.declared.settings.Settings.{Settings}
use Rattle.settings.specs.Changes.{answer, after, offset, balance, with_scale, with_tx_dc, with_tx_imbalance, with_amplifier, with_amplifier_bypass, with_paths, with_frequency, with_clock, with_clock_bypass, with_gain, with_seeds, with_receive_gain, with_lead, with_rx_dc, with_rx_imbalance}
use Rattle.settings.specs.Checks.{checked_scale, checked_frequency, checked_clock, checked_gain, checked_seeds, checked_receive_gain}
use Rattle.settings.specs.Lists.{checked_paths, checked_table}
use Rattle.text.specs.declared.settings_file.setting.Setting.{Setting}
use Rattle.text.specs.declared.settings_file.setting.Setting.TheVariants.{Scale, TxDc, TxImbalance, AmplifierTable, AmplifierBypass, Paths, Frequency, Clock, ClockBypass, Gain, Seeds, ReceiveGain, Lead, RxDc, RxImbalance}

-- what the setting's call answers: nothing, or the refusal of numbers outside their range
abbrev pub answered : Setting → Result (Unit {0}) SettingRefusal
answered (Scale factor) = answer (checked_scale factor)
answered (TxDc re im) = Ok tt
answered (TxImbalance a b c) = Ok tt
answered (AmplifierTable amplitudes phases) = answer (checked_table (vec_items amplitudes) (vec_items phases))
answered (AmplifierBypass on) = Ok tt
answered (Paths paths) = answer (checked_paths (vec_items paths))
answered (Frequency f) = answer (checked_frequency f)
answered (Clock c) = answer (checked_clock c)
answered (ClockBypass on) = Ok tt
answered (Gain shift factor) = answer (checked_gain shift factor)
answered (Seeds re im) = answer (checked_seeds re im)
answered (ReceiveGain index shift factor) = answer (checked_receive_gain index shift factor)
answered (Lead items) = Ok tt
answered (RxDc re im) = Ok tt
answered (RxImbalance a b c) = Ok tt

-- the settings after the setting's call: one group changed, or, refused, as before
abbrev pub changed : Setting → Settings → Settings
changed (Scale factor) = after (checked_scale factor) with_scale
changed (TxDc re im) = with_tx_dc (offset re im)
changed (TxImbalance a b c) = with_tx_imbalance (balance a b c)
changed (AmplifierTable amplitudes phases) = after (checked_table (vec_items amplitudes) (vec_items phases)) with_amplifier
changed (AmplifierBypass on) = with_amplifier_bypass on
changed (Paths paths) = after (checked_paths (vec_items paths)) with_paths
changed (Frequency f) = after (checked_frequency f) with_frequency
changed (Clock c) = after (checked_clock c) with_clock
changed (ClockBypass on) = with_clock_bypass on
changed (Gain shift factor) = after (checked_gain shift factor) with_gain
changed (Seeds re im) = after (checked_seeds re im) with_seeds
changed (ReceiveGain index shift factor) = after (checked_receive_gain index shift factor) (with_receive_gain index)
changed (Lead items) = with_lead items
changed (RxDc re im) = with_rx_dc (offset re im)
changed (RxImbalance a b c) = with_rx_imbalance (balance a b c)
