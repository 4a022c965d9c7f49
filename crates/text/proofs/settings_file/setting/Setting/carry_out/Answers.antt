use Rattle.std.proofs.Common.{w16, w64, SFits, rules}
use Rattle.std.proofs.lemmas.Int.{to_z-of_z}
use Rattle.text.proofs.settings_file.setting.Setting.carry_out.Goals as goal

pub returns-in-AmplifierTable : goal.returns-in-AmplifierTable
returns-in-AmplifierTable c =
    record {
      answers = rw c.in-AmplifierTable.is (simp (c.as_slice.ensures.value, c.as_slice-in-AmplifierTable.ensures.value) at c.set_amplifier_table.ensures.answers);
      leaves = rw c.in-AmplifierTable.is (simp (c.as_slice.ensures.value, c.as_slice-in-AmplifierTable.ensures.value) at c.set_amplifier_table.ensures.leaves);
    }

pub returns-in-Paths : goal.returns-in-Paths
returns-in-Paths c =
    record {
      answers = rw c.in-Paths.is (simp c.as_slice-in-Paths.ensures.value at c.set_paths.ensures.answers);
      leaves = rw c.in-Paths.is (simp c.as_slice-in-Paths.ensures.value at c.set_paths.ensures.leaves);
    }

pub returns-in-Frequency : goal.returns-in-Frequency
returns-in-Frequency c =
    let fits : SFits w64 c.in-Frequency.f = search rules in
    record { answers = rw c.in-Frequency.is (simp to_z-of_z at c.set_frequency.ensures.answers); leaves = rw c.in-Frequency.is (simp to_z-of_z at c.set_frequency.ensures.leaves) }

pub returns-in-Clock : goal.returns-in-Clock
returns-in-Clock c =
    let fits : SFits w64 c.in-Clock.c = search rules in
    record { answers = rw c.in-Clock.is (simp to_z-of_z at c.set_clock.ensures.answers); leaves = rw c.in-Clock.is (simp to_z-of_z at c.set_clock.ensures.leaves) }

pub returns-in-Gain : goal.returns-in-Gain
returns-in-Gain c =
    let fits : SFits w16 c.in-Gain.shift = search rules in
    record { answers = rw c.in-Gain.is (simp to_z-of_z at c.set_gain.ensures.answers); leaves = rw c.in-Gain.is (simp to_z-of_z at c.set_gain.ensures.leaves) }

pub returns-in-Seeds-clause-leaves : goal.returns-in-Seeds-clause-leaves
returns-in-Seeds-clause-leaves c = rw c.in-Seeds.is c.set_seeds.ensures.leaves

pub returns-in-ReceiveGain : goal.returns-in-ReceiveGain
returns-in-ReceiveGain c =
    let fits : SFits w16 c.in-ReceiveGain.shift = search rules in
    record { answers = rw c.in-ReceiveGain.is (simp to_z-of_z at c.set_receive_gain.ensures.answers); leaves = rw c.in-ReceiveGain.is (simp to_z-of_z at c.set_receive_gain.ensures.leaves) }
