-- The number of each refusal, and its words.
use Rattle.std.specs.Prelude.{ℕ, List, ◌++◌, ◌==◌, cond, codes, decimal}
use Rattle.settings.specs.declared.refusal.SettingRefusal.{SettingRefusal}
use Rattle.settings.specs.declared.refusal.SettingRefusal.TheVariants.{ScaleOutside, GainOutside, PathOutside, EntryOutside, ClockOutside, SeedZero, FrequencyOutside, IndexOver}

-- the number by which a refusal is known
abbrev pub setting_number : SettingRefusal → ℕ
setting_number ScaleOutside = 1
setting_number GainOutside = 2
setting_number (PathOutside path) = 3
setting_number (EntryOutside entry) = 4
setting_number ClockOutside = 5
setting_number SeedZero = 6
setting_number FrequencyOutside = 7
setting_number IndexOver = 13

-- path 10 stands for their number; any other has too long a delay
abbrev pub path_text : ℕ → List ℕ
path_text path =
    cond (path == 10) (codes "there must be 1 to 10 paths")
    (codes "the delay of path " ++ (decimal path ++ codes " must be 0 to 63"))

-- entry 513 stands for their number; any other has too high an amplitude
abbrev pub entry_text : ℕ → List ℕ
entry_text entry =
    cond (entry == 513) (codes "the amplifier's table must have 513 amplitudes and 513 phases")
    (codes "the amplitude of entry " ++ (decimal entry ++ codes " must be 0 to 32767"))

-- which numbers are accepted where these were refused
abbrev pub setting_text : SettingRefusal → List ℕ
setting_text ScaleOutside = codes "the scale factor must be 1 to 32767"
setting_text GainOutside = codes "a gain's shift must be -32 to 18 and its factor 128 to 255"
setting_text (PathOutside path) = path_text path
setting_text (EntryOutside entry) = entry_text entry
setting_text ClockOutside = codes "the clock offset must be -9007199254740 to 9007199254740"
setting_text SeedZero = codes "a noise seed must be 1 to 4294967295"
setting_text FrequencyOutside = codes "the frequency offset must be -140737488355328 to 140737488355327"
setting_text IndexOver = codes "the index of a receive gain must be 0 to 127"
