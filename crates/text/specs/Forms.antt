-- The forms of the lines: which word names which setting, and which numbers stand behind it.
use Rattle.std.specs.Prelude.{◌≡◌, ℕ, ℤ, List, [], ◌∷◌, Bool, true, false, map, vec_items, codes, Option, find, MatchOption, MatchBool}
use Rattle.std.specs.Option.{option_map}
use Rattle.std.specs.Str.{bytes_eq}
use Rattle.text.specs.declared.fault.Wrong.{Wrong}
use Rattle.text.specs.Faults.{Kind, kind_of, Unknown, NoRow, NoRows, SayRows, OneSays, TwoSay, ThreeSay}
use Rattle.text.specs.Numbers.{unsigned, signed, switch, u8_range, u16_range, u32_range, i16_range, i64_range, switch_range}
use Rattle.settings.specs.declared.settings.RawPath.{RawPath}
use Rattle.text.specs.declared.settings_file.setting.Setting.{Setting}
use Rattle.text.specs.declared.settings_file.setting.Setting.TheVariants.{Scale, TxDc, TxImbalance, AmplifierTable, AmplifierBypass, Paths, Frequency, Clock, ClockBypass, Gain, Seeds, ReceiveGain, Lead, RxDc, RxImbalance}

-- the word that names a setting
abbrev pub name_of : Setting → List ℕ
name_of (Scale f) = codes "scale"
name_of (TxDc re im) = codes "tx_dc"
name_of (TxImbalance a b c) = codes "tx_imbalance"
name_of (AmplifierTable amplitudes phases) = codes "amplifier_table"
name_of (AmplifierBypass on) = codes "amplifier_bypass"
name_of (Paths paths) = codes "paths"
name_of (Frequency f) = codes "frequency"
name_of (Clock c) = codes "clock"
name_of (ClockBypass on) = codes "clock_bypass"
name_of (Gain shift factor) = codes "gain"
name_of (Seeds re im) = codes "seeds"
name_of (ReceiveGain index shift factor) = codes "receive_gain"
name_of (Lead d) = codes "lead"
name_of (RxDc re im) = codes "rx_dc"
name_of (RxImbalance a b c) = codes "rx_imbalance"

-- a path by its parts and delay
abbrev pub path_of : ℤ × ℤ × ℕ → RawPath
path_of row = record { re = row.0; im = row.1; delay = row.2 }

-- the words are rows of an amplitude and a phase, and of a path's parts and delay
abbrev pub TableOf : List (List ℕ) → List ℕ → List ℤ → Type 0
TableOf words amplitudes phases =
    (rows : List (ℕ × ℤ)) × SayRows (λ ws row. TwoSay (unsigned 16) (signed 15) ws row.0 row.1) words rows
    × (amplitudes ≡ map (λ row. row.0) rows) × (phases ≡ map (λ row. row.1) rows)

abbrev pub PathsOf : List (List ℕ) → List RawPath → Type 0
PathsOf words paths =
    (rows : List (ℤ × ℤ × ℕ)) × SayRows (λ ws row. ThreeSay (signed 15) (signed 15) (unsigned 16) ws row.0 row.1 row.2) words rows
    × (paths ≡ map path_of rows)

-- the words behind the name spell the setting's numbers
abbrev pub SpellNumbers : List (List ℕ) → Setting → Type 0
SpellNumbers words (Scale f) = OneSays (unsigned 16) words f
SpellNumbers words (TxDc re im) = TwoSay (signed 15) (signed 15) words re im
SpellNumbers words (TxImbalance a b c) = ThreeSay (signed 15) (signed 15) (signed 15) words a b c
SpellNumbers words (AmplifierTable amplitudes phases) = TableOf words (vec_items amplitudes) (vec_items phases)
SpellNumbers words (AmplifierBypass on) = OneSays switch words (record { 0 = on })
SpellNumbers words (Paths paths) = PathsOf words (vec_items paths)
SpellNumbers words (Frequency f) = OneSays (signed 63) words f
SpellNumbers words (Clock c) = OneSays (signed 63) words c
SpellNumbers words (ClockBypass on) = OneSays switch words (record { 0 = on })
SpellNumbers words (Gain shift factor) = TwoSay (signed 15) (unsigned 16) words shift factor
SpellNumbers words (Seeds re im) = TwoSay (unsigned 32) (unsigned 32) words re im
SpellNumbers words (ReceiveGain index shift factor) = ThreeSay (unsigned 8) (signed 15) (unsigned 16) words index shift factor
SpellNumbers words (Lead d) = OneSays (unsigned 16) words d
SpellNumbers words (RxDc re im) = TwoSay (signed 15) (signed 15) words re im
SpellNumbers words (RxImbalance a b c) = ThreeSay (signed 15) (signed 15) (signed 15) words a b c

abbrev pub SpellsTable : List (List ℕ) → Setting → Type 0
SpellsTable words setting = (name_of setting ≡ codes "amplifier_table") × SpellNumbers words setting

abbrev pub SpellsPaths : List (List ℕ) → Setting → Type 0
SpellsPaths words setting = (name_of setting ≡ codes "paths") × SpellNumbers words setting

-- the words are the setting's name and numbers
abbrev pub Says : List (List ℕ) → Setting → Type 0
Says [] setting = ⊥
Says (word ∷ more) setting = (word ≡ name_of setting) × SpellNumbers more setting

-- how the words behind a name should be: one row of numbers of these kinds, or whole rows of them
pub record Form : Type 0 where
  pub text : List ℕ
  pub kinds : List Kind
  pub many : Bool

abbrev pub u8_kind : Kind
u8_kind = kind_of (unsigned 8) u8_range

abbrev pub u16_kind : Kind
u16_kind = kind_of (unsigned 16) u16_range

abbrev pub u32_kind : Kind
u32_kind = kind_of (unsigned 32) u32_range

abbrev pub i16_kind : Kind
i16_kind = kind_of (signed 15) i16_range

abbrev pub i64_kind : Kind
i64_kind = kind_of (signed 63) i64_range

abbrev pub switch_kind : Kind
switch_kind = kind_of switch switch_range

-- the numbers of a row: an amplitude and a phase; a path's parts and delay
abbrev pub table_kinds : List Kind
table_kinds = u16_kind ∷ i16_kind ∷ []

abbrev pub path_kinds : List Kind
path_kinds = i16_kind ∷ i16_kind ∷ u16_kind ∷ []

abbrev pub one_row : List ℕ → List Kind → Form
one_row text kinds = record { text = text; kinds = kinds; many = false }

abbrev pub many_rows : List ℕ → List Kind → Form
many_rows text kinds = record { text = text; kinds = kinds; many = true }

abbrev pub forms : List (List ℕ × Form)
forms =
    (codes "scale", one_row (codes "scale f") (u16_kind ∷ []))
    ∷ (codes "tx_dc", one_row (codes "tx_dc re im") (i16_kind ∷ i16_kind ∷ []))
    ∷ (codes "tx_imbalance", one_row (codes "tx_imbalance a b c") (i16_kind ∷ i16_kind ∷ i16_kind ∷ []))
    ∷ (codes "amplifier_table", many_rows (codes "amplifier_table A0 phase0 A1 phase1 ..") table_kinds)
    ∷ (codes "amplifier_bypass", one_row (codes "amplifier_bypass 0|1") (switch_kind ∷ []))
    ∷ (codes "paths", many_rows (codes "paths re im delay re im delay ..") path_kinds)
    ∷ (codes "frequency", one_row (codes "frequency F") (i64_kind ∷ []))
    ∷ (codes "clock", one_row (codes "clock c") (i64_kind ∷ []))
    ∷ (codes "clock_bypass", one_row (codes "clock_bypass 0|1") (switch_kind ∷ []))
    ∷ (codes "gain", one_row (codes "gain shift factor") (i16_kind ∷ u16_kind ∷ []))
    ∷ (codes "seeds", one_row (codes "seeds re im") (u32_kind ∷ u32_kind ∷ []))
    ∷ (codes "receive_gain", one_row (codes "receive_gain index shift factor") (u8_kind ∷ i16_kind ∷ u16_kind ∷ []))
    ∷ (codes "lead", one_row (codes "lead d") (u16_kind ∷ []))
    ∷ (codes "rx_dc", one_row (codes "rx_dc re im") (i16_kind ∷ i16_kind ∷ []))
    ∷ (codes "rx_imbalance", one_row (codes "rx_imbalance a b c") (i16_kind ∷ i16_kind ∷ i16_kind ∷ []))
    ∷ []

-- the form of the setting that a word names, if it names one
abbrev pub form_named : List ℕ → Option Form
form_named word = option_map (λ form. form.1) (find (λ form. bytes_eq word form.0) forms)

-- what is wrong with the words behind a name
abbrev pub WrongNumbers : Form → List (List ℕ) → Wrong → Type 0
WrongNumbers form words wrong = MatchBool form.many (NoRows form.text form.kinds words wrong) (NoRow form.text form.kinds words wrong)

-- the first word names no setting, or the words behind it are not as its form has them
abbrev pub Complains : List (List ℕ) → Wrong → Type 0
Complains [] wrong = ⊥
Complains (word ∷ more) wrong = MatchOption (form_named word) (Unknown (codes "setting") word wrong) (λ form. WrongNumbers form more wrong)
