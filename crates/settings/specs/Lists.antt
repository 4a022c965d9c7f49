-- The two settings that are lists: the paths, and the amplifier's table.
use Rattle.std.specs.Prelude.{◌≡◌, ℕ, suc, ◌≤◌, List, [], ◌∷◌, ◌++◌, length, drop, replicate, ℤ, Result, refl}
use Rattle.std.proofs.Common.{ap, arith, length-append, length-drop}
use Rattle.std.proofs.Math.Decide.{dec_le, ℕ_discrete}
use Rattle.std.proofs.lemmas.List.{length-replicate}
use Rattle.std.specs.List.{AllByRecursion}
use Rattle.stages.specs.declared.amplifier.Entry.{Entry}
use Rattle.stages.specs.declared.multipath.Path.{Path}
use Rattle.stages.specs.declared.amplifier.AmplifierTable.{AmplifierTable}
use Rattle.stages.specs.declared.multipath.Paths.{Paths}
use Rattle.settings.specs.declared.settings.RawPath.{RawPath}
use Rattle.settings.specs.declared.refusal.SettingRefusal.{SettingRefusal}
use Rattle.settings.specs.declared.refusal.SettingRefusal.TheVariants.{PathOutside, EntryOutside}
use Rattle.settings.specs.Decisions.{both, between, checked_list}
use Rattle.stages.specs.Multipath.{neutral_path}

-- its delay is at most 63 samples
abbrev pub Near : RawPath → Type 0
Near p = p.delay ≤ 63

abbrev pub near : (p : RawPath) → Dec (Near p)
near p = dec_le p.delay 63

-- the path of these numbers
abbrev pub path_of : (p : RawPath) → Near p → Path
path_of p h = record { re = p.re; im = p.im; delay = p.delay; delay_within = h }

abbrev pub paths_of : (ps : List RawPath) → AllByRecursion Near ps → List Path
paths_of [] h = []
paths_of (p ∷ ps) h = path_of p h.0 ∷ paths_of ps h.1

-- as many as were given
pub length-paths_of : (ps : List RawPath) (h : AllByRecursion Near ps) → length (paths_of ps h) ≡ length ps
length-paths_of [] h = refl
length-paths_of (p ∷ ps) h = ap suc (length-paths_of ps h.1)

-- neutral paths behind, up to ten
abbrev pub padded : List Path → List Path
padded paths = paths ++ drop (length paths) (replicate 10 neutral_path)

-- the lengths that the types ask
pub length_padded : (ps : List Path) → length ps ≤ 10 → length (padded ps) ≡ 10
length_padded ps h = simp (length-append, length-drop, length-replicate) (omega arith)

pub ten_places : (ps : List RawPath) (h : AllByRecursion Near ps) → length ps ≤ 10 → length (padded (paths_of ps h)) ≡ 10
ten_places ps h n = length_padded (paths_of ps h) (omega (arith, length-paths_of ps h))

-- there are 1 to 10
abbrev pub Few : List RawPath → Type 0
Few ps = (1 ≤ length ps) × (length ps ≤ 10)

abbrev pub few : (ps : List RawPath) → Dec (Few ps)
few ps = between 1 (length ps) 10

-- 1 to 10 paths, else path 10 is refused; each delay at most 63, else the first path that has another is refused
abbrev pub checked_paths : List RawPath → Result Paths SettingRefusal
checked_paths ps =
    checked_list (few ps) (PathOutside 10) near PathOutside ps
    (λ n h.
    record {
      places = padded (paths_of ps h);
      count = length ps;
      ten = ten_places ps h n.1;
      low = n.0;
      high = n.1;
    })

-- an amplitude is at most 32767
abbrev pub Amplitude : ℕ → Type 0
Amplitude a = a ≤ 32767

abbrev pub amplitude : (a : ℕ) → Dec (Amplitude a)
amplitude a = dec_le a 32767

-- an entry of these numbers
abbrev pub entry_of : (a : ℕ) → ℤ → Amplitude a → Entry
entry_of a p h = record { amplitude = a; phase = p; amplitude_within = h }

-- entry by entry an amplitude and its phase
abbrev pub entries_of : (amps : List ℕ) → List ℤ → AllByRecursion Amplitude amps → List Entry
entries_of [] phases h = []
entries_of (a ∷ amps) [] h = []
entries_of (a ∷ amps) (p ∷ phases) h = entry_of a p h.0 ∷ entries_of amps phases h.1

-- the lengths that the types ask
pub length-entries_of : (amps : List ℕ) (phases : List ℤ) (h : AllByRecursion Amplitude amps) → length amps ≡ length phases → length (entries_of amps phases h) ≡ length amps
length-entries_of [] phases h e = refl
length-entries_of (a ∷ amps) [] h e = omega arith
length-entries_of (a ∷ amps) (p ∷ phases) h e = ap suc (length-entries_of amps phases h.1 (omega arith))

-- both lists are 513 long
abbrev pub Long : List ℕ → List ℤ → Type 0
Long amps phases = (length amps ≡ 513) × (length phases ≡ 513)

abbrev pub long : (amps : List ℕ) (phases : List ℤ) → Dec (Long amps phases)
long amps phases = both (ℕ_discrete (length amps) 513) (ℕ_discrete (length phases) 513)

pub all_entries : (amps : List ℕ) (phases : List ℤ) (h : AllByRecursion Amplitude amps) → Long amps phases → length (entries_of amps phases h) ≡ 513
all_entries amps phases h e = omega (arith, length-entries_of amps phases h (omega (arith, e.0, e.1)), e.0)

-- both lists 513 long, else entry 513 is refused; each amplitude at most 32767, else the first entry that has another is refused
abbrev pub checked_table : List ℕ → List ℤ → Result AmplifierTable SettingRefusal
checked_table amps phases =
    checked_list (long amps phases) (EntryOutside 513) amplitude EntryOutside amps
    (λ n h. record { entries = entries_of amps phases h; all = all_entries amps phases h n })
