-- A list of records with the numbers that were given, written from its start place by place, is what the check accepts.
use Rattle.std.proofs.Common.{◌≡◌, ℕ, ◌+◌, ◌<◌, List, [], ◌∷◌, ◌++◌, length, get_or, take, drop, set, replicate, ℤ, Ok, sym, refl, ap, ◌∙◌, subst, append_assoc, append-nil, add-one, arith, drop-cons}
use Rattle.std.specs.List.{HoldsAt, AllByRecursion}
use Rattle.std.proofs.lemmas.List.{get_or_default, length-replicate, length-take-le, set_at, take_all, take_more}
use denote.Struct.Props.{props}
use Rattle.stages.specs.Multipath.{neutral_path}
use Rattle.stages.specs.declared.amplifier.Entry.{Entry}
use Rattle.stages.specs.declared.multipath.Path.{Path}
use Rattle.stages.specs.declared.amplifier.AmplifierTable.{AmplifierTable}
use Rattle.stages.specs.declared.multipath.Paths.{Paths}
use Rattle.settings.specs.declared.settings.RawPath.{RawPath}
use Rattle.settings.specs.declared.refusal.SettingRefusal.TheVariants.{PathOutside, EntryOutside}
use Rattle.settings.specs.Fresh.{full_entry}
use Rattle.settings.specs.Lists.{Near, near, few, path_of, paths_of, length-paths_of, checked_paths, Amplitude, amplitude, Long, long, entry_of, entries_of, length-entries_of, checked_table}
use Rattle.settings.proofs.Decided.{list_made}
use Rattle.settings.proofs.Equal.{same_paths, same_table}

-- what holds of an element, whatever stands where there is none
pub at_place : {X : Type 0} (P : X → Type 0) (xs : List X) (i : ℕ) (d : X) → i < length xs → P (get_or xs i d) → HoldsAt P xs i
at_place P xs i d h p e = subst P (get_or_default xs i d e h) p

-- one place more is written over what stood there
one_more : {X : Type 0} (xs old : List X) (i : ℕ) (x : X) → length xs ≡ i → i < length old → set (xs ++ drop i old) i x ≡ (xs ++ x ∷ []) ++ drop (i + 1) old
one_more xs old i x l h =
    ap (λ ys. set (xs ++ ys) i x) (rw add-one (drop-cons old i x h)) ∙ set_at xs (get_or old i x) (drop (i + 1) old) x i l
    ∙ sym (append_assoc xs (x ∷ []) (drop (i + 1) old))

-- the first i paths stand in the places
abbrev pub PathsWritten : List RawPath → ℕ → List Path → Type 0
PathsWritten given i places =
    (h : AllByRecursion Near (take i given)) × (places ≡ paths_of (take i given) h ++ drop i (replicate 10 neutral_path))

paths_more : (ps : List RawPath) (h : AllByRecursion Near ps) (p : RawPath) (n : Near p) → (g : AllByRecursion Near (ps ++ p ∷ [])) × (paths_of (ps ++ p ∷ []) g ≡ paths_of ps h ++ path_of p n ∷ [])
paths_more [] h p n = ((n, tt), refl)
paths_more (q ∷ ps) h p n = let more = paths_more ps h.1 p n in ((h.0, more.0), ap (λ qs. path_of q h.0 ∷ qs) more.1)

pub path_written : (given : List RawPath) (i : ℕ) (d : RawPath) (places : List Path) (q : Path) → i < length given → i < 10 → (n : Near (get_or given i d)) → q ≡ path_of (get_or given i d) n → PathsWritten given i places → PathsWritten given (i + 1) (set places i q)
path_written given i d places q h k n e w =
    let more = paths_more (take i given) w.0 (get_or given i d) n in
    let l : length (paths_of (take i given) w.0) ≡ i = length-paths_of (take i given) w.0 ∙ length-take-le i given (omega arith) in
    subst (λ ps. (g : AllByRecursion Near ps) × (set places i q ≡ paths_of ps g ++ drop (i + 1) (replicate 10 neutral_path))) (sym (take_more given i d h)) (
      more.0,
      ap (λ xs. set xs i q) w.1 ∙ one_more (paths_of (take i given) w.0) (replicate 10 neutral_path) i q l k
          ∙ ap (λ x. (paths_of (take i given) w.0 ++ x ∷ []) ++ drop (i + 1) (replicate 10 neutral_path)) e
          ∙ ap (λ xs. xs ++ drop (i + 1) (replicate 10 neutral_path)) (sym more.1),
    )

pub paths_made : (p : Paths) (given : List RawPath) (i : ℕ) → i ≡ length given → p.count ≡ length given → PathsWritten given i p.places → Ok p ≡ checked_paths given
paths_made p given i all n w =
    let v = subst (λ ps. (g : AllByRecursion Near ps) × (p.places ≡ paths_of ps g ++ drop i (replicate 10 neutral_path))) (take_all i given (omega arith)) w in
    let l : i ≡ length (paths_of given v.0) = all ∙ sym (length-paths_of given v.0) in
    ap Ok (same_paths p _ (v.1 ∙ ap (λ (k : ℕ). paths_of given v.0 ++ drop k (replicate 10 neutral_path)) l) n)
    ∙ sym (list_made near PathOutside (few given) (PathOutside 10) given _ (hlevel props) (λ _. hlevel props) (omega (arith, p.low), omega (arith, p.high)) v.0)

-- the first i entries stand in the table
abbrev pub EntriesWritten : List ℕ → List ℤ → ℕ → List Entry → Type 0
EntriesWritten amps phases i entries =
    (h : AllByRecursion Amplitude (take i amps)) × (entries ≡ entries_of (take i amps) (take i phases) h ++ drop i (replicate 513 full_entry))

entries_more : (amps : List ℕ) (phases : List ℤ) (h : AllByRecursion Amplitude amps) (a : ℕ) (p : ℤ) (n : Amplitude a) → length amps ≡ length phases → (g : AllByRecursion Amplitude (amps ++ a ∷ [])) × (entries_of (amps ++ a ∷ []) (phases ++ p ∷ []) g ≡ entries_of amps phases h ++ entry_of a p n ∷ [])
entries_more [] [] h a p n e = ((n, tt), refl)
entries_more [] (q ∷ phases) h a p n e = absurd (omega arith)
entries_more (b ∷ amps) [] h a p n e = absurd (omega arith)
entries_more (b ∷ amps) (q ∷ phases) h a p n e =
    let more = entries_more amps phases h.1 a p n (omega arith) in ((h.0, more.0), ap (λ es. entry_of b q h.0 ∷ es) more.1)

pub entry_written : (amps : List ℕ) (phases : List ℤ) (i : ℕ) (d : ℕ) (z : ℤ) (entries : List Entry) (q : Entry) → i < 513 → Long amps phases → (n : Amplitude (get_or amps i d)) → q ≡ entry_of (get_or amps i d) (get_or phases i z) n → EntriesWritten amps phases i entries → EntriesWritten amps phases (i + 1) (set entries i q)
entry_written amps phases i d z entries q h k n e w =
    let la : length (take i amps) ≡ i = length-take-le i amps (omega (arith, k.0)) in
    let lp : length (take i phases) ≡ i = length-take-le i phases (omega (arith, k.1)) in
    let more = entries_more (take i amps) (take i phases) w.0 (get_or amps i d) (get_or phases i z) n (la ∙ sym lp) in
    let so_far = entries_of (take i amps) (take i phases) w.0 in
    let l : length so_far ≡ i = length-entries_of (take i amps) (take i phases) w.0 (la ∙ sym lp) ∙ la in
    subst (λ as'. (g : AllByRecursion Amplitude as') × (set entries i q ≡ entries_of as' (take (i + 1) phases) g ++ drop (i + 1) (replicate 513 full_entry))) (sym (take_more amps i d (omega (arith, k.0)))) (
      more.0,
      ap (λ xs. set xs i q) w.1 ∙ one_more so_far (replicate 513 full_entry) i q l (rw (length-replicate 513 full_entry) h)
          ∙ ap (λ x. (so_far ++ x ∷ []) ++ drop (i + 1) (replicate 513 full_entry)) e
          ∙ ap (λ xs. xs ++ drop (i + 1) (replicate 513 full_entry)) (sym more.1 ∙ ap (λ ps. entries_of (take i amps ++ get_or amps i d ∷ []) ps more.0) (sym (take_more phases i z (omega (arith, k.1))))),
    )

pub table_made : (t : AmplifierTable) (amps : List ℕ) (phases : List ℤ) (i : ℕ) → i ≡ 513 → Long amps phases → EntriesWritten amps phases i t.entries → Ok t ≡ checked_table amps phases
table_made t amps phases i all k w =
    let v = subst (λ as'. (g : AllByRecursion Amplitude as') × (t.entries ≡ entries_of as' (take i phases) g ++ drop i (replicate 513 full_entry))) (take_all i amps (omega (arith, k.0))) w in
    let e = v.1 ∙ ap (λ ps. entries_of amps ps v.0 ++ drop i (replicate 513 full_entry)) (take_all i phases (omega (arith, k.1)))
    ∙ ap (λ (n : ℕ). entries_of amps phases v.0 ++ drop n (replicate 513 full_entry)) all ∙ append-nil (entries_of amps phases v.0) in
    ap Ok (same_table t _ e) ∙ sym (list_made amplitude EntryOutside (long amps phases) (EntryOutside 513) amps _ (hlevel props) (λ _. hlevel props) k v.0)
