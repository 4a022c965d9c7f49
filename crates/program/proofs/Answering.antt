-- Recordings that open.
use Rattle.std.proofs.Common.{◌≡◌, ℕ, ◌+◌, ◌*◌, ◌≤◌, min, Bool, true, false, List, [], ◌∷◌, length, take, None, Ok, Err, IfOk, IfErr, Option, Result, string_bytes, refl, sym, ap, ap₂, ◌∙◌, subst, arith}
use Rattle.std.proofs.lemmas.List.{take_all}
use Rattle.std.specs.Result.{IsErrAnd}
use Rattle.samples.specs.declared.kinds.ConverterSample.{ConverterSample}
use Rattle.samples.specs.declared.gain_index.GainIndex.{GainIndex}
use Rattle.chain.specs.Chains.{played}
use Rattle.settings.specs.declared.settings.Settings.{Settings}
use Rattle.recordings.specs.Opening.{Opened, Reading, opened_of, signal_opening}
use Rattle.recorder.specs.Writing.{recorded}
use Rattle.recorder.proofs.Back.{hands_out, recorded_length}
use Rattle.sources.specs.Streams.{tabulate}
use Rattle.program.specs.Files.{Adds, File, counted_files, file_of, files_for, files_of, recording_of}
use Rattle.program.specs.Names.{numbered}
use Rattle.program.specs.Outcomes.{AcceptsOwn, Copies, KeepsBytes, Plays, files_taken, written_of}
use Rattle.program.specs.Refusals.{is_refused_by_writer, refusal_in}
use Rattle.program.specs.declared.failure.Failure.{Failure}
use Rattle.recordings.specs.Rates.{good_rate}
use Rattle.recordings.specs.declared.refusal.OpeningRefusal.{OpeningRefusal}
use Rattle.program.specs.Sides.{first_ended, sides_answer, sides_of}
use Rattle.program.specs.declared.copy.Copied.{Copied}
use Rattle.program.specs.declared.play.Played.{Played}
use Rattle.program.specs.declared.sides.Sides.{Sides}
use Rattle.program.proofs.Lengths.{played_length}

-- the sides that were counted before are those of the recordings
pub same_sides : {E F : Type 0} (s : Settings) (link : Result (Opened ConverterSample × Opened GainIndex) E) (both : Opened ConverterSample × Opened GainIndex) (sides : Sides) (ending : Result (Unit {0}) F)
    → sides_answer s link ≡ Ok sides → link ≡ Ok both → first_ended ending sides ≡ first_ended ending (sides_of s both.0.whole both.1.whole)
same_sides s link both sides ending h k =
    let answer : Ok (sides_of s both.0.whole both.1.whole) ≡ Ok sides = sym (ap (sides_answer s) k) ∙ h in
    let same : sides ≡ sides_of s both.0.whole both.1.whole = cc in
    ap (first_ended ending) same

-- what both recordings have left, at their start, is counted
pub counted : {E : Type 0} (s : Settings) (link : Result (Opened ConverterSample × Opened GainIndex) E) (signal : Reading ConverterSample) (gain : Reading GainIndex) (sides : Sides)
    → link ≡ Ok (opened_of signal, opened_of gain) → signal.left ≡ signal.whole → gain.left ≡ gain.whole → sides ≡ sides_of s signal.left gain.left → sides_answer s link ≡ Ok sides
counted s link signal gain sides opens a b h = ap (sides_answer s) opens ∙ ap Ok (sym (h ∙ ap₂ (sides_of s) a b))

-- the files that the sides take are those of the chain
pub taken : {E : Type 0} (s : Settings) (link : Result (Opened ConverterSample × Opened GainIndex) E) (sides : Sides)
    → sides_answer s link ≡ Ok sides → counted_files (min sides.signal sides.gain) ≡ files_taken s link
taken s (Ok both) sides h =
    let same : sides ≡ sides_of s both.0.whole both.1.whole = cc in
    ap (λ (v : Sides). counted_files (min v.signal v.gain)) same ∙ ap counted_files (sym (played_length s both.0.whole both.1.whole))
taken s (Err e) sides h = cc

-- what was written of a recording that opened
pub copies : {E : Type 0} (opening : Result (Opened ConverterSample) E) (o : Opened ConverterSample) (to : List ℕ) (before after : Option (List File)) (answer : Copied)
    → opening ≡ Ok o → answer.to.now ≡ to → answer.rate ≡ o.rate → answer.written ≡ written_of o.whole → Adds (files_of to answer.rate o.whole.items) before after
    → string_bytes answer.last ≡ numbered to answer.written.files → Copies opening to before after answer
copies opening o to before after answer opens named rate written files last =
    subst (λ (x : Result (Opened ConverterSample) _). Copies x to before after answer) (sym opens)
    (record { named = named; rate = rate; written = written; files = subst (λ (r : ℕ). Adds (files_of to r o.whole.items) before after) rate files; last = last })

-- a recording of the shape that we write opens as its samples
own_opens : (b : List ℕ) (rate : ℕ) (xs : List ConverterSample) → good_rate rate ≡ true → b ≡ recorded rate xs → length b ≤ 65536
    → signal_opening 0 b ≡ Ok (record { rate = rate; whole = record { items = xs; ending = Ok tt } })
own_opens b rate xs good e short =
    let long : length b ≡ 44 + 4 * length xs = ap length e ∙ recorded_length rate xs in
    ap (signal_opening 0) e ∙ hands_out rate xs good (omega arith) 0

-- they take one file
pub keeps_bytes : (b to : List ℕ) (before after : Option (List File)) (answer : Copied) → Copies (signal_opening 0 b) to before after answer → KeepsBytes b to before after
unfolding recording_of
keeps_bytes b to before after answer copied rate xs good e short =
    let long : length b ≡ 44 + 4 * length xs = ap length e ∙ recorded_length rate xs in
    let one : files_for (length xs) ≡ 1 = omega arith in
    let all : take 16373 xs ≡ xs = take_all 16373 xs (omega arith) in
    let files : files_of to rate xs ≡ (to, b) ∷ [] =
    ap (tabulate (file_of to rate xs) 0) one ∙ ap (λ (ys : List ConverterSample). (to, recorded rate ys) ∷ []) all ∙ ap (λ (c : List ℕ). (to, c) ∷ []) (sym e) in
    subst (λ (fs : List File). Adds fs before after) files (subst (λ (x : Result (Opened ConverterSample) _). Copies x to before after answer) (own_opens b rate xs good e short) copied).files

-- what does not open is none of ours
pub not_own : (b : List ℕ) (refusal : OpeningRefusal) (rate : ℕ) (xs : List ConverterSample) → signal_opening 0 b ≡ Err refusal
    → good_rate rate ≡ true → b ≡ recorded rate xs → length b ≤ 65536 → ⊥
not_own b refusal rate xs h good is short = let opens = own_opens b rate xs good is short in cc

-- the writer refuses no rate of ours
decided : (t g : Bool) → (t ≡ true → g ≡ false) → g ≡ true → t ≡ false
decided false g h k = refl
decided true g h k = absurd (let l = h refl in cc)

pub own_written : (b : List ℕ) (o : Opened ConverterSample) (e : Failure) → signal_opening 0 b ≡ Ok o → refusal_in e ≡ None
    → (is_refused_by_writer e ≡ true → good_rate o.rate ≡ false) → AcceptsOwn b e
own_written b o e opens r w rate xs good is short =
    let same : Ok o ≡ Ok (record { rate = rate; whole = record { items = xs; ending = Ok tt } }) = sym opens ∙ own_opens b rate xs good is short in
    let rates : o.rate ≡ rate = cc in
    (r, decided (is_refused_by_writer e) (good_rate o.rate) w (ap good_rate rates ∙ good))

-- what was written of a chain over recordings that opened
pub plays : {E : Type 0} (s : Settings) (link : Result (Opened ConverterSample × Opened GainIndex) E) (both : Opened ConverterSample × Opened GainIndex)
    (sides : Sides) (to : List ℕ) (before after : Option (List File)) (answer : Played)
    → link ≡ Ok both → sides_answer s link ≡ Ok sides → answer.to.now ≡ to → answer.rate ≡ both.0.rate
    → answer.written ≡ written_of (played s both.0.whole both.1.whole) → Adds (files_of to answer.rate (played s both.0.whole both.1.whole).items) before after
    → string_bytes answer.last ≡ numbered to answer.written.files → answer.first_ended ≡ first_ended answer.written.ending sides → Plays s link to before after answer
plays s link both sides to before after answer opens known named rate written files last first =
    subst (λ (x : Result (Opened ConverterSample × Opened GainIndex) _). Plays s x to before after answer) (sym opens)
    (record {
      named = named;
      rate = rate;
      written = written;
      files = subst (λ (r : ℕ). Adds (files_of to r (played s both.0.whole both.1.whole).items) before after) rate files;
      last = last;
      first = first ∙ same_sides s link both sides answer.written.ending known opens;
    })

-- the error that a failed step hands on
pub handed_on : {A E : Type 0} (Q : E → Type 0) (r : Result A E) (w : E) → IsErrAnd r (λ e. e ≡ w) → Q w → IfErr r Q
handed_on Q (Ok x) w h q = tt
handed_on Q (Err e) w h q = subst Q (sym h) q

-- what follows from what holds of an answer holds of it
pub if_ok : {A E : Type 0} (P Q : A → Type 0) (r : Result A E) → ((x : A) → P x → Q x) → IfOk r P → IfOk r Q
if_ok P Q (Ok x) k p = k x p
if_ok P Q (Err e) k p = tt
