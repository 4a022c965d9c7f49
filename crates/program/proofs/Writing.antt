-- Files of a signal, written one after the other.
use Rattle.std.proofs.Common.{◌≡◌, ℕ, zero, suc, ◌+◌, ◌*◌, ◌<◌, min, Bool, true, false, cond, ◌&&◌, List, [], ◌∷◌, ◌++◌, length, take, drop, Some, None, Ok, Err, Option, refl, sym, ap, ◌∙◌, ap₂, append_assoc, subst, zero-add, suc-add, arith}
use Rattle.std.proofs.lemmas.List.{take_at}
use Rattle.std.proofs.lemmas.List.Sums.{sum_by-append, fold-append}
use Rattle.std.proofs.lemmas.Bool.{cond-true}
use Rattle.std.specs.List.{count_by, flat_map}
use Rattle.std.specs.Option.{option_map}
use Rattle.samples.specs.declared.kinds.ConverterSample.{ConverterSample}
use Rattle.sources.specs.Streams.{Stream, tabulate}
use Rattle.player.specs.Standing.{Standing, Stands}
use Rattle.recordings.specs.Bytes.{overwrite}
use Rattle.recordings.specs.Rates.{good_rate}
use Rattle.recorder.specs.Sessions.{after_write, write_answer}
use Rattle.recorder.specs.Writing.{coded, fits, good_buffer, recorded, size_of}
use Rattle.recorder.specs.declared.refusal.WritingRefusal.TheVariants.{Buffer, Full, Rate}
use Rattle.program.specs.Blocks.{Comes}
use Rattle.program.specs.Files.{Adds, File, file_of, part_of, recording_of}
use Rattle.program.specs.Levels.{highest_from, is_clipped}
use Rattle.program.specs.Names.{numbered}
use Rattle.program.specs.declared.block.Block.{Block}
use Rattle.program.proofs.Coming.{more}

-- how long a recording is
coded_length : (xs : List ConverterSample) → length (flat_map coded xs) ≡ 4 * length xs
coded_length [] = refl
coded_length (x ∷ xs) = let h = coded_length xs in omega arith

-- an answer of the writer that is no refusal
accepted_ok : (g o f : Bool) (n m : ℕ) → Ok n ≡ cond g (cond o (cond f (Ok m) (Err Full)) (Err Buffer)) (Err Rate) → ((g && o && f) ≡ true) × (n ≡ m)
accepted_ok true true true n m h = (refl, cc)
accepted_ok true true false n m h = (cc, cc)
accepted_ok true false f n m h = (cc, cc)
accepted_ok false o f n m h = (cc, cc)

-- then the recording stands at the front of the buffer
pub front : (rate : ℕ) (xs : List ConverterSample) (b after : List ℕ) (n : ℕ) → Ok n ≡ write_answer (length b) rate (length xs) → after ≡ after_write b rate xs → take n after ≡ recording_of rate xs
unfolding recording_of
front rate xs b after n h k =
    let ok = accepted_ok (good_rate rate) (good_buffer (length b)) (fits (length b) (length xs)) n (size_of (length xs)) h in
    ap (take n) (k ∙ cond-true _ (overwrite 0 (recorded rate xs) b) b ok.0)
    ∙ take_at (recorded rate xs) _ n (let l = coded_length xs in let m = ok.1 in omega arith)

-- a table with one entry more
tabulate_more : {T : Type 0} (f : ℕ → T) (k n : ℕ) → tabulate f k (n + 1) ≡ tabulate f k n ++ f (k + n) ∷ []
tabulate_more f k zero = ap (λ (i : ℕ). f i ∷ []) (omega arith)
tabulate_more f k (suc n) =
    let i : k + 1 + n ≡ k + suc n = omega arith in
    rw suc-add (ap (λ (xs : List _). f k ∷ xs) (tabulate_more f (k + 1) n ∙ ap (λ (i : ℕ). tabulate f (k + 1) n ++ f i ∷ []) i))

table_more : {T : Type 0} (f : ℕ → T) (k : ℕ) (x : T) → x ≡ f k → tabulate f 0 k ++ x ∷ [] ≡ tabulate f 0 (k + 1)
table_more f k x h =
    ap (λ (y : _). tabulate f 0 k ++ y ∷ []) (h ∙ ap f (sym (zero-add k))) ∙ sym (tabulate_more f 0 k)

-- files that are written after others
adds_more : (xs ys : List File) (a b c : Option (List File)) → Adds xs a b → Adds ys b c → Adds (xs ++ ys) a c
adds_more xs ys None b c h i = i ∙ ap (option_map (λ all. all ++ ys)) h
adds_more xs ys (Some fs) b c h i = i ∙ ap (option_map (λ all. all ++ ys)) h ∙ ap Some (append_assoc fs xs ys)

module _ (w : Stream ConverterSample) (to : List ℕ) (rate : ℕ) (before : Option (List File)) where
  -- k files are written, and hold so many samples
  pub record Going (k : ℕ) (s : Standing ConverterSample) (samples h c : ℕ) (now : Option (List File)) : Type 0 where
    pub at : Stands s w samples
    pub place : samples ≡ min (k * 16373) (length w.items)
    pub more : k * 16373 < length w.items + 16373
    pub files : Adds (tabulate (file_of to rate w.items) 0 k) before now
    pub highest : h ≡ highest_from 0 (take samples w.items)
    pub clipped : c ≡ count_by is_clipped (take samples w.items)

  module _ (k : ℕ) (s : Standing ConverterSample) (samples highest clipped : ℕ) (now : Option (List File)) (going : Going k s samples highest clipped now)
      (block after : List ConverterSample) (s' : Standing ConverterSample) (came : Block) (size : length block ≡ 16373) (comes : Comes w samples block after s' came) where
    -- samples came: one file more
    pub goes : came.ending ≡ None → (now' : Option (List File)) (highest' clipped' : ℕ)
        → Adds ((numbered to (k + 1), recording_of rate (take came.count after)) ∷ []) now now'
        → highest' ≡ highest_from highest (take came.count after)
        → clipped' ≡ clipped + count_by is_clipped (take came.count after)
        → Going (k + 1) s' (samples + came.count) highest' clipped' now'
    goes none now' highest' clipped' adds h c =
        let more = more w samples block after s s' came (omega arith) going.at comes none in
        let full : samples ≡ k * 16373 = let some = more.some in omega arith in
        let part : take came.count after ≡ part_of w.items k = comes.samples ∙ ap₂ (λ (n p : ℕ). take n (drop p w.items)) size full in
        let file = table_more (file_of to rate w.items) k _ (ap (λ (ys : List ConverterSample). (numbered to (k + 1), recording_of rate ys)) part) in
        record {
          at = comes.onward;
          place = omega arith;
          more = omega arith;
          files = subst (λ (fs : List File). Adds fs before now') file (adds_more _ _ before now now' going.files adds);
          highest =
              h ∙ ap (λ (a : ℕ). highest_from a (take came.count after)) going.highest
              ∙ sym (fold-append _ 0 (take samples w.items) (take came.count after))
              ∙ ap (highest_from 0) (sym more.joined);
          clipped =
              c ∙ ap (λ (a : ℕ). a + count_by is_clipped (take came.count after)) going.clipped
              ∙ sym (sum_by-append _ (take samples w.items) (take came.count after))
              ∙ ap (count_by is_clipped) (sym more.joined);
        }
