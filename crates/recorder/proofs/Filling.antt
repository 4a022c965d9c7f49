-- A recording of what a source has left, sample by sample.
use Rattle.std.proofs.Common.{◌≡◌, ℕ, zero, suc, ◌+◌, ◌<◌, ◌≤◌, Bool, true, false, cond, leb, List, [], ◌∷◌, ◌++◌, length, take, drop, Some, None, Ok, Err, Option, sym, refl, ap, ◌∙◌, suc-add, arith}
use Rattle.std.proofs.lemmas.List.{length-drop, length-take-le, flat_map_more}
use Rattle.std.proofs.lemmas.Bool.Decides.{nat_tests}
use Rattle.std.specs.List.{flat_map}
use Rattle.samples.specs.declared.kinds.ConverterSample.{ConverterSample}
use Rattle.sources.specs.Streams.{Ending, Stream, answer, at_end, rest, first_of, from, tail}
use Rattle.recordings.specs.Bytes.{overwrite}
use Rattle.recorder.specs.Sessions.{taken, met, filled}
use Rattle.recorder.specs.Writing.{coded, size_of, fits, put_count, after_put}
use Rattle.recorder.proofs.Back.{coded_length}
use Rattle.recorder.proofs.Overwriting.{overwrite_more}

-- After k samples: what the recording counts, what the bytes hold, and what the source has left.
pub record Going (start : ℕ) (bytes : List ℕ) (left whole : Stream ConverterSample) (k count : ℕ) (held : List ℕ) (rests kept : Stream ConverterSample) : Type 0 where
  pub few : k ≤ length left.items
  pub counted : count ≡ start + k
  pub written : held ≡ overwrite (size_of start) (flat_map coded (take k left.items)) bytes
  pub behind : rests ≡ from k left
  pub same : kept ≡ whole

-- an item came: it is the first of what is left
came : {T : Type 0} (d : List T) (e : Ending) (x : T) → Ok (Some x) ≡ first_of d e → d ≡ x ∷ tail d
came [] (Ok _) x h = cc
came [] (Err f) x h = cc
came (y ∷ ys) e x h = let i : x ≡ y = cc in ap (λ (z : _). z ∷ ys) (sym i)

-- none came: nothing is left, and that is the ending
none_left : {T : Type 0} (d : List T) (e r : Ending) → at_end {T = T} r ≡ first_of d e → (d ≡ []) × (e ≡ r)
none_left [] (Ok _) (Ok _) h = (refl, refl)
none_left [] (Ok _) (Err f) h = cc
none_left [] (Err g) (Ok _) h = cc
none_left [] (Err g) (Err f) h = let i : f ≡ g = cc in (refl, ap Err (sym i))
none_left (y ∷ ys) e (Ok _) h = cc
none_left (y ∷ ys) e (Err f) h = cc

-- one step along a list
further : {T : Type 0} (k : ℕ) (xs : List T) (x : T) (ys : List T) → drop k xs ≡ x ∷ ys → (take (k + 1) xs ≡ take k xs ++ x ∷ []) × (drop (k + 1) xs ≡ ys)
further zero [] x ys h = cc
further zero (z ∷ zs) x ys h = (let i : z ≡ x = cc in ap (λ (w : _). w ∷ []) i, (let i : zs ≡ ys = cc in i))
further (suc k) [] x ys h = cc
further (suc k) (z ∷ zs) x ys h = let f = further k zs x ys h in (rw suc-add (ap (λ (ws : List _). z ∷ ws) f.0), rw suc-add f.1)

module _ (start : ℕ) (b : List ℕ) (left whole : Stream ConverterSample) (k count : ℕ) (held : List ℕ) (rests kept : Stream ConverterSample) (at : Going start b left whole k count held rests kept) where
  -- one sample more
  pub goes : (x : ConverterSample) (count' : ℕ) (held' : List ℕ) (rests' kept' : Stream ConverterSample)
      → Ok (Some x) ≡ answer rests → rests' ≡ rest rests → kept' ≡ kept
      → count' ≡ put_count (length held) count → held' ≡ after_put held count x
      → size_of (count + 1) ≤ length held → length held ≤ 65536 → size_of start ≤ length b
      → Going start b left whole (k + 1) count' held' rests' kept'
  goes x count' held' rests' kept' a m s n p room short low =
      let xs = left.items in
      let e : drop k left.items ≡ x ∷ tail (drop k left.items) = came (drop k left.items) left.ending x (a ∙ ap answer at.behind) in
      let f = further k left.items x (tail (drop k left.items)) e in
      let t : fits (length held) (count + 1) ≡ true = grind (arith, nat_tests) in
      let place : size_of count ≡ size_of start + length (flat_map coded (take k left.items)) = let c = coded_length (take k left.items) in let l = length-take-le k left.items at.few in let n = at.counted in omega arith in
      record {
        few = (let l = length-drop k left.items in let m = ap length e in omega arith);
        counted = rw (n, t) (let n = at.counted in omega arith);
        written =
            rw (p, t, at.written, overwrite_more (size_of start) (flat_map coded (take k xs)) (coded x) b (size_of count) low place)
            (ap (λ (ys : List ℕ). overwrite (size_of start) ys b) (flat_map_more coded [] (take k xs) x ∙ ap (flat_map coded) (sym f.0)));
        behind = m ∙ ap rest at.behind ∙ ap (λ (ys : List ConverterSample). record { items = ys; ending = left.ending }) (sym f.1);
        same = s ∙ at.same;
      }

  -- What the session has come to at its end: t samples, and the ending if it was met.
  abbrev pub Ended : ℕ → Option Ending → Stream ConverterSample → Stream ConverterSample → Type 0
  Ended room r rests' kept' =
      record {
        answer : r ≡ met room left;
        count : count ≡ start + taken room left;
        bytes : held ≡ filled start room left b;
        left : rests' ≡ from (taken room left) left;
        whole : kept' ≡ whole;
      }

  -- nothing is left, and the source reports its ending
  pub over : (room : ℕ) (e : Ending) → k < room → at_end e ≡ answer rests → (rests' kept' : Stream ConverterSample) → rests' ≡ rest rests → kept' ≡ kept → Ended room (Some e) rests' kept'
  over room e h a rests' kept' m s =
      let n = none_left (drop k left.items) left.ending e (a ∙ ap answer at.behind) in
      let l : length left.items ≤ k = omega (arith, ap length n.0, length-drop k left.items) in
      let t : k ≡ taken room left = let f = at.few in omega arith in
      let q : leb room (length left.items) ≡ false = let f = at.few in grind (arith, nat_tests) in
      record {
        answer = sym (ap (λ (p : Bool). cond p None (Some left.ending)) q ∙ ap Some n.1);
        count = at.counted ∙ ap (λ (j : ℕ). start + j) t;
        bytes = at.written ∙ ap (λ (j : ℕ). overwrite (size_of start) (flat_map coded (take j left.items)) b) t;
        left = m ∙ ap rest at.behind ∙ ap (λ (ys : List ConverterSample). record { items = ys; ending = left.ending }) (ap tail n.0 ∙ sym n.0) ∙ ap (λ (j : ℕ). from j left) t;
        whole = s ∙ at.same;
      }
