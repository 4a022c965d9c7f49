-- What comes to one fill of a player.
use Rattle.std.proofs.Common.{◌≡◌, ℕ, zero, suc, ◌+◌, ◌-◌, ◌<◌, ◌≤◌, min, cond, eqb, ltb, true, false, List, ◌++◌, length, take, drop, Some, None, Ok, Err, Option, Result, refl, sym, ap, ◌∙◌, subst, arith}
use Rattle.std.proofs.lemmas.List.{length-drop, length-take, take_at, take_min}
use Rattle.std.proofs.Math.Seq.{take-add}
use Rattle.std.proofs.lemmas.Bool.{and_from, and_right, cond-true, cond-false, lt-ltb, ne_eqb}
use Rattle.samples.specs.declared.kinds.ConverterSample.{ConverterSample}
use Rattle.sources.specs.Streams.{Ending, Stream}
use Rattle.player.specs.declared.fault.PlayerFault.{PlayerFault}
use Rattle.player.specs.Calls.{fill, filled}
use Rattle.player.specs.Plain.{answer_of, ending_answer, handed_out, none_handed_out, plain_answer, plain_buffer, plain_count, plain_place}
use Rattle.player.specs.Standing.{Standing, Stands}
use Rattle.program.specs.Blocks.{Comes}
use Rattle.program.specs.declared.block.Block.{Block}

-- what a fill answers, as a block has it
abbrev pub block_of : Result ℕ PlayerFault → Block
block_of (Ok zero) = record { count = 0; ending = Some (Ok tt) }
block_of (Ok (suc n)) = record { count = suc n; ending = None }
block_of (Err f) = record { count = 0; ending = Some (Err f) }

pub some_came : (n : ℕ) → 0 < n → block_of (Ok n) ≡ record { count = n; ending = None }
some_came zero h = absurd (omega arith)
some_came (suc n) h = refl

-- an ending as a block has it
ended : (e : Ending) (p : ℕ) → block_of (ending_answer e p 0) ≡ record { count = 0; ending = Some (ending_answer e p tt) }
ended (Ok _) p = refl
ended (Err f) p = refl

came : (e : Ending) (p n t : ℕ) → 0 < n → block_of (answer_of e p n t 0 t) ≡ record { count = t; ending = cond (eqb t 0) (Some (ending_answer e p tt)) None }
came e p n zero h = ap block_of (cond-true (none_handed_out n 0) _ _ (and_from (ltb 0 n) true (lt-ltb 0 n h) refl)) ∙ ended e p
came e p n (suc t) h =
    let some : eqb (suc t) 0 ≡ false = ne_eqb (suc t) 0 (λ e. omega arith) in
    ap block_of (cond-false (none_handed_out n (suc t)) _ _ (and_right (ltb 0 n) (eqb (suc t) 0) some))
    ∙ ap (λ (o : Option (Result (Unit {0}) PlayerFault)). record { count = suc t; ending = o }) (sym (cond-false (eqb (suc t) 0) _ _ some))

pub comes : (w : Stream ConverterSample) (p : ℕ) (buffer after : List ConverterSample) (s : Standing ConverterSample) (r : Result ℕ PlayerFault)
    → 0 < length buffer → (filled r after ≡ plain_answer w p (fill buffer)) × Stands s w (plain_place w p (fill buffer)) → Comes w p buffer after s (block_of r)
comes w p buffer after s r h k =
    let t = handed_out w p (length buffer) in
    let answers : r ≡ plain_count w p (length buffer) = cc in
    let holds : after ≡ plain_buffer w p buffer = cc in
    let all : block_of r ≡ record { count = t; ending = cond (eqb t 0) (Some (ending_answer w.ending p tt)) None } = ap block_of answers ∙ came w.ending p (length buffer) t h in
    let front : take t after ≡ take (length buffer) (drop p w.items) =
    ap (take t) holds
    ∙ take_at (take t (drop p w.items)) _ t (omega (arith, length-take t (drop p w.items), length-drop p w.items))
    ∙ ap (λ (n : ℕ). take (min (length buffer) n) (drop p w.items)) (sym (length-drop p w.items))
    ∙ take_min (length buffer) (drop p w.items) in
    subst (Comes w p buffer after s) (sym all) (record { count = refl; samples = front; onward = k.1; ending = refl })

-- what the ending of a fill says of how many samples came
some_count : {A : Type 0} (n : ℕ) (e : Option A) (x : A) → e ≡ cond (eqb n 0) (Some x) None → e ≡ None → 0 < n
some_count zero e x h i = cc
some_count (suc n) e x h i = omega arith

-- Samples came: the player has gone on, and they stand behind those before.
pub record More (w : Stream ConverterSample) (p n : ℕ) (after : List ConverterSample) (s s' : Standing ConverterSample) : Type 0 where
  pub some : 0 < n
  pub within : p + n ≤ length w.items
  pub joined : take (p + n) w.items ≡ take p w.items ++ take n after
  pub shorter : length s'.left.items < length s.left.items

module _ (w : Stream ConverterSample) (p : ℕ) (block after : List ConverterSample) (s s' : Standing ConverterSample) (came : Block) (room : 0 < length block) (at : Stands s w p) (comes : Comes w p block after s' came) where
  pub more : came.ending ≡ None → More w p came.count after s s'
  more none =
      let some : 0 < came.count = some_count came.count came.ending _ comes.ending none in
      let few : came.count ≡ min (length block) (length (drop p w.items)) = omega (arith, length-drop p w.items) in
      let next : take came.count (drop p w.items) ≡ take came.count after =
      ap (λ (n : ℕ). take n (drop p w.items)) few ∙ take_min (length block) (drop p w.items) ∙ sym comes.samples in
      let before : length s.left.items ≡ length w.items - p = ap (λ (l : Stream ConverterSample). length l.items) at.left ∙ length-drop p w.items in
      let behind : length s'.left.items ≡ length w.items - (p + came.count) = ap (λ (l : Stream ConverterSample). length l.items) comes.onward.left ∙ length-drop (p + came.count) w.items in
      record {
        some = some;
        within = comes.onward.within;
        joined = take-add p came.count w.items ∙ ap (λ (ys : List ConverterSample). take p w.items ++ ys) next;
        shorter = omega arith;
      }
