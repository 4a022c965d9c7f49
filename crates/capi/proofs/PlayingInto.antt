-- A player at the start of a whole, after a call that wanted n items: how many came, and what is left then.
use Rattle.std.proofs.Common.{◌≡◌, ℕ, ◌-◌, ◌<◌, min, Bool, true, false, cond, ltb, leb, List, length, Some, None, Ok, Result, sym, refl, ap, ◌∙◌, arith, length-drop, Err}
use lib.ListN.{length-map}
use Rattle.std.proofs.lemmas.Bool.Decides.{nat_tests}
use Rattle.std.specs.Result.{result_unwrap_or}
use Rattle.sources.specs.Streams.{Ending, Stream}
use Rattle.sources.specs.Wholes.{each}
use Rattle.player.specs.Calls.{filled}
use Rattle.player.specs.declared.fault.PlayerFault.{PlayerFault}
use Rattle.player.specs.Plain.{ending_answer, answer_of, none_handed_out}
use Rattle.player.specs.Standing.{Standing, Stands, coming, count_answer, onward}
use Rattle.recorder.specs.Sessions.{taken, met}

counted : (b : Bool) (e : Ending) (p t : ℕ) → (b ≡ true → t ≡ 0) → result_unwrap_or (cond b (ending_answer {A = ℕ} e p 0) (Ok t)) 0 ≡ t
counted true (Ok _) p t h = sym (h refl)
counted true (Err f) p t h = sym (h refl)
counted false e p t h = refl

-- an ending counts as none, so the count is that of the items that came
came_is : (e : Ending) (p n t : ℕ) → result_unwrap_or (answer_of e p n t 0 t) 0 ≡ t
came_is e p n t = counted (none_handed_out n t) e p t (λ h. grind (arith, nat_tests))

met_where : (came n all : ℕ) (x y : Ending) → came ≡ min n all → x ≡ y → cond (ltb came n) (Some x) None ≡ cond (leb n all) None (Some y)
met_where came n all x y h e = grind (arith, nat_tests)

pub record Listened {T : Type 0} (n : ℕ) (w : Stream T) (s : Standing T) (came : ℕ) : Type 0 where
  pub spent : came < n → length s.left.items ≡ 0
  pub items : came ≡ taken n w
  pub ending : cond (ltb came n) (Some s.left.ending) None ≡ met n w

pub played_into : {T : Type 0} (n : ℕ) (w : Stream T) (s s' : Standing T) (came : ℕ) → Stands s w 0 → s' ≡ onward n s → came ≡ result_unwrap_or (count_answer n s) 0 → Listened n w s' came
played_into {T = T} n w s s' came stands moved answered =
    let c : came ≡ coming n s = answered ∙ came_is s.left.ending s.place n (coming n s) in
    let k : length s.left.items ≡ length w.items = ap (λ (v : Stream T). length v.items) stands.left in
    let f : length s'.left.items ≡ length s.left.items - coming n s = ap (λ (u : Standing T). length u.left.items) moved ∙ length-drop (coming n s) s.left.items in
    let e : s'.left.ending ≡ w.ending = ap (λ (u : Standing T). u.left.ending) moved ∙ ap (λ (v : Stream T). v.ending) stands.left in
    record { spent = λ h. omega arith; items = omega arith; ending = met_where came n (length w.items) _ _ (omega arith) e }

-- the buffer that an answer to a fill holds
pub same_buffer : {T : Type 0} {r r' : Result ℕ PlayerFault} {b b' : List T} → filled r b ≡ filled r' b' → b ≡ b'
same_buffer e = cc

-- a formula for each item changes neither how many come nor how they end
pub mapped : {A B : Type 0} (f : A → B) (n : ℕ) (w : Stream A) → (taken n (each f w) ≡ taken n w) × (met n (each f w) ≡ met n w)
mapped f n w =
    let k = length-map w.items f in (
      ap (λ (j : ℕ). min n j) k,
      ap (λ (j : ℕ). cond (leb n j) None (Some w.ending)) k,
    )
