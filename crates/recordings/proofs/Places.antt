-- Walking from chunk to chunk keeps the law of opening.
use Rattle.std.proofs.Common.{◌≡◌, ℕ, zero, suc, ◌+◌, ◌*◌, ◌<◌, true, false, inl, inr, ◌↔◌, List, length, codes, Some, None, Option, Result, MatchResult, IfOk, IfErr, IsTrue, is_some, sym, refl, ap, ◌∙◌, subst, add-one, arith, ◌-◌}
use borrow.Author.Count.{below_more}
use Rattle.std.specs.Fn.{iterate}
use Rattle.std.proofs.lemmas.Bool.{eqb-true, leb-true}
use Rattle.std.proofs.lemmas.Bool.Decides.{nat_tests}
use Rattle.std.proofs.lemmas.Result.{MatchResult-weaker}
use Rattle.recordings.specs.declared.format.Format.{Format}
use Rattle.recordings.specs.declared.chunks.ChunkKind.{ChunkKind}
use Rattle.recordings.specs.declared.chunks.ChunkKind.TheVariants as kinds
use Rattle.recordings.specs.declared.chunks.Found.{Found}
use Rattle.recordings.specs.declared.chunks.Step.{Step}
use Rattle.recordings.specs.declared.refusal.OpeningRefusal.{OpeningRefusal}
use Rattle.recordings.specs.Bytes.{u32_at}
use Rattle.recordings.specs.Chunks.{mark, head, kind_of, kind_at, chunk_end, format_tests, tests_of, leads_to, chunk_tests, chunk, chunks, from_step, find_data}
use Rattle.recordings.specs.Reaching.{place_of, Named, LiesWithin, FirstNamed, HasHead, HasFields, PassedOver, Reached, StopsAtChunk, Stopped}
use Rattle.recordings.proofs.Tests.{Passed, by_tests}

-- what follows a chunk begins where it ends
iterate-suc : (h : ℕ → ℕ) (n x : ℕ) → iterate h n (h x) ≡ h (iterate h n x)
iterate-suc h zero x = refl
iterate-suc h (suc n) x = iterate-suc h n (h x)

place-suc : (b : List ℕ) (n : ℕ) → place_of b (n + 1) ≡ chunk_end b (place_of b n)
place-suc b n = rw (add-one n) (iterate-suc (chunk_end b) n 12)

-- the name of a chunk, by its kind
format_named : (x : ℕ) → kind_of x ≡ kinds.Format → x ≡ mark (codes "fmt ")
format_named x h = grind (arith, nat_tests)

data_named : (x : ℕ) → kind_of x ≡ kinds.Data → x ≡ mark (codes "data")
data_named x h = grind (arith, nat_tests)

-- and which it is not
not_named : (name x : ℕ) {k : ChunkKind} → kind_of x ≡ k → (kind_of name ≡ k → ⊥) → x ≡ name → ⊥
not_named name x is differs h = differs (sym (ap kind_of h) ∙ is)

-- what is known of the format before chunk n
record FormatBefore (b : List ℕ) (n rate : ℕ) : Type 0 where
  m : ℕ
  before : m < n
  first : FirstNamed b (codes "fmt ") m
  rate_is : rate ≡ u32_at b (place_of b m + 12)

abbrev Known : List ℕ → ℕ → Option ℕ → Type 0
Known b n None = (k : ℕ) → k < n → Named b (codes "fmt ") k → ⊥
Known b n (Some rate) = FormatBefore b n rate

formatted : (b : List ℕ) (n : ℕ) (rate : Option ℕ) → Known b n rate → IsTrue (is_some rate) ↔ ((m : ℕ) × (m < n) × Named b (codes "fmt ") m)
formatted b n None k = ((λ h. cc), (λ h. absurd (k h.0 h.1 h.2)))
formatted b n (Some rate) k = ((λ h. (k.m, k.before, k.first.here)), (λ h. refl))

still_known : (b : List ℕ) (n rate : ℕ) → FormatBefore b n rate → FormatBefore b (n + 1) rate
still_known b n rate k = record { m = k.m; before = (let h = k.before in omega arith); first = k.first; rate_is = k.rate_is }

-- a chunk that is no format changes nothing
still : (b : List ℕ) (n : ℕ) (rate : Option ℕ) → (Named b (codes "fmt ") n → ⊥) → Known b n rate → Known b (n + 1) rate
still b n None here k = below_more _ n k here
still b n (Some rate) here k = still_known b n rate k

-- the fields of a format chunk that passed its tests
fields_pass : (f : Format) (b : List ℕ) (s : ℕ) → Passed (format_tests f b s) → HasFields f b s
fields_pass f b s p =
    record {
      size = eqb-true _ _ p.0;
      tag = eqb-true _ _ p.1.1.0;
      channels = eqb-true _ _ p.1.1.1.0;
      rate = p.1.1.1.1.0;
      byte_rate = eqb-true _ _ p.1.1.1.1.1.0;
      align = eqb-true _ _ p.1.1.1.1.1.1.0;
      bits = eqb-true _ _ p.1.1.1.1.1.1.1.0;
    }

head_passes : (b : List ℕ) → Passed (head b) → HasHead b
head_passes b p =
    record {
      room = leb-true _ _ p.0;
      riff = eqb-true _ _ p.1.0;
      size = eqb-true _ _ p.1.1.0;
      wave = eqb-true _ _ p.1.1.1.0;
    }

-- the answer's law
abbrev Law : Format → List ℕ → Result Found OpeningRefusal → Type 0
Law f b r = MatchResult r (Reached f b) (StopsAtChunk f b)

module _ (f : Format) (b : List ℕ) (h : HasHead b) where
  -- the walk has come to chunk n
  record Come (n : ℕ) (rate : Option ℕ) : Type 0 where
    passed : PassedOver f b n
    known : Known b n rate

  -- it passes chunk n over
  onward : (n : ℕ) (rate r : Option ℕ) → Come n rate → (Named b (codes "data") n → ⊥) → LiesWithin b n → (FirstNamed b (codes "fmt ") n → HasFields f b (place_of b n)) → Known b (n + 1) r → Come (n + 1) r
  onward n rate r c no_data within fields known =
      let p = c.passed in
      record {
        passed = record { no_data = below_more _ n p.no_data no_data; within = below_more _ n p.within within; fields = below_more _ n p.fields fields };
        known = known;
      }

  -- where it goes on behind chunk n
  abbrev OnwardFrom : ℕ → (ℕ → Option ℕ → Result Found OpeningRefusal) → Type 0
  OnwardFrom n on = (r : Option ℕ) → Come (n + 1) r → LiesWithin b n → Law f b (on (chunk_end b (place_of b n)) r)

  -- a chunk that passed its tests
  passed_chunk : (k : ChunkKind) (n : ℕ) (rate : Option ℕ) (on : ℕ → Option ℕ → Result Found OpeningRefusal) → kind_at b (place_of b n) ≡ k
      → Come n rate → Passed (tests_of k (is_some rate) f b (place_of b n)) → OnwardFrom n on → Law f b (from_step (leads_to k b (place_of b n) rate) on)
  passed_chunk kinds.Format n None on is c t go =
      let s = place_of b n in
      let l : LiesWithin b n = leb-true _ _ t.1.0 in
      let known : FormatBefore b (n + 1) (u32_at b (place_of b n + 12)) = record { m = n; before = omega arith; first = record { here = format_named (u32_at b s) is; none_before = c.known }; rate_is = refl } in
      go _ (onward n None _ c (not_named _ _ is (λ e. cc)) l (λ first. fields_pass f b s t) known) l
  passed_chunk kinds.Format n (Some rate) on is c t go =
      let l : LiesWithin b n = leb-true _ _ t.0 in
      let k = c.known in
      go _ (onward n (Some rate) _ c (not_named _ _ is (λ e. cc)) l (λ first. absurd (first.none_before k.m k.before k.first.here)) (still_known b n rate k)) l
  passed_chunk kinds.Data n None on is c t go = let e : false ≡ true = t.0 in cc
  passed_chunk kinds.Data n (Some rate) on is c t go =
      let s = place_of b n in
      let k = c.known in
      record {
        has_head = h;
        n = n;
        passed = c.passed;
        data_chunk = data_named (u32_at b s) is;
        within = leb-true _ _ t.1.0;
        whole_items = eqb-true _ _ t.0;
        m = k.m;
        format_before = k.before;
        format_chunk = k.first;
        rate = k.rate_is;
        start = refl;
        size = refl;
      }
  passed_chunk kinds.Other n rate on is c t go =
      let l : LiesWithin b n = leb-true _ _ t.0 in
      let none = not_named (mark (codes "fmt ")) _ is (λ e. cc) in
      go rate (onward n rate _ c (not_named _ _ is (λ e. cc)) l (λ first. absurd (none first.here)) (still b n rate none c.known)) l

  -- a chunk that passed its tests, or not
  one : (on : ℕ → Option ℕ → Result Found OpeningRefusal) (n : ℕ) (rate : Option ℕ) → Come n rate → OnwardFrom n on → Law f b (from_step (chunk f b (place_of b n) rate) on)
  one on n rate c go =
      let s = place_of b n in
      by_tests (λ (r : Result Step OpeningRefusal). Law f b (from_step r on)) (chunk_tests (is_some rate) f b s) (leads_to (kind_at b s) b s rate)
      (λ t. passed_chunk (kind_at b s) n rate on refl c t.1 go)
      (λ e fails. record { has_head = h; n = n; passed = c.passed; formatted = is_some rate; formatted_is = formatted b n rate c.known; fails = fails })

  -- the chunks from chunk n on
  walked : (fuel n : ℕ) (rate : Option ℕ) → length b < place_of b n + 8 * suc fuel → Come n rate → Law f b (chunks f b (suc fuel) (place_of b n) rate)
  walked zero n rate enough c = one (chunks f b zero) n rate c (λ r d l. absurd (omega arith))
  walked (suc fuel) n rate enough c =
      one (chunks f b (suc fuel)) n rate c (
      λ r d l. let e = place-suc b n in subst (λ (to : ℕ). Law f b (chunks f b (suc fuel) to r)) e (walked fuel (n + 1) r (omega (arith, e)) d)
      )

  all_chunks : Law f b (chunks f b (length b) 12 None)
  all_chunks =
      let r = h.room in
      let e : suc (length b - 1) ≡ length b = omega arith in
      subst (λ (n : ℕ). Law f b (chunks f b n 12 None)) e (
      walked (length b - 1) 0 None (omega arith) (record { passed = record { no_data = λ k l. absurd (omega arith); within = λ k l. absurd (omega arith); fields = λ k l. absurd (omega arith) }; known = λ k l. absurd (omega arith) })
      )

abbrev WholeLaw : Format → List ℕ → Result Found OpeningRefusal → Type 0
WholeLaw f b r = MatchResult r (Reached f b) (Stopped f b)

-- the law, with the head
pub law : (f : Format) (b : List ℕ) (r : Result Found OpeningRefusal) → r ≡ find_data f b → WholeLaw f b r
law f b r e =
    let all = chunks f b (length b) 12 None in
    subst (WholeLaw f b) (sym e) (
    by_tests (WholeLaw f b) (head b) all (λ p. MatchResult-weaker all (all_chunks f b (head_passes b p)) (λ found r. r) (λ e s. inr s)) (λ e fails. inl fails)
    )

pub reached : (f : Format) (b : List ℕ) (r : Result Found OpeningRefusal) → r ≡ find_data f b → IfOk r (Reached f b)
reached f b r e = MatchResult-weaker r (law f b r e) (λ found l. l) (λ e s. tt)

pub stopped : (f : Format) (b : List ℕ) (r : Result Found OpeningRefusal) → r ≡ find_data f b → IfErr r (Stopped f b)
stopped f b r e = MatchResult-weaker r (law f b r e) (λ found l. tt) (λ e s. s)
