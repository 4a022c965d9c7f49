use Rattle.std.proofs.Common.{◌≡◌, ℕ, zero, suc, ◌+◌, ◌-◌, ◌*◌, ◌/◌, ◌%◌, ◌^◌, ◌≢◌, get_or, ℤ, pos, negsuc, ◌-ℤ◌, ◌*ℤ◌, neg_ℤ, refl, ◌∙◌, arith, w16, SFits, rules, to_z, of_z}
use lib.IntN.{*ℤ-zero}
use Rattle.std.proofs.lemmas.Int.{ints, to_z-of_z, to_z_pos}
use Rattle.std.proofs.lemmas.List.{get_or_default}
use Rattle.std.proofs.Math.Nat.{mul_assoc}
use Rattle.samples.specs.Arithmetic.{floor_by}
use Rattle.samples.specs.Interpolation.{linear}
use Rattle.stages.specs.declared.amplifier.Entry.{Entry}
use Rattle.stages.specs.Amplifier.{amplitude_of, phase_of, no_entry, interpolated, at_magnitude}
use Rattle.stages.proofs.amplifier.AmplifierTable.at.Goals as goal

-- 1024 of 65536 parts of the way are one of 64
finer_down : (k : ℕ) → floor_by (neg_ℤ (pos (k * 1024))) (2 ^ 16) ≡ floor_by (neg_ℤ (pos k)) (2 ^ 6)
finer_down zero = refl
finer_down (suc k) = let e : suc k * 1024 ≡ suc (k * 1024 + 1023) = omega arith in rw e (omega (arith, ints))

finer : (d : ℤ) (r : ℕ) → floor_by (d *ℤ pos (r * 1024)) (2 ^ 16) ≡ floor_by (d *ℤ pos r) (2 ^ 6)
finer (pos a) r = omega (arith, ints)
finer (negsuc a) r = rw (← mul_assoc (suc a) r 1024) (finer_down (suc a * r))

-- at r = 0 the formula gives a by itself, and there it does not matter what b is
by_rest : (a b e : ℤ) (r : ℕ) → (r ≢ 0 → b ≡ e) → linear a b (r * 1024) 16 ≡ interpolated a e r
unfolding interpolated
by_rest a b e zero h = rw (*ℤ-zero (b -ℤ a)) (omega (arith, ints))
by_rest a b e (suc r) h =
    let p : b ≡ e = h (λ (z : suc r ≡ 0). omega arith) in
    rw (finer (b -ℤ a) (suc r), p) refl

-- what the code reads at the magnitude m
read_is : (entry : ℕ → ℤ) (m : ℕ) (a b : ℤ) → a ≡ entry (m / 64) → (m % 64 ≢ 0 → b ≡ entry (m / 64 + 1)) → linear a b (m % 64 * 1024) 16 ≡ at_magnitude entry m
read_is entry m a b p q =
    let r : m - 64 * (m / 64) ≡ m % 64 = omega arith in
    rw (r, ← p) (by_rest a b _ (m % 64) q)

-- the numbers of an entry, as the code passes them on
amplitude_passed : (e e' : Entry) → e ≡ e' → to_z w16 e.amplitude ≡ pos e'.amplitude
amplitude_passed e e' h = rw (← h) (to_z_pos w16 e.amplitude (omega (arith, e.amplitude_within)))

phase_passed : (e e' : Entry) → SFits w16 e.phase → e ≡ e' → to_z w16 (of_z w16 e.phase) ≡ e'.phase
phase_passed e e' f h = rw (← h) (to_z-of_z w16 e.phase f)

here : (c : goal.After-linear-2) → get_or c.args.self.now.entries (c.args.m / 64) c.index-self-q.result ≡ get_or c.args.self.now.entries (c.args.m / 64) no_entry
here c = get_or_default c.args.self.now.entries (c.args.m / 64) _ _ (omega (arith, c.args.self.now.all))

next : (c : goal.After-linear-2) → c.args.m % 64 ≢ 0 → get_or c.args.self.now.entries c.min.result c.index-self-min.result ≡ get_or c.args.self.now.entries (c.args.m / 64 + 1) no_entry
next c ne =
    let e : c.min.result ≡ c.args.m / 64 + 1 = omega arith in
    rw (← e) (get_or_default c.args.self.now.entries c.min.result _ _ (omega (arith, c.args.self.now.all)))

pub returns-clause-amplitude : goal.returns-clause-amplitude
returns-clause-amplitude c =
    let r : SFits w16 c.linear.result = record { sfits = c.linear.type_inv } in
    simp to_z-of_z (c.linear.ensures.value ∙ read_is (amplitude_of c.args.self.now.entries) c.args.m _ _ (amplitude_passed _ _ (here c)) (λ n. amplitude_passed _ _ (next c n)))

pub returns-clause-phase : goal.returns-clause-phase
returns-clause-phase c =
    let r : SFits w16 c.linear-2.result = record { sfits = c.linear-2.type_inv } in
    simp to_z-of_z (c.linear-2.ensures.value ∙ read_is (phase_of c.args.self.now.entries) c.args.m _ _ (phase_passed _ _ (search rules) (here c)) (λ n. phase_passed _ _ (search rules) (next c n)))
