use Rattle.std.proofs.Common.{◌≡◌, ◌^◌, ◌*ℤ◌, arith, lit<, w16, w64, SFits, rules, to_z, of_z, ℤ, ap, ◌∙◌}
use Rattle.std.proofs.lemmas.Int.{ints, to_z-of_z, fits_signed_mul}
use Rattle.stages.specs.Amplifier.{amplified}
use Rattle.stages.specs.Turns.{turned, divided}
use Rattle.stages.proofs.amplifier.AmplifierTable.amplify.Goals as goal

pub overflow_mul-gain : goal.overflow_mul-gain
overflow_mul-gain c = fits_signed_mul w64 (to_z w64 (of_z w64 c.from-gain.result)) (to_z w64 (of_z w64 c.product-re.result.0)) (2 ^ 15) (2 ^ 31) (omega (arith, ints)) (omega (arith, ints)) (lit< tt)

pub overflow_mul-gain-2 : goal.overflow_mul-gain-2
overflow_mul-gain-2 c = fits_signed_mul w64 (to_z w64 (of_z w64 c.from-gain.result)) (to_z w64 (of_z w64 c.product-re.result.1)) (2 ^ 15) (2 ^ 31) (omega (arith, ints)) (omega (arith, ints)) (lit< tt)

pub returns : goal.returns
unfolding amplified turned
returns c =
    let e = c.at-amplitude.result in
    let p = c.phasor-cosine.result in
    let t = c.product-re.result in
    let xr : SFits w16 c.args.x.re = search rules in
    let xi : SFits w16 c.args.x.im = search rules in
    let p0 : SFits w16 p.0 = search rules in
    let p1 : SFits w16 p.1 = search rules in
    let e0 : SFits w64 e.0 = omega (arith, ints) in
    let e1 : SFits w64 e.1 = omega (arith, ints) in
    let t0 : SFits w64 t.0 = omega (arith, ints) in
    let t1 : SFits w64 t.1 = omega (arith, ints) in
    let g : c.from-gain.result ≡ e.0 = omega (arith, ints) in
    let f : c.from.result ≡ e.1 = omega (arith, ints) in
    let r : SFits w64 (e.0 *ℤ t.0) = fits_signed_mul w64 e.0 t.0 (2 ^ 15) (2 ^ 31) (omega (arith, ints)) (omega (arith, ints)) (lit< tt) in
    let s : SFits w64 (e.0 *ℤ t.1) = fits_signed_mul w64 e.0 t.1 (2 ^ 15) (2 ^ 31) (omega (arith, ints)) (omega (arith, ints)) (lit< tt) in
    let i = simp (f, to_z-of_z) at c.index_16.ensures in
    let v : t ≡ turned c.args.x p = simp to_z-of_z at c.product-re.ensures.value in
    let d : c.divided.result ≡ divided (e.0 *ℤ t.0, e.0 *ℤ t.1) 29 = simp (g, to_z-of_z) at c.divided.ensures in
    rw (← c.magnitude_of.ensures.value, ← c.at-amplitude.ensures.amplitude, ← c.at-amplitude.ensures.phase, ← i, ← c.phasor-cosine.ensures.value) (d ∙ ap (λ (q : ℤ × ℤ). divided (e.0 *ℤ q.0, e.0 *ℤ q.1) 29) v)
