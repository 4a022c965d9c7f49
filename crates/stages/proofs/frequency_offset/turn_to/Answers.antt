use Rattle.std.proofs.Common.{◌≡◌, ℤ, ap, ◌∙◌, arith, w16, w64, SFits, rules}
use Rattle.std.proofs.lemmas.Int.{ints, to_z-of_z}
use Rattle.stages.specs.Turns.{turned, divided}
use Rattle.stages.proofs.frequency_offset.turn_to.Goals as goal

pub returns : goal.returns
unfolding turned
returns c =
    let p = c.phasor-cosine.result in
    let t = c.product-re.result in
    let xr : SFits w16 c.args.x.re = search rules in
    let xi : SFits w16 c.args.x.im = search rules in
    let p0 : SFits w16 p.0 = search rules in
    let p1 : SFits w16 p.1 = search rules in
    let t0 : SFits w64 t.0 = omega (arith, ints) in
    let t1 : SFits w64 t.1 = omega (arith, ints) in
    let v : t ≡ turned c.args.x p = simp to_z-of_z at c.product-re.ensures.value in
    let d : c.divided.result ≡ divided t 14 = simp to_z-of_z at c.divided.ensures in
    rw (← c.index_48.ensures, ← c.phasor-cosine.ensures.value) (d ∙ ap (λ (q : ℤ × ℤ). divided q 14) v)
