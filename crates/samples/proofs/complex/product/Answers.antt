use Rattle.std.proofs.Common.{◌≡◌, ◌*ℤ◌, arith, w16, SFits, rules, ap₂, ℤ}
use Rattle.std.proofs.lemmas.Int.{ints, to_z-of_z}
use Rattle.samples.proofs.complex.product.Goals as goal

pub returns-clause-value : goal.returns-clause-value
returns-clause-value c =
    let z = c.args.z in
    let w = c.args.w in
    let a : SFits w16 z.0 = search rules in
    let b : SFits w16 z.1 = search rules in
    let d : SFits w16 w.0 = search rules in
    let e : SFits w16 w.1 = search rules in
    let p : c.part_product.result ≡ z.0 *ℤ w.0 = simp to_z-of_z at c.part_product.ensures.value in
    let q : c.part_product-2.result ≡ z.1 *ℤ w.1 = simp to_z-of_z at c.part_product-2.ensures.value in
    let r : c.part_product-3.result ≡ z.0 *ℤ w.1 = simp to_z-of_z at c.part_product-3.ensures.value in
    let s : c.part_product-4.result ≡ z.1 *ℤ w.0 = simp to_z-of_z at c.part_product-4.ensures.value in
    ap₂ (λ (x y : ℤ). (x, y)) (omega (arith, ints)) (omega (arith, ints))

pub returns-clause-re_within : goal.returns-clause-re_within
returns-clause-re_within c = record { low = omega (arith, ints); high = omega (arith, ints) }

pub returns-clause-im_within : goal.returns-clause-im_within
returns-clause-im_within c = record { low = omega (arith, ints); high = omega (arith, ints) }
