use Rattle.std.proofs.Common.{◌≡◌, ℤ, arith, w64, SFits, to_z, of_z}
use Rattle.std.proofs.lemmas.Int.{ints, to_z-of_z}
use Rattle.samples.specs.Arithmetic.{clip, Within}
use Rattle.samples.specs.Laws.{clip_within}
use Rattle.samples.specs.Equal.{same_sample}
use Rattle.samples.proofs.kinds.ConverterSampleSample.new.Goals as goal

-- what was made from a number that was passed on, from the number itself
passed : (z r : ℤ) → SFits w64 z → r ≡ clip 12 (to_z w64 (of_z w64 z)) → (r ≡ clip 12 z) × Within 12 (clip 12 z)
passed z r f e = (simp to_z-of_z at e, clip_within 12 z)

pub invariant_of-result : goal.invariant_of-result
invariant_of-result c =
    let p = passed c.args.re c.nearest.result c.ranges.re c.nearest.ensures.value in
    let q = passed c.args.im c.nearest-2.result c.ranges.im c.nearest-2.ensures.value in
    record { re_within = (omega (arith, ints), omega (arith, ints)); im_within = (omega (arith, ints), omega (arith, ints)) }

pub returns : goal.returns
returns c =
    let p = passed c.args.re c.nearest.result c.ranges.re c.nearest.ensures.value in
    let q = passed c.args.im c.nearest-2.result c.ranges.im c.nearest-2.ensures.value in
    same_sample _ _ (omega (arith, ints)) (omega (arith, ints))
