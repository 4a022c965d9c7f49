-- The running sum of the echoes: what it is, how large it is, and one path more.
use Rattle.std.proofs.Common.{◌≡◌, ℕ, ◌+◌, ◌*◌, ◌^◌, ◌<◌, List, length, get_or, take, ℤ, pos, ◌+ℤ◌, neg_ℤ, ◌≤ℤ◌, refl, arith, w64, SFits, to_z, of_z}
use Rattle.std.proofs.lemmas.Int.{ints, to_z-of_z}
use Rattle.std.proofs.lemmas.List.Sums.{fold_more}
use Rattle.samples.specs.Bounds.{Between}
use Rattle.samples.specs.declared.kinds.WorkingSample.{WorkingSample}
use Rattle.stages.specs.declared.multipath.Path.{Path}
use Rattle.stages.specs.Multipath.{total}

-- after i paths the sum is e, and small enough for ten of them to fit
pub record Summed (i : ℕ) (e sum : ℤ) : Type 0 where
  pub value : sum ≡ e
  pub low : neg_ℤ (pos (i * 2 ^ 31)) ≤ℤ sum
  pub high : sum ≤ℤ pos (i * 2 ^ 31)

-- the sum s of the code, and the echo z that it passes on
pub turn : (i : ℕ) (e e' s z : ℤ) → i < 10 → Summed i e s → SFits w64 z → Between (2 ^ 31) z → e' ≡ e +ℤ z → Summed (i + 1) e' (to_z w64 (of_z w64 (s +ℤ to_z w64 (of_z w64 z))))
turn i e e' s z h m f w q =
    let t : SFits w64 (s +ℤ z) = omega (arith, ints) in
    simp to_z-of_z (record { value = rw (q, m.value) refl; low = omega (arith, ints); high = omega (arith, ints) })

-- the echo z of path i, of the sample y that its delay chooses, comes to the sum
pub echo_more : (g : Path → WorkingSample → ℤ) (x : ℕ → WorkingSample) (ps : List Path) (i : ℕ) (d : Path) (y : WorkingSample) (z : ℤ) → i < length ps → y ≡ x (get_or ps i d).delay → z ≡ g (get_or ps i d) y → total (λ p. g p (x p.delay)) (take (i + 1) ps) ≡ total (λ p. g p (x p.delay)) (take i ps) +ℤ z
unfolding total
echo_more g x ps i d y z h at is = rw (is, at) (fold_more (λ a p. a +ℤ g p (x p.delay)) (pos 0) ps i d h)
