use Rattle.std.proofs.Common.{◌≡◌, ℕ, suc, ◌+◌, ◌-◌, ◌<◌, ◌∷◌, refl, ap, ◌∙◌, add-one, arith, w32, SFits}
use Rattle.std.proofs.lemmas.Int.{to_z-of_z}
use Rattle.sources.specs.Streams.{tabulate}
use Rattle.stages.specs.Noise.{stepped, steps, level, noise_item}
use Rattle.stages.proofs.Tables.{tabulate_on, tabulate_first}
use Rattle.stages.proofs.noise.NoiseSource.next.Goals as goal

later : (re im j : ℕ) → noise_item re im (j + 1) ≡ noise_item (stepped re) (stepped im) j
later re im j =
    let e : j + 1 + 1 ≡ suc (j + 1) = add-one (j + 1) in
    ap (λ (k : ℕ). record { re = level (steps k re); im = level (steps k im) }) e

-- one item, and the others from the states after one step
peeled : (n re im : ℕ) → 0 < n → tabulate (noise_item re im) 0 n ≡ noise_item re im 0 ∷ tabulate (noise_item (stepped re) (stepped im)) 0 (n - 1)
peeled n re im h = tabulate_first (noise_item re im) 0 n h ∙ ap (λ t. noise_item re im 0 ∷ t) (tabulate_on _ _ (later re im) 0 (n - 1))

pub returns : goal.returns
returns c =
    let s = c.args.self.now in
    let e = peeled s.remaining s.re s.im (omega arith) in
    let f : SFits w32 c.level_of.result = record { sfits = c.level_of.type_inv } in
    let g : SFits w32 c.level_of-2.result = record { sfits = c.level_of-2.type_inv } in
    record {
      answers = simp to_z-of_z (rw (e, c.level_of.ensures, c.level_of-2.ensures, c.step-self.ensures, c.step-self-2.ensures) refl);
      moves = rw (e, c.step-self.ensures, c.step-self-2.ensures) refl;
      same = refl;
    }
