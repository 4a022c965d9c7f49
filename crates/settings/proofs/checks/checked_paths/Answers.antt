use Rattle.std.proofs.Common.{get_or, replicate, pos, refl, sym, ap, ◌∙◌, arith, length-set, w16, SFits, rules}
use Rattle.std.proofs.lemmas.List.Elements.{AllWithin-none, AllWithin-more}
use Rattle.std.proofs.lemmas.Int.{to_z-of_z}
use Rattle.settings.specs.declared.settings.RawPath.{RawPath}
use Rattle.settings.specs.declared.refusal.SettingRefusal.TheVariants.{PathOutside}
use Rattle.settings.specs.Lists.{Near, near, few}
use Rattle.settings.proofs.Decided.{element_refused}
use Rattle.settings.proofs.Equal.{same_path}
use Rattle.settings.proofs.Listed.{at_place, path_written, paths_made}
use Rattle.settings.proofs.checks.checked_paths.Goals as goal

-- what stands where nothing was given
abbrev zeros : RawPath
zeros = record { re = pos 0; im = pos 0; delay = 0 }

pub returns-then-p-gt63 : goal.returns-then-p-gt63
returns-then-p-gt63 c =
    let given = c.args.given.now in
    let i = c.loop-i.i in
    sym (element_refused near PathOutside (few given) (PathOutside 10) given _ (search rules) i
    record {
      there = c.loop-i-test.true;
      wrong = at_place (λ p. Near p → ⊥) given i zeros c.loop-i-test.true (λ h. omega (arith, h, c.if-p-gt63.true));
      before = c.loop-i.invariant.1;
    })

pub loop-i-init : goal.loop-i-init
loop-i-init c = (refl, AllWithin-none Near c.args.given.now 0, (tt, ap (replicate 10) (same_path _ _ refl refl refl)))

pub loop-i-preserved : goal.loop-i-preserved
loop-i-preserved c =
    let given = c.args.given.now in
    let i = c.loop-i.i in
    let p = get_or given i zeros in
    let re : SFits w16 p.re = search rules in
    let im : SFits w16 p.im = search rules in
    let near = c.if-p-gt63.false in (
      length-set c.loop-i.places i _ ∙ c.loop-i.invariant.0,
      AllWithin-more Near given 0 i c.loop-i.invariant.1 (at_place Near given i zeros c.loop-i-test.true near),
      path_written given i zeros c.loop-i.places _ c.loop-i-test.true (grind arith) near
          (same_path _ _ (to_z-of_z w16 p.re re) (to_z-of_z w16 p.im im) refl)
          c.loop-i.invariant.2,
    )

pub returns : goal.returns
returns c = paths_made _ c.args.given.now c.loop-i.i (omega arith) refl c.loop-i.invariant.2
