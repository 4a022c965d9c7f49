use Rattle.std.proofs.Common.{get_or, replicate, pos, refl, sym, ap, ◌∙◌, arith, length-set, w16, SFits, rules}
use Rattle.std.proofs.lemmas.List.Elements.{AllWithin-none, AllWithin-more}
use Rattle.std.proofs.lemmas.Int.{to_z-of_z}
use Rattle.settings.specs.declared.refusal.SettingRefusal.TheVariants.{EntryOutside}
use Rattle.settings.specs.Lists.{Amplitude, amplitude, long}
use Rattle.settings.proofs.Decided.{element_refused}
use Rattle.settings.proofs.Equal.{same_entry}
use Rattle.settings.proofs.Listed.{at_place, entry_written, table_made}
use Rattle.settings.proofs.checks.checked_table.Goals as goal

pub returns-then-amplitude-gt32767 : goal.returns-then-amplitude-gt32767
returns-then-amplitude-gt32767 c =
    let amps = c.args.amplitudes.now in
    let i = c.loop-i.i in
    sym (element_refused amplitude EntryOutside (long amps c.args.phases.now) (EntryOutside 513) amps _ (omega arith, omega arith) i
    record {
      there = c.loop-i-test.true;
      wrong = at_place (λ a. Amplitude a → ⊥) amps i 0 c.loop-i-test.true (λ h. omega (arith, h, c.if-amplitude-gt32767.true));
      before = c.loop-i.invariant.1;
    })

pub loop-i-init : goal.loop-i-init
loop-i-init c = (refl, AllWithin-none Amplitude c.args.amplitudes.now 0, (tt, ap (replicate 513) (same_entry _ _ refl refl)))

pub loop-i-preserved : goal.loop-i-preserved
loop-i-preserved c =
    let amps = c.args.amplitudes.now in
    let phases = c.args.phases.now in
    let i = c.loop-i.i in
    let phase : SFits w16 (get_or phases i (pos 0)) = search rules in
    let low = c.if-amplitude-gt32767.false in (
      length-set c.loop-i.entries i _ ∙ c.loop-i.invariant.0,
      AllWithin-more Amplitude amps 0 i c.loop-i.invariant.1 (at_place Amplitude amps i 0 c.loop-i-test.true low),
      entry_written amps phases i 0 (pos 0) c.loop-i.entries _ (omega arith) (omega arith, omega arith) low
          (same_entry _ _ refl (to_z-of_z w16 (get_or phases i (pos 0)) phase))
          c.loop-i.invariant.2,
    )

pub returns : goal.returns
returns c = table_made _ c.args.amplitudes.now c.args.phases.now c.loop-i.i (omega arith) (omega arith, omega arith) c.loop-i.invariant.2
