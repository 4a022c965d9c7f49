use Rattle.std.proofs.Common.{refl, arith}
use Rattle.std.proofs.lemmas.Grind.{common_steps}
use Rattle.text.proofs.Rows.{exit}
use mathlib.Core.Logic.{inl}
use Rattle.text.proofs.SettingRows.{table_begins}
use Rattle.text.proofs.settings_file.forms.table.Goals as goal

pub loop-row-preserved : goal.loop-row-preserved
loop-row-preserved c = (grind (arith, common_steps), grind (arith, common_steps))

pub returns-in_err-push : goal.returns-in_err-push
returns-in_err-push c = exit _ _ _ _ c.from_residual-in_err-push.ensures.1 (inl (refl, table_begins _ c.in_ok-rows.rows.items c.in_ok-rows.ensures (omega (arith, c.loop-row-test.true, c.deref-row-items.ensures.len))))

pub returns-in_err-push-2 : goal.returns-in_err-push-2
returns-in_err-push-2 c = exit _ _ _ _ c.from_residual-in_err-push-2.ensures.1 (inl (refl, table_begins _ c.in_ok-rows.rows.items c.in_ok-rows.ensures (omega (arith, c.loop-row-test.true, c.deref-row-items.ensures.len))))

pub returns : goal.returns
returns c =
    (refl, (c.in_ok-rows.rows.items, c.in_ok-rows.ensures, grind (arith, common_steps), grind (arith, common_steps)))
