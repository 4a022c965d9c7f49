use Rattle.std.proofs.Common.{refl, arith}
use Rattle.text.proofs.Rows.{exit}
use mathlib.Core.Logic.{inl}
use Rattle.text.proofs.SettingRows.{paths_begin}
use Rattle.text.proofs.settings_file.forms.paths.Goals as goal

pub returns-in_err-push : goal.returns-in_err-push
returns-in_err-push c = exit _ _ _ _ c.from_residual-in_err-push.ensures.1 (inl (refl, paths_begin _ c.in_ok-rows.rows.items c.in_ok-rows.ensures (omega (arith, c.loop-row-test.true, c.deref-row-items.ensures.len))))
