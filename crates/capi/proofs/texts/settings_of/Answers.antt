use Rattle.std.proofs.Common.{rules}
use Rattle.capi.proofs.SettingsText.{settles}
use Rattle.capi.proofs.texts.settings_of.Goals as goal

pub returns : goal.returns
returns c = settles c.args.text.now c.read.result c.map_err.result c.read.ensures c.map_err.ensures.cases (λ fault e report_of. search rules)
