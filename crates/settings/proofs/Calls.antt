-- The end of a setting call, from what its check made of the numbers.
use Rattle.std.proofs.Common.{◌≡◌, ℕ, List, ℤ, Ok, Result, ap, ◌∙◌}
use Rattle.std.proofs.ByRecursion.{all_from_every}
use denote.Struct.Props.{props}
use Rattle.settings.specs.declared.settings.RawPath.{RawPath}
use Rattle.settings.specs.declared.refusal.SettingRefusal.{SettingRefusal}
use Rattle.settings.specs.declared.refusal.SettingRefusal.TheVariants.{PathOutside, EntryOutside}
use Rattle.settings.specs.declared.settings.Settings.{Settings}
use Rattle.settings.specs.Changes.{answer, after}
use Rattle.settings.specs.Firsts.{PathsAnswer, TableAnswer}
use Rattle.settings.specs.Lists.{Near, near, few, checked_paths, Amplitude, amplitude, long, checked_table}
use Rattle.settings.proofs.Decided.{list_made, whole_refused, element_refused}

pub put_in : {X : Type 0} (made : Result X SettingRefusal) (put : X → Settings → Settings) (s : Settings) (x : X) → Ok x ≡ made → put x s ≡ after made put s
put_in {X} made put s x e = ap (λ (r : Result X SettingRefusal). after r put s) e

-- the answer to a call that sets the paths, by the first wrong one
pub paths_answer : (ps : List RawPath) (r : Result (Unit {0}) SettingRefusal) → r ≡ answer (checked_paths ps) → PathsAnswer ps r
paths_answer ps r e =
    record {
      wrong_count = λ n. e ∙ ap answer (whole_refused near PathOutside (few ps) (PathOutside 10) ps _ n);
      long_delay = λ h k f. e ∙ ap answer (element_refused near PathOutside (few ps) (PathOutside 10) ps _ h k f);
      all_right = λ h right. e ∙ ap answer (list_made near PathOutside (few ps) (PathOutside 10) ps _ (hlevel props) (λ p. hlevel props) h (all_from_every Near ps right));
    }

-- the same of the amplifier's table
pub table_answer : (amps : List ℕ) (phases : List ℤ) (r : Result (Unit {0}) SettingRefusal) → r ≡ answer (checked_table amps phases) → TableAnswer amps phases r
table_answer amps phases r e =
    record {
      wrong_length = λ n. e ∙ ap answer (whole_refused amplitude EntryOutside (long amps phases) (EntryOutside 513) amps _ n);
      high_amplitude = λ h k f. e ∙ ap answer (element_refused amplitude EntryOutside (long amps phases) (EntryOutside 513) amps _ h k f);
      all_right = λ h right. e ∙ ap answer (list_made amplitude EntryOutside (long amps phases) (EntryOutside 513) amps _ (hlevel props) (λ a. hlevel props) h (all_from_every Amplitude amps right));
    }
