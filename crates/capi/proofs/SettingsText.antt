-- What reading a text of settings answers, told as a refusal.
use Rattle.std.proofs.Common.{◌≡◌, ℕ, List, [], ◌∷◌, ◌++◌, Result, Ok, Err, MatchResult, refl, sym, ap, ◌∙◌, subst}
use Rattle.std.specs.List.{AllZip}
use Rattle.std.specs.Result.{IsErrAnd}
use Rattle.text.specs.Entries.{Holds, entries_of}
use Rattle.settings.specs.Fresh.{fresh}
use Rattle.settings.specs.declared.settings.Settings.{Settings}
use Rattle.text.specs.Files.{Makes, Stops, changed_by}
use Rattle.text.specs.Forms.{Says}
use Rattle.text.specs.declared.settings_file.fault.LineFault.{LineFault}
use Rattle.capi.specs.declared.refusal.Input.TheVariants as inputs
use Rattle.capi.specs.declared.refusal.Refusal.{Refusal}
use Rattle.capi.specs.Texts.{MakesSettings, Settles, stopped_at}

pub none_said : {E A : Type 0} (R : E → A → Type 0) (said : List A) → AllZip R [] said → said ≡ []
none_said R [] h = refl
none_said R (one ∷ more) h = absurd h

pub no_entry : {A : Type 0} (before after : List A) (entry : A) → [] ≡ before ++ entry ∷ after → ⊥
no_entry [] after entry h = cc
no_entry (x ∷ xs) after entry h = cc

-- the empty text has no entries: it says no setting, and none of its lines stops it
made_of_none : (made : Settings) → Makes (entries_of []) fresh made → made ≡ fresh
made_of_none made h = h.made_is ∙ ap (λ said. changed_by said fresh) (none_said (Holds Says) h.said h.hold)

never_stopped : (fault : LineFault) → Stops (entries_of []) fault → ⊥
never_stopped fault h = no_entry h.before h.after h.entry h.entries_are

of_no_text : (r : Result Settings Refusal) → MakesSettings [] r → r ≡ Ok fresh
of_no_text (Ok made) h = ap Ok (made_of_none made h)
of_no_text (Err refusal) h = absurd (never_stopped h.fault h.stops)

settled : (text : List ℕ) (r : Result Settings Refusal) → MakesSettings text r → Settles text r
settled text r makes = record { empty = λ none. of_no_text r (subst (λ t. MakesSettings t r) none makes); makes = makes }

-- settings that were read, or the refusal that tells the fault
pub settles : {Told : LineFault → Refusal → Type 0} (text : List ℕ) (read : Result Settings LineFault) (r : Result Settings Refusal)
    → MatchResult read (Makes (entries_of text) fresh) (Stops (entries_of text))
    → MatchResult read (λ made. r ≡ Ok made) (λ fault. IsErrAnd r (Told fault))
    → ((fault : LineFault) (e : Refusal) → Told fault e → e ≡ stopped_at inputs.Settings fault.line fault.stop)
    → Settles text r
settles text (Ok made) r makes report_of tells = subst (Settles text) (sym report_of) (settled text (Ok made) makes)
settles text (Err fault) (Ok made) stops report_of tells = absurd report_of
settles text (Err fault) (Err e) stops report_of tells = settled text (Err e) (record { fault = fault; stops = stops; refusal_is = tells fault e report_of })
