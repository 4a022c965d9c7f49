-- Out of memory is reported only where a text has an entry.
use Rattle.std.proofs.Common.{◌≡◌, ◌≢◌, ℕ, List, [], Result, Ok, Err, refl, sym, ◌∙◌, subst}
use Rattle.std.specs.List.{AllZip}
use Rattle.text.specs.Entries.{Holds, entries_of}
use Rattle.text.specs.declared.numbered.Numbered.{Numbered}
use Rattle.settings.specs.declared.settings.Settings.{Settings}
use Rattle.recordings.specs.Pair.{link_opening}
use Rattle.text.specs.Steps.{Says}
use Rattle.text.specs.declared.transcript.step.Step.{Step}
use Rattle.capi.specs.declared.refusal.Refusal.{Refusal}
use Rattle.capi.specs.declared.refusal.Refusal.TheVariants.{Memory}
use Rattle.capi.specs.declared.replaying.Transcript.{Transcript}
use Rattle.capi.specs.Playing.{BothOpened}
use Rattle.capi.specs.Replaying.{Replayed, Tells, TellsOpened, TellsSteps}
use Rattle.capi.specs.Texts.{SaysSteps, Settles}
use Rattle.capi.proofs.SettingsText.{no_entry, none_said}

of_no_steps : (s : Settings) (opened : BothOpened) (t : Result Transcript Refusal) → TellsOpened s [] opened t → t ≢ Err Memory
of_no_steps s (Err (which, e)) t tells is = cc
of_no_steps s (Ok both) (Ok written) tells is = cc
of_no_steps s (Ok both) (Err e) tells is = tells.1 refl

of_no_calls : (s : Settings) (steps : Result (List (Numbered Step)) Refusal) (calls signal gain : List ℕ) (t : Result Transcript Refusal)
    → SaysSteps calls steps → TellsSteps s steps signal gain t → entries_of calls ≡ [] → t ≢ Err Memory
of_no_calls s (Err e) calls signal gain t says tells none is = absurd (no_entry says.first.before says.first.after says.first.entry (sym none ∙ says.first.entries_are))
of_no_calls s (Ok steps) calls signal gain t says tells none is =
    let no_steps = none_said (Holds Says) steps (subst (λ entries. AllZip (Holds Says) entries steps) none says) in
    of_no_steps s (link_opening signal gain) t (subst (λ list. TellsOpened s list (link_opening signal gain) t) no_steps tells) is

of_no_entries : (settings calls signal gain : List ℕ) (made : Result Settings Refusal) (t : Result Transcript Refusal)
    → Settles settings made → Tells made calls signal gain t → entries_of settings ≡ [] → entries_of calls ≡ [] → t ≢ Err Memory
of_no_entries settings calls signal gain (Err e) t settled tells none none' is =
    let stops = settled.makes.stops in
    absurd (no_entry stops.before stops.after stops.entry (sym none ∙ stops.entries_are))
of_no_entries settings calls signal gain (Ok s) t settled tells none none' is = of_no_calls s tells.0 calls signal gain t tells.1 tells.2 none' is

pub replayed : {settings calls signal gain : List ℕ} (made : Result Settings Refusal) {t : Result Transcript Refusal}
    → Settles settings made → Tells made calls signal gain t → Replayed settings calls signal gain t
replayed {settings = settings} {calls = calls} {signal = signal} {gain = gain} made {t = t} settled tells =
    record { made = made; settled = settled; tells = tells; memory = of_no_entries settings calls signal gain made t settled tells }
