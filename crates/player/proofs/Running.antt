-- A run of calls that each play is the plain player's run.
use Rattle.std.proofs.Common.{◌≡◌, ℕ, List, [], ◌∷◌, ◌++◌, fold, map, sym, refl, ◌∙◌, subst, ap₂}
use Rattle.std.proofs.lemmas.List.{map_push}
use Rattle.std.proofs.lemmas.List.Sums.{fold_push}
use Rattle.sources.specs.Streams.{Stream}
use Rattle.player.specs.declared.calls.Answer.{Answer}
use Rattle.player.specs.declared.calls.Call.{Call}
use Rattle.player.specs.Calls.{Asked, asked, Answered, answered}
use Rattle.player.specs.Plain.{plain_place, plain_run}
use Rattle.player.specs.Runs.{EveryRunLawful, RunFrom, begun, went}
use Rattle.player.specs.Standing.{Plays, Standing, Stands}
use Rattle.player.proofs.Laws.{law, run_more}

plain : {T : Type 0} {start after : Standing T} {calls : List (Asked T)} {answers : List (Answered T)} (w : Stream T) → Stands start w 0 → RunFrom start calls answers after → (answers ≡ plain_run w 0 calls) × Stands after w (fold (plain_place w) 0 calls)
plain w h begun = (refl, h)
plain {T} w h (went {calls} {answers} {before} {after} call answer run plays) =
    let e = plain w h run in
    let p = plays w (fold (plain_place w) 0 calls) e.1 in (
      ap₂ (λ xs x. xs ++ x ∷ []) e.0 p.0 ∙ sym (run_more w calls 0 call),
      subst (λ (k : ℕ). Stands after w k) (sym (fold_push (plain_place w) 0 calls call)) p.1,
    )

pub lawful : {T : Type 0} {start : Standing T} (w : Stream T) → Stands start w 0 → EveryRunLawful start w
lawful w h = record { law = λ {calls} {answers} r. law w calls answers (plain w h r).0 }

-- A run whose calls and answers are values goes on by one of each.
pub goes_on : {T : Type 0} {start before after : Standing T} (calls : List (Call T)) (answers more : List (Answer T)) (call : Call T) (answer : Answer T) → more ≡ answers ++ answer ∷ [] → RunFrom start (map asked calls) (map answered answers) before → Plays (asked call) before after (answered answer) → RunFrom start (map asked (calls ++ call ∷ [])) (map answered more) after
goes_on calls answers more call answer e run plays =
    rw e (rw (map_push answered answers answer) (rw (map_push asked calls call) (went (asked call) (answered answer) run plays)))
