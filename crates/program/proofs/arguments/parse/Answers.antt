use Rattle.std.proofs.Common.{rules, ◌≡◌, ℕ, List, ◌∷◌, None, map, string_bytes}
use Rattle.program.specs.declared.failure.Failure.{Failure}
use Rattle.program.specs.Arguments.{Complains, IsNoFlag, Unknown, form_named}
use Rattle.program.proofs.arguments.parse.Goals as goal

complains : (words : List (List ℕ)) (name : List ℕ) (more : List (List ℕ)) (failure : Failure) → words ≡ name ∷ more → form_named name ≡ None → IsNoFlag (name ∷ more) → Unknown name failure → Complains words failure
complains words name more failure split none flag unknown = search rules

pub returns-in-None : goal.returns-in-None
returns-in-None c = complains (map string_bytes c.args.words.now) c.as_str.result.now (map string_bytes c.in-Some.more.now) c.unknown.result (search rules) (search rules) (search rules) (search rules)
