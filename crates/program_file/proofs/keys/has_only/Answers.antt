use Rattle.std.proofs.Common.{String, Global, string_bytes, rules, tests}
use Rattle.std.proofs.lemmas.Iterator.{cases_from_all}
use Rattle.std.proofs.lemmas.Iterator.Consumers.{YieldsList-from_rest}
use Rattle.std.specs.Map.{keys_of}
use Rattle.program_file.specs.Among.{IsAmong}
use Rattle.program_file.proofs.Known.{has_only-from_cases}
use Rattle.program_file.proofs.keys.has_only.Goals as goal

-- each key was looked at, or one was found that is not known
pub returns : goal.returns
returns c =
    let names = c.args.known.now in
    let entries = c.args.table.now.entries in
    has_only-from_cases _ names entries
    (cases_from_all _ _ _ (λ (key : String Global). IsAmong (string_bytes key) names) (λ (key : String Global). IsAmong (string_bytes key) names → ⊥) c.all.ensures.ran
    (YieldsList-from_rest (keys_of entries) cc) (λ x q k. search (rules, tests)) (λ x q k. search (rules, tests)))
