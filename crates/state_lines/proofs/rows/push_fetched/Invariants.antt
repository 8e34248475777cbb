use Rattle.std.proofs.Common.{◌≡◌, ◌++◌, map, take, string_bytes}
use Rattle.archetype_store.specs.Row.{component_of}
use Rattle.query.specs.Term.{term_of}
use Rattle.state_lines.specs.Fetched.{text_of_terms}
use Rattle.state_lines.proofs.rows.push_fetched.Given as goal

-- what the terms so far fetch is written
abbrev pub invariant-loop-term : goal.invariant-loop-term
invariant-loop-term l = string_bytes l.text ≡ string_bytes l.fn.text ++ text_of_terms (map component_of l.components) (map term_of (take l.term-index l.terms))
