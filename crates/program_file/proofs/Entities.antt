-- The components of an entity, one more at a time.
use Rattle.std.proofs.Common.{List, [], ◌∷◌, ◌++◌, string_bytes}
use Rattle.toml.specs.View.{view, members_view}
use Rattle.toml.proofs.Views.{Entry}
use Rattle.kinds.specs.declared.value.Value.{Value}
use Rattle.program_file.specs.Tables.{IsComponentIn, IsEntityIn}

-- a component more, of a member more
pub entity-push : (es : List Entry) (e : Entry) (components : List Value) (component : Value) → IsEntityIn (members_view es) components
    → IsComponentIn (string_bytes e.0) (view e.1) component → IsEntityIn (members_view (es ++ e ∷ [])) (components ++ component ∷ [])
entity-push [] e [] component h k = (k, tt)
entity-push [] e (c ∷ cs) component h k = absurd h
entity-push (m ∷ ms) e [] component h k = absurd h
entity-push (m ∷ ms) e (c ∷ cs) component h k = (h.0, entity-push ms e cs component h.1 k)
