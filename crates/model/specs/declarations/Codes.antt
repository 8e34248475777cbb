-- How contracts tell declared items apart: each is stored as a tree of numbers that gives it back.
use Rattle.std.specs.Prelude.{ℕ, Bool, refl, List}
use Rattle.std.specs.Coded.{Coded, code_by, coded×, coded_ℕ, coded_bool, coded_list}
use Rattle.model.specs.access.Access.{Params}
use Rattle.model.specs.access.Condition.{Condition}
use Rattle.model.specs.steps.Codes.{condition_code, params_code}
use Rattle.model.specs.declarations.Declarations.{DeclaredItem, DeclaredSystem, DeclaredChain, Declared}

-- a list of names
abbrev Names : Type 0
Names = List (List ℕ)

abbrev names_code : Coded Names
names_code = coded_list (coded_list coded_ℕ)

abbrev pub item_code : Coded DeclaredItem
item_code = code_by (List ℕ × (Names × (Names × (Names × (Names × (Names × (Names × List Condition)))))))
    (coded× (coded_list coded_ℕ) (coded× names_code (coded× names_code (coded× names_code (coded× names_code (coded× names_code (coded× names_code (coded_list condition_code))))))))
    (λ i. (i.name, (i.inside, (i.before, (i.after, (i.before_ignore_deferred, (i.after_ignore_deferred, (i.ambiguous_with, i.conditions))))))))
    (λ p. record { name = p.0; inside = p.1.0; before = p.1.1.0; after = p.1.1.1.0; before_ignore_deferred = p.1.1.1.1.0; after_ignore_deferred = p.1.1.1.1.1.0; ambiguous_with = p.1.1.1.1.1.1.0; conditions = p.1.1.1.1.1.1.1 })
    (λ _. refl)

abbrev pub declared_system_code : Coded DeclaredSystem
declared_system_code = code_by (DeclaredItem × Params) (coded× item_code params_code) (λ s. (s.item, s.params)) (λ p. record { item = p.0; params = p.1 }) (λ _. refl)

abbrev pub chain_code : Coded DeclaredChain
chain_code = code_by (Names × Bool) (coded× names_code coded_bool) (λ c. (c.items, c.ignores_deferred)) (λ p. record { items = p.0; ignores_deferred = p.1 }) (λ _. refl)

abbrev pub declared_code : Coded Declared
declared_code = code_by (List DeclaredItem × (List DeclaredSystem × List DeclaredChain)) (coded× (coded_list item_code) (coded× (coded_list declared_system_code) (coded_list chain_code)))
    (λ d. (d.sets, (d.systems, d.chains))) (λ p. record { sets = p.0; systems = p.1.0; chains = p.1.1 }) (λ _. refl)
