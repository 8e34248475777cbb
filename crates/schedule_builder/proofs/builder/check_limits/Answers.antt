use Rattle.std.proofs.Common.{ℕ, List, Bor, length, map, inl, inr, refl, subst, sym, ap, ◌∙◌, ◌≡◌, ◌≤◌, ◌<◌}
use Rattle.std.proofs.lemmas.List.{length-map}
use Rattle.model.specs.declarations.Declarations.{Declared, DeclaredItem, DeclaredSystem, declared_conditions}
use Rattle.run_condition.specs.declared.cond.Cond.{Cond}
use Rattle.schedule_builder.specs.Asked.{asked_of}
use Rattle.schedule_builder.proofs.Askings.{asked_count}
use Rattle.schedule_builder.proofs.builder.check_limits.Goals as goal

-- as many conditions are read as are declared
counted : (d : Declared) (conditions : List (Bor Cond)) → map (λ c. c.now) conditions ≡ asked_of d → length conditions ≡ length (declared_conditions d)
counted d conditions asked = sym (length-map conditions (λ c. c.now)) ∙ (ap length asked ∙ asked_count d)

pub returns-then-systems-gt-SYSTEMS-clause-refused : goal.returns-then-systems-gt-SYSTEMS-clause-refused
returns-then-systems-gt-SYSTEMS-clause-refused c =
    let many = subst (λ (xs : List DeclaredSystem). 256 < length xs) c.systems.ensures c.if-systems-gt-SYSTEMS.true in
    (c.requires.ordered, c.requires.apart, c.requires.good, c.requires.good_conditions, c.requires.reading, inl (many, refl))

pub returns-then-sets-gt-SETS-clause-refused : goal.returns-then-sets-gt-SETS-clause-refused
returns-then-sets-gt-SETS-clause-refused c =
    let systems = subst (λ (xs : List DeclaredSystem). length xs ≤ 256) c.systems.ensures c.if-systems-gt-SYSTEMS.false in
    let many = subst (λ (xs : List DeclaredItem). 64 < length xs) c.sets.ensures c.if-sets-gt-SETS.true in
    (c.requires.ordered, c.requires.apart, c.requires.good, c.requires.good_conditions, c.requires.reading, inr (inl (systems, many, refl)))

pub returns-then-conditions-gt-CONDITIONS-clause-refused : goal.returns-then-conditions-gt-CONDITIONS-clause-refused
returns-then-conditions-gt-CONDITIONS-clause-refused c =
    let systems = subst (λ (xs : List DeclaredSystem). length xs ≤ 256) c.systems.ensures c.if-systems-gt-SYSTEMS.false in
    let sets = subst (λ (xs : List DeclaredItem). length xs ≤ 64) c.sets.ensures c.if-sets-gt-SETS.false in
    let many = subst (λ (n : ℕ). 512 < n) (counted c.args.desc.now c.args.conditions.now c.requires.asked) c.if-conditions-gt-CONDITIONS.true in
    (c.requires.ordered, c.requires.apart, c.requires.good, c.requires.good_conditions, c.requires.reading, inr (inr (inl (systems, sets, many, refl))))

pub returns-then-has_too_many_queries-clause-refused : goal.returns-then-has_too_many_queries-clause-refused
returns-then-has_too_many_queries-clause-refused c =
    let systems = subst (λ (xs : List DeclaredSystem). length xs ≤ 256) c.systems.ensures c.if-systems-gt-SYSTEMS.false in
    let sets = subst (λ (xs : List DeclaredItem). length xs ≤ 64) c.sets.ensures c.if-sets-gt-SETS.false in
    let conditions = subst (λ (n : ℕ). n ≤ 512) (counted c.args.desc.now c.args.conditions.now c.requires.asked) c.if-conditions-gt-CONDITIONS.false in
    (c.requires.ordered, c.requires.apart, c.requires.good, c.requires.good_conditions, c.requires.reading, inr (inr (inr (inl (systems, sets, conditions, c.if-has_too_many_queries.ensures, refl)))))

pub returns-then-has_too_many_spawns-clause-refused : goal.returns-then-has_too_many_spawns-clause-refused
returns-then-has_too_many_spawns-clause-refused c =
    let systems = subst (λ (xs : List DeclaredSystem). length xs ≤ 256) c.systems.ensures c.if-systems-gt-SYSTEMS.false in
    let sets = subst (λ (xs : List DeclaredItem). length xs ≤ 64) c.sets.ensures c.if-sets-gt-SETS.false in
    let conditions = subst (λ (n : ℕ). n ≤ 512) (counted c.args.desc.now c.args.conditions.now c.requires.asked) c.if-conditions-gt-CONDITIONS.false in
    (c.requires.ordered, c.requires.apart, c.requires.good, c.requires.good_conditions, c.requires.reading, inr (inr (inr (inr (systems, sets, conditions, c.if-has_too_many_queries.ensures, c.if-has_too_many_spawns.ensures, refl)))))

pub returns-clause-within : goal.returns-clause-within
returns-clause-within c = record {
  systems = subst (λ (xs : List DeclaredSystem). length xs ≤ 256) c.systems.ensures c.if-systems-gt-SYSTEMS.false;
  sets = subst (λ (xs : List DeclaredItem). length xs ≤ 64) c.sets.ensures c.if-sets-gt-SETS.false;
  conditions = subst (λ (n : ℕ). n ≤ 512) (counted c.args.desc.now c.args.conditions.now c.requires.asked) c.if-conditions-gt-CONDITIONS.false;
  queries = c.if-has_too_many_queries.ensures;
  spawns = c.if-has_too_many_spawns.ensures;
}
