use Rattle.std.proofs.Common.{◌≡◌, ℕ, ◌≤◌, Some, sym, arith, rules, subst, ap, ◌∙◌, refl}
use Rattle.std.specs.Option.{option_copied}
use Rattle.std.specs.BTreeMap.{get_by_text}
use Rattle.model.specs.declarations.Declarations.{DeclaredItem, name_of}
use Rattle.model.specs.declarations.Refusals.{RepeatsName}
use Rattle.schedule_builder.proofs.Lookups.{repeats, repeats_not}
use Rattle.schedule_builder.proofs.names.first_repeated.Goals.{in-Some+else-first-number, in_default}
use Rattle.schedule_builder.proofs.names.first_repeated.Goals as goal

pub returns-then-first-number-clause-found : goal.returns-then-first-number-clause-found
returns-then-first-number-clause-found c =
    let named = ap (λ (i : DeclaredItem). i.name) c.item.ensures in
    (omega arith, repeats c.args.desc.now c.args.places.now c.loop-number.number c.in-Some.first.now c.requires (rw (sym named, sym c.name.ensures) (search rules)) (omega arith), c.loop-number.invariant)

pub loop-number-preserved : goal.loop-number-preserved
loop-number-preserved c = λ m l r.
    let d = c.args.desc.now in
    let number : ℕ = c.loop-number.number in
    let named = ap (λ (i : DeclaredItem). i.name) c.item.ensures in
    let high : (p : ℕ) → get_by_text c.args.places.now (name_of d number) ≡ Some p → number ≤ p =
    elim c.match-get.branch [
      | in-Some+else-first-number w ↦ λ p e.
          let both : Some w.in-Some.first.now ≡ Some p = w.in-Some.ensures.value ∙ (ap (get_by_text c.args.places.now) (c.name.ensures ∙ named) ∙ e) in
          let same : w.in-Some.first.now ≡ p = cc in
          omega arith
      | in_default w ↦ λ p e.
          let none : option_copied c.get.result ≡ Some p = c.get.ensures.value ∙ (ap (get_by_text c.args.places.now) (c.name.ensures ∙ named) ∙ e) in
          search rules
    ] in
    let at : m ≡ number → ⊥ = λ e.
    repeats_not d c.args.places.now number c.requires (omega arith) (get_by_text c.args.places.now (name_of d number)) refl high (let P : ℕ → Type 0 = RepeatsName d in subst P e r) in
    c.loop-number.invariant m (omega (arith, at)) r

pub returns-clause-none : goal.returns-clause-none
returns-clause-none c = λ n l. c.loop-number.invariant n (omega arith)
