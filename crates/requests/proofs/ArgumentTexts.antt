-- The words behind commands.
use Rattle.std.proofs.Common.{◌≡◌, ℕ, ◌-◌, ◌≤◌, List, [], ◌∷◌, length, get_or, map, take, drop, refl, sym, ap, subst, ◌∙◌, arith}
use Rattle.std.proofs.lemmas.List.{take_all}
use Rattle.model.specs.declared.entities.Entity.{Entity as Id}
use Rattle.model.specs.state.Loaded.{Given}
use Rattle.model.specs.sessions.Inputs.Input.{Insert}
use Rattle.kinds.specs.declared.kind.Kind.{Kind}
use Rattle.kinds.specs.Kind.{IsKind, kind_number}
use Rattle.parsing.specs.Reads.{SpellsNone, SpellsOnly}
use Rattle.requests.specs.declared.command.Command.TheVariants as command
use Rattle.requests.specs.Asked.Asked.{Put}
use Rattle.requests.specs.Grammar.{IsId, AreFields, AreArguments}
use Rattle.requests.specs.Parts.{ArePair}

-- what two words alone spell is spelled by no other number of words
pub not_pair : (P : List (List ℕ) → Type 0) (ws : List (List ℕ)) → (P [] → ⊥) → ((w : List ℕ) → P (w ∷ []) → ⊥) → ((w x y : List ℕ) (more : List (List ℕ)) → P (w ∷ x ∷ y ∷ more) → ⊥)
    → SpellsNone ArePair ws → P ws → ⊥
not_pair P [] none one three no_pair h = none h
not_pair P (w ∷ []) none one three no_pair h = one w h
not_pair P (w ∷ x ∷ []) none one three no_pair h = no_pair (w, x) refl
not_pair P (w ∷ x ∷ y ∷ more) none one three no_pair h = three w x y more h

-- two words and more, as places name them
pub of_two_up : {A B : Type 0} (f : A → B) (xs : List A) (d : A) → 2 ≤ length xs → map f xs ≡ f (get_or xs 0 d) ∷ f (get_or xs 1 d) ∷ map f (take (length xs - 2) (drop 2 xs))
of_two_up f [] d l = absurd (omega arith)
of_two_up f (a ∷ []) d l = absurd (omega arith)
of_two_up f (a ∷ b ∷ xs) d l =
    let rest : length (a ∷ b ∷ xs) - 2 ≡ length xs = omega arith in
    ap (λ ys. f a ∷ f b ∷ map f ys) (sym (ap (λ n. take n xs) rest ∙ take_all (length xs) xs (omega arith)))

-- an id and a component
module _ (id name : List ℕ) (ws : List (List ℕ)) where
  pub no_insert : SpellsNone IsId id → SpellsNone (AreArguments command.Insert) (id ∷ name ∷ ws)
  no_insert none v h = none h.0 h.2

  pub only_insert : (e : Id) (kind : Kind) (given : Given) → given.kind ≡ kind_number kind → SpellsOnly IsId id e → SpellsOnly IsKind name kind → SpellsOnly (AreFields (kind_number kind)) ws given.words
      → SpellsOnly (AreArguments command.Insert) (id ∷ name ∷ ws) (Put (Insert e given.kind given.words))
  only_insert e kind given number one named fields = (
    (e, given, one.0, ((kind, named.0, number), subst (λ k. AreFields k given.words ws) (sym number) fields.0), refl),
    λ v h.
        let same : h.1.kind ≡ kind_number kind = h.3.0.2 ∙ ap kind_number (named.1 h.3.0.0 h.3.0.1) in
        let words = fields.1 h.1.words (subst (λ k. AreFields k h.1.words ws) same h.3.1) in
        h.4 ∙ (λ i. Put (Insert (one.1 h.0 h.2 i) ((same ∙ sym number) i) (words i))),
  )
