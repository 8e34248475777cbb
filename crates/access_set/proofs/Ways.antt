-- Ways to match two queries: what the words of one say, and that choices are found in turn.
use Rattle.std.proofs.Common.{ℕ, ◌<◌, ◌≡◌, Bool, true, false, not, ◌==◌, ◌||◌, cond, inl, inr, List, [], ◌∷◌, ◌++◌, refl, sym, ap, ap₂, ◌∙◌, subst}
use Rattle.std.specs.Prelude.{bit_and, bit_xor}
use Rattle.std.specs.List.{list_any}
use Rattle.std.proofs.lemmas.Bool.{eqb-true, eq-eqb, both_ways, false≢true, false_from_ne_true, and_parts, and_from, or_cases, or_left, or_right, not-true, not_from_false, not_from_true}
use Rattle.model.specs.Lists.{IsIn}
use Rattle.model.specs.access.Query.{Alternative, Term, holds_in}
use Rattle.model.specs.access.Query.Alternative.{Has, Lacks}
use Rattle.model.specs.access.Query.Term.{Entity, Read, Mut, Opt, With, Without, Added, Changed, AnyOf}
use Rattle.model.specs.access.Conflict.{plains, needs, bars, least_kinds, agree, some_way}
use Rattle.model.specs.access.QueryFaults.{requires_kind, excludes_kind}
use Rattle.model.proofs.lists.Lists.{list_any-IsIn, IsIn_from_any, list_all-IsIn, list_all_from}
use Rattle.access_set.specs.declared.footprint.Words.{Words}
use Rattle.access_set.specs.declared.footprint.Way.{Way}
use Rattle.access_set.specs.Footprints.{has_bit, kind_of, AreLow, IsWords, way_of_both, way_with, kinds_met, met_in}
use Rattle.access_set.proofs.Bits.{bit_of_both, bit_of_either, bit_of_rest, no_bit, no_bits, bit_set}
use Rattle.model.proofs.lists.Bools.{or_assoc}

-- ---- alternatives that agree

-- a set of which an alternative holds lacks what the alternative bars
barred_absent : (kinds : ℕ → Bool) (j : ℕ) (a : Alternative) → bars j a ≡ true → holds_in kinds a ≡ true → kinds j ≡ true → ⊥
barred_absent kinds j (Has k) e h there = absurd (false≢true e)
barred_absent kinds j (Lacks k) e h there = both_ways (kinds k) (not-true (kinds k) h) (ap kinds (eqb-true k j e) ∙ there)

-- of those that agree none bars what one needs
pub agree_apart : (taken : List Alternative) → agree taken ≡ true → (j : ℕ) → list_any (needs j) taken ≡ true → list_any (bars j) taken ≡ true → ⊥
agree_apart taken h j needed barred = let b = IsIn_from_any (bars j) taken barred in
    barred_absent (least_kinds taken) j b.0 b.2 (list_all-IsIn (holds_in (least_kinds taken)) b.0 taken h b.1) needed

-- and where none does they agree
pub agree_from_apart : (taken : List Alternative) → ((j : ℕ) → list_any (needs j) taken ≡ true → list_any (bars j) taken ≡ true → ⊥) → agree taken ≡ true
agree_from_apart taken apart = list_all_from (holds_in (least_kinds taken)) taken each
  where
    each : (a : Alternative) → IsIn a taken → holds_in (least_kinds taken) a ≡ true
    each (Has k) inside = list_any-IsIn (needs k) (Has k) taken inside (eq-eqb k k refl)
    each (Lacks k) inside = not_from_false (least_kinds taken k)
        (false_from_ne_true (least_kinds taken k) (λ e. apart k e (list_any-IsIn (bars k) (Lacks k) taken inside (eq-eqb k k refl))))

-- ---- what a query asks without a choice

pub plain_needs : (q : List Term) (k : ℕ) → list_any (needs k) (plains q) ≡ requires_kind q k
plain_needs [] k = refl
plain_needs (Entity ∷ q) k = plain_needs q k
plain_needs (Opt j ∷ q) k = plain_needs q k
plain_needs (AnyOf alternatives ∷ q) k = plain_needs q k
plain_needs (Without j ∷ q) k = plain_needs q k
plain_needs (Read j ∷ q) k = ap (λ b. (j == k) || b) (plain_needs q k)
plain_needs (Mut j ∷ q) k = ap (λ b. (j == k) || b) (plain_needs q k)
plain_needs (With j ∷ q) k = ap (λ b. (j == k) || b) (plain_needs q k)
plain_needs (Added j ∷ q) k = ap (λ b. (j == k) || b) (plain_needs q k)
plain_needs (Changed j ∷ q) k = ap (λ b. (j == k) || b) (plain_needs q k)

pub plain_bars : (q : List Term) (k : ℕ) → list_any (bars k) (plains q) ≡ excludes_kind q k
plain_bars [] k = refl
plain_bars (Entity ∷ q) k = plain_bars q k
plain_bars (Opt j ∷ q) k = plain_bars q k
plain_bars (AnyOf alternatives ∷ q) k = plain_bars q k
plain_bars (Without j ∷ q) k = ap (λ b. (j == k) || b) (plain_bars q k)
plain_bars (Read j ∷ q) k = plain_bars q k
plain_bars (Mut j ∷ q) k = plain_bars q k
plain_bars (With j ∷ q) k = plain_bars q k
plain_bars (Added j ∷ q) k = plain_bars q k
plain_bars (Changed j ∷ q) k = plain_bars q k

any_both : {A : Type 0} (test : A → Bool) (xs ys : List A) → list_any test (xs ++ ys) ≡ (list_any test xs || list_any test ys)
any_both test [] ys = refl
any_both test (x ∷ xs) ys = ap (λ b. test x || b) (any_both test xs ys) ∙ or_assoc (test x) (list_any test xs) (list_any test ys)

-- ---- the words of a way

-- the words are those of alternatives that are all taken
pub record AreTaken (taken : List Alternative) (x : Way) : Type 0 where
  pub required : (kind : ℕ) → has_bit x.required kind ≡ list_any (needs kind) taken
  pub excluded : (kind : ℕ) → has_bit x.excluded kind ≡ list_any (bars kind) taken

-- those of two queries are those of what both ask without a choice
pub both_taken : (q r : List Term) (f g : Words) → IsWords q f → IsWords r g → AreTaken (plains q ++ plains r) (way_of_both f g)
both_taken q r f g is other = record {
  required = λ k. bit_of_either f.required g.required k ∙ (ap₂ (λ a b. a || b) (is.required k ∙ sym (plain_needs q k)) (other.required k ∙ sym (plain_needs r k)) ∙ sym (any_both (needs k) (plains q) (plains r)));
  excluded = λ k. bit_of_either f.excluded g.excluded k ∙ (ap₂ (λ a b. a || b) (is.excluded k ∙ sym (plain_bars q k)) (other.excluded k ∙ sym (plain_bars r k)) ∙ sym (any_both (bars k) (plains q) (plains r)));
}

-- one alternative more
one_more : (a : Alternative) (taken : List Alternative) (x : Way) → kind_of a < 64 → AreTaken taken x → AreTaken (a ∷ taken) (way_with a x)
one_more (Has j) taken x low is = record {
  required = λ k. bit_set x.required j k low ∙ ap (λ b. (j == k) || b) (is.required k);
  excluded = is.excluded;
}
one_more (Lacks j) taken x low is = record {
  required = is.required;
  excluded = λ k. bit_set x.excluded j k low ∙ ap (λ b. (j == k) || b) (is.excluded k);
}

-- a kind of the words is shared, and agrees with what is taken
met_agrees : (shared : ℕ) (taken : List Alternative) (x : Way) → AreTaken taken x → (k : ℕ) → has_bit (kinds_met shared x) k ≡ true
    → (has_bit shared k ≡ true) × (agree (Has k ∷ taken) ≡ true)
met_agrees shared taken x is k h = go (bit_and x.required x.excluded == 0) refl h
  where
    go : (none : Bool) → (bit_and x.required x.excluded == 0) ≡ none → has_bit (cond none (bit_xor shared (bit_and shared x.excluded)) 0) k ≡ true
        → (has_bit shared k ≡ true) × (agree (Has k ∷ taken) ≡ true)
    go false other_way h = absurd (both_ways (has_bit 0 k) (no_bit k) h)
    go true none_both h =
        let parts = and_parts (has_bit shared k) (not (has_bit x.excluded k)) (sym (bit_of_rest shared x.excluded k) ∙ h) in (
          parts.0,
          agree_from_apart (Has k ∷ taken) (λ j needed barred. elim (or_cases (k == j) (list_any (needs j) taken) needed) [
            | inl same ↦ both_ways (has_bit x.excluded k) (not-true (has_bit x.excluded k) parts.1)
                (is.excluded k ∙ subst (λ (i : ℕ). list_any (bars i) taken ≡ true) (sym (eqb-true k j same)) barred)
            | inr needed ↦ both_ways (has_bit 0 j) (no_bit j) (subst (λ (word : ℕ). has_bit word j ≡ true) (eqb-true (bit_and x.required x.excluded) 0 none_both)
                (bit_of_both x.required x.excluded j ∙ and_from (has_bit x.required j) (has_bit x.excluded j) (is.required j ∙ needed) (is.excluded j ∙ barred)))
          ]),
        )

-- and the other way round
agrees_met : (shared : ℕ) (taken : List Alternative) (x : Way) → AreTaken taken x → (k : ℕ) → has_bit shared k ≡ true → agree (Has k ∷ taken) ≡ true
    → has_bit (kinds_met shared x) k ≡ true
agrees_met shared taken x is k there h =
    let none : bit_and x.required x.excluded ≡ 0 = no_bits (bit_and x.required x.excluded) (λ j b.
    let both = and_parts (has_bit x.required j) (has_bit x.excluded j) (sym (bit_of_both x.required x.excluded j) ∙ b) in
    agree_apart (Has k ∷ taken) h j (or_right (k == j) (list_any (needs j) taken) (sym (is.required j) ∙ both.0)) (sym (is.excluded j) ∙ both.1)) in
    ap (λ b. has_bit (cond b (bit_xor shared (bit_and shared x.excluded)) 0) k) (eq-eqb (bit_and x.required x.excluded) 0 none)
    ∙ (bit_of_rest shared x.excluded k
    ∙ and_from (has_bit shared k) (not (has_bit x.excluded k)) there
    (not_from_false (has_bit x.excluded k) (false_from_ne_true (has_bit x.excluded k) (λ b.
    agree_apart (Has k ∷ taken) h k (or_left (k == k) (list_any (needs k) taken) (eq-eqb k k refl)) (sym (is.excluded k) ∙ b)))))

-- ---- choices in turn

-- where no shared kind has a way there is none of the words
pub met_none : (shared : ℕ) (taken : List Alternative) (x : Way) (more : List (List Alternative)) → AreLow more → AreTaken taken x
    → ((k : ℕ) → has_bit shared k ≡ true → some_way k taken more ≡ true → ⊥) → met_in shared x more ≡ false
met_none shared taken x [] low is none =
    not_from_true (kinds_met shared x == 0) (eq-eqb (kinds_met shared x) 0 (no_bits (kinds_met shared x) (λ k h. let p = met_agrees shared taken x is k h in none k p.0 p.1)))
met_none shared taken x (alternatives ∷ more) low is none =
    false_from_ne_true (list_any (λ a. met_in shared (way_with a x) more) alternatives) (λ e.
    let a = IsIn_from_any (λ a. met_in shared (way_with a x) more) alternatives e in
    both_ways (met_in shared (way_with a.0 x) more)
    (met_none shared (a.0 ∷ taken) (way_with a.0 x) more (λ b i. low b (inr i)) (one_more a.0 taken x (low alternatives (inl refl) a.0 a.1) is)
    (λ k b w. none k b (list_any-IsIn (λ a. some_way k (a ∷ taken) more) a.0 alternatives a.1 w)))
    a.2)

-- and where one has a way there is one of the words
pub met_some : (shared : ℕ) (taken : List Alternative) (x : Way) (more : List (List Alternative)) → AreLow more → AreTaken taken x
    → (k : ℕ) → has_bit shared k ≡ true → some_way k taken more ≡ true → met_in shared x more ≡ true
met_some shared taken x [] low is k there w =
    not_from_false (kinds_met shared x == 0) (false_from_ne_true (kinds_met shared x == 0) (λ z.
    both_ways (has_bit 0 k) (no_bit k) (subst (λ (word : ℕ). has_bit word k ≡ true) (eqb-true (kinds_met shared x) 0 z) (agrees_met shared taken x is k there w))))
met_some shared taken x (alternatives ∷ more) low is k there w =
    let a = IsIn_from_any (λ a. some_way k (a ∷ taken) more) alternatives w in
    list_any-IsIn (λ a. met_in shared (way_with a x) more) a.0 alternatives a.1
    (met_some shared (a.0 ∷ taken) (way_with a.0 x) more (λ b i. low b (inr i)) (one_more a.0 taken x (low alternatives (inl refl) a.0 a.1) is) k there a.2)
