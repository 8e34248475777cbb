-- The words of ids: an index, a v and a generation.
use Rattle.std.proofs.Common.{◌≢◌, ℕ, zero, suc, ◌<◌, List, [], ◌∷◌, length, get_or, Some, None, sym, subst, ap₂, arith}
use Rattle.std.specs.Borrow.{Bor}
use Rattle.std.specs.Char.{digit_value}
use Rattle.std.specs.Str.Parse.{AllDigits}
use Rattle.std.proofs.lemmas.Str.Pattern.{split_parts, split_after, IsSplitOnceResult}
use Rattle.model.specs.declared.entities.Entity.{Entity as Id}
use Rattle.parsing.specs.Reads.{SpellsNone, SpellsOnly}
use Rattle.parsing.specs.Integer.{IsNumber}
use Rattle.requests.specs.Grammar.{IsId}

-- no digit is a v
no_v : (ds : List ℕ) (i : ℕ) → AllDigits 10 ds → i < length ds → get_or ds i 0 ≢ 118
no_v [] i h l e = omega (arith, l)
no_v (d ∷ ds) zero h l e = let low = subst (λ b. digit_value b < 10) e h.0 in omega (arith, low)
no_v (d ∷ ds) (suc i) h l e = no_v ds i h.1 (omega (arith, l)) e

module _ (word : List ℕ) where
  -- a word without a v is no id
  pub no_id : IsSplitOnceResult 118 word None → SpellsNone IsId word
  no_id cut e h = split_after 118 word h.0 h.1 None cut (omega arith) h.4 (λ i l. no_v h.0 i h.2.0.1 l)

  module _ (index generation : Bor (List ℕ)) (cut : IsSplitOnceResult 118 word (Some (index, generation))) where
    -- an id is cut at its v
    parts : (e : Id) → IsId e word → IsNumber e.index index.now × IsNumber e.generation generation.now
    parts e h =
        let s = split_after 118 word h.0 h.1 (Some (index, generation)) cut (omega arith) h.4 (λ i l. no_v h.0 i h.2.0.1 l) in
        (subst (λ ds. IsNumber e.index ds) (sym s.0) h.2, subst (λ ds. IsNumber e.generation ds) (sym s.1) h.3)

    pub only_id : (a b : ℕ) → SpellsOnly IsNumber index.now a → SpellsOnly IsNumber generation.now b → SpellsOnly IsId word (record { index = a; generation = b })
    only_id a b first second = (
      (index.now, generation.now, first.0, second.0, (split_parts 118 word (Some (index, generation)) cut (omega arith)).0),
      λ e h. let p = parts e h in ap₂ (λ x y. record { index = x; generation = y }) (first.1 e.index p.0) (second.1 e.generation p.1),
    )

    pub no_index : SpellsNone IsNumber index.now → SpellsNone IsId word
    no_index none e h = none e.index (parts e h).0

    pub no_generation : SpellsNone IsNumber generation.now → SpellsNone IsId word
    no_generation none e h = none e.generation (parts e h).1
