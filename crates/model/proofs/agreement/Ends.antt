-- The ends of ways, about any relation of places: where two moves from one place can be joined, all ends that are
-- reached from alike places are alike.
use Rattle.std.proofs.Common.{◌⊎◌, inl, inr}

-- what the argument needs of places: an equivalence that moves respect, ends that have no move, and moves that join
pub record Moves (Place : Type 0) : Type 1 where
  pub Move : Place → Place → Type 0
  pub Alike : Place → Place → Type 0
  pub IsEnd : Place → Type 0
  pub alike_sym : (p q : Place) → Alike p q → Alike q p
  pub alike_trans : (p q r : Place) → Alike p q → Alike q r → Alike p r
  pub end_alike : (p q : Place) → Alike p q → IsEnd p → IsEnd q
  pub none_from_end : (p q : Place) → IsEnd p → Move p q → ⊥
  pub carried : (p q r : Place) → Alike p q → Move p r → (l : Place) × Move q l × Alike r l
  pub joined : (p q r : Place) → Move p q → Move p r
      → Alike q r ⊎ ((k : Place) × (l : Place) × Move q k × Move r l × Alike k l)

-- a way of moves
pub data Way {Place : Type 0} (Move : Place → Place → Type 0) : Place → Place → Type 0 where
  Here : (p : Place) → Way Move p p
  Then : (p q r : Place) → Move p q → Way Move q r → Way Move p r

-- a way with a step at its end
pub further : {Place : Type 0} (Move : Place → Place → Type 0) (p q r : Place) → Way Move p q → Move q r → Way Move p r
further Move p q r (Here x) move = Then x r r move (Here r)
further Move p q r (Then x y z first way) move = Then x y r first (further Move y z r way move)

-- a way that leads to a place which is like a given one
pub record LeadsLike {Place : Type 0} (t : Moves Place) (p e : Place) : Type 0 where
  pub last : Place
  pub way : Way t.Move p last
  pub alike : t.Alike e last

-- a way with a step in front
pub one_more : {Place : Type 0} (t : Moves Place) (p q e : Place) → t.Move p q → LeadsLike t q e → LeadsLike t p e
one_more t p q e move r = record { last = r.last; way = Then p q r.last move r.way; alike = r.alike }

-- a way can be gone from a place that is alike
pub carry_way : {Place : Type 0} (t : Moves Place) (p e : Place) → Way t.Move p e → (q : Place) → t.Alike p q → LeadsLike t q e
carry_way t p e (Here r) q alike = record { last = q; way = Here q; alike = alike }
carry_way t p e (Then p1 p2 p3 move way) q alike =
    let c = t.carried p1 q p2 alike move in one_more t q c.0 p3 c.1 (carry_way t p2 p3 way c.0 c.2)

-- what leads like something that is alike
pub leads_alike : {Place : Type 0} (t : Moves Place) (p d e : Place) → t.Alike e d → LeadsLike t p d → LeadsLike t p e
leads_alike t p d e alike r = record { last = r.last; way = r.way; alike = t.alike_trans e d r.last alike r.alike }

-- a way to an end can be gone after any first move
pub re_root : {Place : Type 0} (t : Moves Place) (p e : Place) → Way t.Move p e → t.IsEnd e → (q : Place) → t.Move p q → LeadsLike t q e
re_root t p e (Here r) end q move = absurd (t.none_from_end r q end move)
re_root {Place} t p e (Then p1 p2 p3 other way) end q move = go (λ l step. re_root t p2 p3 way end l step) (t.joined p1 q p2 move other)
  where
    apart : (k l : Place) → t.Move q k → t.Alike k l → LeadsLike t l p3 → LeadsLike t q p3
    apart k l mk alike r = one_more t q k p3 mk
        (leads_alike t k r.last p3 r.alike (carry_way t l r.last r.way k (t.alike_sym k l alike)))

    go : ((l : Place) → t.Move p2 l → LeadsLike t l p3)
        → t.Alike q p2 ⊎ ((k : Place) × (l : Place) × t.Move q k × t.Move p2 l × t.Alike k l) → LeadsLike t q p3
    go again (inl alike) = carry_way t p2 p3 way q (t.alike_sym q p2 alike)
    go again (inr j) = apart j.0 j.1 j.2 j.4 (again j.1 j.3)

-- two ends that are reached from alike places are alike
pub ends_alike : {Place : Type 0} (t : Moves Place) (p e : Place) → Way t.Move p e → t.IsEnd e
    → (q f : Place) → Way t.Move q f → t.IsEnd f → t.Alike p q → t.Alike e f
ends_alike t p e (Here r) end q f (Here u) over alike = alike
ends_alike t p e (Here r) end q f (Then q1 q2 q3 move way) over alike =
    absurd (t.none_from_end q1 q2 (t.end_alike r q1 alike end) move)
ends_alike t p e (Then p1 p2 p3 move way) end q f other over alike =
    let c = t.carried p1 q p2 alike move in
    let r = re_root t q f other over c.0 c.1 in
    t.alike_trans p3 r.last f
    (ends_alike t p2 p3 way end c.0 r.last r.way (t.end_alike f r.last r.alike over) c.2) (t.alike_sym f r.last r.alike)
