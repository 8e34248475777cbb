-- Components, one behind the other.
use Rattle.std.proofs.Common.{◌≡◌, ℕ, zero, suc, ◌+◌, ◌-◌, ◌<◌, ◌≤◌, List, [], ◌∷◌, ◌++◌, length, map, take, drop, refl, sym, ap, ap₂, subst, ◌∙◌, arith, append_assoc, length-append, length-take}
use Rattle.std.proofs.Math.Seq.{take-append_seam, drop-append_seam, take-add}
use Rattle.std.proofs.lemmas.List.{append-nil, drop-drop, drop_all, take_all, length-drop, drop-map}
use Rattle.std.specs.List.{AllZip}
use Rattle.std.proofs.lemmas.Slice.Zip.{AllZip-long}
use Rattle.model.specs.state.Loaded.{Given}
use Rattle.kinds.specs.declared.kind.Kind.{Kind}
use Rattle.kinds.specs.Kind.{IsKind, kind_number}
use Rattle.kinds.specs.Components.{widths}
use Rattle.parsing.specs.Reads.{SpellsNone, SpellsOnly}
use Rattle.parsing.specs.Integer.{IsInteger}
use Rattle.requests.specs.Grammar.{AreFields, AreComponent, AreComponents}
use Rattle.requests.specs.Parts.{BeginsWithComponent}

-- ---- the first component

-- what a component at the front of words is made of
record Front (first : Given × ℕ) (name : List ℕ) (bs : List (List ℕ)) : Type 0 where
  kind : Kind
  named : IsKind kind name
  number : first.0.kind ≡ kind_number kind
  count : first.1 ≡ widths (kind_number kind) + 1
  room : widths (kind_number kind) ≤ length bs
  fields : AreFields (kind_number kind) first.0.words (take (widths (kind_number kind)) bs)

front_of : (given : Given) (n : ℕ) (name : List ℕ) (bs : List (List ℕ)) → BeginsWithComponent (given, n) (name ∷ bs) → Front (given, n) name bs
front_of given zero name bs h = absurd h.0
front_of given (suc n) name bs h =
    let kind = h.0.0.0 in
    let number : given.kind ≡ kind_number kind = h.0.0.2 in
    let long = AllZip-long IsInteger given.words (take n bs) h.0.1.0 in
    let width : length given.words ≡ widths (kind_number kind) = h.0.1.1 ∙ ap widths number in
    let taken = length-take n bs in
    let same : n ≡ widths (kind_number kind) = omega (arith, long, width, taken, h.1) in
    record {
      kind = kind;
      named = h.0.0.1;
      number = number;
      count = omega (arith, same);
      room = omega (arith, same, h.1);
      fields = (subst (λ m. AllZip IsInteger given.words (take m bs)) same h.0.1.0, width);
    }

module _ (name : List ℕ) (bs : List (List ℕ)) where
  -- words whose first names no kind begin with no component
  pub no_kind : SpellsNone IsKind name → SpellsNone BeginsWithComponent (name ∷ bs)
  no_kind none first h = let f = front_of first.0 first.1 name bs h in none f.kind f.named

  module _ (kind : Kind) (named : SpellsOnly IsKind name kind) where
    of_kind : (first : Given × ℕ) (h : BeginsWithComponent first (name ∷ bs))
        → (first.0.kind ≡ kind_number kind) × (first.1 ≡ widths (kind_number kind) + 1) × (widths (kind_number kind) ≤ length bs) × AreFields (kind_number kind) first.0.words (take (widths (kind_number kind)) bs)
    of_kind first h =
        let f = front_of first.0 first.1 name bs h in
        let same = named.1 f.kind f.named in
        subst (λ k. (first.0.kind ≡ kind_number k) × (first.1 ≡ widths (kind_number k) + 1) × (widths (kind_number k) ≤ length bs) × AreFields (kind_number k) first.0.words (take (widths (kind_number k)) bs)) same (f.number, f.count, f.room, f.fields)

    -- too few words
    pub no_room : length bs < widths (kind_number kind) → SpellsNone BeginsWithComponent (name ∷ bs)
    no_room few first h = let k = of_kind first h in omega (arith, few, k.2)

    -- words that are no fields
    pub no_fields : (fields : List (List ℕ)) → fields ≡ take (widths (kind_number kind)) bs → SpellsNone (AreFields (kind_number kind)) fields → SpellsNone BeginsWithComponent (name ∷ bs)
    no_fields fields is none first h = let k = of_kind first h in none first.0.words (subst (λ ws. AreFields (kind_number kind) first.0.words ws) (sym is) k.3)

    -- a component
    pub only_component : (fields : List (List ℕ)) (given : Given) → fields ≡ take (widths (kind_number kind)) bs → widths (kind_number kind) ≤ length bs
        → given.kind ≡ kind_number kind → SpellsOnly (AreFields (kind_number kind)) fields given.words → SpellsOnly BeginsWithComponent (name ∷ bs) (given, widths (kind_number kind) + 1)
    only_component fields given is room number only =
        let width : ℕ = widths (kind_number kind) in
        let next : suc width ≡ width + 1 = omega arith in
        let spelled : AreComponent given (name ∷ take width bs) = (
          (kind, named.0, number),
          subst (λ k. AreFields k given.words (take width bs)) (sym number) (subst (λ ws. AreFields (kind_number kind) given.words ws) is only.0),
        ) in (
          (subst (λ n. AreComponent given (take n (name ∷ bs))) next spelled, omega (arith, room)),
          λ first h.
              let k = of_kind first h in
              let words = only.1 first.0.words (subst (λ ws. AreFields (kind_number kind) first.0.words ws) (sym is) k.3) in
              ap₂ (λ g n. (g, n)) (ap₂ (λ x y. record { kind = x; words = y }) (k.0 ∙ sym number) words) k.1,
        )

-- ---- components, one behind the other

-- one more at the end
components_more : (xs : List Given) (front words : List (List ℕ)) (g : Given) → AreComponents xs front → AreComponent g words → AreComponents (xs ++ g ∷ []) (front ++ words)
components_more [] front words g h k = (words, [], ap (λ l. l ++ words) h ∙ sym (append-nil words), k, refl)
components_more (x ∷ xs) front words g h k =
    (h.0, h.1 ++ words, ap (λ l. l ++ words) h.2 ∙ append_assoc h.0 h.1 words, h.3, components_more xs h.1 words g h.4 k)

-- no component is made of no word
not_empty : (g : Given) (front rest : List (List ℕ)) → [] ≡ front ++ rest → AreComponent g front → ⊥
not_empty g [] rest e h = h
not_empty g (w ∷ front) rest e h = cc

no_more : (more : List Given) → AreComponents more [] → more ≡ []
no_more [] h = refl
no_more (g ∷ more) h = absurd (not_empty g h.0 h.1 h.2 h.3)

begins : (g : Given) (front rest words : List (List ℕ)) → words ≡ front ++ rest → AreComponent g front → BeginsWithComponent (g, length front) words
begins g front rest words e h = (
  subst (λ ws. AreComponent g ws) (sym (ap (take (length front)) e ∙ take-append_seam front rest)) h,
  omega (arith, ap length e, length-append front rest),
)

-- what was read of words, so far: of the first ones these components, and whatever else the words spell goes on from there
pub record HasRead (words : List (List ℕ)) (taken : ℕ) (xs : List Given) : Type 0 where
  pub within : taken ≤ length words
  pub read : AreComponents xs (take taken words)
  pub only : (v : List Given) → AreComponents v words → (more : List Given) × (v ≡ xs ++ more) × AreComponents more (drop taken words)

pub read_nothing : (words : List (List ℕ)) → HasRead words 0 []
read_nothing words = record { within = omega arith; read = refl; only = λ v h. (v, refl, h) }

-- what begins behind what was read
behind : (words : List (List ℕ)) (taken : ℕ) (more : List Given) → taken < length words → AreComponents more (drop taken words)
    → (g : Given) × (others : List Given) × (front : List (List ℕ)) × (rest : List (List ℕ)) × (more ≡ g ∷ others) × (drop taken words ≡ front ++ rest) × AreComponent g front × AreComponents others rest
behind words taken [] low h = let long = length-drop taken words in absurd (omega (arith, low, long, ap length h))
behind words taken (g ∷ others) low h = (g, others, h.0, h.1, refl, h.2, h.3, h.4)

module _ (words : List (List ℕ)) (taken : ℕ) (xs : List Given) (h : HasRead words taken xs) where
  -- one component more
  pub read_more : (g : Given) (count : ℕ) → taken < length words → SpellsOnly BeginsWithComponent (drop taken words) (g, count) → HasRead words (taken + count) (xs ++ g ∷ [])
  read_more g count low one = record {
    within = let long = length-drop taken words in omega (arith, low, long, one.0.1);
    read = subst (λ ws. AreComponents (xs ++ g ∷ []) ws) (sym (take-add taken count words)) (components_more xs (take taken words) (take count (drop taken words)) g h.read one.0.0);
    only = λ v spelled.
        let k = h.only v spelled in
        let b = behind words taken k.0 low k.2 in
        let same = one.1 (b.0, length b.2) (begins b.0 b.2 b.3 (drop taken words) b.5 b.6) in
        let first : b.0 ≡ g = ap (λ (p : Given × ℕ). p.0) same in
        let number : length b.2 ≡ count = ap (λ (p : Given × ℕ). p.1) same in
        let rest : b.3 ≡ drop (taken + count) words =
        sym (drop-append_seam b.2 b.3) ∙ (ap (λ (n : ℕ). drop n (b.2 ++ b.3)) number ∙ (ap (drop count) (sym b.5) ∙ drop-drop count taken words)) in (
          b.1,
          k.1 ∙ (ap (λ l. xs ++ l) (b.4 ∙ ap (λ x. x ∷ b.1) first) ∙ sym (append_assoc xs (g ∷ []) b.1)),
          subst (λ ws. AreComponents b.1 ws) rest b.7,
        );
  }

  -- nothing begins there
  pub read_none : taken < length words → SpellsNone BeginsWithComponent (drop taken words) → SpellsNone AreComponents words
  read_none low none v spelled =
      let k = h.only v spelled in
      let b = behind words taken k.0 low k.2 in
      none (b.0, length b.2) (begins b.0 b.2 b.3 (drop taken words) b.5 b.6)

  -- all was read
  pub read_all : length words ≤ taken → SpellsOnly AreComponents words xs
  read_all all = (
    subst (λ ws. AreComponents xs ws) (take_all taken words all) h.read,
    λ v spelled.
        let k = h.only v spelled in
        let none = no_more k.0 (subst (λ ws. AreComponents k.0 ws) (drop_all taken words all) k.2) in
        k.1 ∙ (ap (λ l. xs ++ l) none ∙ append-nil xs),
  )

-- ---- slices

-- what a slice from a place on has
pub slice_behind : {A B : Type 0} (f : A → B) (xs : List A) (n : ℕ) → map f (take (length xs - n) (drop n xs)) ≡ drop n (map f xs)
slice_behind f xs n = let long = length-drop n xs in ap (map f) (take_all (length xs - n) (drop n xs) (omega (arith, long))) ∙ sym (drop-map f n xs)
