-- States that are kept under the same names and agree do so with one more kept, and with one let go.
use Rattle.std.proofs.Common.{◌≡◌, ℕ, zero, suc, Bool, true, false, ◌||◌, cond, nat_lt, List, [], ◌∷◌, ◌++◌, length, map, set, Option, Some, None, option_map, is_some, refl, sym, ap, ap₂, ◌∙◌, subst, subst₂}
use Rattle.std.specs.List.{find, position, remove}
use Rattle.std.specs.Option.{option_map_or}
use Rattle.std.specs.Str.{bytes_eq}
use Rattle.std.proofs.lemmas.List.{length-map}
use Rattle.model.specs.state.Agreement.{Agrees}
use Rattle.model.specs.state.State.{State}
use Rattle.model.specs.steps.Schedule.{Schedule}
use Rattle.model.proofs.agreement.Agreement.{agrees_sym}
use Rattle.session.specs.Lockstep.{MarksAgree}
use Rattle.session.specs.Marks.{can_keep, is_kept, is_named, kept_at, with_mark, without}
use Rattle.session.proofs.Kept.{kept_nowhere, position-map}

-- a name with a state
abbrev Mark : Type 0
Mark = List ℕ × State

-- the names
abbrev names_of : List Mark → List (List ℕ)
names_of marks = map (λ (mark : Mark). mark.0) marks

-- ---- names

-- they are the same
names_alike : (s : Schedule) (marks others : List Mark) → MarksAgree s marks others → names_of marks ≡ names_of others
names_alike s [] [] agree = refl
names_alike s [] (other ∷ others) agree = absurd agree
names_alike s (mark ∷ marks) [] agree = absurd agree
names_alike s (mark ∷ marks) (other ∷ others) agree = ap₂ ◌∷◌ agree.0 (names_alike s marks others agree.2)

-- the place of a name among names
place_among : (name : List ℕ) (marks : List Mark) → position (is_named name) marks ≡ position (λ n. bytes_eq n name) (names_of marks)
place_among name marks = sym (position-map (λ n. bytes_eq n name) (λ (mark : Mark). mark.0) marks)

-- a name has the same place
place_alike : (s : Schedule) (name : List ℕ) (marks others : List Mark) → MarksAgree s marks others → position (is_named name) marks ≡ position (is_named name) others
place_alike s name marks others agree =
    place_among name marks ∙ ap (position (λ n. bytes_eq n name)) (names_alike s marks others agree) ∙ sym (place_among name others)

-- as many are kept
count_alike : (s : Schedule) (marks others : List Mark) → MarksAgree s marks others → length marks ≡ length others
count_alike s marks others agree =
    sym (length-map marks (λ (mark : Mark). mark.0)) ∙ ap (λ (names : List (List ℕ)). length names) (names_alike s marks others agree) ∙ length-map others (λ (mark : Mark). mark.0)

-- a name is kept in both or in neither
pub is_kept_alike : (s : Schedule) (name : List ℕ) (marks others : List Mark) → MarksAgree s marks others → is_kept name marks ≡ is_kept name others
is_kept_alike s name marks others agree = ap is_some (place_alike s name marks others agree)

-- there is room in both or in neither
pub can_keep_alike : (s : Schedule) (name : List ℕ) (marks others : List Mark) → MarksAgree s marks others → can_keep name marks ≡ can_keep name others
can_keep_alike s name marks others agree =
    ap₂ (λ kept count. kept || nat_lt count 64) (is_kept_alike s name marks others agree) (count_alike s marks others agree)

-- ---- states

-- either way
pub marks_agree_sym : (s : Schedule) (marks others : List Mark) → MarksAgree s marks others → MarksAgree s others marks
marks_agree_sym s [] [] agree = tt
marks_agree_sym s [] (other ∷ others) agree = absurd agree
marks_agree_sym s (mark ∷ marks) [] agree = absurd agree
marks_agree_sym s (mark ∷ marks) (other ∷ others) agree = (sym agree.0, agrees_sym s mark.1 other.1 agree.1, marks_agree_sym s marks others agree.2)

-- one in another's place
set_alike : (s : Schedule) (name : List ℕ) (v w : State) (marks others : List Mark) (i : ℕ) → Agrees s v w → MarksAgree s marks others → MarksAgree s (set marks i (name, v)) (set others i (name, w))
set_alike s name v w [] [] i same agree = tt
set_alike s name v w [] (other ∷ others) i same agree = absurd agree
set_alike s name v w (mark ∷ marks) [] i same agree = absurd agree
set_alike s name v w (mark ∷ marks) (other ∷ others) zero same agree = (refl, same, agree.2)
set_alike s name v w (mark ∷ marks) (other ∷ others) (suc i) same agree = (agree.0, agree.1, set_alike s name v w marks others i same agree.2)

-- one behind the others
behind_alike : (s : Schedule) (name : List ℕ) (v w : State) (marks others : List Mark) → Agrees s v w → MarksAgree s marks others → MarksAgree s (marks ++ (name, v) ∷ []) (others ++ (name, w) ∷ [])
behind_alike s name v w [] [] same agree = (refl, same, tt)
behind_alike s name v w [] (other ∷ others) same agree = absurd agree
behind_alike s name v w (mark ∷ marks) [] same agree = absurd agree
behind_alike s name v w (mark ∷ marks) (other ∷ others) same agree = (agree.0, agree.1, behind_alike s name v w marks others same agree.2)

-- one less
removed_alike : (s : Schedule) (marks others : List Mark) (i : ℕ) → MarksAgree s marks others → MarksAgree s (remove marks i) (remove others i)
removed_alike s [] [] zero agree = tt
removed_alike s [] [] (suc i) agree = tt
removed_alike s [] (other ∷ others) i agree = absurd agree
removed_alike s (mark ∷ marks) [] i agree = absurd agree
removed_alike s (mark ∷ marks) (other ∷ others) zero agree = agree.2
removed_alike s (mark ∷ marks) (other ∷ others) (suc i) agree = (agree.0, agree.1, removed_alike s marks others i agree.2)

-- one is kept
pub with_mark_alike : (s : Schedule) (name : List ℕ) (v w : State) (marks others : List Mark) → Agrees s v w → MarksAgree s marks others → MarksAgree s (with_mark name v marks) (with_mark name w others)
with_mark_alike s name v w marks others same agree =
    subst (λ place. MarksAgree s (with_mark name v marks) (option_map_or (λ p. set others p (name, w)) place (others ++ (name, w) ∷ []))) (place_alike s name marks others agree)
    (go (position (is_named name) marks))
  where
    go : (place : Option ℕ) → MarksAgree s (option_map_or (λ p. set marks p (name, v)) place (marks ++ (name, v) ∷ [])) (option_map_or (λ p. set others p (name, w)) place (others ++ (name, w) ∷ []))
    go None = behind_alike s name v w marks others same agree
    go (Some place) = set_alike s name v w marks others place same agree

-- one is let go
pub without_alike : (s : Schedule) (name : List ℕ) (marks others : List Mark) → MarksAgree s marks others → MarksAgree s (without name marks) (without name others)
without_alike s name marks others agree =
    subst (λ place. MarksAgree s (without name marks) (option_map_or (remove others) place others)) (place_alike s name marks others agree) (go (position (is_named name) marks))
  where
    go : (place : Option ℕ) → MarksAgree s (option_map_or (remove marks) place marks) (option_map_or (remove others) place others)
    go None = agree
    go (Some place) = removed_alike s marks others place agree

-- what is kept under a name agrees
pub kept_alike : (s : Schedule) (name : List ℕ) (marks others : List Mark) (v w : State) → MarksAgree s marks others → kept_at name marks ≡ Some v → kept_at name others ≡ Some w → Agrees s v w
kept_alike s name [] [] v w agree here there = let none : None ≡ Some v = here in absurd (cc)
kept_alike s name [] (other ∷ others) v w agree here there = absurd agree
kept_alike s name (mark ∷ marks) [] v w agree here there = absurd agree
kept_alike s name (mark ∷ marks) (other ∷ others) v w agree here there =
    go (bytes_eq mark.0 name) here (subst (λ (n : List ℕ). option_map (λ (m : Mark). m.1) (cond (bytes_eq n name) (Some other) (find (is_named name) others)) ≡ Some w) (sym agree.0) there)
    (kept_alike s name marks others v w agree.2)
  where
    go : (named : Bool) → option_map (λ (m : Mark). m.1) (cond named (Some mark) (find (is_named name) marks)) ≡ Some v
        → option_map (λ (m : Mark). m.1) (cond named (Some other) (find (is_named name) others)) ≡ Some w
        → (kept_at name marks ≡ Some v → kept_at name others ≡ Some w → Agrees s v w) → Agrees s v w
    go true p q rest =
        let first : mark.1 ≡ v = cc in
        let second : other.1 ≡ w = cc in
        subst₂ (λ (x y : State). Agrees s x y) first second agree.1
    go false p q rest = rest p q

-- a name under which a state is kept has a place
pub has_place : (name : List ℕ) (marks : List Mark) (state : State) → kept_at name marks ≡ Some state → is_kept name marks ≡ true
has_place name marks state kept = go (position (is_named name) marks) refl
  where
    go : (place : Option ℕ) → position (is_named name) marks ≡ place → is_some place ≡ true
    go (Some i) is = refl
    go None is =
        let none : kept_at name marks ≡ None = kept_nowhere name marks is in
        absurd (cc)
