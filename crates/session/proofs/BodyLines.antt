-- Lines that follow a request, one by one.
use Rattle.std.proofs.Common.{◌≡◌, ℕ, ◌+◌, ◌<◌, List, [], ◌∷◌, ◌++◌, length, flat_map, Option, Some, None, Result, Ok, Err, refl, sym, ap, ◌∙◌, subst, arith}
use Rattle.std.specs.Prelude.{IfSome}
use Rattle.std.specs.Io.KnownBytes.{Consumes}
use Rattle.std.proofs.KnownBytes.{Consumes-nil, Consumes-trans}
use Rattle.std.proofs.lemmas.Grind.{flat_map-append}
use Rattle.std.proofs.lemmas.List.{append-nil, append_assoc, length-append}
use Rattle.model.proofs.lists.Each.{each-append}
use Rattle.streams.specs.Lines.{IsUnended, LosesPart}
use Rattle.streams.specs.declared.reading.ReadFault.{ReadFault}
use Rattle.session.specs.Body.{AreFewer, AreLines, HaveRead, IsKnownAs, PassesLine, TakesLine, ended, most_body_bytes}
use Rattle.session.specs.declared.body_lines.Follows.{Follows}
use Rattle.session.specs.declared.body_lines.Follows.TheVariants.{Whole, TooLong, Failed}

-- ---- lines

-- one line more
pub lines_more : (n : ℕ) (text line : List ℕ) → AreLines n text → IsUnended line → AreLines (n + 1) (text ++ ended line)
lines_more n text line h over = record {
  lines = h.lines ++ line ∷ [];
  many = length-append h.lines (line ∷ []) ∙ ap (λ m. m + 1) h.many;
  each = each-append IsUnended h.lines (line ∷ []) h.each (over, tt);
  spelled = ap (λ t. t ++ ended line) h.spelled ∙ ap (λ t. flat_map ended h.lines ++ t) (sym (append-nil (ended line))) ∙ sym (flat_map-append ended h.lines (line ∷ []));
}

-- none was read yet
pub read_none : (before : Option (List ℕ)) → HaveRead 0 before before [] Whole
read_none before = record {
  text = [];
  lines = record { lines = []; many = refl; each = tt; spelled = refl };
  read = Consumes-nil before;
  is = refl;
}

pub read_more : (n : ℕ) (before mid after : Option (List ℕ)) (old new : List ℕ) (known next : Follows) → HaveRead n before mid old known → TakesLine known mid after old new (Ok (Some next)) → HaveRead (n + 1) before after new next
read_more n before mid after old new known next h more = record {
  text = h.text ++ ended more.0;
  lines = lines_more n h.text more.0 h.lines more.1;
  read = Consumes-trans before mid after h.text (ended more.0) h.read more.2;
  is = more.3 h.text h.is;
}

-- the input ends before all of them were read
pub read_cut : (count n : ℕ) (before mid after : Option (List ℕ)) (old : List ℕ) (known : Follows) → n < count → HaveRead n before mid old known → IfSome mid (λ rest. IsUnended rest × (after ≡ Some [])) →
    IfSome before (λ rest. AreFewer count rest × (after ≡ Some []))
read_cut count n None mid after old known l h over = tt
read_cut count n (Some xs) None after old known l h over = absurd h.read
read_cut count n (Some xs) (Some ys) after old known l h over = (
  record {
    here = n;
    fewer = l;
    front = h.text;
    last = ys;
    lines = h.lines;
    over = over.0;
    spelled = h.read;
  },
  over.1,
)

-- ---- one line

-- what is known stays so, where it isn't that all of them are there
stays : (known : Follows) (old new text line : List ℕ) → (known ≡ Whole → ⊥) → IsKnownAs known text old → IsKnownAs known (text ++ ended line) new
stays Whole old new text line other h = absurd (other refl)
stays TooLong old new text line other h = omega (arith, h, length-append text (ended line))
stays Failed old new text line other h = tt

-- a line that is passed over
pub passed : (known : Follows) (before after : Option (List ℕ)) (old : List ℕ) (r : Result (Option Follows) ReadFault) → (known ≡ Whole → ⊥) → PassesLine known before after r → TakesLine known before after old old r
passed known before after old (Ok (Some next)) other h = (h.1.0, h.1.1, h.1.2, λ text is. subst (λ (k : Follows). IsKnownAs k (text ++ ended h.1.0) old) (sym h.0) (stays known old old text h.1.0 other is))
passed known before after old (Ok None) other h = h
passed known before after old (Err fault) other h = tt

-- the rest of a line of which a part was lost
pub passed_rest : (before mid after : Option (List ℕ)) (old new : List ℕ) (r : Result (Option Follows) ReadFault) → LosesPart before mid → PassesLine Failed mid after r → TakesLine Whole before after old new r
passed_rest before mid after old new (Ok (Some next)) lost h = (
  lost.0 ++ h.1.0,
  each-append (λ b. b ≡ 10 → ⊥) lost.0 h.1.0 lost.1 h.1.1,
  subst (Consumes before after) (sym (append_assoc lost.0 h.1.0 (10 ∷ []))) (Consumes-trans before mid after lost.0 (ended h.1.0) lost.2 h.1.2),
  λ text is. subst (λ (k : Follows). IsKnownAs k (text ++ ended (lost.0 ++ h.1.0)) new) (sym h.0) tt,
)
passed_rest before mid after old new (Ok None) lost h = go before mid lost.2 h
  where
    go : (before mid : Option (List ℕ)) → Consumes before mid lost.0 → IfSome mid (λ rest. IsUnended rest × (after ≡ Some [])) → IfSome before (λ rest. IsUnended rest × (after ≡ Some []))
    go None mid c k = tt
    go (Some xs) None c k = absurd c
    go (Some xs) (Some ys) c k = (subst IsUnended (sym c) (each-append (λ b. b ≡ 10 → ⊥) lost.0 ys lost.1 k.0), k.1)
passed_rest before mid after old new (Err fault) lost h = tt

-- a whole line, which was added as far as it could be
pub taken_whole : (before after : Option (List ℕ)) (old new line : List ℕ) (next : Follows) → IsUnended line → Consumes before after (ended line) → IsKnownAs next (old ++ ended line) new → TakesLine Whole before after old new (Ok (Some next))
taken_whole before after old new line next over read is = (line, over, read, λ text same. subst (λ t. IsKnownAs next (t ++ ended line) new) same is)

-- one that is too long
pub taken_long : (before after : Option (List ℕ)) (old new long : List ℕ) → IsUnended long → most_body_bytes < length long → Consumes before after (ended long) → TakesLine Whole before after old new (Ok (Some TooLong))
taken_long before after old new long over much read = (long, over, read, λ text same. omega (arith, much, length-append text (ended long), length-append long (10 ∷ [])))
