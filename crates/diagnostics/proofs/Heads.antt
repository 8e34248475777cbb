-- Three members that are put into an object, one after the other.
use Rattle.std.proofs.Common.{ℕ, ◌≡◌, ◌≤◌, List, Option, None, Some, codes, length, get_or, refl, ap, subst, sym, ◌∙◌, arith}
use Rattle.serde_json.specs.Data.{Data, Members, put, depth, members_depth}
use Rattle.serde_json.specs.Find.{get_member}
use Rattle.serde_json.proofs.Views.{get_member-put, get_member-put_other}
use Rattle.diagnostics.specs.Json.{said_line}
use Rattle.diagnostics.proofs.Depths.{put_more}

-- the line that is told is no array and no object
pub line_shallow : (line : Option (List ℕ)) → depth (said_line line) ≤ 2
line_shallow None = omega arith
line_shallow (Some text) = omega arith

four_five : (n : ℕ) → n ≡ 4 → n ≡ 5 → ⊥
four_five n four five = absurd (omega arith)

two_letters : (n : ℕ) → n ≡ 99 → n ≡ 108 → ⊥
two_letters n one other = absurd (omega arith)

code_level : codes "code" ≡ codes "level" → ⊥
code_level e = four_five (length (codes "code")) refl (ap length e)

code_line : codes "code" ≡ codes "line" → ⊥
code_line e = two_letters (get_or (codes "code") 0 0) refl (ap (λ word. get_or word 0 0) e)

level_line : codes "level" ≡ codes "line" → ⊥
level_line e = four_five (length (codes "line")) refl (ap length (sym e))

pub record AreHeads (code level line : Data) (ms : Members) : Type 0 where
  pub code_is : get_member (codes "code") ms ≡ Some code
  pub level_is : get_member (codes "level") ms ≡ Some level
  pub line_is : get_member (codes "line") ms ≡ Some line
  pub shallow : members_depth ms ≤ 2

pub heads : (code level line : Data) (old with_code with_level new : Members) → with_code ≡ put (codes "code") code old → with_level ≡ put (codes "level") level with_code → new ≡ put (codes "line") line with_level
    → members_depth old ≤ 2 → depth code ≤ 2 → depth level ≤ 2 → depth line ≤ 2 → AreHeads code level line new
heads code level line old with_code with_level new is_code is_level is_line hs hc hl hn =
    let at_code : get_member (codes "code") with_code ≡ Some code = ap (get_member (codes "code")) is_code ∙ get_member-put (codes "code") code old in
    let at_level : get_member (codes "level") with_level ≡ Some level = ap (get_member (codes "level")) is_level ∙ get_member-put (codes "level") level with_code in
    let kept : get_member (codes "code") with_level ≡ Some code = ap (get_member (codes "code")) is_level ∙ get_member-put_other (codes "code") (codes "level") level with_code code_level ∙ at_code in
    let low : members_depth with_code ≤ 2 = subst (λ ms. members_depth ms ≤ 2) (sym is_code) (put_more 2 (codes "code") code old hc hs) in
    let lower : members_depth with_level ≤ 2 = subst (λ ms. members_depth ms ≤ 2) (sym is_level) (put_more 2 (codes "level") level with_code hl low) in
    record {
      code_is = ap (get_member (codes "code")) is_line ∙ get_member-put_other (codes "code") (codes "line") line with_level code_line ∙ kept;
      level_is = ap (get_member (codes "level")) is_line ∙ get_member-put_other (codes "level") (codes "line") line with_level level_line ∙ at_level;
      line_is = ap (get_member (codes "line")) is_line ∙ get_member-put (codes "line") line with_level;
      shallow = subst (λ ms. members_depth ms ≤ 2) (sym is_line) (put_more 2 (codes "line") line with_level hn lower);
    }
