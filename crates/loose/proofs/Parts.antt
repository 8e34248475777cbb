-- The parts of a loose box: its pointer, what gave its memory, and what it owns. Assumes `Logic`.
use Rattle.std.proofs.Common.{◌≡◌, ℕ, List, [], ◌∷◌, ◌++◌, refl, ap, ◌∙◌}
use mathlib.Core.Bool.{true, ◌&&◌}
use lib.Dec.{T}
use seplogic.Ra.Ura.{Ura}
use mir.Syntax.{impl, tnil, dnil}
use mir.Raw.{raw as bare}
use mir.Val.{Val, vptr, vstruct, vcons, vnil, of_list, has_ty, WT}
use base.Logic.{never, fst∗}
use base.Fml.{Fml}
use types.Logic.{Logic, sem}
use types.Kit.{Item, Goal, Seq, Step, step, ‵, ◌$◌, move, drop, fsplit, fjoin, fpick, fpack, feq_i, feq_l}
use denote.RattleType.{RattleType, Valss}
use denote.Builtin.{RawPtr}
use denote.Memory.{lone}
use denote.RawPtr.{Ptr, block_ptr, null_ptr, ptr_val, in_a_block}
use denote.Steps.{nothing}
use denote.Param.{layout}
use denote.Param.Laws.{Laws}
use denote.Struct.Struct.{within}
use denote.Struct.Owning.{shape}
use Rattle.std.specs.declared.alloc.Allocator.{Ghosts}
use Rattle.std.proofs.alloc.Calls.{Al, handle_tells}
use Rattle.std.proofs.cell.Inside.{Good}
use Rattle.std_alloc.specs.Box.Ownership.{box_owns}
use Rattle.std_alloc.proofs.ResultValues.{and_tt}
use Rattle.loose.specs.contracts.loose.Loose as loose

-- a struct of two values
abbrev pub both : Val → Val → Val
both first second = vstruct (vcons first (vcons second vnil))

module _ (Value Alloc : RattleType) (L : Laws Alloc) (g : Ghosts Alloc.Denot) where
  abbrev pub Loose : RattleType
  Loose = loose.the_row Value Alloc g

  abbrev handle : Al
  handle = record { row = Alloc; laws = L; g = g; d = impl [] tnil dnil; drops = impl [] tnil dnil }

  -- what a loose box owns besides its fields
  abbrev pub Owned : Alloc.Denot → Ptr → Value.Denot → Fml
  Owned alloc at value = box_owns (g.dealloc_token alloc) Value at value

  -- a pointer and an allocator that fits its type are a struct that fits its own
  pub fitting : (block offset : ℕ) (alloc : Val) → Good (layout Alloc) alloc → T (has_ty (layout Alloc) alloc && true) × WT (both (vptr block offset) alloc)
  fitting block offset alloc good = (and_tt (has_ty (layout Alloc) alloc) good.0, (tt, (good.1, tt)))

  module _ {M : Type 1} {𝓤 : Ura M} {𝓛 : Logic 𝓤} {Key : Type 0} {Γ : List (Item 𝓤)} {G : Goal 𝓤 𝓛.H} where
    -- taken apart: the value at a place of a block, and the allocator
    pub apart : Key → (it : Loose.Denot) (words : List Val)
        → ((block offset : ℕ) (alloc : Val) → it.at ≡ block_ptr block offset → words ≡ both (vptr block offset) alloc ∷ [] → Good (layout Alloc) alloc
        → Seq Key 𝓛 (‵ (Owned it.alloc (block_ptr block offset) it.value) ∷ ‵ (Alloc.own_val it.alloc (alloc ∷ [])) ∷ Γ) G)
        → Seq Key 𝓛 (‵ (Loose.own_val it words) ∷ Γ) G
    apart key it words rest =
        fsplit key $ fpick key (λ parts. fsplit key $ feq_l key (λ whole. fsplit key $ feq_l key (λ first. fsplit key $
        handle_tells handle key it.alloc parts.1.0 (λ alloc second good.
        move key (1 ∷ []) $ drop key $ move key (1 ∷ []) $
        in_a_block key it.at (λ at. Owned it.alloc at it.value) (fst∗ 𝓤 (never 𝓤) (sem 𝓛 (g.dealloc_token it.alloc (bare (lone Value.mir)) null_ptr))) (λ block offset there.
        rest block offset alloc there
        (whole ∙ ap (λ (ps : List Val). vstruct (of_list (ps ++ (parts.1.0 ++ []))) ∷ []) first ∙ ap (λ (hs : List Val). vstruct (of_list (ptr_val it.at ∷ (hs ++ []))) ∷ []) second
        ∙ ap (λ (at : Ptr). vstruct (of_list (ptr_val at ∷ alloc ∷ [])) ∷ []) there)
        good)))))

    -- put together again
    pub together : Key → (block offset : ℕ) (word : Val) (alloc : Alloc.Denot) (value : Value.Denot)
        → Step Key 𝓛 (‵ (Loose.own_val (record { at = block_ptr block offset; alloc = alloc; value = value }) (both (vptr block offset) word ∷ [])) ∷ Γ) G
        (‵ (Owned alloc (block_ptr block offset) value) ∷ ‵ (Alloc.own_val alloc (word ∷ [])) ∷ Γ) G
    together key block offset word alloc value = step (λ rest.
        let whole : Val = both (vptr block offset) word in let first : List Val = vptr block offset ∷ [] in
        nothing key $ move key (2 ∷ 0 ∷ []) $ fjoin key $
        feq_i key (List Val) first first refl $ fjoin key $
        feq_i key (List Val) (whole ∷ []) (whole ∷ []) refl $ fjoin key $
        fpack key (Valss (RawPtr ∷ Alloc ∷ [])) (within (shape (loose.the_type Value Alloc g)) (block_ptr block offset, (alloc, tt)) (whole ∷ [])) (first, (word ∷ [], tt)) $
        fjoin key $ rest)
