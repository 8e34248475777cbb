-- The parts of a `Kept`: its pointer, the allocator, and the box of a world that it owns where it has one. Assumes `Logic`.
use Rattle.std.proofs.Common.{◌≡◌, ℕ, List, [], ◌∷◌, ◌++◌, refl, sym, ap, ◌∙◌, Option, Some, None, is_some, true, false, true≢false}
use seplogic.Ra.Ura.{Ura}
use mir.Syntax.{impl, tnil, dnil}
use mir.Raw.{raw as bare}
use mir.Val.{Val, vptr, vstruct, of_list}
use base.Logic.{never, fst∗}
use types.Logic.{Logic, sem}
use types.Kit.{Item, Goal, Seq, Step, step, ‵, ◌$◌, move, drop, fsplit, fjoin, fpick, fpack, rewrite, feq_i, feq_l}
use denote.RattleType.{RattleType, Valss}
use denote.Builtin.{RawPtr}
use denote.Memory.{lone}
use denote.RawPtr.{Ptr, block_ptr, null_ptr, ptr_val, in_a_block}
use denote.Steps.{nothing}
use denote.Param.{layout}
use denote.Struct.Struct.{within}
use denote.Struct.Owning.{shape, to}
use Rattle.std.specs.contracts.alloc.Global as heap
use Rattle.std.proofs.alloc.Global.TheLaws as heap_laws
use Rattle.std.specs.contracts.impls.GlobalAllocator.TheImpl.{ghosts}
use Rattle.std.proofs.alloc.Calls.{Al, handle_tells}
use Rattle.std.proofs.cell.Inside.{Good}
use Rattle.std_alloc.specs.Box.Ownership.{box_owns}
use Rattle.loose.proofs.Parts.{both}
use Rattle.libecs.specs.Kept.{kept_at}
use Rattle.libecs.specs.contracts.kept.Kept as held
use Rattle.live_world.specs.contracts.live_world.LiveWorld as world

abbrev pub Alloc : RattleType
Alloc = heap.the_row

abbrev pub World : RattleType
World = world.the_row

abbrev pub Kept : RattleType
Kept = held.the_row

abbrev pub handle : Al
handle = record { row = Alloc; laws = heap_laws.the_row_laws; g = ghosts; d = impl [] tnil dnil; drops = impl [] tnil dnil }

-- the world that is there, and that none is
pub there : (kept : Option World.Denot) → is_some kept ≡ true → (x : World.Denot) × (kept ≡ Some x)
there None none = absurd (true≢false (sym none))
there (Some x) some = (x, refl)

pub none_there : (kept : Option World.Denot) → is_some kept ≡ false → kept ≡ None
none_there None none = refl
none_there (Some x) none = absurd (true≢false none)

module _ {M : Type 1} {𝓤 : Ura M} {𝓛 : Logic 𝓤} {Key : Type 0} {Γ : List (Item 𝓤)} {G : Goal 𝓤 𝓛.H} where
  -- taken apart where a world is there: its box at a place of a block, and the allocator
  pub apart : Key → (it : Kept.Denot) (x : World.Denot) (words : List Val) → it.kept ≡ Some x
      → ((block offset : ℕ) (alloc : Val) → it.at ≡ block_ptr block offset → words ≡ both (vptr block offset) alloc ∷ [] → Good (layout Alloc) alloc
      → Seq Key 𝓛 (‵ (box_owns (ghosts.dealloc_token it.alloc) World (block_ptr block offset) x) ∷ ‵ (Alloc.own_val it.alloc (alloc ∷ [])) ∷ Γ) G)
      → Seq Key 𝓛 (‵ (Kept.own_val it words) ∷ Γ) G
  apart key it x words is rest =
      fsplit key $ fpick key (λ parts. fsplit key $ feq_l key (λ whole. fsplit key $ feq_l key (λ first. fsplit key $
      handle_tells handle key it.alloc parts.1.0 (λ alloc second good.
      move key (1 ∷ []) $ drop key $ move key (1 ∷ []) $
      rewrite key 0 (λ (kept : Option World.Denot). ‵ (kept_at it.alloc it.at kept)) is refl $
      in_a_block key it.at (λ at. box_owns (ghosts.dealloc_token it.alloc) World at x) (fst∗ 𝓤 (never 𝓤) (sem 𝓛 (ghosts.dealloc_token it.alloc (bare (lone World.mir)) null_ptr))) (λ block offset placed.
      rest block offset alloc placed
      (whole ∙ ap (λ (ps : List Val). vstruct (of_list (ps ++ (parts.1.0 ++ []))) ∷ []) first ∙ ap (λ (hs : List Val). vstruct (of_list (ptr_val it.at ∷ (hs ++ []))) ∷ []) second
      ∙ ap (λ (at : Ptr). vstruct (of_list (ptr_val at ∷ alloc ∷ [])) ∷ []) placed)
      good)))))

  -- put together, with a world or none
  pub together : Key → (at : Ptr) (word : Val) (alloc : Alloc.Denot) (kept : Option World.Denot)
      → Step Key 𝓛 (‵ (Kept.own_val (record { at = at; alloc = alloc; kept = kept }) (both (ptr_val at) word ∷ [])) ∷ Γ) G (‵ (kept_at alloc at kept) ∷ ‵ (Alloc.own_val alloc (word ∷ [])) ∷ Γ) G
  together key at word alloc kept = step (λ rest.
      let whole : Val = both (ptr_val at) word in let first : List Val = ptr_val at ∷ [] in
      nothing key $ move key (2 ∷ 0 ∷ []) $ fjoin key $
      feq_i key (List Val) first first refl $ fjoin key $
      feq_i key (List Val) (whole ∷ []) (whole ∷ []) refl $ fjoin key $
      fpack key (Valss (RawPtr ∷ Alloc ∷ [])) (within (shape held.the_type) (to held.the_type (record { at = at; alloc = alloc; kept = kept })) (whole ∷ [])) (first, (word ∷ [], tt)) $
      fjoin key $ rest)
