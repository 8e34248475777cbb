-- Lists that are emptied from the end, turned round before.
use Rattle.std.proofs.Common.{◌≡◌, List, [], ◌∷◌, ◌++◌, map, sym, ap, ◌∙◌, append_assoc}
use Rattle.std.specs.Prelude.{reverse}
use Rattle.std.proofs.lemmas.List.{reverse-append}

-- the last of what is left comes after those before
pub last_moved : {A B : Type 0} (f : A → B) (front whole : List B) (all left : List A) (one : A) → all ≡ left ++ one ∷ [] → front ++ map f (reverse all) ≡ whole → (front ++ f one ∷ []) ++ map f (reverse left) ≡ whole
last_moved f front whole all left one is h =
    append_assoc front (f one ∷ []) (map f (reverse left)) ∙ ap (λ xs. front ++ map f xs) (sym (ap reverse is ∙ reverse-append left (one ∷ []))) ∙ h
