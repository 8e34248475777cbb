-- Lists side by side, one more at a time, and blocks that are read in two steps.
use Rattle.std.proofs.Common.{◌≡◌, ℕ, Bor, ◌+◌, ◌<◌, List, [], ◌∷◌, ◌++◌, length, map, take, get_or, subst, sym}
use Rattle.std.specs.List.{AllZip, AllByRecursion}
use Rattle.std.proofs.lemmas.List.{take_more}
use Rattle.toml.specs.Data.{Members}
use Rattle.script.specs.declared.script_body.Block.{Block}
use Rattle.script.specs.declared.script_body.Rounds.{Rounds}
use Rattle.program_file.specs.Faults.{HasBlockKeys, HasBlocks}
use Rattle.program_file.specs.Rounds.{SaysRounds, block_keys}
use Rattle.program_file.specs.Tables.{IsBlockIn, AreBlocksIn, IsBlockTextsIn, AreBlockTextsIn, IsRead}
use Rattle.program_file.specs.declared.program_file.BlockTexts.{BlockTexts}

-- one more on each side
pub zip-push : {A B : Type 0} (R : A → B → Type 0) (xs : List A) (ys : List B) (x : A) (y : B) → AllZip R xs ys → R x y → AllZip R (xs ++ x ∷ []) (ys ++ y ∷ [])
zip-push R [] [] x y h k = (k, tt)
zip-push R [] (b ∷ ys) x y h k = absurd h
zip-push R (a ∷ xs) [] x y h k = absurd h
zip-push R (a ∷ xs) (b ∷ ys) x y h k = (h.0, zip-push R xs ys x y h.1 k)

-- the next of a list
pub zip-take : {A B : Type 0} (R : A → B → Type 0) (xs : List A) (i : ℕ) (d : A) (ys more : List B) (y : B) → more ≡ ys ++ y ∷ [] → i < length xs
    → AllZip R (take i xs) ys → R (get_or xs i d) y → AllZip R (take (i + 1) xs) more
zip-take R xs i d ys more y pushed below h k = rw (pushed, take_more xs i d below) (zip-push R (take i xs) ys (get_or xs i d) y h k)

-- the same of what is seen of one side
pub zip-map : {A B C : Type 0} (R : A → B → Type 0) (f : C → A) (xs : List C) (ys : List B) → AllZip (λ x y. R (f x) y) xs ys → AllZip R (map f xs) ys
zip-map R f [] [] h = tt
zip-map R f [] (y ∷ ys) h = absurd h
zip-map R f (x ∷ xs) [] h = absurd h
zip-map R f (x ∷ xs) (y ∷ ys) h = (h.0, zip-map R f xs ys h.1)

block-read : (table : Members) (texts : BlockTexts) (block : Block) → IsBlockTextsIn table texts → IsRead texts block → IsBlockIn table block
block-read table texts block there read = record {
  only = there.only;
  given = there.given;
  rounds = subst (λ (rounds : Rounds). SaysRounds rounds (block_keys table)) (sym read.rounds) there.rounds;
  texts = map (λ text. text.now) texts.code.items;
  there = there.code;
  spelled = read.code;
}

each-read : (tables : List Members) (texts : List BlockTexts) (blocks : List Block) → AllZip IsBlockTextsIn tables texts → AllZip IsRead texts blocks → AllZip IsBlockIn tables blocks
each-read [] [] [] there read = tt
each-read [] [] (b ∷ bs) there read = absurd read
each-read [] (t ∷ ts) bs there read = absurd there
each-read (m ∷ ms) [] bs there read = absurd there
each-read (m ∷ ms) (t ∷ ts) [] there read = absurd read
each-read (m ∷ ms) (t ∷ ts) (b ∷ bs) there read = (block-read m t b there.0 read.0, each-read ms ts bs there.1 read.1)

-- blocks whose keys were looked at, and whose texts then were read
pub blocks-read : (table : Members) (texts : List BlockTexts) (blocks : List Block) → AreBlockTextsIn table texts → AllZip IsRead texts blocks → AreBlocksIn table blocks
blocks-read table texts blocks there read = record { tables = there.tables; there = there.there; each = each-read there.tables texts blocks there.each read }

-- the keys of blocks that were looked at
block-keys : (table : Members) (texts : BlockTexts) → IsBlockTextsIn table texts → HasBlockKeys table
block-keys table texts h = record { only = h.only; given = h.given; rounds = (texts.rounds, h.rounds); code = (map (λ (text : Bor (List ℕ)). text.now) texts.code.items, h.code) }

each-keys : (tables : List Members) (texts : List BlockTexts) → AllZip IsBlockTextsIn tables texts → AllByRecursion HasBlockKeys tables
each-keys [] texts h = tt
each-keys (m ∷ ms) [] h = absurd h
each-keys (m ∷ ms) (t ∷ ts) h = (block-keys m t h.0, each-keys ms ts h.1)

pub blocks-keys : (table : Members) (texts : List BlockTexts) → AreBlockTextsIn table texts → HasBlocks table
blocks-keys table texts h = (h.tables, h.there, each-keys h.tables texts h.each)
