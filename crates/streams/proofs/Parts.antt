-- Texts that a writer takes in parts.
use Rattle.std.specs.Prelude.{Option, None, Some}
use Rattle.std.proofs.Common.{◌≡◌, ℕ, List, [], ◌++◌, ◌-◌, length, take, drop, append_assoc, arith, length-drop, Result, Ok, Err, sym, ◌==◌}
use Rattle.std.proofs.lemmas.List.{take-append-drop, take_all, append-nil}
use Rattle.std.specs.List.{position_or_len}
use Rattle.std.specs.Io.KnownBytes.{Appends}
use Rattle.streams.specs.Writing.{AppendsFront, WritesWhole, first_line_of}

-- two texts that are taken in turn are taken as one
pub appends_more : (old mid new : Option (List ℕ)) (front more : List ℕ) → Appends old mid front → Appends mid new more → Appends old new (front ++ more)
appends_more None mid new front more h k = tt
appends_more (Some xs) None new front more h k = absurd h
appends_more (Some xs) (Some ys) None front more h k = absurd k
appends_more (Some xs) (Some ys) (Some zs) front more h k = rw (k, h) (simp append_assoc)

-- a writer that holds the front of a text and takes a part of the rest holds a front of it again
pub part_taken : (old mid new : Option (List ℕ)) (text front rest : List ℕ) (count : ℕ) → text ≡ front ++ rest → Appends old mid front
    → Appends mid new (take count rest) → (x : List ℕ) × (text ≡ x ++ take (length rest - count) (drop count rest)) × Appends old new x
part_taken old mid new text front rest count e h k =
    let whole : take (length rest - count) (drop count rest) ≡ drop count rest =
    take_all (length rest - count) (drop count rest) (omega (arith, length-drop count rest)) in
    (front ++ take count rest, rw (whole, append_assoc, take-append-drop) e, appends_more old mid new front (take count rest) h k)

-- what is taken whole is taken from the front
pub front_of_whole : {T E : Type 0} (old new : Option (List ℕ)) (r : Result T E) (text : List ℕ) → WritesWhole old new r text → AppendsFront old new text
front_of_whole old new (Ok x) text h = (text, [], sym (append-nil text), h)
front_of_whole old new (Err e) text h = h

-- a text without the end of a line is its first line
pub whole_line : (text : List ℕ) → position_or_len (λ b. b == 10) text ≡ length text → text ≡ first_line_of text
whole_line text e = sym (take_all (position_or_len (λ b. b == 10) text) text (omega arith))
