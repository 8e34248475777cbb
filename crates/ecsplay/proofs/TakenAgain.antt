-- Records that are taken again: what stands before an entry that is cut short.
use Rattle.std.proofs.Common.{◌≡◌, ◌==◌, ◌+◌, ◌-◌, ℕ, Bool, true, List, [], ◌∷◌, ◌++◌, length, take, Option, Some, None, arith, length-append, refl, sym, ap, ◌∙◌, subst}
use Rattle.std.specs.Prelude.{IfSome}
use Rattle.std.proofs.Math.Seq.{take-append_seam}
use Rattle.std.proofs.lemmas.Bool.{eqb-true}
use Rattle.std.proofs.lemmas.List.{append_assoc, nil_from_length}
use Rattle.std.specs.Io.KnownBytes.{Appends}
use Rattle.program.specs.Hosted.{AreScriptsIn}
use Rattle.program.specs.Setup.{meanings_of_scripts, script_means}
use Rattle.script.specs.declared.script_body.ScriptBody.{ScriptBody}
use Rattle.session.specs.Live.{Live}
use Rattle.session.specs.Records.{IsTakenAgain, entries_text, head_line}
use Rattle.ecsplay.specs.Retaken.{HasReplayed, HasResumed}

-- the front of a text, by the length of what stands behind it
front_of : (front rest : List ℕ) → take (length (front ++ rest) - length rest) (front ++ rest) ≡ front
front_of front rest =
    let count : length (front ++ rest) - length rest ≡ length front = omega (arith, length-append front rest) in
    ap (λ n. take n (front ++ rest)) count ∙ take-append_seam front rest

pub front_is : (text front rest : List ℕ) → text ≡ front ++ rest → take (length text - length rest) text ≡ front
front_is text front rest same = subst (λ t. take (length t - length rest) t ≡ front) (sym same) (front_of front rest)

-- nothing stands behind
pub none_left : (rest : List ℕ) (empty : Bool) → empty ≡ (length rest == 0) → empty ≡ true → rest ≡ []
none_left rest empty e h = nil_from_length rest (eqb-true (length rest) 0 (sym e ∙ h))

pub known_is : (known : Option (List ℕ)) (text : List ℕ) → IfSome known (λ all. text ≡ all) → IfSome known (λ all. all ≡ text)
known_is None text h = tt
known_is (Some all) text h = sym h

module _ (bytes : List ℕ) (old new : Live ScriptBody) (scripts : List ScriptBody) (are : AreScriptsIn bytes scripts) (text rest : List ℕ) (out : Option (List ℕ) × Option (List ℕ))
    (taken : IsTakenAgain script_means (meanings_of_scripts old.engine.schedule scripts) old new text rest out.0 out.1) where
  -- the entries with the first line are what stands before the rest
  abbrev pub whole : List ℕ
  whole = head_line old.file ++ entries_text taken.entries

  pub parted : text ≡ whole ++ rest
  parted = taken.spelled ∙ sym (append_assoc (head_line old.file) (entries_text taken.entries) rest)

  pub known_parted : (known : Option (List ℕ)) (front : List ℕ) → front ≡ whole → IfSome known (λ all. text ≡ all) → IfSome known (λ all. all ≡ front ++ rest)
  known_parted None front is h = tt
  known_parted (Some all) front is h = sym h ∙ parted ∙ ap (λ t. t ++ rest) (sym is)

  pub resumed : (known : Option (List ℕ)) (front : List ℕ) → front ≡ whole → IfSome known (λ all. text ≡ all) → HasResumed bytes old new known front out
  resumed known front is h = record {
    rest = rest;
    parted = known_parted known front is h;
    replayed = record {
      scripts = scripts;
      are = are;
      taken = subst (λ t. IsTakenAgain script_means (meanings_of_scripts old.engine.schedule scripts) old new t rest out.0 out.1) (parted ∙ ap (λ t. t ++ rest) (sym is)) taken;
    };
  }
