-- Records of sessions of program files: taken again, begun, and what is told where they are not.
use Rattle.std.specs.Prelude.{ℕ, ◌≡◌, ◌⊎◌, Bool, if◌then◌else◌, List, [], ◌∷◌, ◌++◌, codes, map, Option, Some, IfSome}
use Rattle.std.specs.Io.KnownBytes.{Appends}
use Rattle.hex.specs.Hex.{encode_lower}
use Rattle.program.specs.Hosted.{AreScriptsIn}
use Rattle.program.specs.Setup.{meanings_of_scripts, script_means}
use Rattle.script.specs.declared.script_body.ScriptBody.{ScriptBody}
use Rattle.session.specs.Live.{Live, is_lost, state_in}
use Rattle.session.specs.Records.{IsTakenAgain, head_line}
use Rattle.sha2.specs.Sha256.{sha256}
use Rattle.state_text.specs.StateText.{values_text}

-- what a text of a record led to: its entries were taken again by the scripts of a file with these bytes, on one thread, and their replies written,
-- but for what is left of it, which is cut short if it is anything
pub record HasReplayed (bytes : List ℕ) (old new : Live ScriptBody) (text rest : List ℕ) (out : Option (List ℕ) × Option (List ℕ)) : Type 0 where
  pub scripts : List ScriptBody
  pub are : AreScriptsIn bytes scripts
  pub taken : IsTakenAgain script_means (meanings_of_scripts old.engine.schedule scripts) old new text rest out.0 out.1

-- a record was taken again, and this is what it has before what is left of it
pub record HasResumed (bytes : List ℕ) (old new : Live ScriptBody) (known : Option (List ℕ)) (front : List ℕ) (out : Option (List ℕ) × Option (List ℕ)) : Type 0 where
  pub rest : List ℕ
  pub parted : IfSome known (λ text. text ≡ front ++ rest)
  pub replayed : HasReplayed bytes old new (front ++ rest) rest out

-- the line of the digest of the state, where one is there
abbrev pub digest_line : Live ScriptBody → List ℕ
digest_line live = if is_lost live then [] else codes "digest " ++ encode_lower (sha256 (values_text (state_in live))) ++ 10 ∷ []

-- a record was taken again whole, and behind its replies stands the digest
pub record IsReplayedWhole (bytes : List ℕ) (old new : Live ScriptBody) (known : Option (List ℕ)) (out : Option (List ℕ) × Option (List ℕ)) : Type 0 where
  pub text : List ℕ
  pub is : IfSome known (λ all. all ≡ text)
  pub middle : Option (List ℕ)
  pub replayed : HasReplayed bytes old new text [] (out.0, middle)
  pub ends : Appends middle out.1 (digest_line new)

-- how a record begins: as the one from whose end a session goes on, or by its first line
abbrev pub begun_text : List ℕ → List ℕ → List ℕ
begun_text file [] = head_line file
begun_text file (byte ∷ bytes) = byte ∷ bytes
