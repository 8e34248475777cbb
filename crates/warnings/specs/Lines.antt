-- What is likely a mistake, as lines of JSON.
use Rattle.std.specs.Prelude.{ℕ, ◌≡◌, List, [], ◌∷◌, ◌++◌, None, codes}
use Rattle.diagnostics.specs.Json.{IsSaid, said_line}
use Rattle.diagnostics.specs.declared.finding.Level.TheVariants as level
use Rattle.lints.specs.declared.lint.Lint.{Lint}
use Rattle.lints.specs.declared.lint.Lint.TheVariants as lint

-- the word for it
abbrev pub lint_code : Lint → List ℕ
lint_code (lint.UnusedMut system query kind) = codes "unused_write"
lint_code (lint.UnreadTerm system query kind) = codes "unread_term"
lint_code (lint.UnreadEntity system query) = codes "unread_term"
lint_code (lint.NoMatch system query kind) = codes "no_match"
lint_code (lint.UnreadRes system res) = codes "unread_term"
lint_code (lint.UnusedResMut system res) = codes "unused_write"
lint_code (lint.UnreadEvents system event) = codes "unread_term"
lint_code (lint.UnusedWrites system event) = codes "unused_write"
lint_code (lint.NoCommand system) = codes "unused_spawns"
lint_code (lint.UnusedSlot system slot) = codes "unused_spawns"
lint_code (lint.UnsetRegister system register) = codes "unset_register"
lint_code (lint.UnreadRegister system register) = codes "unread_register"
lint_code (lint.SaidTwice holder list) = codes "said_twice"
lint_code (lint.RepeatedRes system res) = codes "said_twice"
lint_code (lint.RepeatedEvents system event) = codes "said_twice"
lint_code (lint.EmptyCode system block) = codes "empty_code"
lint_code (lint.CrossingSkip system block first second) = codes "crossing_skip"
lint_code (lint.Unreachable system block instruction) = codes "unreachable"
lint_code (lint.NoMembers set) = codes "no_members"
lint_code (lint.LoneChain chain) = codes "lone_chain"
lint_code (lint.ConstantCondition condition says) = codes "constant_condition"
lint_code (lint.UnreadEvent event) = codes "unread_event"
lint_code (lint.UnwrittenEvent event) = codes "unwritten_event"
lint_code (lint.UnwrittenRes res) = codes "unwritten_resource"
lint_code (lint.Race pair) = codes "race"

-- a line, without its end, that tells of it: JSON with its word, as a warning, of which `ecsrun` tells nothing
abbrev pub IsLine : Lint → List ℕ → Type 0
IsLine found line = IsSaid (lint_code found) level.Warning (said_line None) line

-- a line for each, in order, with its end
abbrev pub AreLines : List Lint → List ℕ → Type 0
AreLines [] text = text ≡ []
AreLines (found ∷ others) text = (line : List ℕ) × (more : List ℕ) × (text ≡ line ++ 10 ∷ more) × IsLine found line × AreLines others more
