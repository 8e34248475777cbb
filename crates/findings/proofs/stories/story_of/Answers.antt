use Rattle.std.proofs.Common.{◌≡◌, ◌++◌, ℕ, List, length, ap, subst, ◌∙◌, string_bytes}
use Rattle.program.specs.Setup.{meanings_of_scripts}
use Rattle.findings.specs.Stories.{IsStory, count_text}
use Rattle.findings.proofs.Fitting.{fitting_suit}
use Rattle.findings.proofs.stories.story_of.Goals as goal

pub tell_runs-requires-clause-suits : goal.tell_runs-requires-clause-suits
tell_runs-requires-clause-suits c = fitting_suit c.args.built.now c.args.bodies.now c.args.first c.requires.fitting c.requires.memories

pub returns-clause-story : goal.returns-clause-story
returns-clause-story c =
    let text : string_bytes c.writeln.new.self ≡ count_text (length c.args.traces.now) = c.in_ok-writeln.ensures.bytes ∙ ap (λ (xs : List ℕ). xs ++ count_text (length c.args.traces.now)) c.new-text.ensures.bytes in
    subst (λ (words : List ℕ). IsStory c.args.built.now (meanings_of_scripts c.args.built.now c.args.bodies.now) c.args.asked 0 c.args.first c.args.traces.now words (string_bytes c.in_ok-told.told.text)) text c.in_ok-told.ensures.story
