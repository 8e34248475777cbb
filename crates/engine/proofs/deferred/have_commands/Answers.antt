use Rattle.std.proofs.Common.{◌≡◌, ◌==◌, List, [], ◌+◌, ◌++◌, ◌∙◌, ap, drop, get_or, length, sym}
use Rattle.std.proofs.lemmas.List.{drop_all, get_or_default}
use Rattle.model.specs.Lists.{is_there}
use Rattle.model.specs.shown.Outcome.{Command}
use Rattle.command_queue.specs.Commands.{commands_of}
use Rattle.engine.proofs.LevelCommands.{next_commands, no_commands, some_commands}
use Rattle.engine.proofs.deferred.have_commands.Goals as goal

pub loop-system-preserved : goal.loop-system-preserved
loop-system-preserved c =
    let commands = c.args.commands.now in
    let level = c.args.level.now in
    let i = c.loop-system.system-index in
    let within = c.loop-system-test.true in
    let buffer : c.index-commands-system.result ≡ get_or commands (get_or level i 0) [] =
    c.index-commands-system.is ∙ get_or_default commands (get_or level i 0) c.index-commands-system.result [] (c.requires i 0 within) in
    let empty = no_commands (get_or commands (get_or level i 0) []) (ap (λ (xs : List Command). length xs == 0) (sym buffer) ∙ sym c.if-not-is_empty.ensures) in
    sym (next_commands commands level i 0 within ∙ ap (λ (xs : List Command). xs ++ commands_of commands (drop (i + 1) level)) empty) ∙ c.loop-system.invariant

pub returns-then-not-is_empty : goal.returns-then-not-is_empty
returns-then-not-is_empty c =
    let commands = c.args.commands.now in
    let level = c.args.level.now in
    let i = c.loop-system.system-index in
    let within = c.loop-system-test.true in
    let buffer : c.index-commands-system.result ≡ get_or commands (get_or level i 0) [] =
    c.index-commands-system.is ∙ get_or_default commands (get_or level i 0) c.index-commands-system.result [] (c.requires i 0 within) in
    let some = some_commands (get_or commands (get_or level i 0) []) (commands_of commands (drop (i + 1) level))
    (ap (λ (xs : List Command). length xs == 0) (sym buffer) ∙ sym c.if-not-is_empty.ensures) in
    sym (ap is_there (sym c.loop-system.invariant ∙ next_commands commands level i 0 within) ∙ some)

pub returns : goal.returns
returns c =
    let commands = c.args.commands.now in
    let level = c.args.level.now in
    ap is_there (ap (commands_of commands) (sym (drop_all c.loop-system.system-index level c.loop-system-test.false)) ∙ c.loop-system.invariant)
