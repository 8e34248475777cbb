use Rattle.std.proofs.Common.{map}
use Rattle.clap.specs.Words.{app_of, kind_of}
use Rattle.command_line.specs.Grammar.{app_of_grammar}
use Rattle.command_line.proofs.Parsers.{found_by, unfound_by}
use Rattle.command_line.proofs.grammar.Grammar.matches_of.Goals as goal

pub returns-in-Ok-clause-ok : goal.returns-in-Ok-clause-ok
returns-in-Ok-clause-ok g c =
    found_by (app_of c.in_ok-command.field-0) (app_of_grammar c.args.self.now) (map g.S.AsStr.text c.args.words.now) c.in-Ok.matches c.in_ok-command.ensures c.in-Ok.ensures.kinds c.in-Ok.ensures.matches

pub returns-in-Err-clause-err : goal.returns-in-Err-clause-err
returns-in-Err-clause-err g c =
    unfound_by (app_of c.in_ok-command.field-0) (app_of_grammar c.args.self.now) (map g.S.AsStr.text c.args.words.now) (kind_of c.in-Err.error) c.of.result c.in_ok-command.ensures c.in-Err.ensures.kinds c.of.ensures.memory c.of.ensures.told
