use Rattle.archetype_store.proofs.Common.{AreAlike, false, sym, ap, subst, ◌∙◌, on_ok_weaker, on_err_weaker, AreAllHome, rows_seen, archetypes_of}
use Rattle.archetype_store.proofs.ColumnStandings.{alike_value, value_alike, owned_layout}
use Rattle.column_store.proofs.Turns.{on_err_from}
use Rattle.archetype_store.proofs.SingleRowMove.{alike_trans}
use Rattle.archetype_store.proofs.TableGrowth.{rows_from_alike}
use Rattle.archetype_store.proofs.TableIndex.{alike_found, alike_indexed}
use Rattle.archetype_store.proofs.row_moves.change_rows.Goals as goal
use Rattle.archetype_store.proofs.row_moves.change_rows.Goals.{After-own}

-- the rows are seen alike once the columns are the tables' alone
same : (c : After-own) → AreAlike (rows_seen c.args.rows.now) (rows_seen c.own.new.self)
same c =
    value_alike (rows_seen c.args.rows.now) (rows_seen c.own.new.self)
    (ap (archetypes_of c.own.new.self.tables) c.own.ensures.places ∙ alike_value c.args.rows.now.tables c.own.new.self.tables c.args.rows.now.places c.own.ensures.alike)

pub returns-in_err-own-clause-indexed : goal.returns-in_err-own-clause-indexed
returns-in_err-own-clause-indexed c = alike_indexed c.args.rows.now.tables c.own.new.self.tables c.args.index.now c.own.ensures.alike c.requires.indexed

pub returns-in_err-own-clause-home : goal.returns-in_err-own-clause-home
returns-in_err-own-clause-home c = subst AreAllHome (sym (same (goal.at.returns-in_err-own-clause-home c).After-own).layout) c.requires.home

pub returns-in_err-own-clause-err : goal.returns-in_err-own-clause-err
returns-in_err-own-clause-err c = on_err_from c.from_residual.result _ (same (goal.at.returns-in_err-own-clause-err c).After-own)

pub change_owned-changed-requires-clause-found : goal.change_owned-changed-requires-clause-found
change_owned-changed-requires-clause-found c = alike_found c.args.rows.now.tables c.own.new.self.tables c.args.index.now c.own.ensures.alike c.requires.indexed.found

pub returns-clause-home : goal.returns-clause-home
returns-clause-home c = owned_layout c.change_owned-changed.new.rows.tables c.change_owned-changed.new.rows.places false c.change_owned-changed.ensures.owned

pub returns-clause-ok : goal.returns-clause-ok
returns-clause-ok c =
    let x = c.change_owned-changed.new.rows in
    on_ok_weaker c.change_owned-changed.result (rows_from_alike _ _ (rows_seen x) c.args.changes.now (same (goal.at.returns-clause-ok c).After-own)) c.change_owned-changed.ensures.ok

pub returns-clause-err : goal.returns-clause-err
returns-clause-err c =
    let x = c.change_owned-changed.new.rows in
    on_err_weaker c.change_owned-changed.result (alike_trans _ _ (rows_seen x) (same (goal.at.returns-clause-err c).After-own)) c.change_owned-changed.ensures.err
