use Rattle.archetype_store.proofs.Common.{List, refl, [], ◌∷◌, ◌++◌, map, sym, ap, subst, ◌∙◌, map-append, KeptShape, kept_seen, AreListed}
use Rattle.archetype_store.proofs.FittingTables.{listed_pushed}
use Rattle.archetype_store.proofs.TableIndex.{found_other}
use Rattle.archetype_store.proofs.table_index.TableIndex.register.Goals as goal

pub returns-in_err-reserve-clause-indexed : goal.returns-in_err-reserve-clause-indexed
returns-in_err-reserve-clause-indexed c =
    let f = c.requires.found in
    record {
      found = found_other c.args.tables.now c.args.self.now _ (λ word. refl) f.room f.room_numbers (ap (map kept_seen) c.reserve.ensures.items) f;
      peopled = c.requires.peopled;
      numbers = c.requires.numbers;
    }

pub returns-in_err-insert-clause-indexed : goal.returns-in_err-insert-clause-indexed
returns-in_err-insert-clause-indexed c =
    let f = c.requires.found in
    record {
      found = found_other c.args.tables.now c.args.self.now _ (λ word. refl) f.room f.room_numbers (ap (map kept_seen) c.reserve.ensures.items) f;
      peopled = c.requires.peopled;
      numbers = c.requires.numbers;
    }

pub returns-clause-indexed : goal.returns-clause-indexed
returns-clause-indexed c =
    let old = c.args.self.now.shapes.items in
    let kept : KeptShape = record { shape = c.number-number.result; tables = c.in_ok-fitting.fitting } in
    let pushed = ap (map kept_seen) (c.push_reserved.ensures.items ∙ ap (λ (ks : List KeptShape). ks ++ kept ∷ []) c.reserve.ensures.items) ∙ map-append kept_seen old (kept ∷ []) in
    let f = c.requires.found in
    record {
      found = record {
        known = f.known;
        within = f.within;
        theirs = f.theirs;
        room = f.room;
        room_numbers = f.room_numbers;
        listed = subst (AreListed c.args.tables.now) (sym pushed) (listed_pushed c.args.tables.now (map kept_seen old) (kept_seen kept) c.in_ok-fitting.ensures f.listed);
      };
      peopled = c.requires.peopled;
      numbers = c.requires.numbers;
    }
