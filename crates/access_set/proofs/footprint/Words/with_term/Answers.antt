-- A word has the kind of the term, where it names one.
use Rattle.access_set.proofs.TermWords.{said_of}
use Rattle.access_set.proofs.footprint.Words.with_term.Goals as goal

pub returns-clause-touched : goal.returns-clause-touched
returns-clause-touched c = λ kind. said_of c.args.self.touched c.with_kind.result kind _ _ (c.with_kind.ensures kind) c.touched.ensures

pub returns-clause-written : goal.returns-clause-written
returns-clause-written c = λ kind. said_of c.args.self.written c.with_kind-2.result kind _ _ (c.with_kind-2.ensures kind) c.written.ensures

pub returns-clause-required : goal.returns-clause-required
returns-clause-required c = λ kind. said_of c.args.self.required c.with_kind-3.result kind _ _ (c.with_kind-3.ensures kind) c.required.ensures

pub returns-clause-excluded : goal.returns-clause-excluded
returns-clause-excluded c = λ kind. said_of c.args.self.excluded c.with_kind-4.result kind _ _ (c.with_kind-4.ensures kind) c.excluded.ensures
