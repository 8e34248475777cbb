use Rattle.model.specs.access.Query.{touched, written}
use Rattle.model.specs.access.QueryFaults.{required, excluded}
use Rattle.access_set.proofs.TermWords.{said_first, said_next, said_last}
use Rattle.access_set.proofs.footprint.Words.of_query.Goals as goal

pub loop-term-init : goal.loop-term-init
loop-term-init c = let terms = c.terms-term-items.result.now in
    record { touched = said_first touched terms; written = said_first written terms; required = said_first required terms; excluded = said_first excluded terms }

pub loop-term-preserved : goal.loop-term-preserved
loop-term-preserved c =
    let terms = c.terms-term-items.result.now in
    let place = c.loop-term.term-index in
    let words = c.loop-term.words in
    let more = c.with_term-words in
    record {
      touched = said_next touched terms place words.touched more.result.touched _ c.loop-term-test.true c.loop-term.invariant.touched more.ensures.touched;
      written = said_next written terms place words.written more.result.written _ c.loop-term-test.true c.loop-term.invariant.written more.ensures.written;
      required = said_next required terms place words.required more.result.required _ c.loop-term-test.true c.loop-term.invariant.required more.ensures.required;
      excluded = said_next excluded terms place words.excluded more.result.excluded _ c.loop-term-test.true c.loop-term.invariant.excluded more.ensures.excluded;
    }

pub returns : goal.returns
returns c =
    let query = c.args.query.now in
    let terms = c.terms-term-items.result.now in
    let place = c.loop-term.term-index in
    let words = c.loop-term.words in
    let same = c.terms-term-items.ensures in
    let past = c.loop-term-test.false in
    record {
      touched = said_last touched query terms place words.touched same past c.loop-term.invariant.touched;
      written = said_last written query terms place words.written same past c.loop-term.invariant.written;
      required = said_last required query terms place words.required same past c.loop-term.invariant.required;
      excluded = said_last excluded query terms place words.excluded same past c.loop-term.invariant.excluded;
    }
