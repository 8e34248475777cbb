use Rattle.std.proofs.Common.{ℕ, List, refl, subst}
use Rattle.parsing.specs.Reads.{SpellsOnly}
use Rattle.requests.specs.Asked.{asked_of}
use Rattle.requests.specs.Grammar.{IsRequest}
use Rattle.requests.specs.Load.{IsLoad}
use Rattle.session.specs.Records.Act.{Does, Loads}
use Rattle.session.proofs.Retaken.{does_parted, loads_parted}
use Rattle.session.proofs.entry.read_entry.Goals as goal

pub returns-in-Some-read_load : goal.returns-in-Some-read_load
returns-in-Some-read_load c =
    let line = c.in-Some.line.now in
    let load = c.in-Some-read_load.load in
    let body = c.in-Some-first_lines.body.now in
    record {
      act = Loads line load body;
      sent = c.in-Ok.ensures.cases.0;
      spelled = record { whole = c.in-Some.ensures.0; spells = subst (λ (l : List ℕ). SpellsOnly IsLoad l load) c.in-Ok.ensures.cases.0 c.in-Some-read_load.ensures; lines = c.in-Some-first_lines.ensures.0 };
      is = (refl, refl);
      parted = loads_parted c.args.text.now line c.in-Some.rest.now body c.in-Some-first_lines.rest.now c.in_ok-told.told.now c.in_ok-told.behind.now load c.in-Some.ensures.1 c.in-Some-first_lines.ensures.1 c.in_ok-told.ensures;
    }

pub returns : goal.returns
returns c =
    let line = c.in-Some.line.now in
    let asked = asked_of c.in_ok-request.request in
    let traces = c.in_ok-traces.traces.items in
    record {
      act = Does line asked traces;
      sent = c.in-Ok.ensures.cases.0;
      spelled = record { whole = c.in-Some.ensures.0; spells = subst (λ (l : List ℕ). SpellsOnly IsRequest l asked) c.in-Ok.ensures.cases.0 c.in_ok-request.ensures.ok; fitting = c.in_ok-traces.ensures.fitting };
      is = (refl, refl);
      parted = does_parted c.args.text.now line c.in-Some.rest.now c.split_traces-front.result.0.now c.split_traces-front.result.1.now c.in_ok-told-2.told.now c.in_ok-told-2.behind.now asked traces
          c.in-Some.ensures.1 c.split_traces-front.ensures c.in_ok-traces.ensures.read c.in_ok-told-2.ensures;
    }
