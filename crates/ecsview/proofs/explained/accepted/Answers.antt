use Rattle.std.proofs.Common.{◌≡◌, List, length, string_bytes, subst, arith}
use Rattle.lints.specs.declared.lint.Lint.{Lint}
use Rattle.ecsview.specs.Explained.{IsAcceptedIn, accepted_status}
use Rattle.ecsview.proofs.explained.accepted.Goals as goal

-- what is told is what is found, and as many are counted
pub returns : goal.returns
returns c =
    let many : c.len.result ≡ length c.in_ok-found.found.items = omega (arith, c.len.ensures, c.in_ok-found.found.ok.0) in
    record {
      found = c.in_ok-found.found.items;
      are = c.in_ok-found.ensures;
      text = subst (λ (found : List Lint). IsAcceptedIn c.args.asking.format c.args.loaded.now.file.built found (string_bytes c.in_ok-text.text)) c.as_slice.ensures.value c.in_ok-text.ensures;
      ends = subst (λ n. c.accepted_status.result ≡ accepted_status c.args.asking.denies n) many c.accepted_status.ensures;
    }
