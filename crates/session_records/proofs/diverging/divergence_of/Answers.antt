use Rattle.std.proofs.Common.{length, ap, string_bytes}
use Rattle.session_records.proofs.Divergences.{divergence_is}
use Rattle.session_records.proofs.diverging.divergence_of.Goals as goal

pub returns : goal.returns
returns c =
    divergence_is c.args.one c.args.other c.args.journal.now c.args.beside.now c.in_ok-front.front.now c.in_ok-front_beside.front_beside.now c.in_ok-entries.field-0.rest.now c.in_ok-others.field-0.rest.now
    c.in_ok-entries.field-0.items.items c.in_ok-others.field-0.items.items c.as_slice-shown.result.now c.as_slice-shown_beside.result.now c.as_slice-shown.result.now c.as_slice-shown_beside.result.now
    c.in_ok-runs.runs.items c.in_ok-runs_beside.runs_beside.items c.as_slice-3.result.now c.as_slice-4.result.now c.in_ok-parting.parting c.first_difference.result (length c.as_slice-shown.result.now) (length c.as_slice-shown_beside.result.now) c.status_of.result
    (string_bytes c.new-text.result) (string_bytes c.push_agreement.new.text) (string_bytes c.push_requests.new.text) (string_bytes c.push_place.new.text) (string_bytes c.push_lines_of.new.text)
    c.in_ok-front.ensures.behind c.in_ok-front_beside.ensures.behind c.in_ok-entries.ensures.read c.in_ok-others.ensures.read c.as_slice-shown.ensures.value c.as_slice-shown_beside.ensures.value c.in_ok-parting.ensures.taken c.in_ok-parting.ensures.beside
    c.in_ok-parting.ensures.parting c.as_slice-shown.ensures.value c.as_slice-shown_beside.ensures.value c.in_ok-push_requests.ensures c.in_ok-runs.ensures c.in_ok-runs_beside.ensures c.as_slice-3.ensures.value c.as_slice-4.ensures.value
    c.first_difference.ensures c.in_ok-push_lines_of.ensures c.status_of.ensures (ap length c.as_slice-shown.ensures.value) (ap length c.as_slice-shown_beside.ensures.value) c.new-text.ensures.bytes c.in_ok-push_agreement.ensures c.in_ok-push_place.ensures
