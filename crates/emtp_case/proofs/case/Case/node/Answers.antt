use Rattle.std.specs.Prelude.{◌≡◌, ◌+◌, ◌-◌}
use Rattle.std.specs.List.{slice_get}
use Rattle.std.proofs.Common.{◌∙◌, ap, sym, arith}
use Rattle.emtp_case.proofs.Places.{name_found, name_missing}
use Rattle.emtp_case.proofs.case.Case.node.Goals as goal

pub returns-in-Some-clause-found : goal.returns-in-Some-clause-found
returns-in-Some-clause-found c =
    let names = c.args.self.now.parts.nodes in
    let place = rw (c.as_slice.ensures, c.as_bytes.ensures.value) at (sym c.first_place.ensures ∙ c.in-Some.is) in
    let back : c.in-Some.at + 1 - 1 ≡ c.in-Some.at = omega arith in
    (omega arith, ap (slice_get names) back ∙ name_found names c.args.name.now c.in-Some.at place)

pub returns-in-None-clause-missing : goal.returns-in-None-clause-missing
returns-in-None-clause-missing c = λ none.
    let place = rw (c.as_slice.ensures, c.as_bytes.ensures.value) at (sym c.first_place.ensures ∙ c.in-None.is) in
    name_missing c.args.self.now.parts.nodes c.args.name.now place
