use Rattle.std.proofs.Common.{◌≡◌, ◌∙◌, sym, ap, Some, to_z, of_z, arith}
use mir.Syntax.{w64}
use Rattle.std.proofs.lemmas.Int.{ints}
use Rattle.emtp_case.specs.held.Sizes.{sizes_of}
use Rattle.emtp_admittance.specs.Refusals.{first_frequency}
use Rattle.emtp_admittance.proofs.Frequencies.{first_range}
use Rattle.emtp_admittance.proofs.ports.judged_ports.Goals as goal

pub judged_at-requires-in-Some-first_frequency-clause-freq : goal.judged_at-requires-in-Some-first_frequency-clause-freq
judged_at-requires-in-Some-first_frequency-clause-freq c =
    let case = c.args.case.now.parts in
    let found : first_frequency case.sources ≡ Some c.in-Some-first_frequency.freq = ap first_frequency (sym c.as_slice.ensures) ∙ sym c.first_frequency.ensures ∙ c.in-Some-first_frequency.is in
    let range = first_range (sizes_of case) case.sources c.in-Some-first_frequency.freq c.args.case.now.fits.draft.network.sources found in
    let narrow : to_z w64 (of_z w64 c.in-Some-first_frequency.freq) ≡ c.in-Some-first_frequency.freq = omega (arith, ints, range.least, range.most) in
    rw narrow range
