use Rattle.std.proofs.Common.{◌∙◌, ap, length, map, List, ℕ, ℤ}
use Rattle.std.proofs.lemmas.List.{with_items_is}
use Rattle.emtp_case.specs.declared.source.Source.{Source}
use Rattle.emtp_wave.specs.Wave.{value_of}
use Rattle.emtp_net.proofs.nodal_system.NodalSystem.set_sources.Goals as goal

pub returns-clause-values : goal.returns-clause-values
returns-clause-values c = λ H long given.
    let case = c.args.case.now.parts in
    with_items_is c.args.self.now.values c.fill_values.new.out (c.fill_values.auto.out ∙ c.deref_mut.ensures.len)
    ∙ c.fill_values.ensures
    ∙ ap (λ (n : ℕ). map (λ (s : Source). value_of case.run c.args.tacs.now s n) case.sources) long
    ∙ ap (λ (vs : List ℤ). map (λ (s : Source). value_of case.run vs s (length H)) case.sources) given
