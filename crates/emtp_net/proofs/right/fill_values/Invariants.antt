use Rattle.std.proofs.Common.{◌≡◌, map, take}
use Rattle.emtp_case.specs.declared.source.Source.{Source}
use Rattle.emtp_wave.specs.Wave.{value_of}
use Rattle.emtp_net.proofs.right.fill_values.Given as goal

abbrev pub invariant-loop-at : goal.invariant-loop-at
invariant-loop-at l = take l.at l.out ≡ map (λ (s : Source). value_of l.case.parts.run l.tacs s l.step) (take l.at l.case.parts.sources)
