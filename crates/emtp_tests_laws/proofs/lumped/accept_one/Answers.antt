use Rattle.std.proofs.Common.{◌≡◌, subst, pos, get_or, slice_get, Some, None, FitsSigned, rules}
use mir.Syntax.{w64}
use Rattle.std.proofs.lemmas.Int.{to_z-of_z}
use Rattle.emtp_case.specs.declared.branch.Branch.TheVariants.{Lumped as OfLumped, Line as OfLine, Pseudo as OfPseudo, Phase as OfPhase}
use Rattle.emtp_case.specs.declared.branch.Lumped.{Lumped}
use Rattle.emtp_case.specs.declared.case.Parts.{Parts}
use Rattle.emtp_lumped.specs.Lumps.{next_of}
use Rattle.emtp_lumped.specs.held.Lumps.{HasMoved}
use Rattle.emtp_tests_laws.specs.Stepping.{voltage_of}
use Rattle.emtp_tests_laws.proofs.Reading.{branch_read, series_in, same_branch}
use Rattle.emtp_tests_laws.proofs.lumped.accept_one.Goals as goal

pub accept-requires : goal.accept-requires
accept-requires c =
    let case = c.args.case.now.parts in
    let here : slice_get case.branches c.args.at ≡ Some (OfLumped c.in-Lumped.b) = branch_read case _ c.args.at _ (OfLumped c.in-Lumped.b) c.as_slice.ensures c.requires.there c.in-Lumped.is in
    (c.in-Lumped.b, series_in c.args.lumps.now.case case c.args.at c.in-Lumped.b c.requires.same here)

pub returns-in-Ok-clause-moved : goal.returns-in-Ok-clause-moved
returns-in-Ok-clause-moved c = λ x past series stands.
    let case = c.args.case.now.parts in
    let b = c.in-Lumped.b in
    let here : slice_get case.branches c.args.at ≡ Some (OfLumped b) = branch_read case _ c.args.at _ (OfLumped b) c.as_slice.ensures c.requires.there c.in-Lumped.is in
    let v : FitsSigned w64 (get_or c.args.voltages.now b.from (pos 0)) = search rules in
    let w : FitsSigned w64 (get_or c.args.voltages.now b.to (pos 0)) = search rules in
    let moved = simp to_z-of_z at (c.in-Ok.ensures.moved b past (series_in c.args.lumps.now.case case c.args.at b c.requires.same here) stands) in
    let in_case = subst (λ (p : Parts). HasMoved c.accept.new.self c.args.at past (next_of p b past (voltage_of b c.args.voltages.now)) c.in-Ok.current) c.requires.same moved in
    let i : FitsSigned w64 c.in-Ok.current = search rules in
    rw (to_z-of_z w64 c.in-Ok.current i) (subst (λ (y : Lumped). HasMoved c.accept.new.self c.args.at past (next_of case y past (voltage_of y c.args.voltages.now)) c.in-Ok.current) (same_branch case c.args.at b x here series) in_case)

pub returns-in-Err-clause-out : goal.returns-in-Err-clause-out
returns-in-Err-clause-out c =
    let case = c.args.case.now.parts in
    let b = c.in-Lumped.b in
    let here : slice_get case.branches c.args.at ≡ Some (OfLumped b) = branch_read case _ c.args.at _ (OfLumped b) c.as_slice.ensures c.requires.there c.in-Lumped.is in
    let v : FitsSigned w64 (get_or c.args.voltages.now b.from (pos 0)) = search rules in
    let w : FitsSigned w64 (get_or c.args.voltages.now b.to (pos 0)) = search rules in (
      b,
      here,
      λ past stands.
          let out = simp to_z-of_z at (c.in-Err.ensures.out b past (series_in c.args.lumps.now.case case c.args.at b c.requires.same here) stands) in
          subst (λ (p : Parts). next_of p b past (voltage_of b c.args.voltages.now) ≡ None) c.requires.same out,
    )

pub returns-in-Line-clause-moved : goal.returns-in-Line-clause-moved
returns-in-Line-clause-moved c = λ x past series stands.
    let is = branch_read c.args.case.now.parts _ c.args.at _ (OfLine c.in-Line.field-0) c.as_slice.ensures c.requires.there c.in-Line.is in
    absurd (cc (is, series))

pub returns-in-Pseudo-clause-moved : goal.returns-in-Pseudo-clause-moved
returns-in-Pseudo-clause-moved c = λ x past series stands.
    let is = branch_read c.args.case.now.parts _ c.args.at _ (OfPseudo c.in-Pseudo.field-0) c.as_slice.ensures c.requires.there c.in-Pseudo.is in
    absurd (cc (is, series))

pub returns-in-Phase-clause-moved : goal.returns-in-Phase-clause-moved
returns-in-Phase-clause-moved c = λ x past series stands.
    let is = branch_read c.args.case.now.parts _ c.args.at _ (OfPhase c.in-Phase.field-0) c.as_slice.ensures c.requires.there c.in-Phase.is in
    absurd (cc (is, series))
