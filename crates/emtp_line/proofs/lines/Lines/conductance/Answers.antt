use Rattle.std.proofs.Common.{◌≡◌, ◌∙◌, sym, subst, slice_get, FitsSigned, rules}
use mir.Syntax.{w64}
use Rattle.std.proofs.lemmas.Int.{to_z-of_z}
use Rattle.emtp_case.specs.held.Range.{IsBetween}
use Rattle.emtp_fix.specs.declared.limit.TheConstants.{LARGEST_ENTRY}
use Rattle.emtp_line.specs.Lines.{trio_of}
use Rattle.emtp_line.specs.held.Lines.{Lining, IsLineAt, IsPhaseAt, HasWaves}
use Rattle.emtp_line.specs.Phases.{modes_of, own_conductance}
use Rattle.emtp_line.proofs.Holding.{shown}
use Rattle.emtp_line.proofs.Finding.{found_line, found_phase, no_line_found, no_phase_found, own_between, phase_own, line_conductance}
use Rattle.emtp_line.proofs.lines.Lines.conductance.Goals as goal

pub returns-in-Some-clause-bound : goal.returns-in-Some-clause-bound
returns-in-Some-clause-bound c =
    let seen : Lining = shown c.self.inside.case.now.parts c.self.inside.lines.cap c.self.inside.trios.cap c.self.inside.lines.items c.self.inside.trios.items in
    let same : seen ≡ c.args.self.now = c.self.view_is in
    let waves = let P = λ (s : Lining). HasWaves (slice_get s.case.branches c.args.branch) in subst P (sym same) c.requires in
    let kind = rw c.as_slice.ensures at c.phase_of.ensures in
    let found = found_phase seen c.args.branch _ _ _ c.index.result.now c.self.invariant c.self.inside.case.now.fits waves (sym c.in-Some.is ∙ kind) c.index.ensures in
    let g : FitsSigned w64 c.index.result.now.own = search rules in
    subst (IsBetween 0 LARGEST_ENTRY) (sym (to_z-of_z w64 c.index.result.now.own g)) (own_between c.index.result.now found.held)

pub returns-in-Some-clause-line : goal.returns-in-Some-clause-line
returns-in-Some-clause-line c = λ x line'.
    let seen : Lining = shown c.self.inside.case.now.parts c.self.inside.lines.cap c.self.inside.trios.cap c.self.inside.lines.items c.self.inside.trios.items in
    let same : seen ≡ c.args.self.now = c.self.view_is in
    let waves = let P = λ (s : Lining). HasWaves (slice_get s.case.branches c.args.branch) in subst P (sym same) c.requires in
    let kind = rw c.as_slice.ensures at c.phase_of.ensures in
    let found = found_phase seen c.args.branch _ _ _ c.index.result.now c.self.invariant c.self.inside.case.now.fits waves (sym c.in-Some.is ∙ kind) c.index.ensures in
    let line = let P = λ (s : Lining). IsLineAt s.case c.args.branch x in subst P (sym same) line' in
    absurd (no_line_found seen c.args.branch _ _ c.index.result.now x found line)

pub returns-in-Some-clause-phase : goal.returns-in-Some-clause-phase
returns-in-Some-clause-phase c = λ x phase'.
    let seen : Lining = shown c.self.inside.case.now.parts c.self.inside.lines.cap c.self.inside.trios.cap c.self.inside.lines.items c.self.inside.trios.items in
    let same : seen ≡ c.args.self.now = c.self.view_is in
    let waves = let P = λ (s : Lining). HasWaves (slice_get s.case.branches c.args.branch) in subst P (sym same) c.requires in
    let kind = rw c.as_slice.ensures at c.phase_of.ensures in
    let found = found_phase seen c.args.branch _ _ _ c.index.result.now c.self.invariant c.self.inside.case.now.fits waves (sym c.in-Some.is ∙ kind) c.index.ensures in
    let phase = let P = λ (s : Lining). IsPhaseAt s.case c.args.branch x in subst P (sym same) phase' in
    let g : FitsSigned w64 c.index.result.now.own = search rules in
    let P = λ (s : Lining). c.index.result.now.own ≡ own_conductance (modes_of s.case.run.dt (trio_of s.case x.trio)) in
    to_z-of_z w64 c.index.result.now.own g ∙ subst P same (phase_own seen c.args.branch _ _ c.index.result.now x found phase)

pub returns-in-None-clause-bound : goal.returns-in-None-clause-bound
returns-in-None-clause-bound c =
    let seen : Lining = shown c.self.inside.case.now.parts c.self.inside.lines.cap c.self.inside.trios.cap c.self.inside.lines.items c.self.inside.trios.items in
    let same : seen ≡ c.args.self.now = c.self.view_is in
    let waves = let P = λ (s : Lining). HasWaves (slice_get s.case.branches c.args.branch) in subst P (sym same) c.requires in
    let kind = rw c.as_slice.ensures at c.phase_of.ensures in
    let found = found_line seen c.args.branch _ c.index-in-None.result.now c.self.invariant waves (sym c.in-None.is ∙ kind) c.index-in-None.ensures in
    let g : FitsSigned w64 c.index-in-None.result.now.waves.mode.conductance = search rules in
    subst (IsBetween 0 LARGEST_ENTRY) (sym (to_z-of_z w64 c.index-in-None.result.now.waves.mode.conductance g)) found.held.waves.mode.conductance

pub returns-in-None-clause-line : goal.returns-in-None-clause-line
returns-in-None-clause-line c = λ x line'.
    let seen : Lining = shown c.self.inside.case.now.parts c.self.inside.lines.cap c.self.inside.trios.cap c.self.inside.lines.items c.self.inside.trios.items in
    let same : seen ≡ c.args.self.now = c.self.view_is in
    let waves = let P = λ (s : Lining). HasWaves (slice_get s.case.branches c.args.branch) in subst P (sym same) c.requires in
    let kind = rw c.as_slice.ensures at c.phase_of.ensures in
    let found = found_line seen c.args.branch _ c.index-in-None.result.now c.self.invariant waves (sym c.in-None.is ∙ kind) c.index-in-None.ensures in
    let line = let P = λ (s : Lining). IsLineAt s.case c.args.branch x in subst P (sym same) line' in
    let g : FitsSigned w64 c.index-in-None.result.now.waves.mode.conductance = search rules in
    to_z-of_z w64 c.index-in-None.result.now.waves.mode.conductance g ∙ line_conductance seen c.args.branch c.index-in-None.result.now x found line

pub returns-in-None-clause-phase : goal.returns-in-None-clause-phase
returns-in-None-clause-phase c = λ x phase'.
    let seen : Lining = shown c.self.inside.case.now.parts c.self.inside.lines.cap c.self.inside.trios.cap c.self.inside.lines.items c.self.inside.trios.items in
    let same : seen ≡ c.args.self.now = c.self.view_is in
    let waves = let P = λ (s : Lining). HasWaves (slice_get s.case.branches c.args.branch) in subst P (sym same) c.requires in
    let kind = rw c.as_slice.ensures at c.phase_of.ensures in
    let found = found_line seen c.args.branch _ c.index-in-None.result.now c.self.invariant waves (sym c.in-None.is ∙ kind) c.index-in-None.ensures in
    let phase = let P = λ (s : Lining). IsPhaseAt s.case c.args.branch x in subst P (sym same) phase' in
    absurd (no_phase_found seen c.args.branch c.index-in-None.result.now x found phase)
