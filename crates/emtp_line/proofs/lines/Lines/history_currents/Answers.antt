use Rattle.std.proofs.Common.{◌≡◌, ◌∙◌, sym, subst, refl, ℤ, slice_get, arith}
use Rattle.emtp_line.specs.Line.{line_histories}
use Rattle.emtp_line.specs.Mode.{mode_of_line}
use Rattle.emtp_line.specs.Phases.{modes_of, phase_from_history, phase_to_history}
use Rattle.emtp_line.specs.Lines.{trio_of}
use Rattle.emtp_line.specs.held.Lines.{Lining, IsLineAt, IsPhaseAt, HasWaves, StandsAt, TrioStandsAt}
use Rattle.emtp_line.proofs.Holding.{shown}
use Rattle.emtp_line.proofs.Finding.{found_line, found_phase, no_line_found, no_phase_found, waves_within, line_histories_held, phase_histories_held}
use Rattle.emtp_line.proofs.lines.Lines.history_currents.Goals as goal

pub history_currents-requires-clause-held : goal.history_currents-requires-clause-held
history_currents-requires-clause-held c =
    let seen : Lining = shown c.self.inside.case.now.parts c.self.inside.lines.cap c.self.inside.trios.cap c.self.inside.lines.items c.self.inside.trios.items in
    let same : seen ≡ c.args.self.now = c.self.view_is in
    let waves = let P = λ (s : Lining). HasWaves (slice_get s.case.branches c.args.branch) in subst P (sym same) c.requires in
    let kind = rw c.as_slice.ensures at c.phase_of.ensures in
    let found = found_phase seen c.args.branch _ _ _ c.index.result.now c.self.invariant c.self.inside.case.now.fits waves (sym c.in-Some.is ∙ kind) c.index.ensures in
    found.held

pub index-requires-in-None : goal.index-requires-in-None
index-requires-in-None c =
    let seen : Lining = shown c.self.inside.case.now.parts c.self.inside.lines.cap c.self.inside.trios.cap c.self.inside.lines.items c.self.inside.trios.items in
    let same : seen ≡ c.args.self.now = c.self.view_is in
    let waves = let P = λ (s : Lining). HasWaves (slice_get s.case.branches c.args.branch) in subst P (sym same) c.requires in
    omega (arith, c.self.invariant.one_each, waves_within seen.case c.args.branch _ refl waves)

pub history_currents-requires-in-None : goal.history_currents-requires-in-None
history_currents-requires-in-None c =
    let seen : Lining = shown c.self.inside.case.now.parts c.self.inside.lines.cap c.self.inside.trios.cap c.self.inside.lines.items c.self.inside.trios.items in
    let same : seen ≡ c.args.self.now = c.self.view_is in
    let waves = let P = λ (s : Lining). HasWaves (slice_get s.case.branches c.args.branch) in subst P (sym same) c.requires in
    let kind = rw c.as_slice.ensures at c.phase_of.ensures in
    let found = found_line seen c.args.branch _ c.index-in-None.result.now c.self.invariant waves (sym c.in-None.is ∙ kind) c.index-in-None.ensures in
    found.held

pub returns-in-Some-clause-line : goal.returns-in-Some-clause-line
returns-in-Some-clause-line c = λ x past line' stands.
    let seen : Lining = shown c.self.inside.case.now.parts c.self.inside.lines.cap c.self.inside.trios.cap c.self.inside.lines.items c.self.inside.trios.items in
    let same : seen ≡ c.args.self.now = c.self.view_is in
    let waves = let P = λ (s : Lining). HasWaves (slice_get s.case.branches c.args.branch) in subst P (sym same) c.requires in
    let kind = rw c.as_slice.ensures at c.phase_of.ensures in
    let found = found_phase seen c.args.branch _ _ _ c.index.result.now c.self.invariant c.self.inside.case.now.fits waves (sym c.in-Some.is ∙ kind) c.index.ensures in
    let line = let P = λ (s : Lining). IsLineAt s.case c.args.branch x in subst P (sym same) line' in
    absurd (no_line_found seen c.args.branch _ _ c.index.result.now x found line)

pub returns-in-Some-clause-phase : goal.returns-in-Some-clause-phase
returns-in-Some-clause-phase c = λ x past phase' stands'.
    let seen : Lining = shown c.self.inside.case.now.parts c.self.inside.lines.cap c.self.inside.trios.cap c.self.inside.lines.items c.self.inside.trios.items in
    let same : seen ≡ c.args.self.now = c.self.view_is in
    let waves = let P = λ (s : Lining). HasWaves (slice_get s.case.branches c.args.branch) in subst P (sym same) c.requires in
    let kind = rw c.as_slice.ensures at c.phase_of.ensures in
    let found = found_phase seen c.args.branch _ _ _ c.index.result.now c.self.invariant c.self.inside.case.now.fits waves (sym c.in-Some.is ∙ kind) c.index.ensures in
    let phase = let P = λ (s : Lining). IsPhaseAt s.case c.args.branch x in subst P (sym same) phase' in
    let stands = let P = λ (s : Lining). TrioStandsAt s x.trio past in subst P (sym same) stands' in
    let P = λ (s : Lining). ◌≡◌ {A = ℤ × ℤ} c.history_currents.result (phase_from_history (modes_of s.case.run.dt (trio_of s.case x.trio)) (past 0) (past x.phase), phase_to_history (modes_of s.case.run.dt (trio_of s.case x.trio)) (past 0) (past x.phase)) in
    subst P same (c.history_currents.ensures.value ∙ phase_histories_held seen c.args.branch _ _ c.index.result.now x past found phase stands)

pub returns-in-None-clause-line : goal.returns-in-None-clause-line
returns-in-None-clause-line c = λ x past line' stands'.
    let seen : Lining = shown c.self.inside.case.now.parts c.self.inside.lines.cap c.self.inside.trios.cap c.self.inside.lines.items c.self.inside.trios.items in
    let same : seen ≡ c.args.self.now = c.self.view_is in
    let waves = let P = λ (s : Lining). HasWaves (slice_get s.case.branches c.args.branch) in subst P (sym same) c.requires in
    let kind = rw c.as_slice.ensures at c.phase_of.ensures in
    let found = found_line seen c.args.branch _ c.index-in-None.result.now c.self.invariant waves (sym c.in-None.is ∙ kind) c.index-in-None.ensures in
    let line = let P = λ (s : Lining). IsLineAt s.case c.args.branch x in subst P (sym same) line' in
    let stands = let P = λ (s : Lining). StandsAt s c.args.branch past in subst P (sym same) stands' in
    let P = λ (s : Lining). ◌≡◌ {A = ℤ × ℤ} c.history_currents-in-None.result (line_histories (mode_of_line s.case.run.dt x) past) in
    subst P same (c.history_currents-in-None.ensures.value ∙ line_histories_held seen c.args.branch c.index-in-None.result.now x past found line stands)

pub returns-in-None-clause-phase : goal.returns-in-None-clause-phase
returns-in-None-clause-phase c = λ x past phase' stands.
    let seen : Lining = shown c.self.inside.case.now.parts c.self.inside.lines.cap c.self.inside.trios.cap c.self.inside.lines.items c.self.inside.trios.items in
    let same : seen ≡ c.args.self.now = c.self.view_is in
    let waves = let P = λ (s : Lining). HasWaves (slice_get s.case.branches c.args.branch) in subst P (sym same) c.requires in
    let kind = rw c.as_slice.ensures at c.phase_of.ensures in
    let found = found_line seen c.args.branch _ c.index-in-None.result.now c.self.invariant waves (sym c.in-None.is ∙ kind) c.index-in-None.ensures in
    let phase = let P = λ (s : Lining). IsPhaseAt s.case c.args.branch x in subst P (sym same) phase' in
    absurd (no_phase_found seen c.args.branch c.index-in-None.result.now x found phase)
