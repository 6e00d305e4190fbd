use Rattle.std.proofs.Common.{◌≡◌, ◌∙◌, ℕ, ap, slice_get, Some, refl, rules, length, arith}
use mir.Syntax.{w64}
use Rattle.std.proofs.lemmas.Int.{to_z-of_z}
use Rattle.emtp_case.specs.Branch.{from_of, to_of}
use Rattle.emtp_case.specs.declared.branch.Branch.{Branch}
use Rattle.emtp_case.specs.declared.branch.Branch.TheVariants.{Lumped as OfLumped, Line as OfLine, Pseudo as OfPseudo, Phase as OfPhase}
use Rattle.emtp_case.specs.declared.case.Parts.{Parts}
use Rattle.emtp_elim.specs.Matrix.{item}
use Rattle.emtp_net.proofs.Moves.{line_moves, line_stops, lumped_moves, lumped_stops, phase_read, pseudo_moves, pseudo_stops}
use Rattle.emtp_case.proofs.RowsOfNodes.{branch_read}
use Rattle.emtp_net.proofs.Nodes.{branch_fits, branch_held}
use Rattle.emtp_net.proofs.PhaseMoves.{phase_waits, trio_moves, trio_stops}
use Rattle.emtp_rows.proofs.Phases.{phase_there}
use Rattle.emtp_net.proofs.branches.Branches.accept_one.Goals as goal

pub returns-in-Ok-clause-moves : goal.returns-in-Ok-clause-moves
returns-in-Ok-clause-moves c = λ H before.
    let case = c.args.case.now.parts in
    let vs = c.args.voltages.now in
    let x = c.in-Lumped.field-0 in
    let ends : c.ends-from.result ≡ (x.from, x.to) = c.ends-from.ensures ∙ ap (λ (b : Branch). (from_of b, to_of b)) c.in-Lumped.is in
    let is : slice_get case.branches c.args.at ≡ Some (OfLumped x) = branch_read case _ c.args.at _ (OfLumped x) c.as_slice.ensures c.requires.there c.in-Lumped.is in
    let one = to_z-of_z w64 (item vs x.from) (search rules) in
    let two = to_z-of_z w64 (item vs x.to) (search rules) in
    let moves = rw (ap (λ (e : ℕ × ℕ). e.0) ends, ap (λ (e : ℕ × ℕ). e.1) ends, one, two) at c.in-Ok.ensures in
    let wide = to_z-of_z w64 c.in-Ok.current (search rules) in
    rw wide (lumped_moves case H vs c.args.at x c.args.self.now _ c.in-Ok.current c.args.case.now.fits.draft.network c.requires.same c.requires.there is refl refl moves before)

pub returns-in-Err-clause-moves : goal.returns-in-Err-clause-moves
returns-in-Err-clause-moves c = λ H before.
    let case = c.args.case.now.parts in
    let vs = c.args.voltages.now in
    let x = c.in-Lumped.field-0 in
    let ends : c.ends-from.result ≡ (x.from, x.to) = c.ends-from.ensures ∙ ap (λ (b : Branch). (from_of b, to_of b)) c.in-Lumped.is in
    let is : slice_get case.branches c.args.at ≡ Some (OfLumped x) = branch_read case _ c.args.at _ (OfLumped x) c.as_slice.ensures c.requires.there c.in-Lumped.is in
    let one = to_z-of_z w64 (item vs x.from) (search rules) in
    let two = to_z-of_z w64 (item vs x.to) (search rules) in
    let moves = rw (ap (λ (e : ℕ × ℕ). e.0) ends, ap (λ (e : ℕ × ℕ). e.1) ends, one, two) at c.in-Err.ensures in
    lumped_stops case H vs c.args.at x c.args.self.now (record c.args.self.now { lumps = c.accept.new.self }) c.in-Err.field-0 c.requires.same c.requires.there is moves before

pub returns-in-Ok-accept-clause-moves : goal.returns-in-Ok-accept-clause-moves
returns-in-Ok-accept-clause-moves c = λ H before.
    let case = c.args.case.now.parts in
    let vs = c.args.voltages.now in
    let x = c.in-Line.field-0 in
    let ends : c.ends-from.result ≡ (x.from, x.to) = c.ends-from.ensures ∙ ap (λ (b : Branch). (from_of b, to_of b)) c.in-Line.is in
    let is : slice_get case.branches c.args.at ≡ Some (OfLine x) = branch_read case _ c.args.at _ (OfLine x) c.as_slice.ensures c.requires.there c.in-Line.is in
    let one = to_z-of_z w64 (item vs x.from) (search rules) in
    let two = to_z-of_z w64 (item vs x.to) (search rules) in
    let moves = rw (ap (λ (e : ℕ × ℕ). e.0) ends, ap (λ (e : ℕ × ℕ). e.1) ends, one, two) at c.in-Ok-accept.ensures in
    let wide = to_z-of_z w64 c.in-Ok-accept.current (search rules) in
    rw wide (line_moves case H vs c.args.at x c.args.self.now _ c.in-Ok-accept.current c.args.case.now.fits.draft.network c.requires.same c.requires.there is refl refl moves before)

pub returns-in-Err-accept-clause-moves : goal.returns-in-Err-accept-clause-moves
returns-in-Err-accept-clause-moves c = λ H before.
    let case = c.args.case.now.parts in
    let vs = c.args.voltages.now in
    let x = c.in-Line.field-0 in
    let ends : c.ends-from.result ≡ (x.from, x.to) = c.ends-from.ensures ∙ ap (λ (b : Branch). (from_of b, to_of b)) c.in-Line.is in
    let is : slice_get case.branches c.args.at ≡ Some (OfLine x) = branch_read case _ c.args.at _ (OfLine x) c.as_slice.ensures c.requires.there c.in-Line.is in
    let one = to_z-of_z w64 (item vs x.from) (search rules) in
    let two = to_z-of_z w64 (item vs x.to) (search rules) in
    let moves = rw (ap (λ (e : ℕ × ℕ). e.0) ends, ap (λ (e : ℕ × ℕ). e.1) ends, one, two) at c.in-Err-accept.ensures in
    line_stops case H vs c.args.at x c.args.self.now (record c.args.self.now { lines = c.accept-in-Line.new.self }) c.in-Err-accept.field-0 c.requires.same c.requires.there is moves before

pub returns-in-Ok-accept-2-clause-moves : goal.returns-in-Ok-accept-2-clause-moves
returns-in-Ok-accept-2-clause-moves c = λ H before.
    let case = c.args.case.now.parts in
    let vs = c.args.voltages.now in
    let x = c.in-Pseudo.field-0 in
    let ends : c.ends-from.result ≡ (x.from, x.to) = c.ends-from.ensures ∙ ap (λ (b : Branch). (from_of b, to_of b)) c.in-Pseudo.is in
    let is : slice_get case.branches c.args.at ≡ Some (OfPseudo x) = branch_read case _ c.args.at _ (OfPseudo x) c.as_slice.ensures c.requires.there c.in-Pseudo.is in
    let one = to_z-of_z w64 (item vs x.from) (search rules) in
    let two = to_z-of_z w64 (item vs x.to) (search rules) in
    let moves = rw (ap (λ (e : ℕ × ℕ). e.0) ends, ap (λ (e : ℕ × ℕ). e.1) ends, one, two) at c.in-Ok-accept-2.ensures in
    let wide = to_z-of_z w64 c.in-Ok-accept-2.current (search rules) in
    rw wide (pseudo_moves case H vs c.args.at x c.args.self.now _ c.in-Ok-accept-2.current c.args.case.now.fits.draft.network c.requires.same c.requires.there is refl refl moves before)

pub returns-in-Err-accept-2-clause-moves : goal.returns-in-Err-accept-2-clause-moves
returns-in-Err-accept-2-clause-moves c = λ H before.
    let case = c.args.case.now.parts in
    let vs = c.args.voltages.now in
    let x = c.in-Pseudo.field-0 in
    let ends : c.ends-from.result ≡ (x.from, x.to) = c.ends-from.ensures ∙ ap (λ (b : Branch). (from_of b, to_of b)) c.in-Pseudo.is in
    let is : slice_get case.branches c.args.at ≡ Some (OfPseudo x) = branch_read case _ c.args.at _ (OfPseudo x) c.as_slice.ensures c.requires.there c.in-Pseudo.is in
    let one = to_z-of_z w64 (item vs x.from) (search rules) in
    let two = to_z-of_z w64 (item vs x.to) (search rules) in
    let moves = rw (ap (λ (e : ℕ × ℕ). e.0) ends, ap (λ (e : ℕ × ℕ). e.1) ends, one, two) at c.in-Err-accept-2.ensures in
    pseudo_stops case H vs c.args.at x c.args.self.now (record c.args.self.now { pseudos = c.accept-in-Pseudo.new.self }) c.in-Err-accept-2.field-0 c.requires.same c.requires.there is moves before

pub returns-then-b-ne0-clause-moves : goal.returns-then-b-ne0-clause-moves
returns-then-b-ne0-clause-moves c = λ H before.
    let case = c.args.case.now.parts in
    let x = c.in-Phase.b in
    let is : slice_get case.branches c.args.at ≡ Some (OfPhase x) = branch_read case _ c.args.at _ (OfPhase x) c.as_slice.ensures c.requires.there c.in-Phase.is in
    phase_waits case H c.args.voltages.now c.args.at x c.args.self.now _ c.args.case.now.fits.draft.network c.requires.there is c.if-b-ne0.true before

pub overflow_add-result : goal.overflow_add-result
overflow_add-result c = omega (arith, c.requires.there, c.args.case.now.fits.draft.counts.branches, c.in-Err-accept_three.ensures.phase)

pub returns-in-Ok-accept_three-clause-moves : goal.returns-in-Ok-accept_three-clause-moves
returns-in-Ok-accept_three-clause-moves c = λ H before.
    let case = c.args.case.now.parts in
    let x = c.in-Phase.b in
    let is : slice_get case.branches c.args.at ≡ Some (OfPhase x) = branch_read case _ c.args.at _ (OfPhase x) c.as_slice.ensures c.requires.there c.in-Phase.is in
    let moves = rw (c.phase_voltages-v.ensures, c.phase_voltages-w.ensures) at c.in-Ok-accept_three.ensures in
    trio_moves case H c.args.voltages.now c.args.at x c.args.self.now _ c.in-Ok-accept_three.field-0 _ c.args.case.now.fits.draft.network c.requires.same c.requires.there is c.if-b-ne0.false refl refl moves before

pub returns-in-Err-accept_three-clause-moves : goal.returns-in-Err-accept_three-clause-moves
returns-in-Err-accept_three-clause-moves c = λ H before.
    let case = c.args.case.now.parts in
    let x = c.in-Phase.b in
    let is : slice_get case.branches c.args.at ≡ Some (OfPhase x) = branch_read case _ c.args.at _ (OfPhase x) c.as_slice.ensures c.requires.there c.in-Phase.is in
    let moves = rw (c.phase_voltages-v.ensures, c.phase_voltages-w.ensures) at c.in-Err-accept_three.ensures in
    let stops = trio_stops case H c.args.voltages.now c.args.at x c.args.self.now (record c.args.self.now { lines = c.accept_three.new.self }) c.in-Err-accept_three.fault c.args.case.now.fits.draft.network c.requires.same c.requires.there is c.if-b-ne0.false moves before in
    stops.1

pub returns-in-Err-accept_three-clause-there : goal.returns-in-Err-accept_three-clause-there
returns-in-Err-accept_three-clause-there c =
    let case = c.args.case.now.parts in
    let x = c.in-Phase.b in
    let network = c.args.case.now.fits.draft.network in
    let is : slice_get case.branches c.args.at ≡ Some (OfPhase x) = branch_read case _ c.args.at _ (OfPhase x) c.as_slice.ensures c.requires.there c.in-Phase.is in
    let fits = branch_fits case c.args.at (OfPhase x) network.branches c.requires.there is in
    let place = network.in_threes.places c.args.at x.trio x.phase (phase_read case c.args.at (OfPhase x) c.requires.there is) in
    let first : x.phase ≡ 0 = c.if-b-ne0.false in
    let inside = phase_there case.branches case.trios x.trio c.in-Err-accept_three.fault.phase network.in_threes fits.trio c.in-Err-accept_three.ensures.phase in
    omega (arith, place, first, inside)

pub accept-requires : goal.accept-requires
accept-requires c =
    let x = c.in-Lumped.field-0 in
    (x, branch_held _ c.args.case.now.parts _ c.args.at _ (OfLumped x) c.requires.same.lumps c.as_slice.ensures c.requires.there c.in-Lumped.is)

pub accept-requires-in-Line : goal.accept-requires-in-Line
accept-requires-in-Line c =
    let x = c.in-Line.field-0 in
    (x, branch_held _ c.args.case.now.parts _ c.args.at _ (OfLine x) c.requires.same.lines c.as_slice.ensures c.requires.there c.in-Line.is)

pub accept-requires-in-Pseudo : goal.accept-requires-in-Pseudo
accept-requires-in-Pseudo c =
    let x = c.in-Pseudo.field-0 in
    (x, branch_held _ c.args.case.now.parts _ c.args.at _ (OfPseudo x) c.requires.same.pseudos c.as_slice.ensures c.requires.there c.in-Pseudo.is)

pub returns-in-Ok-clause-same : goal.returns-in-Ok-clause-same
returns-in-Ok-clause-same c = record { lumps = c.accept.ensures.case ∙ c.requires.same.lumps; lines = c.requires.same.lines; pseudos = c.requires.same.pseudos }

pub returns-in-Err-clause-same : goal.returns-in-Err-clause-same
returns-in-Err-clause-same c = record { lumps = c.accept.ensures.case ∙ c.requires.same.lumps; lines = c.requires.same.lines; pseudos = c.requires.same.pseudos }

pub returns-in-Ok-accept-clause-same : goal.returns-in-Ok-accept-clause-same
returns-in-Ok-accept-clause-same c = record { lumps = c.requires.same.lumps; lines = c.accept-in-Line.ensures.case ∙ c.requires.same.lines; pseudos = c.requires.same.pseudos }

pub returns-in-Err-accept-clause-same : goal.returns-in-Err-accept-clause-same
returns-in-Err-accept-clause-same c = record { lumps = c.requires.same.lumps; lines = c.accept-in-Line.ensures.case ∙ c.requires.same.lines; pseudos = c.requires.same.pseudos }

pub returns-in-Ok-accept-2-clause-same : goal.returns-in-Ok-accept-2-clause-same
returns-in-Ok-accept-2-clause-same c = record { lumps = c.requires.same.lumps; lines = c.requires.same.lines; pseudos = c.accept-in-Pseudo.ensures.case ∙ c.requires.same.pseudos }

pub returns-in-Err-accept-2-clause-same : goal.returns-in-Err-accept-2-clause-same
returns-in-Err-accept-2-clause-same c = record { lumps = c.requires.same.lumps; lines = c.requires.same.lines; pseudos = c.accept-in-Pseudo.ensures.case ∙ c.requires.same.pseudos }

pub returns-in-Ok-accept_three-clause-same : goal.returns-in-Ok-accept_three-clause-same
returns-in-Ok-accept_three-clause-same c = record { lumps = c.requires.same.lumps; lines = c.accept_three.ensures.case ∙ c.requires.same.lines; pseudos = c.requires.same.pseudos }

pub returns-in-Err-accept_three-clause-same : goal.returns-in-Err-accept_three-clause-same
returns-in-Err-accept_three-clause-same c = record { lumps = c.requires.same.lumps; lines = c.accept_three.ensures.case ∙ c.requires.same.lines; pseudos = c.requires.same.pseudos }

pub phase_voltages-v-requires-clause-trio : goal.phase_voltages-v-requires-clause-trio
phase_voltages-v-requires-clause-trio c =
    let case = c.args.case.now.parts in
    let x = c.in-Phase.b in
    let is : slice_get case.branches c.args.at ≡ Some (OfPhase x) = branch_read case _ c.args.at _ (OfPhase x) c.as_slice.ensures c.requires.there c.in-Phase.is in
    (branch_fits case c.args.at (OfPhase x) c.args.case.now.fits.draft.network.branches c.requires.there is).trio

pub phase_voltages-w-requires-clause-trio : goal.phase_voltages-w-requires-clause-trio
phase_voltages-w-requires-clause-trio c =
    let case = c.args.case.now.parts in
    let x = c.in-Phase.b in
    let is : slice_get case.branches c.args.at ≡ Some (OfPhase x) = branch_read case _ c.args.at _ (OfPhase x) c.as_slice.ensures c.requires.there c.in-Phase.is in
    (branch_fits case c.args.at (OfPhase x) c.args.case.now.fits.draft.network.branches c.requires.there is).trio

pub accept_three-requires : goal.accept_three-requires
accept_three-requires c =
    let case = c.args.case.now.parts in
    let x = c.in-Phase.b in
    let is : slice_get case.branches c.args.at ≡ Some (OfPhase x) = branch_read case _ c.args.at _ (OfPhase x) c.as_slice.ensures c.requires.there c.in-Phase.is in
    let fits = branch_fits case c.args.at (OfPhase x) c.args.case.now.fits.draft.network.branches c.requires.there is in
    omega (arith, fits.trio, ap (λ (p : Parts). length p.trios) c.requires.same.lines)
