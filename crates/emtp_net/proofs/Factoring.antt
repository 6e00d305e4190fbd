-- The factor of the next step, and what it costs.
use Rattle.std.proofs.Common.{◌≡◌, ◌∙◌, sym, ap, subst, ℕ, ◌+◌, ◌-◌, ◌≤◌, ◌==◌, if◌then◌else◌, List, length, take, refl, arith}
use Rattle.std.proofs.lemmas.List.{take-take}
use Rattle.emtp_case.specs.StepRecord.{StepRecord}
use Rattle.emtp_case.specs.declared.case.Parts.{Parts}
use Rattle.emtp_elim.specs.Matrix.{Matrix}
use Rattle.emtp_elim.specs.declared.fault.RowCause.{RowCause}
use Rattle.emtp_elim.specs.declared.fault.RowCause.TheVariants.{Range as RowRange, ZeroPivot as RowPivot}
use Rattle.emtp_rows.proofs.NodalRows.{length-nodal_matrix}
use Rattle.emtp_rows.specs.Nodal.{Nodal, nodal_matrix}
use Rattle.emtp_rows.specs.held.Touched.{NodalRows, StandsUntouched, Touches}
use Rattle.emtp_tail.proofs.RedoneRows.{rows_counted, rows_ticked, rows_ticked_most}
use Rattle.emtp_tail.specs.Good.{first_change}
use Rattle.emtp_tail.specs.held.Good.{Good}
use Rattle.emtp_net.specs.held.Holding.{HasFixed, HoldsRows}
use Rattle.emtp_net.specs.Redone.{step_redone}
use Rattle.emtp_net.specs.held.Redone.{last_matrix, step_ticks}
use Rattle.emtp_net.specs.held.Stages.{step_adds}
use Rattle.emtp_net.specs.Step.{fault_by}
use Rattle.emtp_net.specs.System.{conductances, couplings, kinds_of, matrix, nodal}
use Rattle.emtp_net.specs.declared.fault.NetFault.{NetFault}

-- rows with the conductances and kinds of the next step are those of its nodal system
pub nodal_is : (case : Parts) (H : List StepRecord) (s t : Nodal) → s.case ≡ case → s.coupling ≡ couplings case → s.kinds ≡ kinds_of case H → t ≡ record s { own = conductances case H } → t ≡ nodal case H
nodal_is case H s t same coupling kinds set =
    set
    ∙ ap (λ (p : Parts). record s { case = p; own = conductances case H }) same
    ∙ ap (λ g. record s { case = case; own = conductances case H; coupling = g }) coupling
    ∙ ap (λ k. record { case = case; own = conductances case H; coupling = couplings case; kinds = k }) kinds

-- rows that stood for the matrix but for the touched ones do so when more are touched
pub stands_touched : (old new : NodalRows) (rows : Matrix) → Touches old new → StandsUntouched old rows → StandsUntouched new rows
stands_touched old new rows touches stands = λ n early few.
    sym (take-take n new.touched (nodal_matrix new.nodal) early) ∙ ap (take n) touches.before ∙ take-take n new.touched (nodal_matrix old.nodal) early ∙ stands n (omega (arith, early, touches.earlier)) few

-- the rows and the factor after both moved on
pub holds_next : (case : Parts) (old mid new : NodalRows) (kept left : Good) → HoldsRows case old kept → mid.nodal ≡ record old.nodal { own = mid.nodal.own } → length mid.nodal.own ≡ length case.branches → HasFixed case mid.nodal.own → new.nodal ≡ mid.nodal → left.size ≡ kept.size → StandsUntouched new left.rows → HoldsRows case new left
holds_next case old mid new kept left holds rest room fixed nodal_is size stands = record {
  case_is = ap (λ (n : Nodal). n.case) nodal_is ∙ ap (λ (n : Nodal). n.case) rest ∙ holds.case_is;
  own_room = ap (λ (n : Nodal). length n.own) nodal_is ∙ room;
  fixed = subst (HasFixed case) (sym (ap (λ (n : Nodal). n.own) nodal_is)) fixed;
  coupling_is = ap (λ (n : Nodal). n.coupling) nodal_is ∙ ap (λ (n : Nodal). n.coupling) rest ∙ holds.coupling_is;
  kept_size = size ∙ holds.kept_size;
  kept_stands = stands;
}

-- the rows that a step finds changed are those of its matrix
changed_is : (case : Parts) (H : List StepRecord) (old : Matrix) (rows : Nodal) → old ≡ last_matrix case H → rows ≡ nodal case H → first_change old (nodal_matrix rows) ≡ first_change (last_matrix case H) (matrix case H)
changed_is case H old rows is are =
    ap (λ o. first_change o (nodal_matrix rows)) is ∙ ap (λ (r : Nodal). first_change (last_matrix case H) (nodal_matrix r)) are

-- the ticks of a step
pub ticks_are : (case : Parts) (H : List StepRecord) (old : Matrix) (rows : Nodal) (size before after : ℕ) → old ≡ last_matrix case H → rows ≡ nodal case H → size ≡ length case.nodes → after + first_change old (nodal_matrix rows) ≡ before + size → after ≡ before + step_ticks case H
ticks_are case H old rows size before after is are sized ticked =
    rows_ticked (length case.nodes) (matrix case) H (first_change old (nodal_matrix rows)) before after (length-nodal_matrix (nodal case H)) (changed_is case H old rows is are) (ticked ∙ ap (λ n. before + n) sized)

pub ticks_most : (case : Parts) (H : List StepRecord) (old : Matrix) (rows : Nodal) (size before after : ℕ) → old ≡ last_matrix case H → rows ≡ nodal case H → size ≡ length case.nodes → after + first_change old (nodal_matrix rows) ≤ before + size → after ≤ before + step_ticks case H
ticks_most case H old rows size before after is are sized ticked =
    rows_ticked_most (length case.nodes) (matrix case) H (first_change old (nodal_matrix rows)) before after (changed_is case H old rows is are) (omega (arith, ticked, sized))

pub redone_is : (case : Parts) (H : List StepRecord) (old : Matrix) (rows : Nodal) (made size before after : ℕ) → old ≡ last_matrix case H → rows ≡ nodal case H → made + 1 ≡ length H → size ≡ length case.nodes
    → after ≡ before + (if made == 0 then 0 else size - first_change old (nodal_matrix rows)) → after ≡ before + step_redone case H
redone_is case H old rows made size before after is are long sized count =
    let first = first_change old (nodal_matrix rows) in
    rows_counted (length case.nodes) (matrix case) H first made before after (changed_is case H old rows is are) long (count ∙ ap (λ n. before + (if made == 0 then 0 else n - first)) sized)

-- a fault of the elimination comes once rows are redone
pub row_adds : (case : Parts) (H : List StepRecord) (cause : RowCause) (node : ℕ) (e : NetFault) → e ≡ fault_by cause node → step_adds e case H ≡ step_redone case H
row_adds case H cause node e is = ap (λ f. step_adds f case H) is ∙ by_cause cause
  where
    by_cause : (cause : RowCause) → step_adds (fault_by cause node) case H ≡ step_redone case H
    by_cause RowRange = refl
    by_cause RowPivot = refl

-- the rows with other kinds
pub holds_kinds : (case : Parts) (old new : NodalRows) (kept : Good) → HoldsRows case old kept → new.nodal ≡ record old.nodal { kinds = new.nodal.kinds } → Touches old new → HoldsRows case new kept
holds_kinds case old new kept holds rest touches = record {
  case_is = ap (λ (n : Nodal). n.case) rest ∙ holds.case_is;
  own_room = ap (λ (n : Nodal). length n.own) rest ∙ holds.own_room;
  fixed = subst (HasFixed case) (sym (ap (λ (n : Nodal). n.own) rest)) holds.fixed;
  coupling_is = ap (λ (n : Nodal). n.coupling) rest ∙ holds.coupling_is;
  kept_size = holds.kept_size;
  kept_stands = stands_touched old new kept.rows touches holds.kept_stands;
}
