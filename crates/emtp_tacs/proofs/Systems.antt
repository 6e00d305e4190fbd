-- The system of the blocks, from what its stages answer.
use Rattle.std.proofs.Common.{◌≡◌, ◌∙◌, ◌≤◌, sym, ap, subst, ℕ, ℤ, List, length, arith, Option, Some, None, Result, Ok, Err, OnOk, IfErr, IsErrAnd, refl}
use Rattle.emtp_blocks.proofs.Matrices.{length-control_matrix}
use Rattle.emtp_blocks.proofs.OneByOne.{limiters_are}
use Rattle.emtp_blocks.specs.held.BlockRows.{Blocking, StandsFor as BlocksStandFor, HaveAccepted, limiters_kept, rows_of_blocks}
use Rattle.emtp_blocks.specs.System.{control_matrix, first_out, matrix, outputs, right, states_after}
use Rattle.emtp_case.specs.StepRecord.{StepRecord}
use Rattle.emtp_case.specs.declared.case.Parts.{Parts}
use Rattle.emtp_elim.specs.Matrix.{Matrix}
use Rattle.emtp_elim.specs.Outcome.{outcome}
use Rattle.emtp_elim.specs.declared.fault.PlainFault.TheVariants.{Row, Solve}
use Rattle.emtp_elim.specs.declared.fault.RowFault.{RowFault}
use Rattle.emtp_elim.specs.declared.fault.SolveFault.{SolveFault}
use Rattle.emtp_tail.proofs.Redoing.{first_change_within}
use Rattle.emtp_tail.specs.Good.{first_change}
use Rattle.emtp_tacs.specs.Step.{accepted, block_var, blocks, range_fault, solved_by, system_fault, with_outputs}
use Rattle.emtp_tacs.specs.held.Stages.{NamesVariable, Solves}
use Rattle.emtp_tacs.specs.declared.fault.TacsFault.{TacsFault}

-- the rows of blocks that stand for the records are the matrix of the next step
pub rows_are : (case : Parts) (s : Blocking) (H : List StepRecord) → s.case ≡ case → BlocksStandFor s H → rows_of_blocks s ≡ matrix case H
rows_are case s H same stands = ap (control_matrix s.case) (limiters_are s H stands) ∙ ap (λ (p : Parts). matrix p H) same

-- ---- how the system ends

pub row_ends : (case : Parts) (H : List StepRecord) (known : List ℤ) (fault : RowFault) → outcome (matrix case H) (right case H known) ≡ Err (Row fault) → blocks case H known ≡ Err (system_fault case (Row fault))
row_ends case H known fault is = ap (solved_by case H known) is

pub solve_ends : (case : Parts) (H : List StepRecord) (known : List ℤ) (fault : SolveFault) → outcome (matrix case H) (right case H known) ≡ Err (Solve fault) → blocks case H known ≡ Err (range_fault (block_var case fault.row))
solve_ends case H known fault is = ap (solved_by case H known) is

pub range_ends : (case : Parts) (H : List StepRecord) (known xs : List ℤ) (i : ℕ) → outcome (matrix case H) (right case H known) ≡ Ok xs → first_out case H known xs ≡ Some i → blocks case H known ≡ Err (range_fault (block_var case i))
range_ends case H known xs i solved out = ap (solved_by case H known) solved ∙ ap (accepted case H known xs) out

pub solved_ends : (case : Parts) (H : List StepRecord) (known xs : List ℤ) → outcome (matrix case H) (right case H known) ≡ Ok xs → first_out case H known xs ≡ None
    → blocks case H known ≡ Ok (record { values = with_outputs case (outputs case H known xs) (length case.blocks) known; blocks = states_after case H known xs })
solved_ends case H known xs solved none = ap (solved_by case H known) solved ∙ ap (accepted case H known xs) none

pub rows_size : (case : Parts) (s : Blocking) → s.case ≡ case → length (rows_of_blocks s) ≡ length case.blocks
rows_size case s same = length-control_matrix s.case (limiters_kept s.states) ∙ ap (λ (p : Parts). length p.blocks) same

-- the first changed row is no later than the end
pub first_within : (case : Parts) (s : Blocking) (old : Matrix) (first : ℕ) → s.case ≡ case → first ≡ first_change old (rows_of_blocks s) → first ≤ length case.blocks
first_within case s old first same is = omega (arith, is, first_change_within old (rows_of_blocks s), rows_size case s same)

-- the rows stay where no limiter moved
pub rows_stay : (old new : Blocking) → new.case ≡ old.case → limiters_kept new.states ≡ limiters_kept old.states → rows_of_blocks new ≡ rows_of_blocks old
rows_stay old new same still = ap (λ (p : Parts). control_matrix p (limiters_kept new.states)) same ∙ ap (control_matrix old.case) still

-- the first block out of range, of blocks of the case
pub out_of_case : (case seen : Parts) (H : List StepRecord) (known xs : List ℤ) (o : Option ℕ) → seen ≡ case → first_out seen H known xs ≡ o → first_out case H known xs ≡ o
out_of_case case seen H known xs o same is = sym (ap (λ (p : Parts). first_out p H known xs) same) ∙ is

-- the blocks took their solved outputs, which are written
pub system_solves : (case : Parts) (blocks_after : Blocking) (H : List StepRecord) (known xs ys values : List ℤ) → blocks_after.case ≡ case → outcome (matrix case H) (right case H known) ≡ Ok xs → HaveAccepted blocks_after ys H known xs
    → values ≡ with_outputs case ys (length case.blocks) known → Solves (Ok tt) blocks_after values H (blocks case H known)
system_solves case blocks_after H known xs ys values same solved took written =
    let defined = solved_ends case H known xs solved (out_of_case case blocks_after.case H known xs None same took.in_range) in
    let outs : ys ≡ outputs case H known xs = took.recorded ∙ ap (λ (p : Parts). outputs p H known xs) same in
    let kept : states_after blocks_after.case H known xs ≡ states_after case H known xs = ap (λ (p : Parts). states_after p H known xs) same in
    subst (Solves (Ok tt) blocks_after values H) (sym defined) (record {
      values_are = written ∙ ap (λ zs. with_outputs case zs (length case.blocks) known) outs;
      stands = λ r is. took.stands r (is ∙ sym kept);
    })

pub system_refuses : (case : Parts) (blocks_after : Blocking) (H : List StepRecord) (known values : List ℤ) (e : TacsFault) → blocks case H known ≡ Err e → Solves (Err e) blocks_after values H (blocks case H known)
system_refuses case blocks_after H known values e is = subst (Solves (Err e) blocks_after values H) (sym is) refl

-- a fault names a variable, and claims nothing of what follows an `Ok`, where it is returned as it came
pub err_names : (case : Parts) (result : Result (Unit {0}) TacsFault) (e : TacsFault) → IsErrAnd result (λ y. y ≡ e) → NamesVariable case e → IfErr result (NamesVariable case)
err_names case (Ok u) e is names = absurd is
err_names case (Err y) e is names = subst (NamesVariable case) (sym is) names

pub err_claims : (P : Type 0) (result : Result (Unit {0}) TacsFault) (e : TacsFault) → IsErrAnd result (λ y. y ≡ e) → OnOk result P
err_claims P (Ok u) e is = absurd is
err_claims P (Err y) e is = tt
