-- A fault of an elimination names a row of the matrix.
use Rattle.std.proofs.Common.{◌<◌, ℕ, zero, suc, ℤ, unsigned_abs, nat_eq, if◌then◌else◌, Bool, true, false, List, length, Option, Some, None, IfSome, IfErr, subst, arith}
use Rattle.emtp_fix.specs.Limit.{is_within}
use Rattle.emtp_fix.specs.declared.limit.TheConstants.{LARGEST_VALUE}
use Rattle.emtp_elim.specs.Elimination.{solution}
use Rattle.emtp_elim.specs.Fault.{is_right_in_range, is_row_in_range, pivot, right_fault, row_fault, unknown_fault}
use Rattle.emtp_elim.specs.Matrix.{Matrix, item}
use Rattle.emtp_elim.specs.Outcome.{first_below, last_below, or_else, outcome}
use Rattle.emtp_elim.specs.declared.fault.PlainFault.{PlainFault}
use Rattle.emtp_elim.specs.declared.fault.PlainFault.TheVariants.{NoMemory, Row, Solve}
use Rattle.emtp_elim.specs.declared.fault.RowCause.TheVariants.{Range, ZeroPivot}
use Rattle.emtp_elim.specs.declared.fault.RowFault.{RowFault}
use Rattle.emtp_elim.specs.declared.fault.SolveFault.{SolveFault}
use Rattle.emtp_elim.proofs.ChainErrors.{unless_err}

-- the fault names one of n rows
abbrev pub NamesRow : ℕ → PlainFault → Type 0
NamesRow n (Row fault) = fault.row < n
NamesRow n (Solve fault) = fault.row < n
NamesRow n NoMemory = ⊥

-- ---- searches below a number

either : {X : Type 0} (P : X → Type 0) (a b : Option X) → IfSome a P → IfSome b P → IfSome (or_else a b) P
either P None b first other = other
either P (Some x) b first other = first

first_some : {X : Type 0} (P : X → Type 0) (n : ℕ) (f : ℕ → Option X) → ((i : ℕ) → i < n → IfSome (f i) P) → IfSome (first_below n f) P
first_some P zero f each = tt
first_some P (suc n) f each = either P (first_below n f) (f n) (first_some P n f (λ i below. each i (omega (arith, below)))) (each n (omega arith))

last_some : {X : Type 0} (P : X → Type 0) (n : ℕ) (f : ℕ → Option X) → ((i : ℕ) → i < n → IfSome (f i) P) → IfSome (last_below n f) P
last_some P zero f each = tt
last_some P (suc n) f each = either P (f n) (last_below n f) (each n (omega arith)) (last_some P n f (λ i below. each i (omega (arith, below))))

-- ---- faults

row_there : (rows : Matrix) (n i : ℕ) → i < n → IfSome (row_fault rows i) (λ (f : RowFault). f.row < n)
unfolding row_fault
row_there rows n i below = by (is_row_in_range rows i) (nat_eq (unsigned_abs (pivot rows i)) 0)
  where
    by : (a b : Bool) → IfSome (if a then (if b then Some (let f : RowFault = record { row = i; cause = ZeroPivot } in f) else None) else Some (let f : RowFault = record { row = i; cause = Range } in f)) (λ (f : RowFault). f.row < n)
    by true true = below
    by true false = tt
    by false b = below

solve_there : (fine : Bool) (n i : ℕ) → i < n → IfSome (if fine then None else Some (let f : SolveFault = record { row = i } in f)) (λ (f : SolveFault). f.row < n)
solve_there true n i below = tt
solve_there false n i below = below

right_there : (rows : Matrix) (right : List ℤ) (n i : ℕ) → i < n → IfSome (right_fault rows right i) (λ (f : SolveFault). f.row < n)
unfolding right_fault
right_there rows right n i below = solve_there (is_right_in_range rows right i) n i below

unknown_there : (rows : Matrix) (right : List ℤ) (n i : ℕ) → i < n → IfSome (unknown_fault rows right i) (λ (f : SolveFault). f.row < n)
unfolding unknown_fault
unknown_there rows right n i below = solve_there (is_within LARGEST_VALUE (item (solution rows right) i)) n i below

pub outcome_names_row : (rows : Matrix) (right : List ℤ) → IfErr (outcome rows right) (NamesRow (length rows))
unfolding outcome
outcome_names_row rows right =
    let n = length rows in
    let P = NamesRow n in
    let R : Option RowFault → Type 0 = λ o. IfSome o (λ f. f.row < n) in
    let S : Option SolveFault → Type 0 = λ o. IfSome o (λ f. f.row < n) in
    unless_err P (first_below n (row_fault rows)) Row _ (λ f is. subst R is (first_some (λ (f : RowFault). f.row < n) n (row_fault rows) (row_there rows n)))
    (unless_err P (first_below n (right_fault rows right)) Solve _ (λ f is. subst S is (first_some (λ (f : SolveFault). f.row < n) n (right_fault rows right) (right_there rows right n)))
    (unless_err P (last_below n (unknown_fault rows right)) Solve _ (λ f is. subst S is (last_some (λ (f : SolveFault). f.row < n) n (unknown_fault rows right) (unknown_there rows right n))) tt))
