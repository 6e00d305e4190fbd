-- The residual of a row, by its kind.
use Rattle.std.proofs.Common.{◌≡◌, ◌∙◌, sym, ap, ℕ, ◌+◌, ℤ, pos, max, unsigned_abs, nat_lt, Bool, false, true, List, add-one, refl}
use Rattle.emtp_case.specs.declared.case.Parts.{Parts}
use Rattle.emtp_case.specs.declared.row_kind.RowKind.{RowKind}
use Rattle.emtp_case.specs.declared.row_kind.RowKind.TheVariants.{Kcl, Sum}
use Rattle.emtp_case.specs.NodeRows.{group_sum, kind_at, node_at}
use Rattle.emtp_phasor.specs.Steady.{greatest_below, resting_kinds, leaving_node, row_residual}
use Rattle.emtp_admittance.specs.declared.admittance.TwoPort.{TwoPort}
use Rattle.emtp_phasor.specs.declared.phasor.Phasor.{Phasor}

pub residual_kcl : (case : Parts) (ports : List TwoPort) (volts : List Phasor) (kinds : List RowKind) (i node : ℕ) (a b : ℤ) → kinds ≡ resting_kinds case → kind_at kinds i ≡ Kcl → node_at case i ≡ node → a ≡ leaving_node case ports volts false node → b ≡ leaving_node case ports volts true node
    → pos (max (unsigned_abs a) (unsigned_abs b)) ≡ pos (row_residual case ports volts i)
residual_kcl case ports volts kinds i node a b are is there one two =
    let kind : kind_at (resting_kinds case) i ≡ Kcl = ap (λ ks. kind_at ks i) (sym are) ∙ is in
    rw (kind, there, one, two) refl

pub residual_sum : (case : Parts) (ports : List TwoPort) (volts : List Phasor) (kinds : List RowKind) (i : ℕ) (a b : ℤ) → kinds ≡ resting_kinds case → kind_at kinds i ≡ Sum → a ≡ group_sum case kinds i (leaving_node case ports volts false) → b ≡ group_sum case kinds i (leaving_node case ports volts true)
    → pos (max (unsigned_abs a) (unsigned_abs b)) ≡ pos (row_residual case ports volts i)
residual_sum case ports volts kinds i a b are is one two =
    let kind : kind_at (resting_kinds case) i ≡ Sum = ap (λ ks. kind_at ks i) (sym are) ∙ is in
    let first : a ≡ group_sum case (resting_kinds case) i (leaving_node case ports volts false) = one ∙ ap (λ ks. group_sum case ks i (leaving_node case ports volts false)) are in
    let second : b ≡ group_sum case (resting_kinds case) i (leaving_node case ports volts true) = two ∙ ap (λ ks. group_sum case ks i (leaving_node case ports volts true)) are in
    rw (kind, first, second) refl

-- whether the residual of a row exceeds the tolerance
pub above_is : (case : Parts) (ports : List TwoPort) (volts : List Phasor) (i : ℕ) (r : ℤ) (test b : Bool) → r ≡ pos (row_residual case ports volts i) → test ≡ nat_lt (unsigned_abs case.run.tolerance) (unsigned_abs r) → test ≡ b
    → nat_lt (unsigned_abs case.run.tolerance) (row_residual case ports volts i) ≡ b
above_is case ports volts i r test b is asked answer = sym (ap (λ x. nat_lt (unsigned_abs case.run.tolerance) (unsigned_abs x)) is) ∙ sym asked ∙ answer

-- one row more
pub greatest_more : (f : ℕ → ℕ) (n : ℕ) (a b r : ℤ) → r ≡ pos (max (unsigned_abs a) (unsigned_abs b)) → a ≡ pos (greatest_below n f) → b ≡ pos (f n) → r ≡ pos (greatest_below (n + 1) f)
greatest_more f n a b r is one two = is ∙ ap (λ x. pos (max (unsigned_abs x) (unsigned_abs b))) one ∙ ap (λ x. pos (max (greatest_below n f) (unsigned_abs x))) two ∙ ap pos (next f n)
  where
    next : (f : ℕ → ℕ) (n : ℕ) → max (greatest_below n f) (f n) ≡ greatest_below (n + 1) f
    next f n = rw add-one refl

pub greatest_all : (f : ℕ → ℕ) (n m : ℕ) → n ≡ m → pos (greatest_below n f) ≡ pos (greatest_below m f)
greatest_all f n m same = ap (λ k. pos (greatest_below k f)) same
