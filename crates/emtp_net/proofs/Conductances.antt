-- The conductances of the next step, set one after the other.
use Rattle.std.proofs.Common.{◌≡◌, ◌≢◌, ◌∙◌, sym, ap, refl, ℕ, ◌+◌, ◌<◌, ℤ, pos, Bool, true, false, List, [], length, map, take, get_or, slice_get, slice_set, get_or-set_same, get_or-set_other, Option, Some, unwrap_or, inl, inr, arith}
use Rattle.std.specs.List.{range_with_len}
use Rattle.std.proofs.lemmas.Bool.{cases_eq}
use Rattle.std.proofs.lemmas.List.{ext_get_or, take-take}
use Rattle.std.proofs.lemmas.List.FromFn.{get_or-map-range_with_len, length-map-range_with_len}
use Rattle.std.proofs.lemmas.Option.{slice_get_within}
use Rattle.emtp_case.proofs.RowsOfNodes.{branch_read}
use Rattle.emtp_case.specs.RowOrder.{is_pseudo}
use Rattle.emtp_case.specs.StepRecord.{StepRecord}
use Rattle.emtp_case.specs.declared.branch.Branch.{Branch}
use Rattle.emtp_case.specs.declared.branch.Branch.TheVariants.{Lumped as OfLumped, Line as OfLine, Pseudo as OfPseudo, Phase as OfPhase}
use Rattle.emtp_case.specs.declared.case.Parts.{Parts}
use Rattle.emtp_elim.specs.Matrix.{item}
use Rattle.emtp_net.specs.System.{conductance_by, conductances}
use Rattle.emtp_net.specs.held.Holding.{HasFixed}
use Rattle.emtp_rows.specs.Nodal.{nodal_matrix}
use Rattle.emtp_rows.specs.held.Touched.{NodalRows, Touches}

-- one change after another
pub touches_then : (old mid new : NodalRows) → Touches old mid → Touches mid new → Touches old new
touches_then old mid new first second = record {
  earlier = omega (arith, first.earlier, second.earlier);
  before = second.before ∙ sym (take-take new.touched mid.touched (nodal_matrix mid.nodal) second.earlier) ∙ ap (take new.touched) first.before ∙ take-take new.touched mid.touched (nodal_matrix old.nodal) second.earlier;
}

pub set_more : (own : List ℤ) (at : ℕ) (g : ℤ) (f : ℕ → ℤ) → at < length own → g ≡ f at → ((b : ℕ) → b < at → item own b ≡ f b) → (b : ℕ) → b < at + 1 → item (slice_set own at g) b ≡ f b
set_more own at g f inside is before b below = elim (cases_eq b at) [
  | inl same ↦ ap (item (slice_set own at g)) same ∙ get_or-set_same own at g (pos 0) inside ∙ is ∙ ap f (sym same)
  | inr ne ↦ get_or-set_other own at b g (pos 0) ne ∙ before b (omega (arith, below, ne))
]

pub conductances_are : (case : Parts) (H : List StepRecord) (own : List ℤ) → length own ≡ length case.branches → ((b : ℕ) → b < length case.branches → item own b ≡ conductance_by case H b (slice_get case.branches b)) → own ≡ conductances case H
conductances_are case H own long each =
    let f : ℕ → ℤ = λ b. conductance_by case H b (slice_get case.branches b) in
    ext_get_or (pos 0) own (map f (range_with_len 0 (length case.branches))) (long ∙ sym (length-map-range_with_len f 0 (length case.branches))) (λ b inside.
    let below : b < length case.branches = omega (arith, inside, long) in
    each b below ∙ sym (get_or-map-range_with_len f 0 (length case.branches) b b (pos 0) below (omega arith)))

-- ---- those that stay

pub conductance_stays : (case : Parts) (H K : List StepRecord) (b : ℕ) (x : Branch) → is_pseudo x ≡ false → conductance_by case H b (Some x) ≡ conductance_by case K b (Some x)
conductance_stays case H K b (OfLumped x) still = refl
conductance_stays case H K b (OfLine x) still = refl
conductance_stays case H K b (OfPseudo x) still = absurd (cc)
conductance_stays case H K b (OfPhase x) still = refl

-- the conductances of any step have them
pub fixed_all : (case : Parts) (H : List StepRecord) → HasFixed case (conductances case H)
fixed_all case H = λ b x is still.
    let f : ℕ → ℤ = λ b. conductance_by case H b (slice_get case.branches b) in
    let below : b < length case.branches = slice_get_within case.branches b x is in
    get_or-map-range_with_len f 0 (length case.branches) b b (pos 0) below (omega arith) ∙ ap (conductance_by case H b) is ∙ conductance_stays case H [] b x still

-- and stay where that of a pseudo-nonlinear branch is set
pub fixed_set : (case : Parts) (own : List ℤ) (at : ℕ) (y : Branch) (g : ℤ) → slice_get case.branches at ≡ Some y → is_pseudo y ≡ true → HasFixed case own → HasFixed case (slice_set own at g)
fixed_set case own at y g here pseudo fixed = λ b x is still. elim (cases_eq b at) [
  | inl same ↦
      let there : slice_get case.branches b ≡ Some y = ap (slice_get case.branches) same ∙ here in
      let one : x ≡ y = ap (λ (o : Option Branch). unwrap_or o x) (sym is ∙ there) in
      let both : false ≡ true = sym still ∙ ap is_pseudo one ∙ pseudo in
      absurd (cc)
  | inr ne ↦ get_or-set_other own at b g (pos 0) ne ∙ fixed b x is still
]

-- the same of a branch that was read
pub stays_at : (case : Parts) (H : List StepRecord) (own : List ℤ) (bs : List Branch) (at : ℕ) (d : Branch) (r : Bool) → HasFixed case own → bs ≡ case.branches → at < length case.branches → r ≡ is_pseudo (get_or bs at d) → r ≡ false
    → item own at ≡ conductance_by case H at (slice_get case.branches at)
stays_at case H own bs at d r fixed same there told off =
    let x = get_or bs at d in
    let here : slice_get case.branches at ≡ Some x = branch_read case bs at d x same there refl in
    let still : is_pseudo x ≡ false = sym told ∙ off in
    fixed at x here still ∙ conductance_stays case [] H at x still ∙ sym (ap (conductance_by case H at) here)

pub fixed_at : (case : Parts) (own : List ℤ) (bs : List Branch) (at : ℕ) (d : Branch) (r : Bool) (g : ℤ) → HasFixed case own → bs ≡ case.branches → at < length case.branches → r ≡ is_pseudo (get_or bs at d) → r ≡ true → HasFixed case (slice_set own at g)
fixed_at case own bs at d r g fixed same there told on =
    let x = get_or bs at d in
    fixed_set case own at x g (branch_read case bs at d x same there refl) (sym told ∙ on) fixed

pub set_next : (case : Parts) (H : List StepRecord) (old own : List ℤ) (at : ℕ) → ((b : ℕ) → b ≢ at → item own b ≡ item old b) → item own at ≡ conductance_by case H at (slice_get case.branches at)
    → ((b : ℕ) → b < at → item old b ≡ conductance_by case H b (slice_get case.branches b)) → (b : ℕ) → b < at + 1 → item own b ≡ conductance_by case H b (slice_get case.branches b)
set_next case H old own at others is before b below = elim (cases_eq b at) [
  | inl same ↦ ap (item own) same ∙ is ∙ ap (λ b. conductance_by case H b (slice_get case.branches b)) (sym same)
  | inr ne ↦ others b ne ∙ before b (omega (arith, below, ne))
]
