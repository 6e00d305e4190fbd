-- Rows that stay where a conductance or a kind changes.
use Rattle.std.proofs.Common.{◌≡◌, ◌≢◌, ◌∙◌, sym, ap, subst, min, ℕ, ◌+◌, ◌==◌, ◌||◌, ◌<◌, ◌≤◌, ℤ, pos, true, if◌then◌else◌, List, [], All, length, length-take-le, map, take, slice_get, slice_set, get_or, get_or-set_other, option_map, Some, None, refl, inl, inr, arith}
use Rattle.std.proofs.Math.Nat.{min-le_left, min-le_right}
use Rattle.std.proofs.lemmas.Bool.{cases_eq, cases_Bool}
use Rattle.std.proofs.lemmas.Bool.Decides.{nat_tests}
use Rattle.std.proofs.lemmas.List.{ext_get_or, get_or-map, length-map, get_or-take, length-take, take-take}
use Rattle.std.proofs.lemmas.Option.{get_or_from_slice_get, slice_get-map, slice_get_cases, slice_get_read}
use Rattle.emtp_elim.specs.Matrix.{Matrix, item, row_of}
use Rattle.emtp_case.specs.Branch.{first_of_trio, from_of, to_of}
use Rattle.emtp_case.specs.held.Branch.{AreInThrees, IsBranch, IsPhase, phase_at, phase_of}
use Rattle.emtp_case.specs.held.Sizes.{sizes_of}
use Rattle.emtp_case.specs.declared.branch.Branch.{Branch}
use Rattle.emtp_case.specs.declared.branch.Branch.TheVariants.{Lumped as OfLumped, Line as OfLine, Pseudo as OfPseudo, Phase as OfPhase}
use Rattle.emtp_case.specs.declared.branch.Phase.{Phase}
use Rattle.emtp_case.specs.declared.case.Parts.{Parts}
use Rattle.emtp_case.specs.declared.row_kind.RowKind.{RowKind}
use Rattle.emtp_case.specs.declared.row_kind.RowKind.TheVariants.{Kcl, Sum, Tie, Ground, Source}
use Rattle.emtp_rows.specs.Nodal.{Nodal, between, current_entry, entry_by, is_member, is_tie_to, kind_at, node_at, nodal_matrix}
use Rattle.emtp_rows.specs.held.Terms.{end_rows}
use Rattle.emtp_rows.specs.held.Touched.{AgreesBy, NodalRows, StandsUntouched, Touches, equation_by, equation_row, row_at}
use Rattle.emtp_rows.proofs.Between.{between_none}
use Rattle.emtp_rows.proofs.NodalRows.{length-nodal_matrix, length-nodal_row, nodal_entry}
use Rattle.emtp_case.proofs.RowsOfNodes.{row_at_is, row_at_within}
use Rattle.emtp_case.proofs.Sums.{sum_below_same}

-- ---- rows of two matrices

-- the first rows are the same where their entries are
pub rows_stay : (s t : Nodal) (n : ℕ) → s.case ≡ t.case → n ≤ length s.case.nodes
    → ((i j : ℕ) → i < n → j < length s.case.nodes → entry_by s i j (kind_at s.kinds i) ≡ entry_by t i j (kind_at t.kinds i))
    → take n (nodal_matrix s) ≡ take n (nodal_matrix t)
rows_stay s t n same within each =
    let count : length s.case.nodes ≡ length t.case.nodes = ap (λ (p : Parts). length p.nodes) same in
    let long : length (take n (nodal_matrix s)) ≡ n = length-take-le n (nodal_matrix s) (omega (arith, within, length-nodal_matrix s)) in
    let long' : length (take n (nodal_matrix t)) ≡ n = length-take-le n (nodal_matrix t) (omega (arith, within, count, length-nodal_matrix t)) in
    ext_get_or [] (take n (nodal_matrix s)) (take n (nodal_matrix t)) (long ∙ sym long') (λ i below.
    let inside : i < n = omega (arith, below, long) in
    let there : i < length s.case.nodes = omega (arith, inside, within) in
    let there' : i < length t.case.nodes = omega (arith, there, count) in
    get_or-take n (nodal_matrix s) i [] inside
    ∙ ext_get_or (pos 0) (row_of (nodal_matrix s) i) (row_of (nodal_matrix t) i) (length-nodal_row s i there ∙ count ∙ sym (length-nodal_row t i there'))
    (λ j within_row.
    let here : j < length s.case.nodes = omega (arith, within_row, length-nodal_row s i there) in
    let here' : j < length t.case.nodes = omega (arith, here, count) in
    nodal_entry s i j there here ∙ each i j inside here ∙ sym (nodal_entry t i j there' here'))
    ∙ sym (get_or-take n (nodal_matrix t) i [] inside))

-- ---- the row of an equation

own_row : (kinds : List RowKind) (i : ℕ) → kind_at kinds i ≡ Kcl → equation_row kinds i ≡ i
own_row kinds i is = ap (equation_by kinds i) is

sum_is : (kinds : List RowKind) (i : ℕ) → kind_at kinds i ≡ Sum → equation_row kinds i ≡ i
sum_is kinds i is = ap (equation_by kinds i) is

tied_is : (kinds : List RowKind) (i k : ℕ) (kind : RowKind) → kind_at kinds i ≡ Sum → is_tie_to i kind ≡ true → equation_by kinds k kind ≡ i
tied_is kinds i k Kcl sum tied = absurd (cc)
tied_is kinds i k Sum sum tied = absurd (cc)
tied_is kinds i k (Tie row) sum tied =
    let same : row ≡ i = grind (arith, nat_tests) in
    rw (same, sum) refl
tied_is kinds i k Ground sum tied = absurd (cc)
tied_is kinds i k Source sum tied = absurd (cc)

-- the currents of each node of a group are in the row of its sum
member_row : (kinds : List RowKind) (i k : ℕ) → kind_at kinds i ≡ Sum → is_member kinds i k ≡ true → equation_row kinds k ≡ i
member_row kinds i k sum member = elim (cases_eq k i) [
  | inl same ↦ rw same (sum_is kinds i sum)
  | inr ne ↦ tied_is kinds i k (kind_at kinds k) sum (grind (arith, nat_tests))
]

-- ---- conductances

-- the current equations in row i stay: of its node, or of each node of its group
abbrev pub EquationStays : Parts → List RowKind → List ℤ → List ℤ → List ℤ → List ℤ → ℕ → Type 0
EquationStays case kinds own coupling own' coupling' i =
    (k m : ℕ) → k < length case.nodes → equation_row kinds k ≡ i → current_entry case own coupling (node_at case k) m ≡ current_entry case own' coupling' (node_at case k) m

entry_stays : (case : Parts) (own coupling own' coupling' : List ℤ) (kinds : List RowKind) (i j : ℕ) (kind : RowKind) → kind_at kinds i ≡ kind → i < length case.nodes
    → EquationStays case kinds own coupling own' coupling' i
    → entry_by (record { case = case; own = own; coupling = coupling; kinds = kinds }) i j kind ≡ entry_by (record { case = case; own = own'; coupling = coupling'; kinds = kinds }) i j kind
entry_stays case own coupling own' coupling' kinds i j Kcl is below stays = stays i (node_at case j) below (own_row kinds i is)
entry_stays case own coupling own' coupling' kinds i j Sum is below stays =
    sum_below_same (length case.nodes)
    (λ k. if is_member kinds i k then current_entry case own coupling (node_at case k) (node_at case j) else pos 0)
    (λ k. if is_member kinds i k then current_entry case own' coupling' (node_at case k) (node_at case j) else pos 0)
    (λ k inside. elim (cases_Bool (is_member kinds i k)) [
      | inl member ↦ rw member (stays k (node_at case j) inside (member_row kinds i k is member))
      | inr off ↦ rw off refl
    ])
entry_stays case own coupling own' coupling' kinds i j (Tie row) is below stays = refl
entry_stays case own coupling own' coupling' kinds i j Ground is below stays = refl
entry_stays case own coupling own' coupling' kinds i j Source is below stays = refl

pub equations_stay : (case : Parts) (own coupling own' coupling' : List ℤ) (kinds : List RowKind) (n : ℕ) → n ≤ length case.nodes
    → ((i : ℕ) → i < n → EquationStays case kinds own coupling own' coupling' i)
    → take n (nodal_matrix (record { case = case; own = own; coupling = coupling; kinds = kinds })) ≡ take n (nodal_matrix (record { case = case; own = own'; coupling = coupling'; kinds = kinds }))
equations_stay case own coupling own' coupling' kinds n within stay =
    rows_stay (record { case = case; own = own; coupling = coupling; kinds = kinds }) (record { case = case; own = own'; coupling = coupling'; kinds = kinds }) n refl within
    (λ i j below inside. entry_stays case own coupling own' coupling' kinds i j (kind_at kinds i) refl (omega (arith, below, within)) (stay i below))

-- a branch whose rows come later doesn't end at the node of an earlier one
apart_from : (case : Parts) (kinds : List RowKind) (node least i k : ℕ) → least ≤ equation_row kinds (row_at case node) → i < least → k < length case.nodes → equation_row kinds k ≡ i → node ≢ node_at case k
apart_from case kinds node least i k later below inside is = λ e.
    let row : row_at case node ≡ k = row_at_is case node k inside (sym e) in
    let same : equation_row kinds (row_at case node) ≡ i = ap (equation_row kinds) row ∙ is in
    omega (arith, later, below, same)

-- no row before those of a branch has its currents
pub record IsLater (case : Parts) (kinds : List RowKind) (x : Branch) (least : ℕ) : Type 0 where
  pub from_row : least ≤ equation_row kinds (row_at case (from_of x))
  pub to_row : least ≤ equation_row kinds (row_at case (to_of x))

pub conductance_stays : (case : Parts) (own coupling : List ℤ) (kinds : List RowKind) (b : ℕ) (x : Branch) (g : ℤ) (least i : ℕ) → slice_get case.branches b ≡ Some x → IsLater case kinds x least → i < least
    → EquationStays case kinds (slice_set own b g) coupling own coupling i
conductance_stays case own coupling kinds b x g least i is later below = λ k m inside row.
    let off = apart_from case kinds (from_of x) least i k later.from_row below inside row in
    let none = apart_from case kinds (to_of x) least i k later.to_row below inside row in
    sum_below_same (length case.branches)
    (λ c. between case (item (slice_set own b g) c) coupling (node_at case k) m (slice_get case.branches c))
    (λ c. between case (item own c) coupling (node_at case k) m (slice_get case.branches c))
    (λ c there. elim (cases_eq c b) [
      | inl same ↦
          let here : slice_get case.branches c ≡ Some x = ap (slice_get case.branches) same ∙ is in
          rw here (between_none case (item (slice_set own b g) c) coupling (node_at case k) m x off none ∙ sym (between_none case (item own c) coupling (node_at case k) m x off none))
      | inr ne ↦ ap (λ h. between case h coupling (node_at case k) m (slice_get case.branches c)) (get_or-set_other own b c g (pos 0) ne)
    ])

-- a mutual conductance is that of the phases of one line
between_other : (case : Parts) (g : ℤ) (coupling : List ℤ) (t : ℕ) (c : ℤ) (n m : ℕ) (x : Branch) → ((p : Phase) → x ≡ OfPhase p → p.trio ≢ t) → between case g (slice_set coupling t c) n m (Some x) ≡ between case g coupling n m (Some x)
between_other case g coupling t c n m (OfLumped x) other = refl
between_other case g coupling t c n m (OfPseudo x) other = refl
between_other case g coupling t c n m (OfLine x) other = refl
between_other case g coupling t c n m (OfPhase x) other = rw (get_or-set_other coupling t x.trio c (pos 0) (other x refl)) refl

pub coupling_stays : (case : Parts) (own coupling : List ℤ) (kinds : List RowKind) (t : ℕ) (c : ℤ) (least i : ℕ)
    → ((b : ℕ) (p : Phase) → slice_get case.branches b ≡ Some (OfPhase p) → p.trio ≡ t → IsLater case kinds (OfPhase p) least) → i < least
    → EquationStays case kinds own (slice_set coupling t c) own coupling i
coupling_stays case own coupling kinds t c least i later below = λ k m inside row.
    sum_below_same (length case.branches)
    (λ b. between case (item own b) (slice_set coupling t c) (node_at case k) m (slice_get case.branches b))
    (λ b. between case (item own b) coupling (node_at case k) m (slice_get case.branches b))
    (λ b there. elim ((slice_get_cases case.branches b).1) [
      | inl is ↦ rw is.2 (branch_stays b is.0 is.2 k m inside row)
      | inr past ↦ rw past.1 refl
    ])
  where
    branch_stays : (b : ℕ) (x : Branch) → slice_get case.branches b ≡ Some x → (k m : ℕ) → k < length case.nodes → equation_row kinds k ≡ i
        → between case (item own b) (slice_set coupling t c) (node_at case k) m (Some x) ≡ between case (item own b) coupling (node_at case k) m (Some x)
    branch_stays b (OfLumped x) is k m inside row = refl
    branch_stays b (OfPseudo x) is k m inside row = refl
    branch_stays b (OfLine x) is k m inside row = refl
    branch_stays b (OfPhase x) is k m inside row = elim (cases_eq x.trio t) [
      | inl same ↦
          let after = later b x is same in
          let off = apart_from case kinds x.from least i k after.from_row below inside row in
          let none = apart_from case kinds x.to least i k after.to_row below inside row in
          between_none case (item own b) (slice_set coupling t c) (node_at case k) m (OfPhase x) off none ∙ sym (between_none case (item own b) coupling (node_at case k) m (OfPhase x) off none)
      | inr ne ↦ rw (get_or-set_other coupling t x.trio c (pos 0) ne) refl
    ]

-- ---- kinds

kind_stays : (case : Parts) (own coupling : List ℤ) (old new : List RowKind) (i j : ℕ) (kind : RowKind) → kind_at new i ≡ kind
    → ((k : ℕ) → k < length case.nodes → AgreesBy new i k (kind_at old k) (kind_at new k))
    → entry_by (record { case = case; own = own; coupling = coupling; kinds = new }) i j kind ≡ entry_by (record { case = case; own = own; coupling = coupling; kinds = old }) i j kind
kind_stays case own coupling old new i j Kcl is agrees = refl
kind_stays case own coupling old new i j Sum is agrees =
    sum_below_same (length case.nodes)
    (λ k. if is_member new i k then current_entry case own coupling (node_at case k) (node_at case j) else pos 0)
    (λ k. if is_member old i k then current_entry case own coupling (node_at case k) (node_at case j) else pos 0)
    (λ k inside.
    let agree = agrees k inside in
    let same : is_member old i k ≡ is_member new i k = ap (λ b. (k == i) || b) (agree.member is) in
    ap (λ b. if b then current_entry case own coupling (node_at case k) (node_at case j) else pos 0) (sym same))
kind_stays case own coupling old new i j (Tie row) is agrees = refl
kind_stays case own coupling old new i j Ground is agrees = refl
kind_stays case own coupling old new i j Source is agrees = refl

pub kinds_stay : (case : Parts) (own coupling : List ℤ) (old new : List RowKind) (n : ℕ) → n ≤ length case.nodes
    → ((i k : ℕ) → i < n → k < length case.nodes → AgreesBy new i k (kind_at old k) (kind_at new k))
    → take n (nodal_matrix (record { case = case; own = own; coupling = coupling; kinds = new })) ≡ take n (nodal_matrix (record { case = case; own = own; coupling = coupling; kinds = old }))
kinds_stay case own coupling old new n within agrees =
    rows_stay (record { case = case; own = own; coupling = coupling; kinds = new }) (record { case = case; own = own; coupling = coupling; kinds = old }) n refl within
    (λ i j below inside.
    let here = agrees i i below (omega (arith, below, within)) in
    let same : kind_at old i ≡ kind_at new i = here.own refl in
    kind_stays case own coupling old new i j (kind_at new i) refl (λ k there. agrees i k below there) ∙ ap (entry_by (record { case = case; own = own; coupling = coupling; kinds = old }) i j) (sym same))

-- ---- the rows of the ends of branches

-- where the ends of a branch are held by row, no row before the least of both has its currents
pub later_at : (case : Parts) (kinds : List RowKind) (ends : List (ℕ × ℕ)) (b least : ℕ) (x : Branch) (e : ℕ × ℕ) → ends ≡ map (end_rows case) case.branches → slice_get case.branches b ≡ Some x → slice_get ends b ≡ Some e
    → least ≤ equation_row kinds e.0 → least ≤ equation_row kinds e.1 → IsLater case kinds x least
later_at case kinds ends b least x e are is held at_from at_to =
    let same : Some (end_rows case x) ≡ Some e = sym (slice_get_map_some b x is) ∙ ap (λ es. slice_get es b) (sym are) ∙ held in
    let e_is : end_rows case x ≡ e = cc in
    record {
      from_row = rw (ap (λ (y : ℕ × ℕ). y.0) e_is) at_from;
      to_row = rw (ap (λ (y : ℕ × ℕ). y.1) e_is) at_to;
    }
  where
    slice_get_map_some : (b : ℕ) (x : Branch) → slice_get case.branches b ≡ Some x → slice_get (map (end_rows case) case.branches) b ≡ Some (end_rows case x)
    slice_get_map_some b x is = slice_get-map (end_rows case) case.branches b ∙ ap (option_map (end_rows case)) is

-- the rows of a branch that an index read
pub ends_read : (case : Parts) (ends : List (ℕ × ℕ)) (b : ℕ) (e : ℕ × ℕ) → ends ≡ map (end_rows case) case.branches → b < length case.branches → e ≡ get_or ends b e → slice_get ends b ≡ Some e
ends_read case ends b e are inside is = slice_get_read ends (length case.branches) b e (sym (ap length are ∙ length-map case.branches (end_rows case))) inside is

-- each of them is a row, or the number of rows
pub ends_within : (case : Parts) (ends : List (ℕ × ℕ)) (b : ℕ) (e : ℕ × ℕ) → ends ≡ map (end_rows case) case.branches → slice_get ends b ≡ Some e → (e.0 ≤ length case.nodes) × (e.1 ≤ length case.nodes)
ends_within case ends b e are held = elim ((slice_get_cases case.branches b).1) [
  | inl is ↦
      let same : Some (end_rows case is.0) ≡ Some e = sym (slice_get-map (end_rows case) case.branches b ∙ ap (option_map (end_rows case)) is.2) ∙ ap (λ es. slice_get es b) (sym are) ∙ held in
      let e_is : end_rows case is.0 ≡ e = cc in
      rw (sym e_is) (row_at_within case (from_of is.0), row_at_within case (to_of is.0))
  | inr past ↦
      let none : None ≡ Some e = sym (slice_get-map (end_rows case) case.branches b ∙ ap (option_map (end_rows case)) past.1) ∙ ap (λ es. slice_get es b) (sym are) ∙ held in
      absurd (none_some e none)
]
  where
    none_some : (e : ℕ × ℕ) → None ≡ Some e → ⊥
    none_some e none = cc

-- ---- the first touched row

-- it is the lesser of the one before and of the least row that a change touches
touches_first : (old new : NodalRows) (row : ℕ) → new.touched ≡ min old.touched row → ((n : ℕ) → n ≤ row → n ≤ old.touched → take n (nodal_matrix new.nodal) ≡ take n (nodal_matrix old.nodal)) → Touches old new
touches_first old new row is stay = record {
  earlier = omega (arith, is, min-le_left old.touched row);
  before = stay new.touched (omega (arith, is, min-le_right old.touched row)) (omega (arith, is, min-le_left old.touched row));
}

pub conductance_touches : {capacities : List ℕ} (s : NodalRows) (b row touched : ℕ) (x : Branch) (g : ℤ) → s.touched ≤ length s.nodal.case.nodes → touched ≡ min s.touched row → slice_get s.nodal.case.branches b ≡ Some x → IsLater s.nodal.case s.nodal.kinds x row
    → Touches s (record { nodal = record s.nodal { own = slice_set s.nodal.own b g }; touched = touched; capacities = capacities })
conductance_touches {capacities = capacities} s b row touched x g within is branch later =
    touches_first s (record { nodal = record s.nodal { own = slice_set s.nodal.own b g }; touched = touched; capacities = capacities }) row is (λ n before inside.
    equations_stay s.nodal.case (slice_set s.nodal.own b g) s.nodal.coupling s.nodal.own s.nodal.coupling s.nodal.kinds n (omega (arith, inside, within))
    (λ i below. conductance_stays s.nodal.case s.nodal.own s.nodal.coupling s.nodal.kinds b x g row i branch later (omega (arith, below, before))))

pub coupling_touches : {capacities : List ℕ} (s : NodalRows) (t row touched : ℕ) (c : ℤ) → s.touched ≤ length s.nodal.case.nodes → touched ≡ min s.touched row
    → ((b : ℕ) (p : Phase) → slice_get s.nodal.case.branches b ≡ Some (OfPhase p) → p.trio ≡ t → IsLater s.nodal.case s.nodal.kinds (OfPhase p) row)
    → Touches s (record { nodal = record s.nodal { coupling = slice_set s.nodal.coupling t c }; touched = touched; capacities = capacities })
coupling_touches {capacities = capacities} s t row touched c within is later =
    touches_first s (record { nodal = record s.nodal { coupling = slice_set s.nodal.coupling t c }; touched = touched; capacities = capacities }) row is (λ n before inside.
    equations_stay s.nodal.case s.nodal.own (slice_set s.nodal.coupling t c) s.nodal.own s.nodal.coupling s.nodal.kinds n (omega (arith, inside, within))
    (λ i below. coupling_stays s.nodal.case s.nodal.own s.nodal.coupling s.nodal.kinds t c row i later (omega (arith, below, before))))

pub kinds_touch : {capacities : List ℕ} (s : NodalRows) (new : List RowKind) (row touched : ℕ) → s.touched ≤ length s.nodal.case.nodes → touched ≡ min s.touched row → length new ≡ length s.nodal.case.nodes
    → ((i k : ℕ) → i < row → k < length new → AgreesBy new i k (kind_at s.nodal.kinds k) (kind_at new k))
    → Touches s (record { nodal = record s.nodal { kinds = new }; touched = touched; capacities = capacities })
kinds_touch {capacities = capacities} s new row touched within is count agrees =
    touches_first s (record { nodal = record s.nodal { kinds = new }; touched = touched; capacities = capacities }) row is (λ n before inside.
    kinds_stay s.nodal.case s.nodal.own s.nodal.coupling s.nodal.kinds new n (omega (arith, inside, within))
    (λ i k below there. agrees i k (omega (arith, below, before)) (omega (arith, there, count))))

-- where the phases of a line stand, none of its branches has currents in an earlier row
pub phases_later : (case : Parts) (kinds : List RowKind) (ends : List (ℕ × ℕ)) (t row : ℕ) → AreInThrees case.branches case.trios → All (IsBranch case.run (sizes_of case) case.points) case.branches → ends ≡ map (end_rows case) case.branches
    → ((p : ℕ) (e : ℕ × ℕ) → p < 3 → slice_get ends (first_of_trio case.trios t + p) ≡ Some e → (row ≤ equation_row kinds e.0) × (row ≤ equation_row kinds e.1))
    → (b : ℕ) (p : Phase) → slice_get case.branches b ≡ Some (OfPhase p) → p.trio ≡ t → IsLater case kinds (OfPhase p) row
phases_later case kinds ends t row threes all are rows b p is line =
    let branch = get_or_from_slice_get case.branches b (OfPhase p) (OfPhase p) is in
    let inside : b < length case.branches = slice_get_inside b (OfPhase p) is in
    let there : IsPhase (sizes_of case) p = subst (IsBranch case.run (sizes_of case) case.points) branch (all b (OfPhase p) inside) in
    let here : phase_at case.branches b ≡ Some (p.trio, p.phase) = get_or-map phase_of case.branches b (OfPhase p) None inside ∙ ap phase_of branch in
    let place : b ≡ first_of_trio case.trios t + p.phase = threes.places b p.trio p.phase here ∙ ap (λ n. first_of_trio case.trios n + p.phase) line in
    let e = end_rows case (OfPhase p) in
    let held : slice_get ends b ≡ Some e = ap (λ es. slice_get es b) are ∙ slice_get-map (end_rows case) case.branches b ∙ ap (option_map (end_rows case)) is in
    let later = rows p.phase e there.phase (ap (slice_get ends) (sym place) ∙ held) in
    record { from_row = later.0; to_row = later.1 }
  where
    none_some : (x : Branch) → None ≡ Some x → ⊥
    none_some x none = cc

    slice_get_inside : (b : ℕ) (x : Branch) → slice_get case.branches b ≡ Some x → b < length case.branches
    slice_get_inside b x is = elim ((slice_get_cases case.branches b).1) [
      | inl found ↦ found.1
      | inr past ↦ absurd (none_some x (sym past.1 ∙ is))
    ]

-- rows that stand stay so where a change touches others
pub stands_untouched : (old new : NodalRows) (rows : Matrix) → Touches old new → StandsUntouched old rows → StandsUntouched new rows
stands_untouched old new rows touches stands = λ n before there.
    take_less new.touched n (nodal_matrix new.nodal) (nodal_matrix old.nodal) before touches.before ∙ stands n (omega (arith, before, touches.earlier)) there
  where
    take_less : (m n : ℕ) (xs ys : Matrix) → n ≤ m → take m xs ≡ take m ys → take n xs ≡ take n ys
    take_less m n xs ys less same = sym (take-take n m xs less) ∙ ap (take n) same ∙ take-take n m ys less

-- all rows of the matrix stand
pub all_stand : (s : NodalRows) (rows : Matrix) (m : ℕ) → rows ≡ take m (nodal_matrix s.nodal) → StandsUntouched s rows
all_stand s rows m are = λ n before there.
    let within : n ≤ m = omega (arith, there, ap length are, length-take m (nodal_matrix s.nodal), min-le_left m (length (nodal_matrix s.nodal))) in
    sym (take-take n m (nodal_matrix s.nodal) within) ∙ ap (take n) (sym are)
