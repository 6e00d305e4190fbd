-- The numbers that a line's card gives, and how many history values they need.
use Rattle.emtp_case.specs.declared.limit.TheConstants.{MOST_HISTORY_VALUES}
use Rattle.std.proofs.Common.{◌≡◌, ◌∙◌, refl, subst, sym, ℕ, zero, suc, ◌+◌, ◌*◌, ◌^◌, ◌<◌, ◌≤◌, ◌==◌, ℤ, pos, Bool, true, false, List, [], ◌∷◌, Option, Some, None, length, arith}
use Rattle.std.specs.Prelude.{if◌then◌else◌, All, find, slice_index_or}
use Rattle.std.proofs.lemmas.Nat.{mul-le}
use Rattle.emtp_case.specs.held.Branch.{HasLineNumbers, IsBranch, IsTrio}
use Rattle.emtp_case.specs.HistoryValues.{branch_history_values, history_values_of, line_history_values, travel_steps, trio_history_values}
use Rattle.emtp_case.specs.held.Range.{AreEnds}
use Rattle.emtp_case.specs.held.Sizes.{sizes_of}
use Rattle.emtp_case.specs.declared.branch.Branch.{Branch}
use Rattle.emtp_case.specs.declared.branch.Branch.TheVariants.{Line as OfLine, Lumped as OfLumped, Phase as OfPhase, Pseudo as OfPseudo}
use Rattle.emtp_case.specs.declared.case.Parts.{Parts}
use Rattle.emtp_deck.specs.Branches.{line_history, moved}
use Rattle.emtp_deck.specs.held.Branches.{pair_history, taken_history}
use Rattle.emtp_deck.specs.Copies.{earlier_or_missing, is_like, line_numbers, missing_fault, mode_of_phase, modes_of, no_trio, numbers_of_branch, phase_numbers, type_of_kind, type_of_pseudo, values_by}
use Rattle.emtp_deck.specs.held.Copies.{AreTakenBy, HasModes, IsEarlier}
use Rattle.emtp_sense.specs.Names.{node_number}
use Rattle.emtp_deck.specs.held.Sensible.{IsLineKind, IsSensibleTrio}
use Rattle.emtp_walk.specs.held.Sound.{IsTrioEntry}
use Rattle.emtp_deck.specs.declared.copies.LineNumbers.{LineNumbers}
use Rattle.emtp_deck.specs.declared.copies.TakenPair.{TakenPair}
use Rattle.emtp_deck.proofs.Copying.{earlier}
use Rattle.emtp_netcards.specs.held.BranchCard.{HasValues, kind_of_values}
use Rattle.emtp_netcards.specs.declared.branch_card.BranchCard.{BranchCard}
use Rattle.emtp_netcards.specs.declared.branch_card.BranchKind.{BranchKind}
use Rattle.emtp_netcards.specs.declared.branch_card.BranchKind.TheVariants.{Line as LineKind, Reactor as ReactorKind, Resistor as ResistorKind, Second as SecondKind, Series as SeriesKind, Third as ThirdKind}
use Rattle.emtp_netcards.specs.declared.branch_card.BranchValues.{BranchValues}
use Rattle.emtp_netcards.specs.declared.branch_card.BranchValues.TheVariants.{Copied as CopiedCard, Line as LineCard, Lumped as LumpedCard, Reactor as ReactorCard, Resistor as ResistorCard, Second as SecondCard, Third as ThirdCard}

-- ---- history values

pub few_values : (phases values : ℕ) → phases ≤ 3 → values ≤ 5 * 10 ^ 16 → phases * values ≤ 2 * 10 ^ 17
few_values phases values l few = let product = mul-le phases values 3 (5 * 10 ^ 16) l few in omega (arith, product)

-- both sequences together
both_modes : (a b : ℕ) → 1 * (2 * (a + 1)) + 3 * (2 * (b + 1)) ≡ 2 * (a + 1) + 6 * (b + 1)
both_modes a b = omega arith

trio_values : (dt : ℤ) (o u : Option LineNumbers) (z q : LineNumbers) → o ≡ Some z → u ≡ Some q → line_history 1 dt o + line_history 3 dt u ≡ trio_history_values dt (modes_of z q)
trio_values dt o u z q e d = rw (e, d) (both_modes (travel_steps dt z.delay) (travel_steps dt q.delay))

-- ---- numbers

abbrev HasRange : ℤ → LineNumbers → Type 0
HasRange dt x = HasLineNumbers dt x.zc x.r x.delay

-- there are numbers, and they are in range
record IsNumbered (dt : ℤ) (o : Option LineNumbers) : Type 0 where
  numbers : LineNumbers
  is : o ≡ Some numbers
  range : HasRange dt numbers

mode_below : (is : Bool) → if◌then◌else◌ {A = ℕ} is 0 1 < 2
mode_below true = omega arith
mode_below false = omega arith

no_pseudo : (reactor : Bool) (kind : BranchKind) → IsLineKind kind → type_of_pseudo reactor ≡ type_of_kind kind → ⊥
no_pseudo reactor SeriesKind k e = k
no_pseudo true LineKind k e = cc
no_pseudo false LineKind k e = cc
no_pseudo true SecondKind k e = cc
no_pseudo false SecondKind k e = cc
no_pseudo reactor ThirdKind k e = k
no_pseudo reactor ReactorKind k e = k
no_pseudo reactor ResistorKind k e = k

no_lumped : (kind : BranchKind) → IsLineKind kind → pos 0 ≡ type_of_kind kind → ⊥
no_lumped SeriesKind k e = k
no_lumped LineKind k e = cc
no_lumped SecondKind k e = cc
no_lumped ThirdKind k e = k
no_lumped ReactorKind k e = k
no_lumped ResistorKind k e = k

branch_numbered : (p : Parts) (kind : BranchKind) (b : Branch) → IsLineKind kind → All (IsTrio p.run) p.trios → IsEarlier p (type_of_kind kind) b → IsNumbered p.run.dt (numbers_of_branch p.trios b)
branch_numbered p kind (OfLumped x) k trios h = absurd (no_lumped kind k h.same)
branch_numbered p kind (OfLine x) k trios h = record { numbers = record { zc = x.zc; r = x.r; delay = x.delay }; is = refl; range = h.there.numbers }
branch_numbered p kind (OfPseudo x) k trios h = absurd (no_pseudo x.reactor kind k h.same)
branch_numbered p kind (OfPhase x) k trios h = record { numbers = phase_numbers p.trios x; is = refl; range = trios x.trio no_trio h.there.trio (mode_of_phase x.phase) (mode_below (x.phase == 0)) }

-- a branch with the values of an earlier one, between other nodes
pub moved_fits : (p : Parts) (line a b : ℕ) (x : Branch) → All (IsTrio p.run) p.trios → AreEnds (length p.nodes) a b → IsBranch p.run (sizes_of p) p.points x → IsBranch p.run (sizes_of p) p.points (moved p.trios line a b x)
moved_fits p line a b (OfLumped x) trios ends h = record { ends = ends; numbers = h.numbers }
moved_fits p line a b (OfLine x) trios ends h = record { ends = ends; numbers = h.numbers }
moved_fits p line a b (OfPseudo x) trios ends h = record { ends = ends; some = h.some; few = h.few; there = h.there; characteristic = h.characteristic }
moved_fits p line a b (OfPhase x) trios ends h = record { ends = ends; numbers = trios x.trio no_trio h.trio (mode_of_phase x.phase) (mode_below (x.phase == 0)) }

found_numbered : (p : Parts) (values : BranchValues) (kind : BranchKind) (a b : ℕ) (o : Option Branch) → IsLineKind kind → All (IsTrio p.run) p.trios
    → All (IsBranch p.run (sizes_of p) p.points) p.branches → find (is_like (type_of_kind kind) a b) p.branches ≡ o → missing_fault (earlier_or_missing o) ≡ None
    → IsNumbered p.run.dt (line_numbers p.trios values (earlier_or_missing o))
found_numbered p values kind a b None k trios all e t = absurd (cc)
found_numbered p values kind a b (Some x) k trios all e t = branch_numbered p kind x k trios (earlier p (type_of_kind kind) a b x all e)

numbered : (p : Parts) (names : List (List ℕ)) (values : BranchValues) → IsLineKind (kind_of_values values) → HasValues p.run.dt values → All (IsTrio p.run) p.trios
    → All (IsBranch p.run (sizes_of p) p.points) p.branches → missing_fault (values_by names p.branches values) ≡ None → IsNumbered p.run.dt (line_numbers p.trios values (values_by names p.branches values))
numbered p names (LumpedCard r l c) k own trios all t = absurd k
numbered p names (LineCard zc r delay) k own trios all t = record { numbers = record { zc = zc; r = r; delay = delay }; is = refl; range = own }
numbered p names (SecondCard zc r delay) k own trios all t = record { numbers = record { zc = zc; r = r; delay = delay }; is = refl; range = own }
numbered p names ThirdCard k own trios all t = absurd k
numbered p names ReactorCard k own trios all t = absurd k
numbered p names ResistorCard k own trios all t = absurd k
numbered p names (CopiedCard kind a b) k own trios all t = found_numbered p (CopiedCard kind a b) kind (node_number names a) (node_number names b) _ k trios all refl t

-- the past values of a branch with the values of an earlier one are those that its card was counted with
one_time : (n : ℕ) → 1 * n ≡ n
one_time n = omega arith

pub moved_values : (p : Parts) (line a b : ℕ) (x : Branch) → line_history 1 p.run.dt (numbers_of_branch p.trios x) ≡ branch_history_values p.run.dt (moved p.trios line a b x)
moved_values p line a b (OfLumped x) = refl
moved_values p line a b (OfLine x) = one_time (line_history_values p.run.dt x.delay)
moved_values p line a b (OfPseudo x) = refl
moved_values p line a b (OfPhase x) = one_time (line_history_values p.run.dt (phase_numbers p.trios x).delay)

-- ---- three phases

both_range : (dt : ℤ) (z q : LineNumbers) → HasRange dt z → HasRange dt q → (m : ℕ) → m < 2
    → HasLineNumbers dt (slice_index_or (z.zc ∷ q.zc ∷ []) m (pos 0)) (slice_index_or (z.r ∷ q.r ∷ []) m (pos 0)) (slice_index_or (z.delay ∷ q.delay ∷ []) m (pos 0))
both_range dt z q a b zero l = a
both_range dt z q a b (suc zero) l = b
both_range dt z q a b (suc (suc m)) l = absurd (omega arith)

pub line_values : (p : Parts) (zero' positive : BranchCard) (taken : TakenPair) → AreTakenBy p zero' positive taken → taken_history p taken ≡ pair_history p zero' positive
line_values p zero' positive taken t = rw (t.zero_taken.numbers_are, t.positive_taken.numbers_are) refl

pub has_modes : (p : Parts) (zero' positive third : BranchCard) (taken : TakenPair) → AreTakenBy p zero' positive taken → IsTrioEntry p.run zero' positive → All (IsTrio p.run) p.trios → All (IsBranch p.run (sizes_of p) p.points) p.branches
    → IsSensibleTrio p zero' positive third → HasModes p taken.zero_sequence.numbers taken.positive_sequence.numbers
has_modes p zero' positive third taken t trio trios branches s =
    let z = numbered p p.nodes zero'.values (subst IsLineKind (sym trio.zero_kind) tt) trio.zero_numbers.values trios branches s.zero_taken in
    let q = numbered p p.nodes positive.values (subst IsLineKind (sym trio.positive_kind) tt) trio.positive_numbers.values trios branches s.positive_taken in
    let z_is : taken.zero_sequence.numbers ≡ Some z.numbers = t.zero_taken.numbers_are ∙ z.is in
    let q_is : taken.positive_sequence.numbers ≡ Some q.numbers = t.positive_taken.numbers_are ∙ q.is in
    let values = trio_values p.run.dt taken.zero_sequence.numbers taken.positive_sequence.numbers z.numbers q.numbers z_is q_is in
    let sum : pair_history p zero' positive ≡ trio_history_values p.run.dt (modes_of z.numbers q.numbers) = sym (line_values p zero' positive taken t) ∙ values in
    record {
      modes = modes_of z.numbers q.numbers;
      are = rw (z_is, q_is) refl;
      range = both_range p.run.dt z.numbers q.numbers z.range q.range;
      values = values;
      history = subst (λ n. history_values_of p + n ≤ MOST_HISTORY_VALUES) sum s.history;
    }

-- what is there is one, and is not none
pub some_same : {A : Type 0} (o : Option A) (x y : A) → o ≡ Some x → o ≡ Some y → x ≡ y
some_same o x y e d = let both : Some x ≡ Some y = sym e ∙ d in cc

pub some_none : {A : Type 0} (o : Option A) (x : A) → o ≡ Some x → o ≡ None → ⊥
some_none o x e d = let both : Some x ≡ None = sym e ∙ d in cc
