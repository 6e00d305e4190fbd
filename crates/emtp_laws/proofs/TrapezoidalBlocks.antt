-- Each number of a block's chain goes by the trapezoidal rule.
use Rattle.std.proofs.Common.{◌≡◌, ◌∙◌, ap, Bool, true, false, not, ◌&&◌, ◌==◌, if◌then◌else◌, nat_lt, ℕ, zero, suc, ◌<◌, ◌≤◌, ℤ, pos, ◌+ℤ◌, ◌-ℤ◌, List, Some, None, IfSome, refl, inl, inr, arith}
use Rattle.std.proofs.lemmas.Bool.{cases_eq}
use Rattle.std.proofs.lemmas.Bool.Decides.{nat_tests, Decides-int_eq}
use Rattle.std.proofs.lemmas.Int.{ints}
use Rattle.std.proofs.lemmas.List.FromFn.{get_or-map-range_with_len}
use Rattle.std.specs.Ordering.{int_eq}
use Rattle.emtp_blocks.specs.Block.{carried, chain_number, chain_of, error_of, input_of, kept_of, limits_of, next_state, output_of, padded, unlimited_output}
use Rattle.emtp_case.specs.Control.{denominator_of, numerator_of}
use Rattle.emtp_case.specs.Sums.{sum_below}
use Rattle.emtp_case.specs.declared.control.Block.{Block}
use Rattle.emtp_case.specs.declared.control.BlockState.{BlockState}
use Rattle.emtp_elim.specs.Matrix.{item}
use Rattle.emtp_laws.specs.Control.{GoesByTheRule, RisesByTheRule}

-- a number below the order of a padded list
padded_item : (order : ℕ) (f : ℕ → ℤ) (j : ℕ) → order ≤ 7 → j < order → item (padded order f) j ≡ f j
padded_item order f j few below =
    let inside : nat_lt j order ≡ true = grind (arith, nat_tests) in
    get_or-map-range_with_len (λ k. if nat_lt k order then f k else pos 0) 0 8 j j (pos 0) (omega (arith, few, below)) (omega arith) ∙ ap (λ t. if t then f j else pos 0) inside

-- number j + 1 of the chain, where no limit decides it
abbrev unclamped : List ℤ → List ℤ → (ℕ → ℤ) → ℕ → ℤ
unclamped es ys e j = carried es ys (suc j) -ℤ sum_below (suc j) e

-- the rule over numbers that nothing clamps; `before` is the new number j
abbrev Rises : List ℤ → List ℤ → (ℕ → ℤ) → ℕ → ℤ → Type 0
Rises es ys e j before = unclamped es ys e j -ℤ item ys j ≡ (before -ℤ e j) +ℤ (chain_number ys j -ℤ item es j)

first_rises : (es ys : List ℤ) (e : ℕ → ℤ) → Rises es ys e zero (pos 0)
first_rises es ys e = omega (arith, ints)

later_rises : (es ys : List ℤ) (e : ℕ → ℤ) (j : ℕ) → Rises es ys e (suc j) (unclamped es ys e j)
later_rises es ys e j = omega (arith, ints)

-- a number before the last isn't clamped, and the last one isn't where its output is that of the chain
free_number : (order : ℕ) (es ys : List ℤ) (e : ℕ → ℤ) (clamped : Bool) (j : ℕ) → clamped && (suc j == order) ≡ false → chain_of order es ys e clamped j ≡ unclamped es ys e j
free_number order es ys e clamped j free = ap (λ t. if t then e order else unclamped es ys e j) free

inner_is_free : (clamped : Bool) (j order : ℕ) → suc j < order → clamped && (suc j == order) ≡ false
inner_is_free false j order below = refl
inner_is_free true j order below = grind (arith, nat_tests)

-- number j of the new chain
new_number : (order : ℕ) (es ys : List ℤ) (e : ℕ → ℤ) (clamped : Bool) (j : ℕ) → order ≤ 7 → j < order → clamped && (suc j == order) ≡ false → item (padded order (chain_of order es ys e clamped)) j ≡ unclamped es ys e j
new_number order es ys e clamped j few below free = padded_item order (chain_of order es ys e clamped) j few below ∙ free_number order es ys e clamped j free

abbrev Rule : List ℤ → List ℤ → List ℤ → List ℤ → ℕ → Type 0
Rule es ys es' ys' j = chain_number ys' (suc j) -ℤ chain_number ys (suc j) ≡ (chain_number ys' j -ℤ item es' j) +ℤ (chain_number ys j -ℤ item es j)

rule_of : (order : ℕ) (es ys : List ℤ) (e : ℕ → ℤ) (clamped : Bool) (j : ℕ) → order ≤ 7 → j < order → clamped && (suc j == order) ≡ false
    → Rule es ys (padded order e) (padded order (chain_of order es ys e clamped)) j
rule_of order es ys e clamped zero few below free =
    let number = new_number order es ys e clamped zero few below free in
    let error = padded_item order e zero few below in
    rw (number, error) (first_rises es ys e)
rule_of order es ys e clamped (suc j) few below free =
    let number = new_number order es ys e clamped (suc j) few below free in
    let before = new_number order es ys e clamped j few (omega (arith, below)) (inner_is_free clamped j order below) in
    let error = padded_item order e (suc j) few below in
    rw (number, before, error) (later_rises es ys e j)

where_kept : (P : BlockState → Type 0) (t : Bool) (new : BlockState) → P new → IfSome (if t then Some new else None) P
where_kept P true new h = h
where_kept P false new h = tt

step_rises : (dt : ℤ) (b : Block) (known : List ℤ) (old : BlockState) (solved s : ℤ) (j : ℕ) → b.order ≤ 7 → j < b.order
    → not (int_eq (output_of (limits_of known b) old.limiter solved) (unlimited_output dt b old solved s)) && (suc j == b.order) ≡ false → IfSome (next_state dt b (limits_of known b) old solved s) (RisesByTheRule old j)
unfolding next_state
step_rises dt b known old solved s j few below free =
    let u = input_of b s in
    let x = output_of (limits_of known b) old.limiter solved in
    let z = unlimited_output dt b old solved s in
    where_kept (RisesByTheRule old j) _ (kept_of dt b (limits_of known b) old u x z) (rule_of b.order old.errors old.chain (error_of (numerator_of dt b) (denominator_of dt b) u x) (not (int_eq x z)) j few below free)

pub each_number_rises : (dt : ℤ) (b : Block) (j : ℕ) → b.order ≤ 7 → j < b.order → GoesByTheRule dt b j
each_number_rises dt b j few below known old solved s unchanged = elim (cases_eq (suc j) b.order) [
  | inl last ↦
      let test : int_eq (output_of (limits_of known b) old.limiter solved) (unlimited_output dt b old solved s) ≡ true = (Decides-int_eq _ _).1 (unchanged last) in
      step_rises dt b known old solved s j few below (ap (λ t. not t && (suc j == b.order)) test)
  | inr ne ↦ step_rises dt b known old solved s j few below (inner_is_free _ j b.order (omega (arith, below, ne)))
]
