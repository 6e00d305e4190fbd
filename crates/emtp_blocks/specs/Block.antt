-- One block within a step: its chain, its limits and its limiter. Its state is that of the last record.
use Rattle.std.specs.Prelude.{ℕ, zero, suc, ◌*◌, ◌==◌, ◌&&◌, not, ℤ, pos, neg_ℤ, ◌+ℤ◌, ◌-ℤ◌, ◌*ℤ◌, int_lt, nat_lt, Bool, true, false, if◌then◌else◌, List, Option, Some, None, unwrap_or}
use Rattle.std.specs.Ordering.{int_eq}
use Rattle.emtp_elim.specs.Matrix.{item, list_of}
use Rattle.emtp_case.specs.Control.{numerator_of, denominator_of, coefficient_sum}
use Rattle.emtp_case.specs.declared.control.BlockState.{BlockState}
use Rattle.emtp_case.specs.declared.control.Block.{Block}
use Rattle.emtp_case.specs.declared.control.Bound.{Bound}
use Rattle.emtp_case.specs.declared.control.Bound.TheVariants.{Fixed, Named, None as NoBound}
use Rattle.emtp_case.specs.declared.control.Limiter.{Limiter}
use Rattle.emtp_case.specs.declared.control.Limiter.TheVariants.{Free, AtHigh, AtLow}
use Rattle.emtp_fix.specs.Limit.{is_within}
use Rattle.emtp_fix.specs.Rounding.{near}
use Rattle.emtp_case.specs.Sums.{sum_below}
use Rattle.emtp_blocks.specs.declared.limits.Limits.{Limits}
use Rattle.emtp_fix.specs.declared.limit.TheConstants.{LARGEST_VALUE, NANO, PICO}
use Rattle.emtp_blocks.specs.declared.next.TheConstants.{LARGEST_CHAIN}

-- ---- the chain

-- Y'(j) of a list of Y'(1), Y'(2) and so on; Y'(0) is 0
abbrev pub chain_number : List ℤ → ℕ → ℤ
chain_number ys zero = pos 0
chain_number ys (suc j) = item ys j

-- H(j+1) = Y'(j+1) + Y'(j) - E'(j) + H(j), and H(0) is 0
abbrev pub carried : List ℤ → List ℤ → ℕ → ℤ
carried es ys zero = pos 0
carried es ys (suc j) = ((chain_number ys (suc j) +ℤ chain_number ys j) -ℤ item es j) +ℤ carried es ys j

-- h, which the past brings to the output; 0 for order 0
abbrev pub past_output : ℕ → List ℤ → List ℤ → ℤ
past_output order es ys = near (neg_ℤ (carried es ys order)) NANO

-- E(j) = n(j)*u - d(j)*x
abbrev pub error_of : (ℕ → ℤ) → (ℕ → ℤ) → ℤ → ℤ → ℕ → ℤ
error_of n d u x j = near (n j *ℤ u) (pos 1000) -ℤ near (d j *ℤ x) (pos 1000)

-- Y(j+1) = H(j+1) - (E(0) + .. + E(j)). Where the output isn't what the chain would give, Y(N) is E(N).
abbrev pub chain_of : ℕ → List ℤ → List ℤ → (ℕ → ℤ) → Bool → ℕ → ℤ
chain_of order es ys e clamped j = if clamped && (suc j == order) then e order else carried es ys (suc j) -ℤ sum_below (suc j) e

-- ---- the limits

-- a limit within the step, where there is one
abbrev pub limit_of : List ℤ → Bound → Option ℤ
limit_of known NoBound = None
limit_of known (Fixed x) = Some x
limit_of known (Named v) = Some (item known v)

abbrev pub limits_of : List ℤ → Block → Limits
limits_of known b = record { low = limit_of known b.low; high = limit_of known b.high }

abbrev pub is_above : Option ℤ → ℤ → Bool
is_above None z = false
is_above (Some limit) z = int_lt limit z

abbrev pub is_below : Option ℤ → ℤ → Bool
is_below None z = false
is_below (Some limit) z = int_lt z limit

-- where the limiter stands at z: the high limit comes first
abbrev pub limiter_for : Limits → ℤ → Limiter
limiter_for limits z = if is_above limits.high z then AtHigh else if is_below limits.low z then AtLow else Free

-- the output of a limiter: its limit, or z where it is free
abbrev pub held : Limits → Limiter → ℤ → ℤ
held limits Free z = z
held limits AtHigh z = unwrap_or limits.high (pos 0)
held limits AtLow z = unwrap_or limits.low (pos 0)

-- The recorded output x, from the solved one. A block that was free takes the limit of its new state, and one that was at
-- a limit keeps the limit that its row had.
abbrev pub output_of : Limits → Limiter → ℤ → ℤ
output_of limits Free solved = held limits (limiter_for limits solved) solved
output_of limits AtHigh solved = held limits AtHigh solved
output_of limits AtLow solved = held limits AtLow solved

-- z, what the block would put out without limits: the solved x where it was free, else c*u + h
abbrev pub unlimited : ℤ → Limiter → ℤ → ℤ → ℤ → ℤ
unlimited c Free h solved u = solved
unlimited c AtHigh h solved u = near (c *ℤ u) PICO +ℤ h
unlimited c AtLow h solved u = near (c *ℤ u) PICO +ℤ h

-- ---- the step of a block

-- u, the input of a block, from the sum s of its inputs
abbrev pub input_of : Block → ℤ → ℤ
input_of b s = near (b.gain *ℤ s) PICO

abbrev pub each_within : ℕ → List ℤ → ℕ → Bool
each_within limit xs zero = true
each_within limit xs (suc n) = each_within limit xs n && is_within limit (item xs n)

-- what f gives below the order, and 0 from there on
abbrev pub padded : ℕ → (ℕ → ℤ) → List ℤ
padded order f = list_of 8 (λ j. if nat_lt j order then f j else pos 0)

-- what a record keeps of a block, from u, its recorded output x and z
abbrev pub kept_of : ℤ → Block → Limits → BlockState → ℤ → ℤ → ℤ → BlockState
kept_of dt b limits old u x z = record {
  limiter = limiter_for limits z;
  errors = padded b.order (error_of (numerator_of dt b) (denominator_of dt b) u x);
  chain = padded b.order
      (chain_of b.order old.errors old.chain (error_of (numerator_of dt b) (denominator_of dt b) u x) (not (int_eq x z)));
}

-- z of a step
abbrev pub unlimited_output : ℤ → Block → BlockState → ℤ → ℤ → ℤ
unlimited_output dt b old solved s =
    unlimited (coefficient_sum dt b b.order) old.limiter (past_output b.order old.errors old.chain) solved (input_of b s)

-- The state of a block after a step, from its solved x and the sum s of its inputs; none where u or a number of the chain
-- is out of range.
unfoldable pub next_state : ℤ → Block → Limits → BlockState → ℤ → ℤ → Option BlockState
next_state dt b limits old solved s =
    let new = kept_of dt b limits old (input_of b s) (output_of limits old.limiter solved) (unlimited_output dt b old solved s) in
    if is_within LARGEST_VALUE (input_of b s) && each_within LARGEST_CHAIN new.chain b.order then Some new else None
