-- The current that a pseudo-nonlinear branch keeps of a step is in range.
use Rattle.std.proofs.Common.{ℤ, Bool, Some, IfSome}
use Rattle.emtp_case.specs.declared.branch.PseudoState.{PseudoState}
use Rattle.emtp_fix.proofs.Ranges.{IsSmall, chain-all, chain-any, in_range-within}
use Rattle.emtp_fix.specs.Limit.{in_range, ◌>>=◌}
use Rattle.emtp_pseudo.specs.Segment.{next_segment}
use Rattle.emtp_pseudo.specs.Step.{current_of, flux_of, next_state, place_of}
use Rattle.emtp_pseudo.specs.declared.moment.Moment.{Moment}
use Rattle.emtp_pseudo.specs.declared.segment.Segment.{Segment}

pub current_small : (reactor : Bool) (dt : ℤ) (s : Segment) (old : Moment) (v : ℤ) → IfSome (next_state reactor dt s old v) (λ x. IsSmall x.current)
unfolding next_state
current_small reactor dt s old v =
    let Q : PseudoState → Type 0 = λ x. IsSmall x.current in
    chain-all IsSmall Q (in_range (current_of reactor s old v)) (λ i. in_range (flux_of reactor dt old v) >>= (λ flux. Some (record { current = i; segment = next_segment s old.state.segment (place_of reactor flux v); flux = flux }))) (in_range-within (current_of reactor s old v))
    (λ i small. chain-any Q (in_range (flux_of reactor dt old v)) (λ flux. Some (record { current = i; segment = next_segment s old.state.segment (place_of reactor flux v); flux = flux })) (λ flux. small))
