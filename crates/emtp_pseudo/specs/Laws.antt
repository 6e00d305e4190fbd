-- Turned signs, for the law of odd symmetry.
use Rattle.std.specs.Prelude.{neg_ℤ, Option, Some, None}
use Rattle.emtp_case.specs.declared.branch.PseudoState.{PseudoState}
use Rattle.emtp_pseudo.specs.declared.moment.Moment.{Moment}

abbrev pub mirrored_state : PseudoState → PseudoState
mirrored_state s = record { current = neg_ℤ s.current; segment = neg_ℤ s.segment; flux = neg_ℤ s.flux }

abbrev pub mirrored_moment : Moment → Moment
mirrored_moment m = record { state = mirrored_state m.state; voltage = neg_ℤ m.voltage }

abbrev pub mirrored_next : Option PseudoState → Option PseudoState
mirrored_next None = None
mirrored_next (Some s) = Some (mirrored_state s)
