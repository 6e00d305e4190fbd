-- Beside `Held`: what values hold for their proofs, and what premises say. No clause of the program reaches it.
use Rattle.std.specs.Prelude.{◌≡◌, ◌<◌, ◌≤◌, ◌^◌, unsigned_abs}
use Rattle.emtp_case.specs.held.Branch.{IsPseudo}
use Rattle.emtp_case.specs.held.Sizes.{sizes_of}
use Rattle.emtp_case.specs.declared.branch.Branch.{Branch}
use Rattle.emtp_case.specs.declared.branch.Branch.TheVariants.{Lumped as OfLumped, Line as OfLine, Pseudo as OfPseudo, Phase as OfPhase}
use Rattle.emtp_case.specs.declared.branch.Pseudo.{Pseudo}
use Rattle.emtp_case.specs.declared.case.Parts.{Parts}
use Rattle.emtp_pseudo.specs.held.Segment.{IsSound}
use Rattle.emtp_pseudo.specs.Step.{history_current_of, moment_at_rest}
use Rattle.emtp_pseudo.specs.held.Step.{IsMoment}
use Rattle.emtp_pseudo.specs.declared.held.HeldBranch.{HeldBranch}
use Rattle.emtp_pseudo.specs.declared.moment.Moment.{Moment}
use Rattle.emtp_pseudo.specs.Moment.{segment_in}

abbrev pub moment_in : HeldBranch → Moment
moment_in h = h.moment

-- the segment is that of the last record, and the history current is theirs
pub record IsHeld (case : Parts) (x : Pseudo) (h : HeldBranch) : Type 0 where
  pub card : h.card ≡ x
  pub segment : h.segment ≡ segment_in case x h.moment.state.segment
  pub history : h.history_current ≡ history_current_of x.reactor h.segment h.moment
  pub sound : IsSound x.reactor h.segment
  pub moment : IsMoment h.moment
  pub within : unsigned_abs h.moment.state.segment < x.count
  pub history_small : unsigned_abs h.history_current ≤ 10 ^ 30

-- held as record 0 has it
pub record IsHeldAtRest (case : Parts) (x : Pseudo) (h : HeldBranch) : Type 0 where
  pub held : IsHeld case x h
  pub rest : h.moment ≡ moment_at_rest

-- the same for any branch; one of another kind is never read
abbrev pub IsOfBranch : Parts → Branch → HeldBranch → Type 0
IsOfBranch case (OfLumped b) h = Unit {0}
IsOfBranch case (OfLine b) h = Unit {0}
IsOfBranch case (OfPseudo b) h = IsHeldAtRest case b h
IsOfBranch case (OfPhase b) h = Unit {0}

-- the numbers that a pseudo-nonlinear branch needs
abbrev pub HasNumbers : Parts → Branch → Type 0
HasNumbers case (OfLumped b) = Unit {0}
HasNumbers case (OfLine b) = Unit {0}
HasNumbers case (OfPseudo b) = IsPseudo case.run (sizes_of case) case.points b
HasNumbers case (OfPhase b) = Unit {0}
