-- What a case keeps has one proof at most. These proofs stand here because the ghost facts of `Draft` and `Case` cite them.
use Rattle.emtp_case.specs.held.Branch.{IsBranch}
use Rattle.emtp_case.specs.held.Case.{IsCase, IsDraft}
use Rattle.emtp_case.specs.held.Channel.{IsChannel}
use Rattle.emtp_case.specs.held.Control.{IsBound, IsExtra}
use Rattle.emtp_case.specs.held.Expr.{FitsPlaces}
use Rattle.emtp_case.specs.held.Sizes.{Sizes}
use Rattle.emtp_case.specs.held.Source.{HasShapeNumbers, IsControlShape, IsNetworkShape}
use Rattle.emtp_case.specs.held.Switch.{IsSwitchKind}
use Rattle.emtp_case.specs.declared.branch.Branch.{Branch}
use Rattle.emtp_case.specs.declared.branch.Branch.TheVariants.{Line as OfLine, Lumped as OfLumped, Phase as OfPhase, Pseudo as OfPseudo}
use Rattle.emtp_case.specs.declared.branch.Point.{Point}
use Rattle.emtp_case.specs.declared.case.Parts.{Parts}
use Rattle.emtp_case.specs.declared.channel.Channel.{Channel}
use Rattle.emtp_case.specs.declared.channel.Channel.TheVariants.{BranchCurrent, BranchVoltage, SwitchCurrent as CurrentChannel, NodeVoltage as NodeChannel, Tacs as OfTacs, Status, SwitchVoltage}
use Rattle.emtp_case.specs.declared.control.Bound.{Bound}
use Rattle.emtp_case.specs.declared.control.Bound.TheVariants.{Fixed, Named, None as NoBound}
use Rattle.emtp_case.specs.declared.control.Extra.{Extra}
use Rattle.emtp_case.specs.declared.control.Extra.TheVariants.{Device as OfDevice, Formula as OfFormula}
use Rattle.emtp_case.specs.declared.expr.Node.{Node}
use Rattle.emtp_case.specs.declared.expr.Node.TheVariants.{Binary, Number, Unary, Var}
use Rattle.emtp_case.specs.declared.run_data.RunData.{RunData}
use Rattle.emtp_case.specs.declared.source.Shape.{Shape}
use Rattle.emtp_case.specs.declared.source.Shape.TheVariants.{Cosine, NodeVoltage, Pulse, Ramp, Saw, Step, SwitchCurrent, SwitchStatus, Tacs}
use Rattle.emtp_case.specs.declared.source.Source.{Source}
use Rattle.emtp_case.specs.declared.switch.SwitchKind.{SwitchKind}
use Rattle.emtp_case.specs.declared.switch.SwitchKind.TheVariants.{Control, Measuring, Time, Valve}
use Rattle.std.proofs.Props.{props}
use Rattle.std.specs.Prelude.{List, ℕ}

FitsPlaces-prop : (places : ℕ) (node : Node) → IsProp (FitsPlaces places node)
FitsPlaces-prop places (Number x) = hlevel props
FitsPlaces-prop places (Var at) = hlevel props
FitsPlaces-prop places (Unary op) = hlevel props
FitsPlaces-prop places (Binary op) = hlevel props

IsBranch-prop : (run : RunData) (n : Sizes) (points : List Point) (b : Branch) → IsProp (IsBranch run n points b)
IsBranch-prop run n points (OfLumped b) = hlevel props
IsBranch-prop run n points (OfLine b) = hlevel props
IsBranch-prop run n points (OfPseudo b) = hlevel props
IsBranch-prop run n points (OfPhase b) = hlevel props

IsSwitchKind-prop : (n : Sizes) (k : SwitchKind) → IsProp (IsSwitchKind n k)
IsSwitchKind-prop n (Time close open_at margin) = hlevel props
IsSwitchKind-prop n Measuring = hlevel props
IsSwitchKind-prop n (Valve ignition holding control) = hlevel props
IsSwitchKind-prop n (Control control) = hlevel props

HasShapeNumbers-prop : (s : Source) (shape : Shape) → IsProp (HasShapeNumbers s shape)
HasShapeNumbers-prop s Step = hlevel props
HasShapeNumbers-prop s (Ramp rise) = hlevel props
HasShapeNumbers-prop s (Cosine freq phase) = hlevel props
HasShapeNumbers-prop s (Tacs var) = hlevel props
HasShapeNumbers-prop s (Pulse period width) = hlevel props
HasShapeNumbers-prop s (Saw period) = hlevel props
HasShapeNumbers-prop s (NodeVoltage node) = hlevel props
HasShapeNumbers-prop s (SwitchCurrent switch) = hlevel props
HasShapeNumbers-prop s (SwitchStatus switch) = hlevel props

IsNetworkShape-prop : (n : Sizes) (s : Shape) → IsProp (IsNetworkShape n s)
IsNetworkShape-prop n Step = hlevel props
IsNetworkShape-prop n (Ramp rise) = hlevel props
IsNetworkShape-prop n (Cosine freq phase) = hlevel props
IsNetworkShape-prop n (Tacs var) = hlevel props
IsNetworkShape-prop n (Pulse period width) = hlevel props
IsNetworkShape-prop n (Saw period) = hlevel props
IsNetworkShape-prop n (NodeVoltage node) = hlevel props
IsNetworkShape-prop n (SwitchCurrent switch) = hlevel props
IsNetworkShape-prop n (SwitchStatus switch) = hlevel props

IsControlShape-prop : (n : Sizes) (s : Shape) → IsProp (IsControlShape n s)
IsControlShape-prop n Step = hlevel props
IsControlShape-prop n (Ramp rise) = hlevel props
IsControlShape-prop n (Cosine freq phase) = hlevel props
IsControlShape-prop n (Tacs var) = hlevel props
IsControlShape-prop n (Pulse period width) = hlevel props
IsControlShape-prop n (Saw period) = hlevel props
IsControlShape-prop n (NodeVoltage node) = hlevel props
IsControlShape-prop n (SwitchCurrent switch) = hlevel props
IsControlShape-prop n (SwitchStatus switch) = hlevel props

IsBound-prop : (n : Sizes) (b : Bound) → IsProp (IsBound n b)
IsBound-prop n NoBound = hlevel props
IsBound-prop n (Fixed x) = hlevel props
IsBound-prop n (Named v) = hlevel props

IsExtra-prop : (n : Sizes) (points : List Point) (x : Extra) → IsProp (IsExtra n points x)
IsExtra-prop n points (OfDevice x) = hlevel props
IsExtra-prop n points (OfFormula x) = hlevel (props, FitsPlaces-prop)

IsChannel-prop : (n : Sizes) (c : Channel) → IsProp (IsChannel n c)
IsChannel-prop n (NodeChannel node) = hlevel props
IsChannel-prop n (BranchCurrent b) = hlevel props
IsChannel-prop n (BranchVoltage b) = hlevel props
IsChannel-prop n (CurrentChannel s) = hlevel props
IsChannel-prop n (SwitchVoltage s) = hlevel props
IsChannel-prop n (OfTacs v) = hlevel props
IsChannel-prop n (Status s) = hlevel props

pub IsDraft-prop : (p : Parts) → IsProp (IsDraft p)
IsDraft-prop p =
    hlevel (props, IsBranch-prop, IsSwitchKind-prop, HasShapeNumbers-prop, IsNetworkShape-prop, IsControlShape-prop, IsBound-prop, IsExtra-prop, IsChannel-prop)

pub IsCase-prop : (p : Parts) → IsProp (IsCase p)
IsCase-prop p = hlevel (props, IsDraft-prop)
