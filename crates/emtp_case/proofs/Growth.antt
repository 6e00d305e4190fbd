-- A record that fits a case fits a larger one.
use Rattle.emtp_case.specs.Branch.{points_of}
use Rattle.emtp_case.specs.held.Branch.{IsBranch, IsCharacteristic}
use Rattle.emtp_case.specs.held.Case.{IsDraft}
use Rattle.emtp_case.specs.held.Channel.{IsChannel}
use Rattle.emtp_case.specs.held.Control.{HasDevicePoints, IsBlock, IsBound, IsDeviceCard, IsExtra}
use Rattle.emtp_case.specs.held.OneProof.{IsDraft-prop}
use Rattle.emtp_case.specs.held.Range.{AreEnds}
use Rattle.emtp_case.specs.held.Sizes.{Grows, Sizes, sizes_of}
use Rattle.emtp_case.specs.held.Source.{IsControlShape, IsNetworkShape, IsSource, IsTacsSource}
use Rattle.emtp_case.specs.held.Switch.{IsSwitch, IsSwitchKind}
use Rattle.emtp_case.specs.declared.branch.Branch.{Branch}
use Rattle.emtp_case.specs.declared.branch.Branch.TheVariants.{Line as OfLine, Lumped as OfLumped, Phase as OfPhase, Pseudo as OfPseudo}
use Rattle.emtp_case.specs.declared.branch.Point.{Point}
use Rattle.emtp_case.specs.declared.case.Parts.{Parts}
use Rattle.emtp_case.specs.declared.channel.Channel.{Channel}
use Rattle.emtp_case.specs.declared.channel.Channel.TheVariants.{BranchCurrent, BranchVoltage, SwitchCurrent as CurrentChannel, NodeVoltage as NodeChannel, Tacs as OfTacs, Status, SwitchVoltage}
use Rattle.emtp_case.specs.declared.control.Block.{Block}
use Rattle.emtp_case.specs.declared.control.Bound.{Bound}
use Rattle.emtp_case.specs.declared.control.Bound.TheVariants.{Fixed, Named, None as NoBound}
use Rattle.emtp_case.specs.declared.control.Device.{Device}
use Rattle.emtp_case.specs.declared.control.Extra.{Extra}
use Rattle.emtp_case.specs.declared.control.Extra.TheVariants.{Device as OfDevice, Formula as OfFormula}
use Rattle.emtp_case.specs.declared.control.Input.{Input}
use Rattle.emtp_case.specs.declared.draft.Draft.{Draft}
use Rattle.emtp_case.specs.declared.run_data.RunData.{RunData}
use Rattle.emtp_case.specs.declared.source.Shape.{Shape}
use Rattle.emtp_case.specs.declared.source.Shape.TheVariants.{Cosine, NodeVoltage, Pulse, Ramp, Saw, Step, SwitchCurrent, SwitchStatus, Tacs}
use Rattle.emtp_case.specs.declared.source.Source.{Source}
use Rattle.emtp_case.specs.declared.switch.Switch.{Switch}
use Rattle.emtp_case.specs.declared.switch.SwitchKind.{SwitchKind}
use Rattle.emtp_case.specs.declared.switch.SwitchKind.TheVariants.{Control, Measuring, Time, Valve}
use Rattle.std.proofs.Common.{◌∙◌, ap, arith, subst, sym}
use Rattle.std.proofs.lemmas.List.{drop-append-le, length-append, length-drop, take-append-le}
use Rattle.std.proofs.lemmas.List.Elements.{All-weaker}
use Rattle.std.specs.Option.{ForSome}
use Rattle.std.specs.Prelude.{◌≡◌, ◌+◌, ◌<◌, ◌≤◌, ◌∷◌, ◌++◌, [], All, Err, IsErr, List, Ok, OnErr, OnOk, Option, Result, drop, length, refl, take, ℕ}

-- one more item, or the list as before
pub pushed_or_not : {X E : Type 0} (P : List X → Type 0) (r : Result (Unit {0}) E) (old new : List X) (x : X) → OnOk r (new ≡ old ++ x ∷ []) → OnErr r (new ≡ old) → P (old ++ x ∷ []) → P old → P new
pushed_or_not P (Ok v) old new x ok err more same = subst P (sym ok) more
pushed_or_not P (Err e) old new x ok err more same = subst P (sym err) same

-- the points of the longer list where those of the shorter one stood
pub record Extends (ps qs : List Point) : Type 0 where
  pub longer : length ps ≤ length qs
  pub same : (first count : ℕ) → first + count ≤ length ps → points_of qs first count ≡ points_of ps first count

pub Extends-refl : (ps : List Point) → Extends ps ps
Extends-refl ps = record { longer = omega arith; same = λ first count h. refl }

pub Extends-append : (ps more : List Point) → Extends ps (ps ++ more)
Extends-append ps more = record {
  longer = omega (arith, length-append ps more);
  same = λ first count h.
      ap (take count) (drop-append-le first ps more (omega arith)) ∙ take-append-le count (drop first ps) more (omega (arith, length-drop first ps));
}

AreEnds-grows : (m n i j : ℕ) → m ≤ n → AreEnds m i j → AreEnds n i j
AreEnds-grows m n i j le h = record { from_there = omega (arith, h.from_there); to_there = omega (arith, h.to_there); apart = h.apart }

pub IsBranch-grows : (run : RunData) (m n : Sizes) (ps qs : List Point) → Grows m n → Extends ps qs → (b : Branch) → IsBranch run m ps b → IsBranch run n qs b
IsBranch-grows run m n ps qs g e (OfLumped b) h = record { ends = AreEnds-grows m.nodes n.nodes b.from b.to g.nodes h.ends; numbers = h.numbers }
IsBranch-grows run m n ps qs g e (OfLine b) h = record { ends = AreEnds-grows m.nodes n.nodes b.from b.to g.nodes h.ends; numbers = h.numbers }
IsBranch-grows run m n ps qs g e (OfPseudo b) h = record {
  ends = AreEnds-grows m.nodes n.nodes b.from b.to g.nodes h.ends;
  some = h.some;
  few = h.few;
  there = omega (arith, h.there, e.longer);
  characteristic = subst (IsCharacteristic b.reactor run.dt) (sym (e.same b.first b.count h.there)) h.characteristic;
}
IsBranch-grows run m n ps qs g e (OfPhase b) h = record {
  ends = AreEnds-grows m.nodes n.nodes b.from b.to g.nodes h.ends;
  trio = omega (arith, h.trio, g.trios);
  phase = h.phase;
}

ForSome-below : (o : Option ℕ) (v v' : ℕ) → v ≤ v' → ForSome o (λ x. x < v) → ForSome o (λ x. x < v')
ForSome-below o v v' le h = λ x is. let small : x < v = h x is in omega arith

IsSwitchKind-grows : (m n : Sizes) → Grows m n → (k : SwitchKind) → IsSwitchKind m k → IsSwitchKind n k
IsSwitchKind-grows m n g (Time close open_at margin) h = h
IsSwitchKind-grows m n g Measuring h = h
IsSwitchKind-grows m n g (Valve ignition holding control) h = (h.0, h.1, ForSome-below control m.vars n.vars g.vars h.2)
IsSwitchKind-grows m n g (Control control) h = omega (arith, g.vars)

pub IsSwitch-grows : (m n : Sizes) → Grows m n → (s : Switch) → IsSwitch m s → IsSwitch n s
IsSwitch-grows m n g s h = record { ends = AreEnds-grows m.nodes n.nodes s.from s.to g.nodes h.ends; kind = IsSwitchKind-grows m n g s.kind h.kind }

IsNetworkShape-grows : (m n : Sizes) → Grows m n → (s : Shape) → IsNetworkShape m s → IsNetworkShape n s
IsNetworkShape-grows m n g Step h = h
IsNetworkShape-grows m n g (Ramp rise) h = h
IsNetworkShape-grows m n g (Cosine freq phase) h = h
IsNetworkShape-grows m n g (Tacs var) h = omega (arith, g.vars)
IsNetworkShape-grows m n g (Pulse period width) h = h
IsNetworkShape-grows m n g (Saw period) h = h
IsNetworkShape-grows m n g (NodeVoltage node) h = h
IsNetworkShape-grows m n g (SwitchCurrent switch) h = h
IsNetworkShape-grows m n g (SwitchStatus switch) h = h

pub IsSource-grows : (m n : Sizes) → Grows m n → (s : Source) → IsSource m s → IsSource n s
IsSource-grows m n g s h = record {
  above_ground = h.above_ground;
  there = omega (arith, h.there, g.nodes);
  numbers = h.numbers;
  shape = IsNetworkShape-grows m n g s.shape h.shape;
}

IsControlShape-grows : (m n : Sizes) → Grows m n → (s : Shape) → IsControlShape m s → IsControlShape n s
IsControlShape-grows m n g Step h = h
IsControlShape-grows m n g (Ramp rise) h = h
IsControlShape-grows m n g (Cosine freq phase) h = h
IsControlShape-grows m n g (Tacs var) h = h
IsControlShape-grows m n g (Pulse period width) h = h
IsControlShape-grows m n g (Saw period) h = h
IsControlShape-grows m n g (NodeVoltage node) h = (h.0, omega (arith, h.1, g.nodes))
IsControlShape-grows m n g (SwitchCurrent switch) h = omega (arith, g.switches)
IsControlShape-grows m n g (SwitchStatus switch) h = omega (arith, g.switches)

pub IsTacsSource-grows : (m n : Sizes) → Grows m n → (s : Source) → IsTacsSource m s → IsTacsSource n s
IsTacsSource-grows m n g s h = record {
  own = h.own;
  there = omega (arith, h.there, g.vars);
  no_current = h.no_current;
  numbers = h.numbers;
  shape = IsControlShape-grows m n g s.shape h.shape;
}

IsBound-grows : (m n : Sizes) → Grows m n → (b : Bound) → IsBound m b → IsBound n b
IsBound-grows m n g NoBound h = h
IsBound-grows m n g (Fixed x) h = h
IsBound-grows m n g (Named x) h = omega (arith, g.vars)

inputs-grow : (v v' : ℕ) → v ≤ v' → (is : List Input) → All (λ (i : Input). i.var < v) is → All (λ (i : Input). i.var < v') is
inputs-grow v v' le is h = All-weaker (λ (i : Input). i.var < v) (λ (i : Input). i.var < v') (λ i small. omega arith) is h

pub IsBlock-grows : (run : RunData) (m n : Sizes) → Grows m n → (b : Block) → IsBlock run m b → IsBlock run n b
IsBlock-grows run m n g b h = record {
  own = h.own;
  there = omega (arith, h.there, g.vars);
  order = h.order;
  few_inputs = h.few_inputs;
  inputs = inputs-grow m.vars n.vars g.vars b.inputs h.inputs;
  some_gain = h.some_gain;
  gain = h.gain;
  top = h.top;
  bottom = h.bottom;
  coefficients = h.coefficients;
  within_step = h.within_step;
  low = IsBound-grows m n g b.low h.low;
  high = IsBound-grows m n g b.high h.high;
  bounds = h.bounds;
}

pub IsDeviceCard-grows : (m n : Sizes) → Grows m n → (x : Device) → IsDeviceCard m x → IsDeviceCard n x
IsDeviceCard-grows m n g x h = record {
  own = h.own;
  there = omega (arith, h.there, g.vars);
  few_inputs = h.few_inputs;
  inputs = inputs-grow m.vars n.vars g.vars x.inputs h.inputs;
  a = h.a;
  b = h.b;
  c = h.c;
  d = ForSome-below x.d m.vars n.vars g.vars h.d;
  e = ForSome-below x.e m.vars n.vars g.vars h.e;
  required = h.required;
}

pub IsExtra-grows : (m n : Sizes) (ps qs : List Point) → Grows m n → Extends ps qs → (x : Extra) → IsExtra m ps x → IsExtra n qs x
IsExtra-grows m n ps qs g e (OfDevice x) h = record {
  card = IsDeviceCard-grows m n g x h.card;
  points_there = omega (arith, h.points_there, e.longer);
  few_points = h.few_points;
  points = subst (HasDevicePoints x.code) (sym (e.same x.first x.count h.points_there)) h.points;
}
IsExtra-grows m n ps qs g e (OfFormula x) h = record {
  own = h.own;
  there = omega (arith, h.there, g.vars);
  names = All-weaker (λ k. k < m.vars) (λ k. k < n.vars) (λ k small. omega (arith, g.vars)) x.vars h.names;
  nodes = h.nodes;
  whole = h.whole;
}

pub IsChannel-grows : (m n : Sizes) → Grows m n → (c : Channel) → IsChannel m c → IsChannel n c
IsChannel-grows m n g (NodeChannel x) h = (h.0, omega (arith, h.1, g.nodes))
IsChannel-grows m n g (BranchCurrent x) h = omega (arith, g.branches)
IsChannel-grows m n g (BranchVoltage x) h = omega (arith, g.branches)
IsChannel-grows m n g (CurrentChannel x) h = omega (arith, g.switches)
IsChannel-grows m n g (SwitchVoltage x) h = omega (arith, g.switches)
IsChannel-grows m n g (OfTacs x) h = omega (arith, g.vars)
IsChannel-grows m n g (Status x) h = omega (arith, g.switches)

-- the records of a draft, each among so many records and with these points
pub record AreAmong (n : Sizes) (points : List Point) (p : Parts) : Type 0 where
  pub branches : All (IsBranch p.run n points) p.branches
  pub switches : All (IsSwitch n) p.switches
  pub sources : All (IsSource n) p.sources
  pub tacs_sources : All (IsTacsSource n) p.tacs_sources
  pub blocks : All (IsBlock p.run n) p.blocks
  pub extras : All (IsExtra n points) p.extras
  pub channels : All (IsChannel n) p.channels

pub grown : (p : Parts) (n : Sizes) (points : List Point) → IsDraft p → Grows (sizes_of p) n → Extends p.points points → AreAmong n points p
grown p n points h g e = record {
  branches = All-weaker (IsBranch p.run (sizes_of p) p.points) (IsBranch p.run n points) (IsBranch-grows p.run (sizes_of p) n p.points points g e) p.branches h.network.branches;
  switches = All-weaker (IsSwitch (sizes_of p)) (IsSwitch n) (IsSwitch-grows (sizes_of p) n g) p.switches h.network.switches;
  sources = All-weaker (IsSource (sizes_of p)) (IsSource n) (IsSource-grows (sizes_of p) n g) p.sources h.network.sources;
  tacs_sources = All-weaker (IsTacsSource (sizes_of p)) (IsTacsSource n) (IsTacsSource-grows (sizes_of p) n g) p.tacs_sources h.control.tacs_sources;
  blocks = All-weaker (IsBlock p.run (sizes_of p)) (IsBlock p.run n) (IsBlock-grows p.run (sizes_of p) n g) p.blocks h.control.blocks;
  extras = All-weaker (IsExtra (sizes_of p) p.points) (IsExtra n points) (IsExtra-grows (sizes_of p) n p.points points g e) p.extras h.control.extras;
  channels = All-weaker (IsChannel (sizes_of p)) (IsChannel n) (IsChannel-grows (sizes_of p) n g) p.channels h.channels;
}

-- one list longer and the other by one, or both as before
pub both_or_not : {X Y E : Type 0} (P : List X → List Y → Type 0) (r : Result (Unit {0}) E) (old new more : List X) (old' new' : List Y) (y : Y) → OnOk r (new ≡ old ++ more) → OnOk r (new' ≡ old' ++ y ∷ []) → OnErr r (new ≡ old) → OnErr r (new' ≡ old')
    → P (old ++ more) (old' ++ y ∷ []) → P old old' → P new new'
both_or_not P (Ok v) old new more old' new' y ok ok' err err' grown same = subst (λ xs. P xs new') (sym ok) (subst (P (old ++ more)) (sym ok') grown)
both_or_not P (Err e) old new more old' new' y ok ok' err err' grown same = subst (λ xs. P xs new') (sym err) (subst (P old) (sym err') same)

-- both lists as before where the call fails
pub same_both : {X Y Z E : Type 0} (f : List X → List Y → Z) (r : Result (Unit {0}) E) (old new : List X) (old' new' : List Y) → OnErr r (new ≡ old) → OnErr r (new' ≡ old') → OnErr r (f new new' ≡ f old old')
same_both f (Ok v) old new old' new' err err' = tt
same_both f (Err e) old new old' new' err err' = ap (λ xs. f xs new') err ∙ ap (f old) err'

-- what a function gives of the longer lists where the call succeeds
pub longer_both : {X Y Z E : Type 0} (f : List X → List Y → Z) (r : Result (Unit {0}) E) (xs xs' : List X) (ys ys' : List Y) → OnOk r (xs ≡ xs') → OnOk r (ys ≡ ys') → OnOk r (f xs ys ≡ f xs' ys')
longer_both f (Ok v) xs xs' ys ys' ok ok' = ap (λ zs. f zs ys) ok ∙ ap (f xs') ok'
longer_both f (Err e) xs xs' ys ys' ok ok' = tt

-- what a function gives of a result where the call succeeds
pub then_ok : {X Y E : Type 0} (f : X → Y) (r : Result (Unit {0}) E) (x x' : X) (y : Y) → OnOk r (x ≡ x') → f x' ≡ y → OnOk r (f x ≡ y)
then_ok f (Ok v) x x' y ok is = ap f ok ∙ is
then_ok f (Err e) x x' y ok is = tt

-- drafts of the same records are the same
pub draft_same : (d e : Draft) → d.parts ≡ e.parts → d ≡ e
draft_same d e same =
    let made : IsDraft d.parts → Draft = λ g. record { parts = d.parts; fits = g } in
    subst (λ (q : Parts). (h : IsDraft q) → d ≡ record { parts = q; fits = h }) same (λ h. ap made (IsDraft-prop d.parts d.fits h)) e.fits

pub drafts_same : {E : Type 0} (r : Result (Unit {0}) E) (d e : Draft) → OnErr r (d.parts ≡ e.parts) → OnErr r (d ≡ e)
drafts_same (Ok v) d e h = tt
drafts_same (Err x) d e h = draft_same d e h

-- a call that failed promises nothing of where it succeeds
pub no_ok : {E : Type 0} (P : Type 0) (r : Result (Unit {0}) E) → IsErr r → OnOk r P
no_ok P (Ok v) is = absurd (cc)
no_ok P (Err e) is = tt

pub on_err : {E P : Type 0} (r : Result (Unit {0}) E) → P → OnErr r P
on_err (Ok v) h = tt
on_err (Err e) h = h
