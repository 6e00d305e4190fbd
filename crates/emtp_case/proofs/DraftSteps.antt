-- A draft with one more record still fits.
use Rattle.emtp_case.specs.declared.limit.TheConstants.{MOST_BRANCHES, MOST_CONTROL_CARDS, MOST_HISTORY_VALUES, MOST_NODES, MOST_POINTS, MOST_SOURCES, MOST_SWITCHES, MOST_VARIABLES}
use Rattle.emtp_case.proofs.Growth.{Extends-append, Extends-refl, IsBranch-grows, IsSwitch-grows, grown}
use Rattle.emtp_case.proofs.Sources.{one_more_source, standing_stay}
use Rattle.emtp_case.proofs.Threes.{ArePhases, threes_and_single, threes_and_trio}
use Rattle.emtp_case.specs.Branch.{points_of}
use Rattle.emtp_case.specs.held.Branch.{IsBranch, IsCharacteristic, IsPseudo, IsSingle, IsTrio}
use Rattle.emtp_case.specs.Case.{empty_parts, phase_branches}
use Rattle.emtp_case.specs.held.Case.{HasCounts, IsDraft}
use Rattle.emtp_case.specs.held.Channel.{IsChannel}
use Rattle.emtp_case.specs.held.Control.{HasDevicePoints, IsBlock, IsDevice, IsDeviceCard, IsExtra, IsFormula}
use Rattle.emtp_case.specs.HistoryValues.{branch_history_values, device_history_values, extra_history_values, history_values_of, trio_history_values}
use Rattle.emtp_case.specs.held.Name.{IsName}
use Rattle.emtp_case.specs.held.Range.{AreEnds}
use Rattle.emtp_case.specs.held.RunData.{IsRun}
use Rattle.emtp_case.specs.held.Sizes.{Grows, Sizes, sizes_of}
use Rattle.emtp_case.specs.Source.{is_voltage_source_at}
use Rattle.emtp_case.specs.held.Source.{IsSource, IsTacsSource}
use Rattle.emtp_case.specs.held.Switch.{IsSwitch}
use Rattle.emtp_case.specs.declared.branch.Branch.{Branch}
use Rattle.emtp_case.specs.declared.branch.Branch.TheVariants.{Phase as OfPhase, Pseudo as OfPseudo}
use Rattle.emtp_case.specs.declared.branch.Phase.{Phase}
use Rattle.emtp_case.specs.declared.branch.Point.{Point}
use Rattle.emtp_case.specs.declared.branch.Pseudo.{Pseudo}
use Rattle.emtp_case.specs.declared.branch.Trio.{Trio}
use Rattle.emtp_case.specs.declared.case.Parts.{Parts}
use Rattle.emtp_case.specs.declared.control.Block.{Block}
use Rattle.emtp_case.specs.declared.control.Device.{Device}
use Rattle.emtp_case.specs.declared.control.Extra.TheVariants.{Device as OfDevice, Formula as OfFormula}
use Rattle.emtp_case.specs.declared.control.Formula.{Formula}
use Rattle.emtp_case.specs.declared.name.Name.{Name}
use Rattle.emtp_case.specs.declared.run_data.RunData.{RunData}
use Rattle.emtp_case.specs.declared.source.Source.{Source}
use Rattle.emtp_case.specs.declared.switch.Switch.{Switch}
use Rattle.std.proofs.Common.{◌∙◌, ap, arith, lit<, rules, subst, sym}
use Rattle.std.proofs.Math.Seq.{drop-append_seam, take-length}
use Rattle.std.proofs.lemmas.List.{length-append}
use Rattle.std.proofs.lemmas.List.Elements.{All-append, All-nil, All-push}
use Rattle.std.proofs.lemmas.List.Sums.{sum_by-append}
use Rattle.std.specs.List.{list_any}
use Rattle.std.specs.Prelude.{◌≡◌, ◌+◌, ◌*◌, ◌<◌, ◌≤◌, ◌∷◌, ◌++◌, [], All, List, false, length, refl, take, ℕ}

le_push : {X : Type 0} (xs : List X) (x : X) → length xs ≤ length (xs ++ x ∷ [])
le_push xs x = omega (arith, length-append xs (x ∷ []))

room_push : {X : Type 0} (xs : List X) (x : X) (most : ℕ) → length xs < most → length (xs ++ x ∷ []) ≤ most
room_push xs x most room = omega (arith, length-append xs (x ∷ []))

same : (n : ℕ) → n ≤ n
same n = omega arith

pub with_node : (p : Parts) (x : Name) → IsDraft p → length p.nodes < MOST_NODES → IsName x → IsDraft (record p { nodes = p.nodes ++ x ∷ [] })
with_node p x h room name =
    let q : Parts = record p { nodes = p.nodes ++ x ∷ [] } in
    let few : length q.nodes ≤ MOST_NODES = room_push p.nodes x 1000 room in
    let counts : HasCounts q = search rules in
    let g : Grows (sizes_of p) (sizes_of q) = record { nodes = le_push p.nodes x; branches = same (length p.branches); trios = same (length p.trios); switches = same (length p.switches); vars = same (length p.vars) } in
    let old = grown p (sizes_of q) q.points h g (Extends-refl p.points) in
    record {
      run = h.run;
      counts = counts;
      network = record {
        names = All-push IsName p.nodes x h.network.names name;
        branches = old.branches;
        trios = h.network.trios;
        in_threes = h.network.in_threes;
        switches = old.switches;
        sources = old.sources;
        one_voltage = h.network.one_voltage;
      };
      control = record {
        standing = h.control.standing;
        names = h.control.names;
        tacs_sources = old.tacs_sources;
        blocks = old.blocks;
        extras = old.extras;
      };
      channels = old.channels;
    }

pub with_variable : (p : Parts) (x : Name) → IsDraft p → length p.vars < MOST_VARIABLES → IsName x → IsDraft (record p { vars = p.vars ++ x ∷ [] })
with_variable p x h room name =
    let q : Parts = record p { vars = p.vars ++ x ∷ [] } in
    let few : length q.vars ≤ MOST_VARIABLES = room_push p.vars x MOST_VARIABLES room in
    let counts : HasCounts q = search rules in
    let g : Grows (sizes_of p) (sizes_of q) = record { nodes = same (length p.nodes); branches = same (length p.branches); trios = same (length p.trios); switches = same (length p.switches); vars = le_push p.vars x } in
    let old = grown p (sizes_of q) q.points h g (Extends-refl p.points) in
    record {
      run = h.run;
      counts = counts;
      network = record {
        names = h.network.names;
        branches = old.branches;
        trios = h.network.trios;
        in_threes = h.network.in_threes;
        switches = old.switches;
        sources = old.sources;
        one_voltage = h.network.one_voltage;
      };
      control = record {
        standing = standing_stay p.vars x h.control.standing;
        names = All-push IsName p.vars x h.control.names name;
        tacs_sources = old.tacs_sources;
        blocks = old.blocks;
        extras = old.extras;
      };
      channels = old.channels;
    }

pub with_branch : (p : Parts) (x : Branch) → IsDraft p → length p.branches < MOST_BRANCHES → IsSingle x → IsBranch p.run (sizes_of p) p.points x → history_values_of p + branch_history_values p.run.dt x ≤ MOST_HISTORY_VALUES → IsDraft (record p { branches = p.branches ++ x ∷ [] })
with_branch p x h room single fits history =
    let q : Parts = record p { branches = p.branches ++ x ∷ [] } in
    let more : length p.branches ≤ length q.branches = le_push p.branches x in
    let few : length q.branches ≤ MOST_BRANCHES = room_push p.branches x MOST_BRANCHES room in
    let trios : 3 * length p.trios ≤ length q.branches = omega (arith, h.counts.trios) in
    let points : length p.points ≤ MOST_POINTS * (length q.branches + length p.extras) = omega (arith, h.counts.points) in
    let past : history_values_of q ≤ MOST_HISTORY_VALUES = omega (arith, history, sum_by-append (branch_history_values p.run.dt) p.branches (x ∷ [])) in
    let counts : HasCounts q = search rules in
    let g : Grows (sizes_of p) (sizes_of q) = record { nodes = same (length p.nodes); branches = more; trios = same (length p.trios); switches = same (length p.switches); vars = same (length p.vars) } in
    let old = grown p (sizes_of q) q.points h g (Extends-refl p.points) in
    record {
      run = h.run;
      counts = counts;
      network = record {
        names = h.network.names;
        branches = All-push (IsBranch p.run (sizes_of q) p.points) p.branches x old.branches (IsBranch-grows p.run (sizes_of p) (sizes_of q) p.points p.points g (Extends-refl p.points) x fits);
        trios = h.network.trios;
        in_threes = threes_and_single p.branches p.trios x single h.network.in_threes;
        switches = old.switches;
        sources = old.sources;
        one_voltage = h.network.one_voltage;
      };
      control = record {
        standing = h.control.standing;
        names = h.control.names;
        tacs_sources = old.tacs_sources;
        blocks = old.blocks;
        extras = old.extras;
      };
      channels = old.channels;
    }

pub with_switch : (p : Parts) (x : Switch) → IsDraft p → length p.switches < MOST_SWITCHES → IsSwitch (sizes_of p) x → IsDraft (record p { switches = p.switches ++ x ∷ [] })
with_switch p x h room fits =
    let q : Parts = record p { switches = p.switches ++ x ∷ [] } in
    let few : length q.switches ≤ MOST_SWITCHES = room_push p.switches x MOST_SWITCHES room in
    let counts : HasCounts q = search rules in
    let g : Grows (sizes_of p) (sizes_of q) = record { nodes = same (length p.nodes); branches = same (length p.branches); trios = same (length p.trios); switches = le_push p.switches x; vars = same (length p.vars) } in
    let old = grown p (sizes_of q) q.points h g (Extends-refl p.points) in
    record {
      run = h.run;
      counts = counts;
      network = record {
        names = h.network.names;
        branches = old.branches;
        trios = h.network.trios;
        in_threes = h.network.in_threes;
        switches = All-push (IsSwitch (sizes_of q)) p.switches x old.switches (IsSwitch-grows (sizes_of p) (sizes_of q) g x fits);
        sources = old.sources;
        one_voltage = h.network.one_voltage;
      };
      control = record {
        standing = h.control.standing;
        names = h.control.names;
        tacs_sources = old.tacs_sources;
        blocks = old.blocks;
        extras = old.extras;
      };
      channels = old.channels;
    }

pub with_source : (p : Parts) (x : Source) → IsDraft p → length p.sources < MOST_SOURCES → IsSource (sizes_of p) x → (x.current ≡ false → list_any (is_voltage_source_at x.node) p.sources ≡ false) → IsDraft (record p { sources = p.sources ++ x ∷ [] })
with_source p x h room fits one =
    let q : Parts = record p { sources = p.sources ++ x ∷ [] } in
    let few : length q.sources ≤ MOST_SOURCES = room_push p.sources x MOST_SOURCES room in
    let counts : HasCounts q = search rules in
    record {
      run = h.run;
      counts = counts;
      network = record {
        names = h.network.names;
        branches = h.network.branches;
        trios = h.network.trios;
        in_threes = h.network.in_threes;
        switches = h.network.switches;
        sources = All-push (IsSource (sizes_of p)) p.sources x h.network.sources fits;
        one_voltage = one_more_source p.sources x h.network.one_voltage one;
      };
      control = record {
        standing = h.control.standing;
        names = h.control.names;
        tacs_sources = h.control.tacs_sources;
        blocks = h.control.blocks;
        extras = h.control.extras;
      };
      channels = h.channels;
    }

pub with_tacs_source : (p : Parts) (x : Source) → IsDraft p → length p.tacs_sources < MOST_CONTROL_CARDS → IsTacsSource (sizes_of p) x → IsDraft (record p { tacs_sources = p.tacs_sources ++ x ∷ [] })
with_tacs_source p x h room fits =
    let q : Parts = record p { tacs_sources = p.tacs_sources ++ x ∷ [] } in
    let few : length q.tacs_sources ≤ MOST_CONTROL_CARDS = room_push p.tacs_sources x MOST_CONTROL_CARDS room in
    let counts : HasCounts q = search rules in
    record {
      run = h.run;
      counts = counts;
      network = record {
        names = h.network.names;
        branches = h.network.branches;
        trios = h.network.trios;
        in_threes = h.network.in_threes;
        switches = h.network.switches;
        sources = h.network.sources;
        one_voltage = h.network.one_voltage;
      };
      control = record {
        standing = h.control.standing;
        names = h.control.names;
        tacs_sources = All-push (IsTacsSource (sizes_of p)) p.tacs_sources x h.control.tacs_sources fits;
        blocks = h.control.blocks;
        extras = h.control.extras;
      };
      channels = h.channels;
    }

pub with_block : (p : Parts) (x : Block) → IsDraft p → length p.blocks < MOST_CONTROL_CARDS → IsBlock p.run (sizes_of p) x → IsDraft (record p { blocks = p.blocks ++ x ∷ [] })
with_block p x h room fits =
    let q : Parts = record p { blocks = p.blocks ++ x ∷ [] } in
    let few : length q.blocks ≤ MOST_CONTROL_CARDS = room_push p.blocks x MOST_CONTROL_CARDS room in
    let counts : HasCounts q = search rules in
    record {
      run = h.run;
      counts = counts;
      network = record {
        names = h.network.names;
        branches = h.network.branches;
        trios = h.network.trios;
        in_threes = h.network.in_threes;
        switches = h.network.switches;
        sources = h.network.sources;
        one_voltage = h.network.one_voltage;
      };
      control = record {
        standing = h.control.standing;
        names = h.control.names;
        tacs_sources = h.control.tacs_sources;
        blocks = All-push (IsBlock p.run (sizes_of p)) p.blocks x h.control.blocks fits;
        extras = h.control.extras;
      };
      channels = h.channels;
    }

points_after : (ps more : List Point) → points_of (ps ++ more) (length ps) (length more) ≡ more
points_after ps more = ap (take (length more)) (drop-append_seam ps more) ∙ take-length more

pub with_formula : (p : Parts) (x : Formula) → IsDraft p → length p.extras < MOST_CONTROL_CARDS → IsFormula (sizes_of p) x → IsDraft (record p { extras = p.extras ++ OfFormula x ∷ [] })
with_formula p x h room fits =
    let q : Parts = record p { extras = p.extras ++ OfFormula x ∷ [] } in
    let few : length q.extras ≤ MOST_CONTROL_CARDS = room_push p.extras (OfFormula x) MOST_CONTROL_CARDS room in
    let points : length p.points ≤ MOST_POINTS * (length p.branches + length q.extras) = omega (arith, h.counts.points, le_push p.extras (OfFormula x)) in
    let past : history_values_of q ≤ MOST_HISTORY_VALUES = omega (arith, h.counts.history, sum_by-append (extra_history_values p.run.dt) p.extras (OfFormula x ∷ [])) in
    let counts : HasCounts q = search rules in
    record {
      run = h.run;
      counts = counts;
      network = record {
        names = h.network.names;
        branches = h.network.branches;
        trios = h.network.trios;
        in_threes = h.network.in_threes;
        switches = h.network.switches;
        sources = h.network.sources;
        one_voltage = h.network.one_voltage;
      };
      control = record {
        standing = h.control.standing;
        names = h.control.names;
        tacs_sources = h.control.tacs_sources;
        blocks = h.control.blocks;
        extras = All-push (IsExtra (sizes_of p) p.points) p.extras (OfFormula x) h.control.extras fits;
      };
      channels = h.channels;
    }

-- the card of a device holds wherever its points stand
card_set : (n : Sizes) (x : Device) (first count : ℕ) → IsDeviceCard n x → IsDeviceCard n (record x { first = first; count = count })
card_set n x first count h = record {
  own = h.own;
  there = h.there;
  few_inputs = h.few_inputs;
  inputs = h.inputs;
  a = h.a;
  b = h.b;
  c = h.c;
  d = h.d;
  e = h.e;
  required = h.required;
}

pub with_device : (p : Parts) (x : Device) (new : List Point) → IsDraft p → length p.extras < MOST_CONTROL_CARDS → IsDeviceCard (sizes_of p) x → length new ≤ MOST_POINTS → HasDevicePoints x.code new → history_values_of p + device_history_values p.run.dt x.code x.a ≤ MOST_HISTORY_VALUES → IsDraft (record p { points = p.points ++ new; extras = p.extras ++ OfDevice (record x { first = length p.points; count = length new }) ∷ [] })
with_device p x new h room card few points history =
    let q : Parts = record p { points = p.points ++ new; extras = p.extras ++ OfDevice (record x { first = length p.points; count = length new }) ∷ [] } in
    let set : Device = record x { first = length p.points; count = length new } in
    let fits : IsDevice (sizes_of q) q.points set = record { card = card_set (sizes_of p) x (length p.points) (length new) card; points_there = omega (arith, length-append p.points new); few_points = few; points = subst (HasDevicePoints x.code) (sym (points_after p.points new)) points } in
    let some : length q.extras ≤ MOST_CONTROL_CARDS = room_push p.extras (OfDevice set) MOST_CONTROL_CARDS room in
    let all : length q.points ≤ MOST_POINTS * (length p.branches + length q.extras) = omega (arith, h.counts.points, few, length-append p.points new, length-append p.extras (OfDevice set ∷ [])) in
    let past : history_values_of q ≤ MOST_HISTORY_VALUES = omega (arith, history, sum_by-append (extra_history_values p.run.dt) p.extras (OfDevice set ∷ [])) in
    let counts : HasCounts q = search rules in
    let g : Grows (sizes_of p) (sizes_of q) = record { nodes = same (length p.nodes); branches = same (length p.branches); trios = same (length p.trios); switches = same (length p.switches); vars = same (length p.vars) } in
    let old = grown p (sizes_of q) q.points h g (Extends-append p.points new) in
    record {
      run = h.run;
      counts = counts;
      network = record {
        names = h.network.names;
        branches = old.branches;
        trios = h.network.trios;
        in_threes = h.network.in_threes;
        switches = old.switches;
        sources = old.sources;
        one_voltage = h.network.one_voltage;
      };
      control = record {
        standing = h.control.standing;
        names = h.control.names;
        tacs_sources = old.tacs_sources;
        blocks = old.blocks;
        extras = All-push (IsExtra (sizes_of q) q.points) p.extras (OfDevice set) old.extras fits;
      };
      channels = old.channels;
    }

pub with_pseudo : (p : Parts) (x : Pseudo) (new : List Point) → IsDraft p → length p.branches < MOST_BRANCHES → AreEnds (length p.nodes) x.from x.to → 1 ≤ length new → length new ≤ MOST_POINTS → IsCharacteristic x.reactor p.run.dt new → IsDraft (record p { points = p.points ++ new; branches = p.branches ++ OfPseudo (record x { first = length p.points; count = length new }) ∷ [] })
with_pseudo p x new h room ends some few rises =
    let q : Parts = record p { points = p.points ++ new; branches = p.branches ++ OfPseudo (record x { first = length p.points; count = length new }) ∷ [] } in
    let set : Pseudo = record x { first = length p.points; count = length new } in
    let fits : IsPseudo p.run (sizes_of q) q.points set = record { ends = ends; some = some; few = few; there = omega (arith, length-append p.points new); characteristic = subst (IsCharacteristic x.reactor p.run.dt) (sym (points_after p.points new)) rises } in
    let most : length q.branches ≤ MOST_BRANCHES = room_push p.branches (OfPseudo set) MOST_BRANCHES room in
    let more : length p.branches ≤ length q.branches = le_push p.branches (OfPseudo set) in
    let trios : 3 * length p.trios ≤ length q.branches = omega (arith, h.counts.trios) in
    let all : length q.points ≤ MOST_POINTS * (length q.branches + length p.extras) = omega (arith, h.counts.points, few, length-append p.points new, length-append p.branches (OfPseudo set ∷ [])) in
    let past : history_values_of q ≤ MOST_HISTORY_VALUES = omega (arith, h.counts.history, sum_by-append (branch_history_values p.run.dt) p.branches (OfPseudo set ∷ [])) in
    let counts : HasCounts q = search rules in
    let g : Grows (sizes_of p) (sizes_of q) = record { nodes = same (length p.nodes); branches = more; trios = same (length p.trios); switches = same (length p.switches); vars = same (length p.vars) } in
    let old = grown p (sizes_of q) q.points h g (Extends-append p.points new) in
    record {
      run = h.run;
      counts = counts;
      network = record {
        names = h.network.names;
        branches = All-push (IsBranch p.run (sizes_of q) q.points) p.branches (OfPseudo set) old.branches fits;
        trios = h.network.trios;
        in_threes = threes_and_single p.branches p.trios (OfPseudo set) tt h.network.in_threes;
        switches = old.switches;
        sources = old.sources;
        one_voltage = h.network.one_voltage;
      };
      control = record {
        standing = h.control.standing;
        names = h.control.names;
        tacs_sources = old.tacs_sources;
        blocks = old.blocks;
        extras = old.extras;
      };
      channels = old.channels;
    }

three_fit : (run : RunData) (n : Sizes) (t : ℕ) (ps : List Point) (a b c : Phase) → t < n.trios → AreEnds n.nodes a.from a.to → AreEnds n.nodes b.from b.to → AreEnds n.nodes c.from c.to → All (IsBranch run n ps) (phase_branches t a b c)
three_fit run n t ps a b c last ends0 ends1 ends2 =
    let P = IsBranch run n ps in
    All-append P (OfPhase (record a { trio = t; phase = 0 }) ∷ []) (OfPhase (record b { trio = t; phase = 1 }) ∷ OfPhase (record c { trio = t; phase = 2 }) ∷ [])
    (All-push P [] (OfPhase (record a { trio = t; phase = 0 })) (All-nil P) (record { ends = ends0; trio = last; phase = lit< tt }))
    (All-append P (OfPhase (record b { trio = t; phase = 1 }) ∷ []) (OfPhase (record c { trio = t; phase = 2 }) ∷ [])
    (All-push P [] (OfPhase (record b { trio = t; phase = 1 })) (All-nil P) (record { ends = ends1; trio = last; phase = lit< tt }))
    (All-push P [] (OfPhase (record c { trio = t; phase = 2 })) (All-nil P) (record { ends = ends2; trio = last; phase = lit< tt })))

pub with_trio : (p : Parts) (x : Trio) (a : Phase) (b : Phase) (c : Phase) → IsDraft p → length p.branches + 3 ≤ MOST_BRANCHES → AreEnds (length p.nodes) a.from a.to → AreEnds (length p.nodes) b.from b.to → AreEnds (length p.nodes) c.from c.to → IsTrio p.run x → history_values_of p + trio_history_values p.run.dt x ≤ MOST_HISTORY_VALUES → IsDraft (record p { branches = p.branches ++ phase_branches (length p.trios) a b c; trios = p.trios ++ record x { first = length p.branches } ∷ [] })
with_trio p x a b c h room ends0 ends1 ends2 modes history =
    let q : Parts = record p { branches = p.branches ++ phase_branches (length p.trios) a b c; trios = p.trios ++ record x { first = length p.branches } ∷ [] } in
    let set : Trio = record x { first = length p.branches } in
    let three : length (phase_branches (length p.trios) a b c) ≡ 3 = refl in
    let more : length p.branches ≤ length q.branches = omega (arith, length-append p.branches (phase_branches (length p.trios) a b c)) in
    let last : length p.trios < length q.trios = omega (arith, length-append p.trios (set ∷ [])) in
    let most : length q.branches ≤ MOST_BRANCHES = omega (arith, three, length-append p.branches (phase_branches (length p.trios) a b c)) in
    let trios : 3 * length q.trios ≤ length q.branches = omega (arith, h.counts.trios, three, length-append p.branches (phase_branches (length p.trios) a b c), length-append p.trios (set ∷ [])) in
    let points : length p.points ≤ MOST_POINTS * (length q.branches + length p.extras) = omega (arith, h.counts.points) in
    let past : history_values_of q ≤ MOST_HISTORY_VALUES = omega (arith, history, sum_by-append (branch_history_values p.run.dt) p.branches (phase_branches (length p.trios) a b c), sum_by-append (trio_history_values p.run.dt) p.trios (set ∷ [])) in
    let placed : ArePhases p.branches p.trios set (OfPhase (record a { trio = length p.trios; phase = 0 })) (OfPhase (record b { trio = length p.trios; phase = 1 })) (OfPhase (record c { trio = length p.trios; phase = 2 })) = record { first = refl; phase0 = refl; phase1 = refl; phase2 = refl } in
    let counts : HasCounts q = search rules in
    let g : Grows (sizes_of p) (sizes_of q) = record { nodes = same (length p.nodes); branches = more; trios = le_push p.trios set; switches = same (length p.switches); vars = same (length p.vars) } in
    let old = grown p (sizes_of q) p.points h g (Extends-refl p.points) in
    let new = three_fit p.run (sizes_of q) (length p.trios) p.points a b c last ends0 ends1 ends2 in
    record {
      run = h.run;
      counts = counts;
      network = record {
        names = h.network.names;
        branches = All-append (IsBranch p.run (sizes_of q) p.points) p.branches (phase_branches (length p.trios) a b c) old.branches new;
        trios = All-push (IsTrio p.run) p.trios set h.network.trios modes;
        in_threes = threes_and_trio p.run (sizes_of p) p.points p.branches p.trios set (OfPhase (record a { trio = length p.trios; phase = 0 })) (OfPhase (record b { trio = length p.trios; phase = 1 })) (OfPhase (record c { trio = length p.trios; phase = 2 })) placed refl h.network.branches h.network.in_threes;
        switches = old.switches;
        sources = old.sources;
        one_voltage = h.network.one_voltage;
      };
      control = record {
        standing = h.control.standing;
        names = h.control.names;
        tacs_sources = old.tacs_sources;
        blocks = old.blocks;
        extras = old.extras;
      };
      channels = old.channels;
    }

-- the past values that one more record needs
pub history_with_branch : (p : Parts) (x : Branch) → history_values_of (record p { branches = p.branches ++ x ∷ [] }) ≡ history_values_of p + branch_history_values p.run.dt x
history_with_branch p x = omega (arith, sum_by-append (branch_history_values p.run.dt) p.branches (x ∷ []))

pub history_with_trio : (p : Parts) (x : Trio) (a b c : Phase) → history_values_of (record p { branches = p.branches ++ phase_branches (length p.trios) a b c; trios = p.trios ++ record x { first = length p.branches } ∷ [] }) ≡ history_values_of p + trio_history_values p.run.dt x
history_with_trio p x a b c =
    let set : Trio = record x { first = length p.branches } in
    omega (arith, sum_by-append (branch_history_values p.run.dt) p.branches (phase_branches (length p.trios) a b c), sum_by-append (trio_history_values p.run.dt) p.trios (set ∷ []))

pub history_with_pseudo : (p : Parts) (x : Pseudo) (new : List Point) → history_values_of (record p { points = p.points ++ new; branches = p.branches ++ OfPseudo (record x { first = length p.points; count = length new }) ∷ [] }) ≡ history_values_of p
history_with_pseudo p x new = omega (arith, sum_by-append (branch_history_values p.run.dt) p.branches (OfPseudo (record x { first = length p.points; count = length new }) ∷ []))

pub history_with_formula : (p : Parts) (x : Formula) → history_values_of (record p { extras = p.extras ++ OfFormula x ∷ [] }) ≡ history_values_of p
history_with_formula p x = omega (arith, sum_by-append (extra_history_values p.run.dt) p.extras (OfFormula x ∷ []))

-- the miscellaneous cards alone
pub nothing_yet : (run : RunData) → IsRun run → IsDraft (empty_parts run)
nothing_yet run h = record {
  run = h;
  counts = search rules;
  network = record {
    names = All-nil IsName;
    branches = All-nil (IsBranch run (sizes_of (empty_parts run)) []);
    trios = All-nil (IsTrio run);
    in_threes = search rules;
    switches = All-nil (IsSwitch (sizes_of (empty_parts run)));
    sources = All-nil (IsSource (sizes_of (empty_parts run)));
    one_voltage = search rules;
  };
  control = record {
    standing = refl;
    names = search rules;
    tacs_sources = All-nil (IsTacsSource (sizes_of (empty_parts run)));
    blocks = All-nil (IsBlock run (sizes_of (empty_parts run)));
    extras = All-nil (IsExtra (sizes_of (empty_parts run)) []);
  };
  channels = All-nil (IsChannel (sizes_of (empty_parts run)));
}
