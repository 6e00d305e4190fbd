-- The mirror image of a case is a case, and its mirror image is the case.
use Rattle.std.proofs.Common.{◌≡◌, ◌∙◌, ◌+◌, ℤ, neg_ℤ, if◌then◌else◌, Bool, List, [], ◌∷◌, map, refl, ap, sym, arith}
use Rattle.std.specs.List.{count_by}
use Rattle.std.proofs.Math.IntN.{neg_ℤ-neg_ℤ}
use Rattle.std.proofs.Math.Path.{fun_ext}
use Rattle.std.proofs.lemmas.List.{length-map, map-id}
use Rattle.std.proofs.lemmas.List.Elements.{All-map}
use Rattle.std.proofs.lemmas.List.Sums.{sum_by-cons}
use Rattle.std.proofs.lemmas.Simd.{map-map}
use Rattle.emtp_case.specs.held.Case.{HasCounts, IsCase, IsControl, IsDraft, IsNetwork}
use Rattle.emtp_case.specs.held.Sizes.{Sizes, sizes_of}
use Rattle.emtp_case.specs.Source.{is_voltage_source_at}
use Rattle.emtp_case.specs.held.Source.{HasShapeNumbers, HasSourceNumbers, IsMeasured, IsSource, OneVoltageEach}
use Rattle.emtp_case.specs.declared.case.Parts.{Parts}
use Rattle.emtp_case.specs.declared.source.Shape.{Shape}
use Rattle.emtp_case.specs.declared.source.Shape.TheVariants.{Cosine, NodeVoltage, Pulse, Ramp, Saw, Step, SwitchCurrent, SwitchStatus, Tacs}
use Rattle.emtp_case.specs.declared.source.Source.{Source}
use Rattle.emtp_laws.specs.Mirror.{mirror_image, mirrored_source}
use Rattle.emtp_elim.proofs.Opposites.{abs_neg}

measured : (s : Source) → IsMeasured s → IsMeasured (mirrored_source s)
measured s h = record { amplitude = ap neg_ℤ h.amplitude; start = h.start; stop = h.stop }

shape_numbers : (s : Source) (shape : Shape) → HasShapeNumbers s shape → HasShapeNumbers (mirrored_source s) shape
shape_numbers s Step h = h
shape_numbers s (Ramp rise) h = h
shape_numbers s (Cosine freq phase) h = h
shape_numbers s (Tacs var) h = ap neg_ℤ h
shape_numbers s (Pulse period width) h = h
shape_numbers s (Saw period) h = h
shape_numbers s (NodeVoltage node) h = measured s h
shape_numbers s (SwitchCurrent switch) h = measured s h
shape_numbers s (SwitchStatus switch) h = measured s h

source_numbers : (s : Source) → HasSourceNumbers s → HasSourceNumbers (mirrored_source s)
source_numbers s h = record { amplitude = omega (arith, abs_neg s.amplitude, h.amplitude); start = h.start; stop = h.stop; shape = shape_numbers s s.shape h.shape }

source_mirrored : (n : Sizes) (s : Source) → IsSource n s → IsSource n (mirrored_source s)
source_mirrored n s h = record { above_ground = h.above_ground; there = h.there; numbers = source_numbers s h.numbers; shape = h.shape }

count_map : (p : Source → Bool) (ss : List Source) → ((s : Source) → p (mirrored_source s) ≡ p s) → count_by p (map mirrored_source ss) ≡ count_by p ss
count_map p [] same = refl
count_map p (s ∷ ss) same =
    sum_by-cons (λ y. if p y then 1 else 0) (mirrored_source s) (map mirrored_source ss)
    ∙ ap (λ (b : Bool). (if b then 1 else 0) + count_by p (map mirrored_source ss)) (same s)
    ∙ ap (λ n. (if p s then 1 else 0) + n) (count_map p ss same)
    ∙ sym (sum_by-cons (λ y. if p y then 1 else 0) s ss)

one_voltage : (ss : List Source) → OneVoltageEach ss → OneVoltageEach (map mirrored_source ss)
one_voltage ss h = λ node. omega (arith, h node, count_map (is_voltage_source_at node) ss (λ s. refl))

counts : (p : Parts) → HasCounts p → HasCounts (mirror_image p)
counts p h = record {
  nodes = h.nodes;
  branches = h.branches;
  trios = h.trios;
  points = h.points;
  switches = h.switches;
  sources = omega (arith, h.sources, length-map p.sources mirrored_source);
  vars = h.vars;
  tacs_sources = h.tacs_sources;
  blocks = h.blocks;
  extras = h.extras;
  channels = h.channels;
  stored = h.stored;
  history = h.history;
}

network : (p : Parts) → IsNetwork p → IsNetwork (mirror_image p)
network p h = record {
  names = h.names;
  branches = h.branches;
  trios = h.trios;
  in_threes = h.in_threes;
  switches = h.switches;
  sources = All-map (IsSource (sizes_of p)) mirrored_source p.sources (λ k d inside. source_mirrored (sizes_of p) _ (h.sources k d inside));
  one_voltage = one_voltage p.sources h.one_voltage;
}

control : (p : Parts) → IsControl p → IsControl (mirror_image p)
control p h = record { standing = h.standing; names = h.names; tacs_sources = h.tacs_sources; blocks = h.blocks; extras = h.extras }

pub case_mirrored : (p : Parts) → IsCase p → IsCase (mirror_image p)
case_mirrored p h =
    let draft : IsDraft (mirror_image p) = record {
      run = h.draft.run;
      counts = counts p h.draft.counts;
      network = network p h.draft.network;
      control = control p h.draft.control;
      channels = h.draft.channels;
    } in record { draft = draft; defined = h.defined }

source_twice : (s : Source) → mirrored_source (mirrored_source s) ≡ s
source_twice s = ap (λ (a : ℤ). let t : Source = record s { amplitude = a } in t) (neg_ℤ-neg_ℤ s.amplitude)

pub mirrored_twice : (p : Parts) → mirror_image (mirror_image p) ≡ p
mirrored_twice p =
    ap (λ (ss : List Source). let q : Parts = record p { sources = ss } in q)
    (map-map mirrored_source mirrored_source p.sources ∙ ap (λ (f : Source → Source). map f p.sources) (fun_ext source_twice) ∙ map-id p.sources)
