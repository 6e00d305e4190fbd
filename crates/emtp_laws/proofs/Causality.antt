-- What sources do after a step changes nothing up to it.
use Rattle.std.proofs.Common.{◌≡◌, ◌∙◌, ◌-◌, ◌*◌, ◌≤◌, ◌==◌, ◌&&◌, ◌||◌, not, ℕ, ℤ, pos, negsuc, ◌+ℤ◌, ◌*ℤ◌, ◌≤ℤ◌, if◌then◌else◌, int_lt, Bool, true, false, List, [], ◌∷◌, map, length, take, slice_get, Option, Some, None, option_map, unwrap_or, Result, Ok, refl, ap, sym, arith}
use Rattle.std.specs.List.{find, list_any}
use Rattle.std.proofs.Math.Path.{fun_ext}
use Rattle.std.proofs.lemmas.Int.{ints}
use Rattle.std.proofs.lemmas.List.{length-map}
use Rattle.std.proofs.lemmas.Option.{slice_get-map}
use Rattle.std.proofs.lemmas.Nat.{mul-le}
use Rattle.std.proofs.lemmas.Simd.{map-map}
use Rattle.emtp_case.specs.held.Case.{IsCase}
use Rattle.emtp_case.specs.RowOrder.{has_source}
use Rattle.emtp_case.specs.RunData.{time_of}
use Rattle.emtp_case.specs.StepRecord.{StepRecord, latest}
use Rattle.emtp_case.specs.Sums.{total}
use Rattle.emtp_case.specs.declared.case.Parts.{Parts}
use Rattle.emtp_case.specs.declared.run_data.RunData.{RunData}
use Rattle.emtp_case.specs.declared.source.Shape.{Shape}
use Rattle.emtp_case.specs.declared.source.Shape.TheVariants.{Cosine, NodeVoltage, Pulse, Ramp, Saw, Step, SwitchCurrent, SwitchStatus, Tacs}
use Rattle.emtp_case.specs.declared.source.Source.{Source}
use Rattle.emtp_fix.specs.Limit.{in_range}
use Rattle.emtp_machine.specs.History.{History, history, history_upto, samples}
use Rattle.emtp_net.specs.System.{sources_into, voltage_of}
use Rattle.emtp_switch.specs.Kinds.{has_feed, is_branch_at}
use Rattle.emtp_tacs.specs.Step.{Measured, SoFar, in_turn, source_at, source_by, source_value, sources, written}
use Rattle.emtp_tacs.specs.declared.fault.TacsFault.{TacsFault}
use Rattle.emtp_wave.specs.Wave.{active_value, is_over, value_of}
use Rattle.emtp_laws.specs.Causality.{AgreeUpto, DifferAfter, DifferInLaterStops, InControl, InNetwork, SamplesAgreeUpto, as_far_as, in_control, in_network, stop_before}
use Rattle.emtp_laws.proofs.AlikeRows.{Other, changed}
use Rattle.emtp_laws.proofs.AlikeRuns.{AreStepsAlike, history_alike, samples_alike}
use Rattle.emtp_laws.proofs.AlikeSteps.{BringAlike, next_same}
use Rattle.emtp_laws.proofs.LongerSamples.{begins, steps}
use Rattle.emtp_laws.proofs.MirroredNumbers.{any_map}

-- ---- lists that are seen alike

total_map : {X Y : Type 0} (f : Y → ℤ) (g : X → Y) (xs : List X) → total f (map g xs) ≡ total (λ x. f (g x)) xs
total_map f g [] = refl
total_map f g (x ∷ xs) = ap (λ z. f (g x) +ℤ z) (total_map f g xs)

found : {X Y Z : Type 0} (f : Y → Z) (g : X → Y) (b : Bool) (x : X) (o : Option Y) (q : Option X) → option_map f o ≡ option_map (λ y. f (g y)) q → option_map f (if b then Some (g x) else o) ≡ option_map (λ y. f (g y)) (if b then Some x else q)
found f g true x o q same = refl
found f g false x o q same = same

find_map : {X Y Z : Type 0} (f : Y → Z) (p : Y → Bool) (g : X → Y) (xs : List X) → option_map f (find p (map g xs)) ≡ option_map (λ x. f (g x)) (find (λ x. p (g x)) xs)
find_map f p g [] = refl
find_map f p g (x ∷ xs) = found f g (p (g x)) x (find p (map g xs)) (find (λ y. p (g y)) xs) (find_map f p g xs)

-- the sources of the other case
abbrev sources_of : Parts → Parts → Other
sources_of case other = record { dt = case.run.dt; steps = case.run.steps; sources = other.sources; tacs_sources = other.tacs_sources }

-- ---- the network

abbrev keeps_voltage : ℕ → InNetwork → Bool
keeps_voltage node x = not x.current && (x.node == node)

abbrev brings_current : ℕ → InNetwork → Bool
brings_current node x = x.current && (x.node == node)

abbrev brought : ℕ → InNetwork → ℤ
brought node x = if brings_current node x then x.value else pos 0

abbrev SeenAlike : Parts → Parts → List StepRecord → Type 0
SeenAlike case other H = map (in_network case.run (length H) (latest H).values) other.sources ≡ map (in_network case.run (length H) (latest H).values) case.sources

any_same : (case other : Parts) (H : List StepRecord) → SeenAlike case other H → (p : InNetwork → Bool)
    → list_any (λ (s : Source). p (in_network case.run (length H) (latest H).values s)) other.sources ≡ list_any (λ (s : Source). p (in_network case.run (length H) (latest H).values s)) case.sources
any_same case other H seen p =
    let see = in_network case.run (length H) (latest H).values in
    sym (any_map p see other.sources) ∙ ap (list_any p) seen ∙ any_map p see case.sources

known_same : (case other : Parts) (H : List StepRecord) → SeenAlike case other H → has_source (changed (sources_of case other) case) ≡ has_source case
known_same case other H seen = fun_ext (λ node. any_same case other H seen (keeps_voltage node))

feed_same : (case other : Parts) (H : List StepRecord) → SeenAlike case other H → has_feed (changed (sources_of case other) case) ≡ has_feed case
feed_same case other H seen = fun_ext (λ node. ap (λ b. list_any (is_branch_at node) case.branches || b) (any_same case other H seen (brings_current node)))

into_same : (case other : Parts) (H : List StepRecord) → SeenAlike case other H → sources_into (changed (sources_of case other) case) H ≡ sources_into case H
into_same case other H seen = fun_ext (λ node.
    let see = in_network case.run (length H) (latest H).values in
    sym (total_map (brought node) see other.sources) ∙ ap (total (brought node)) seen ∙ total_map (brought node) see case.sources)

held_same : (case other : Parts) (H : List StepRecord) → SeenAlike case other H → voltage_of (changed (sources_of case other) case) H ≡ voltage_of case H
held_same case other H seen = fun_ext (λ node.
    let see = in_network case.run (length H) (latest H).values in
    let value : InNetwork → ℤ = λ x. x.value in
    ap (λ (v : Option ℤ). unwrap_or v (pos 0)) (
    sym (find_map value (keeps_voltage node) see other.sources)
    ∙ ap (λ (xs : List InNetwork). option_map value (find (keeps_voltage node) xs)) seen
    ∙ find_map value (keeps_voltage node) see case.sources))

-- ---- the control

abbrev given_by : SoFar → Option InControl → Result SoFar TacsFault
given_by s None = Ok s
given_by s (Some x) = written x.variable s (in_range x.value)

abbrev given : List InControl → SoFar → Result SoFar TacsFault
given xs s = in_turn (λ n so_far. given_by so_far (slice_get xs n)) (length xs) s

by_card : (case : Parts) (k : ℕ) (m : Measured) (s : SoFar) (card : Option Source) → source_by case k m s card ≡ given_by s (option_map (in_control case k m) card)
by_card case k m s None = refl
by_card case k m s (Some x) = refl

all_given : (case : Parts) (k : ℕ) (m : Measured) (s : SoFar) → sources case k m s ≡ given (map (in_control case k m) case.tacs_sources) s
all_given case k m s =
    let see = in_control case k m in
    let each : source_at case k m ≡ (λ n so_far. given_by so_far (slice_get (map see case.tacs_sources) n)) =
    fun_ext (λ n. fun_ext (λ so_far. by_card case k m so_far (slice_get case.tacs_sources n) ∙ ap (given_by so_far) (sym (slice_get-map see case.tacs_sources n)))) in
    ap (λ (f : ℕ → SoFar → Result SoFar TacsFault). in_turn f (length case.tacs_sources) s) each
    ∙ ap (λ n. in_turn (λ n so_far. given_by so_far (slice_get (map see case.tacs_sources) n)) n s) (sym (length-map case.tacs_sources see))

-- ---- a step, and a run

steps_alike : (n : ℕ) (case other : Parts) → DifferAfter n case other → AreStepsAlike case (sources_of case other) n
steps_alike n case other d = λ H some few.
    let o = sources_of case other in
    let seen = d.network (length H) some few (latest H).values in
    let alike : BringAlike case o H = record {
      dt = refl;
      known = known_same case other H seen;
      feed = feed_same case other H seen;
      into = into_same case other H seen;
      held = held_same case other H seen;
      control = λ m s. all_given (changed o case) (length H) m s ∙ ap (λ (xs : List InControl). given xs s) (d.control (length H) some few m) ∙ sym (all_given case (length H) m s);
    } in
    next_same case o H alike

pub agree_upto : (n : ℕ) (case other : Parts) → DifferAfter n case other → AgreeUpto n case other
agree_upto n case other d = λ k low.
    ap (λ (p : Parts). history_upto p k) d.else_same ∙ history_alike case (sources_of case other) n (steps_alike n case other d) k low

-- ---- the samples

pub samples_agree : (n : ℕ) (case other : Parts) → DifferAfter n case other → SamplesAgreeUpto n case other
samples_agree n case other d = λ k low within.
    let upto : samples other (history_upto other k) ≡ samples case (history_upto case k) =
    ap (λ (h : History). samples other h) (agree_upto n case other d k low)
    ∙ ap (λ (p : Parts). samples p (history_upto case k)) d.else_same
    ∙ samples_alike case (sources_of case other) (history_upto case k).records in
    let all : other.run.steps ≡ case.run.steps = ap (λ (p : Parts). p.run.steps) d.else_same in
    let on = steps other (other.run.steps - k) k other.run.steps (omega (arith, all, within)) in
    ap (λ (xs : List (List ℤ)). take (length xs) (samples other (history other))) (sym upto)
    ∙ ap (take (length (samples other (history_upto other k)))) on.is
    ∙ begins (samples other (history_upto other k)) on.more
    ∙ upto

-- ---- ends of sources

not_less : (a b : ℤ) → int_lt a b ≡ false → b ≤ℤ a
not_less a b e = grind (arith, ints)

not_over : (stop time t : ℤ) → time ≤ℤ stop → t ≤ℤ time → int_lt stop t ≡ false
not_over stop time t later low = grind (arith, ints)

over_by : (b : Bool) (stop time t : ℤ) → int_lt stop time ≡ b → t ≤ℤ time → is_over (if b then Some stop else None) t ≡ int_lt stop t
over_by true stop time t is low = refl
over_by false stop time t is low = sym (not_over stop time t (not_less stop time is) low)

over_same : (stop : Option ℤ) (time t : ℤ) → t ≤ℤ time → is_over (stop_before time stop) t ≡ is_over stop t
over_same None time t low = refl
over_same (Some stop) time t low = over_by (int_lt stop time) stop time t refl low

time_rises : (k n : ℕ) → k ≤ n → (dt : ℤ) → pos 1000 ≤ℤ dt → (pos k *ℤ dt) ≤ℤ (pos n *ℤ dt)
time_rises k n low (pos d) least =
    let same : d ≤ d = omega arith in
    let product = mul-le k d n d low same in
    let rises : pos (k * d) ≤ℤ pos (n * d) = omega (arith, ints, product) in
    rises
time_rises k n low (negsuc d) least = absurd (omega (arith, ints, least))

module _ (run : RunData) (time : ℤ) (k : ℕ) (low : time_of run k ≤ℤ time) where
  value_same : (variables : List ℤ) (s : Source) → value_of run variables (as_far_as time s) k ≡ value_of run variables s k
  unfolding active_value
  value_same variables s =
      let t = time_of run k in
      ap (λ over. if not (int_lt t s.start) && not over then active_value variables s t s.shape else pos 0) (over_same s.stop time t low)

  pub network_as_far : (variables : List ℤ) (ss : List Source) → map (in_network run k variables) (map (as_far_as time) ss) ≡ map (in_network run k variables) ss
  network_as_far variables ss =
      map-map (in_network run k variables) (as_far_as time) ss
      ∙ ap (λ (f : Source → InNetwork). map f ss) (fun_ext (λ s. ap (λ v. let x : InNetwork = record { node = s.node; current = s.current; value = v } in x) (value_same variables s)))

module _ (case : Parts) (time : ℤ) (k : ℕ) (low : time_of case.run k ≤ℤ time) where
  measured_same : (m : Measured) (s : Source) (shape : Shape) → source_value case k m (as_far_as time s) shape ≡ source_value case k m s shape
  measured_same m s (NodeVoltage node) = refl
  measured_same m s (SwitchCurrent switch) = refl
  measured_same m s (SwitchStatus switch) = refl
  measured_same m s Step = value_same case.run time k low [] s
  measured_same m s (Ramp rise) = value_same case.run time k low [] s
  measured_same m s (Cosine freq phase) = value_same case.run time k low [] s
  measured_same m s (Tacs var) = value_same case.run time k low [] s
  measured_same m s (Pulse period width) = value_same case.run time k low [] s
  measured_same m s (Saw period) = value_same case.run time k low [] s

  pub control_as_far : (m : Measured) (ss : List Source) → map (in_control case k m) (map (as_far_as time) ss) ≡ map (in_control case k m) ss
  control_as_far m ss =
      map-map (in_control case k m) (as_far_as time) ss
      ∙ ap (λ (f : Source → InControl). map f ss) (fun_ext (λ s. ap (λ v. let x : InControl = record { variable = s.node; value = v } in x) (measured_same m s s.shape)))

pub later_stops : (n : ℕ) (case other : Parts) → IsCase case → DifferInLaterStops n case other → DifferAfter n case other
later_stops n case other fits d =
    let time = time_of case.run n in
    let rises : (k : ℕ) → k ≤ n → time_of case.run k ≤ℤ time = λ k low. time_rises k n low case.run.dt fits.draft.run.dt.least in
    record {
      else_same = d.else_same;
      network = λ k some low variables.
          sym (network_as_far case.run time k (rises k low) variables other.sources)
          ∙ ap (map (in_network case.run k variables)) d.network
          ∙ network_as_far case.run time k (rises k low) variables case.sources;
      control = λ k some low m.
          sym (control_as_far case time k (rises k low) m other.tacs_sources)
          ∙ ap (map (in_control case k m)) d.control
          ∙ control_as_far case time k (rises k low) m case.tacs_sources;
    }
