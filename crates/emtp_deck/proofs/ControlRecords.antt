-- The records that the cards of the control give fit the case.
use Rattle.std.proofs.Common.{Bool, List, None, Option, Some, [], ap, arith, cond, false, length, ltb, refl, subst, suc, sym, true, ℕ, ℤ, ◌<◌, ◌∷◌, ◌≡◌, ◌≤ℤ◌, ◌≤◌}
use Rattle.std.proofs.lemmas.Bool.Decides.{nat_tests}
use Rattle.std.proofs.lemmas.Int.{ints}
use Rattle.std.proofs.lemmas.List.Elements.{All-cons, All-nil}
use Rattle.std.specs.List.{position_or_len}
use Rattle.std.specs.Option.{ForSome}
use Rattle.std.specs.Prelude.{All, IsSome, int_lt, is_some, map, option_map, position}
use Rattle.std.specs.Str.{bytes_eq}
use Rattle.emtp_case.specs.held.Control.{AreBounds, IsBlock, IsBound, IsDeviceCard, IsFormula}
use Rattle.emtp_case.specs.held.Expr.{FitsPlaces}
use Rattle.emtp_case.specs.held.Sizes.{Sizes}
use Rattle.emtp_case.specs.held.Source.{HasShapeNumbers, IsControlShape, IsTacsSource}
use Rattle.emtp_case.specs.declared.control.Input.{Input}
use Rattle.emtp_case.specs.declared.run_data.RunData.{RunData}
use Rattle.emtp_case.specs.declared.source.Shape.{Shape}
use Rattle.emtp_case.specs.declared.source.Shape.TheVariants.{Cosine, NodeVoltage, Pulse, Ramp, Saw, Step, SwitchCurrent, SwitchStatus, Tacs}
use Rattle.emtp_case.specs.declared.source.Source.{Source}
use Rattle.emtp_sense.proofs.Knowing.{known_number}
use Rattle.emtp_walk.specs.held.Coefficients.{IsBlockEntry}
use Rattle.emtp_deck.specs.ControlFilling.{block_of, bound_of, device_of, formula_of, input_of, inputs_of, measuring, tacs_source_of}
use Rattle.emtp_sense.specs.ControlSense.{ends_at, is_measurable}
use Rattle.emtp_sense.specs.held.ControlSensible.{AreKnownInputs, IsKnown, IsSensibleBlock, IsSensibleDevice, IsSensibleFormula, IsSensibleTacsSource}
use Rattle.emtp_walk.specs.held.Sound.{IsDeviceDue, IsFormulaCard, IsTacsSourceCard}
use Rattle.emtp_sense.specs.Variables.{variable_number}
use Rattle.emtp_walk.specs.declared.control_cards.BlockEntry.{BlockEntry}
use Rattle.emtp_netcards.specs.held.Fields.{IsSmall}
use Rattle.emtp_netcards.specs.SourceCard.{source_of}
use Rattle.emtp_netcards.specs.declared.source_card.SourceCard.{SourceCard}
use Rattle.emtp_netcards.specs.declared.switch_card.SwitchCard.{SwitchCard}
use Rattle.emtp_taccards.specs.BlockCard.{are_crossed}
use Rattle.emtp_taccards.specs.held.TacsSourceCard.{IsUnresolved}
use Rattle.emtp_taccards.specs.declared.device_card.DeviceCard.{DeviceCard}
use Rattle.emtp_taccards.specs.declared.formula_card.FormulaCard.{FormulaCard}

-- ---- numbers of names

known_list : (variables : List (List ℕ)) (inputs : List (Option (Bool × List ℕ))) (n : ℕ) → length variables ≡ n → AreKnownInputs variables inputs → All (λ (i : Input). i.var < n) (inputs_of variables inputs)
known_list variables [] n size h = All-nil (λ (i : Input). i.var < n)
known_list variables (None ∷ inputs) n size h = known_list variables inputs n size (λ k d lt. h (suc k) d (omega arith))
known_list variables (Some i ∷ inputs) n size h =
    All-cons (λ (x : Input). x.var < n) (input_of variables i) (inputs_of variables inputs)
    (subst (λ k. variable_number variables i.1 < k) size (h 0 (Some i) (omega arith) i.1 refl)) (known_list variables inputs n size (λ k d lt. h (suc k) d (omega arith)))

known_map : (variables names : List (List ℕ)) (n : ℕ) → length variables ≡ n → All (λ x. variable_number variables x < length variables) names → All (λ v. v < n) (map (variable_number variables) names)
known_map variables [] n size h = All-nil (λ v. v < n)
known_map variables (x ∷ xs) n size h =
    All-cons (λ v. v < n) (variable_number variables x) (map (variable_number variables) xs) (subst (λ k. variable_number variables x < k) size (h 0 x (omega arith))) (known_map variables xs n size (λ k d lt. h (suc k) d (omega arith)))

length_of_map : {A B : Type 0} (f : A → B) (xs : List A) → length (map f xs) ≡ length xs
length_of_map f [] = refl
length_of_map f (x ∷ xs) = ap suc (length_of_map f xs)

some_mapped : {A B : Type 0} (f : A → B) (o : Option A) → IsSome o → IsSome (option_map f o)
some_mapped f (Some x) h = refl
some_mapped f None h = h

-- ---- blocks

bound_fits : (n : Sizes) (variables : List (List ℕ)) (name : Option (List ℕ)) (fixed : Option ℤ) → length variables ≡ n.vars → IsKnown variables name → ForSome fixed IsSmall → IsBound n (bound_of variables name fixed)
bound_fits n variables (Some name) fixed size h k = subst (λ m. variable_number variables name < m) size (h name refl)
bound_fits n variables None (Some x) size h k = k x refl
bound_fits n variables None None size h k = tt

not_less : (a b : ℤ) → int_lt b a ≡ false → a ≤ℤ b
not_less a b e = grind (arith, ints)

bounds_fit : (variables : List (List ℕ)) (low_name high_name : Option (List ℕ)) (low high : Option ℤ) → are_crossed low high low_name high_name ≡ false → AreBounds (bound_of variables low_name low) (bound_of variables high_name high)
bounds_fit variables (Some a) high_name low high h x y l r = absurd (cc)
bounds_fit variables None (Some b) low high h x y l r = absurd (cc)
bounds_fit variables None None None high h x y l r = absurd (cc)
bounds_fit variables None None (Some a) None h x y l r = absurd (cc)
bounds_fit variables None None (Some a) (Some b) h x y l r =
    let first : a ≡ x = cc in
    let second : b ≡ y = cc in
    subst (λ z. z ≤ℤ y) first (subst (λ z. a ≤ℤ z) second (not_less a b h))

pub block_fits : (run : RunData) (n : Sizes) (variables : List (List ℕ)) (e : BlockEntry) → length variables ≡ n.vars → IsBlockEntry run.dt e → IsSensibleBlock variables e → length (inputs_of variables e.card.inputs) ≤ 5 → IsBlock run n (block_of variables e)
block_fits run n variables e size h s few = record {
  own = s.name.own;
  there = subst (λ k. variable_number variables e.card.name < k) size s.name.there;
  order = h.card.numbers.order;
  few_inputs = few;
  inputs = known_list variables e.card.inputs n.vars size s.inputs;
  some_gain = h.card.numbers.some_gain;
  gain = h.card.numbers.gain;
  top = h.top;
  bottom = h.bottom;
  coefficients = λ some. let c = h.coefficients some in record { bottom_way = c.bottom_way; top_way = c.top_way; divisor = c.divisor; denominators = c.denominators; numerators = c.numerators };
  within_step = h.within_step;
  low = bound_fits n variables e.card.low_name e.card.low size s.low h.card.numbers.low;
  high = bound_fits n variables e.card.high_name e.card.high size s.high h.card.numbers.high;
  bounds = bounds_fit variables e.card.low_name e.card.high_name e.card.low e.card.high h.card.limits;
}

-- ---- supplemental cards

pub device_fits : (n : Sizes) (variables : List (List ℕ)) (card : DeviceCard) → length variables ≡ n.vars → IsDeviceDue card → IsSensibleDevice variables card → length (inputs_of variables card.inputs) ≤ 5 → IsDeviceCard n (device_of variables card)
device_fits n variables card size h s few = record {
  own = s.name.own;
  there = subst (λ k. variable_number variables card.name < k) size s.name.there;
  few_inputs = few;
  inputs = known_list variables card.inputs n.vars size s.inputs;
  a = h.numbers.a;
  b = h.numbers.b;
  c = h.numbers.c;
  d = subst (λ k. ForSome (option_map (variable_number variables) card.d) (λ v. v < k)) size (known_number variables card.d s.d);
  e = subst (λ k. ForSome (option_map (variable_number variables) card.e) (λ v. v < k)) size (known_number variables card.e s.e);
  required = λ need. some_mapped (variable_number variables) card.d (h.d need);
}

pub formula_fits : (n : Sizes) (variables : List (List ℕ)) (card : FormulaCard) → length variables ≡ n.vars → IsFormulaCard card → IsSensibleFormula variables card → IsFormula n (formula_of variables card)
formula_fits n variables card size h s = record {
  own = s.name.own;
  there = subst (λ k. variable_number variables card.name < k) size s.name.there;
  names = known_map variables card.parsed.names n.vars size s.names;
  nodes = subst (λ k. All (FitsPlaces k) card.parsed.nodes) (sym (length_of_map (variable_number variables) card.parsed.names)) h.parsed.places;
  whole = h.parsed.whole;
}

-- ---- sources

record IsPlace {X : Type 0} (p : X → Bool) (xs : List X) : Type 0 where
  at : ℕ
  is : position p xs ≡ Some at
  within : at < length xs

less : (a b : ℕ) → ltb a b ≡ true → a < b
less a b e = grind (arith, nat_tests)

place : {X : Type 0} (p : X → Bool) (xs : List X) → is_some (position p xs) ≡ true → IsPlace p xs
place p xs =
    let n = position_or_len p xs in
    elim (ltb n (length xs)) as (λ t. ltb n (length xs) ≡ t → (position p xs ≡ cond t (Some n) None) → is_some (cond t (Some n) None) ≡ true → IsPlace p xs) [
      | true ↦ λ is same h. record { at = n; is = same; within = less n (length xs) is }
      | false ↦ λ is same h. absurd (cc)
    ] refl refl

record IsMeasuring (n : Sizes) (s : Source) (shape : Shape) : Type 0 where
  numbers : HasShapeNumbers s shape
  control : IsControlShape n shape

measuring_by : (n : Sizes) (s : Source) (nodes : List (List ℕ)) (switches : List SwitchCard) (name : List ℕ) (shape : Shape) → length nodes ≡ n.nodes → length switches ≡ n.switches → HasShapeNumbers s shape → IsUnresolved shape → is_measurable nodes switches name shape ≡ true → IsMeasuring n s (measuring nodes switches name shape)
measuring_by n s nodes switches name Step a b h u m = record { numbers = h; control = tt }
measuring_by n s nodes switches name (Ramp rise) a b h u m = absurd u
measuring_by n s nodes switches name (Cosine freq phase) a b h u m = record { numbers = h; control = tt }
measuring_by n s nodes switches name (Tacs var) a b h u m = absurd u
measuring_by n s nodes switches name (Pulse period width) a b h u m = record { numbers = h; control = tt }
measuring_by n s nodes switches name (Saw period) a b h u m = record { numbers = h; control = tt }
measuring_by n s nodes switches name (NodeVoltage node) a b h u m =
    let k = place (bytes_eq name) nodes m in
    record { numbers = h; control = rw k.is (omega arith, omega (arith, k.within, a)) }
measuring_by n s nodes switches name (SwitchCurrent switch) a b h u m =
    let k = place (ends_at name) switches m in
    record { numbers = h; control = rw k.is (omega (arith, k.within, b)) }
measuring_by n s nodes switches name (SwitchStatus switch) a b h u m =
    let k = place (ends_at name) switches m in
    record { numbers = h; control = rw k.is (omega (arith, k.within, b)) }

pub source_fits : (n : Sizes) (nodes : List (List ℕ)) (switches : List SwitchCard) (variables : List (List ℕ)) (card : SourceCard) → length nodes ≡ n.nodes → length switches ≡ n.switches → length variables ≡ n.vars → IsTacsSourceCard card → IsSensibleTacsSource nodes switches variables card
    → IsTacsSource n (tacs_source_of nodes switches variables card)
source_fits n nodes switches variables card a b size h s =
    let m = measuring_by n (source_of card) nodes switches card.name card.shape a b h.numbers.numbers.shape h.numbers.shape s.measures in
    record {
      own = s.name.own;
      there = subst (λ k. variable_number variables card.name < k) size s.name.there;
      no_current = refl;
      numbers = record {
        amplitude = h.numbers.numbers.amplitude;
        start = h.numbers.numbers.start;
        stop = h.numbers.numbers.stop;
        shape = numbers_at (source_of card) (variable_number variables card.name) false (measuring nodes switches card.name card.shape) m.numbers;
      };
      shape = m.control;
    }
  where
    numbers_at : (s : Source) (node : ℕ) (current : Bool) (shape : Shape) → HasShapeNumbers s shape → HasShapeNumbers (record s { node = node; current = current; shape = shape }) shape
    numbers_at s node current Step h = h
    numbers_at s node current (Ramp rise) h = h
    numbers_at s node current (Cosine freq phase) h = h
    numbers_at s node current (Tacs var) h = h
    numbers_at s node current (Pulse period width) h = h
    numbers_at s node current (Saw period) h = h
    numbers_at s node current (NodeVoltage n) h = record { amplitude = h.amplitude; start = h.start; stop = h.stop }
    numbers_at s node current (SwitchCurrent n) h = record { amplitude = h.amplitude; start = h.start; stop = h.stop }
    numbers_at s node current (SwitchStatus n) h = record { amplitude = h.amplitude; start = h.start; stop = h.stop }
