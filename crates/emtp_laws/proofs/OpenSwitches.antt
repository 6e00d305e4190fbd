-- When breakers open, and which switches carry nothing.
use Rattle.std.proofs.Common.{◌≡◌, ◌∙◌, ◌⊎◌, ◌&&◌, ◌||◌, ◌≤◌, ◌<ℤ◌, ◌≤ℤ◌, ℕ, ℤ, pos, int_lt, int_le, nat_le, unsigned_abs, if◌then◌else◌, Bool, true, false, List, length, Option, Some, None, refl, ap, sym, subst, inl, inr, arith}
use Rattle.std.specs.List.{All, range_with_len}
use Rattle.std.proofs.lemmas.Bool.{cases_Bool, cases_lt, true≢false}
use Rattle.std.proofs.lemmas.Bool.Decides.{nat_tests}
use Rattle.std.proofs.lemmas.Int.{ints}
use Rattle.std.proofs.lemmas.List.{get_or_past}
use Rattle.std.proofs.lemmas.List.Elements.{filter_passes}
use Rattle.std.proofs.lemmas.List.FromFn.{get_or-map-range_with_len, length-map-range_with_len}
use Rattle.emtp_case.specs.RowOrder.{Rows}
use Rattle.emtp_case.specs.StepRecord.{StepRecord, latest, record_back, switch_current_at, switch_state_at}
use Rattle.emtp_case.specs.RunData.{time_of}
use Rattle.emtp_case.specs.declared.case.Parts.{Parts}
use Rattle.emtp_case.specs.declared.switch.Switch.{Switch}
use Rattle.emtp_case.specs.declared.switch.SwitchKind.{SwitchKind}
use Rattle.emtp_case.specs.declared.switch.SwitchKind.TheVariants.{Time}
use Rattle.emtp_case.specs.declared.switch.SwitchState.{SwitchState}
use Rattle.emtp_case.specs.declared.switch.SwitchState.TheVariants.{Closed, Opened}
use Rattle.emtp_fix.specs.Items.{item}
use Rattle.emtp_switch.specs.Currents.{bridge_current, contains, currents_of}
use Rattle.emtp_switch.specs.Groups.{alone, bridges_of, closed_switches, is_closed_at, switch_at}
use Rattle.emtp_switch.specs.States.{breaker_state, interrupts, is_due, next_state, oppose, state_after, view_of}
use Rattle.emtp_switch.proofs.FoundCurrents.{contains_is}
use Rattle.emtp_switch.proofs.GrownTree.{bridges_all}
use Rattle.emtp_laws.specs.Switches.{HaveOppositeSigns, MayOpen}

-- ---- breakers

both_true : (a b : Bool) → a && b ≡ true → (a ≡ true) × (b ≡ true)
both_true true true e = (refl, refl)
both_true true false e = absurd (cc)
both_true false b e = absurd (cc)

one_true : (a b : Bool) → a || b ≡ true → (a ≡ true) ⊎ (b ≡ true)
one_true true b e = inl refl
one_true false true e = inr refl
one_true false false e = absurd (cc)

less : (a b : ℤ) → int_lt a b ≡ true → a <ℤ b
less a b e = grind (arith, ints)

at_most : (a b : ℤ) → int_le a b ≡ true → a ≤ℤ b
at_most a b e = grind (arith, ints)

small : (a b : ℕ) → nat_le a b ≡ true → a ≤ b
small a b e = grind (arith, nat_tests)

opposite : (a b : ℤ) → oppose a b ≡ true → HaveOppositeSigns a b
opposite a b e = elim (one_true (int_lt a (pos 0) && int_lt (pos 0) b) (int_lt (pos 0) a && int_lt b (pos 0)) e) [
  | inl h ↦ let both = both_true (int_lt a (pos 0)) (int_lt (pos 0) b) h in inl (less a (pos 0) both.0, less (pos 0) b both.1)
  | inr h ↦ let both = both_true (int_lt (pos 0) a) (int_lt b (pos 0)) h in inr (less (pos 0) a both.0, less b (pos 0) both.1)
]

opened : (b : Bool) → (if b then Opened else Closed) ≡ Opened → b ≡ true
opened true e = refl
opened false e = absurd (cc)

may_open : (open_at : Option ℤ) (time margin current before : ℤ) → is_due open_at time ≡ true → interrupts margin current before ≡ true → MayOpen open_at time margin current before
may_open None time margin current before due on = absurd (true≢false (sym due))
may_open (Some t) time margin current before due on = record {
  opening = t;
  is = refl;
  due = at_most t time due;
  near_zero = elim (one_true (nat_le (unsigned_abs current) (unsigned_abs margin)) (oppose current before) on) [
    | inl h ↦ inl (small (unsigned_abs current) (unsigned_abs margin) h)
    | inr h ↦ inr (opposite current before h)
  ];
}

pub opens_rightly : (case : Parts) (H : List StepRecord) (s : ℕ) (close : ℤ) (open_at : Option ℤ) (margin : ℤ) → (switch_at case.switches s).kind ≡ Time close open_at margin → switch_state_at s (latest H) ≡ Closed → next_state case H s ≡ Opened
    → MayOpen open_at (time_of case.run (length H)) margin (switch_current_at s (latest H)) (switch_current_at s (record_back H 1))
opens_rightly case H s close open_at margin kind closed opens =
    let seen = view_of case H (switch_at case.switches s) s in
    let step : breaker_state close open_at margin seen Closed ≡ Opened =
    sym (ap (λ (k : SwitchKind). state_after k seen (switch_state_at s (latest H))) kind ∙ ap (breaker_state close open_at margin seen) closed) ∙ opens in
    let both = both_true (is_due open_at seen.time) (interrupts margin seen.current seen.before) (opened (is_due open_at seen.time && interrupts margin seen.current seen.before) step) in
    may_open open_at seen.time margin seen.current seen.before both.0 both.1

-- ---- switches that carry nothing

pub slack_none : (switches : List Switch) (rows : Rows) (states : List SwitchState) (leaving : List ℤ) (s : ℕ) → contains (bridges_of switches rows states) s ≡ false → item (currents_of switches rows states leaving) s ≡ pos 0
slack_none switches rows states leaving s out =
    let es = bridges_of switches rows states in
    let f : ℕ → ℤ = λ k. if contains es k then bridge_current switches rows es leaving k else pos 0 in
    elim (cases_lt s (length switches)) [
      | inl inside ↦ get_or-map-range_with_len f 0 (length switches) s s (pos 0) inside (omega arith) ∙ ap (λ (b : Bool). if b then bridge_current switches rows es leaving s else pos 0) out
      | inr past ↦ get_or_past (currents_of switches rows states leaving) s (pos 0) (omega (arith, past, length-map-range_with_len f 0 (length switches)))
    ]

pub open_none : (switches : List Switch) (rows : Rows) (states : List SwitchState) (leaving : List ℤ) (s : ℕ) → is_closed_at states s ≡ false → item (currents_of switches rows states leaving) s ≡ pos 0
open_none switches rows states leaving s off = elim (cases_Bool (contains (bridges_of switches rows states) s)) [
  | inr out ↦ slack_none switches rows states leaving s out
  | inl there ↦
      let es = bridges_of switches rows states in
      let all : All (λ k. is_closed_at states k ≡ true) es = bridges_all (λ k. is_closed_at states k ≡ true) switches (alone (length rows.nodes)) (closed_switches states) (filter_passes (is_closed_at states) (range_with_len 0 (length states))) in
      let (k, below, at) = contains_is es s there in
      absurd (true≢false (sym (subst (λ j. is_closed_at states j ≡ true) at (all k s below)) ∙ off))
]
