-- One more source among sources.
use Rattle.emtp_case.specs.Case.{standing_names}
use Rattle.emtp_case.specs.Source.{is_voltage_source_at}
use Rattle.emtp_case.specs.held.Source.{OneVoltageEach}
use Rattle.emtp_case.specs.declared.source.Source.{Source}
use Rattle.std.proofs.Common.{◌∙◌, ap, arith, inl, inr, sym}
use Rattle.std.proofs.lemmas.Bool.{cases_Bool}
use Rattle.std.proofs.lemmas.Bool.Decides.{nat_tests}
use Rattle.std.proofs.lemmas.List.{length-take, take-append-le}
use Rattle.std.proofs.lemmas.List.Sums.{sum_by-append, sum_by-cons}
use Rattle.std.specs.List.{list_any}
use Rattle.std.specs.Prelude.{◌≡◌, ◌≤◌, ◌+◌, ◌==◌, ◌∷◌, ◌++◌, ◌&&◌, ◌||◌, if◌then◌else◌, [], Bool, List, count_by, false, length, not, refl, take, true, ℕ}

both_false : (a b : Bool) → (a || b) ≡ false → (a ≡ false) × (b ≡ false)
both_false false false h = (refl, refl)
both_false false true h = absurd (cc)
both_false true b h = absurd (cc)

none_counted : (test : Source → Bool) (ss : List Source) → list_any test ss ≡ false → count_by test ss ≡ 0
none_counted test [] h = refl
none_counted test (s ∷ ss) h =
    let both = both_false (test s) (list_any test ss) h in
    let first = sum_by-cons (λ x. if test x then 1 else 0) s ss ∙ ap (λ (b : Bool). (if b then 1 else 0) + count_by test ss) both.0 in
    omega (arith, first, none_counted test ss both.1)

voltage_test : (s : Source) (node : ℕ) → is_voltage_source_at node s ≡ true → (s.current ≡ false) × (s.node ≡ node)
voltage_test s node h = let both = go s.current (s.node == node) h in (both.0, same s.node node both.1)
  where
    go : (c b : Bool) → (not c && b) ≡ true → (c ≡ false) × (b ≡ true)
    go false b h = (refl, h)
    go true b h = absurd (cc)

    same : (i j : ℕ) → (i == j) ≡ true → i ≡ j
    same i j h = grind (arith, nat_tests)

-- the sources that pass a test where one more is added
counted_push : (test : Source → Bool) (ss : List Source) (x : Source) → count_by test (ss ++ x ∷ []) ≡ count_by test ss + (if test x then 1 else 0)
counted_push test ss x = omega (arith, sum_by-append (λ s. if test s then 1 else 0) ss (x ∷ []))

pub one_more_source : (ss : List Source) (x : Source) → OneVoltageEach ss → (x.current ≡ false → list_any (is_voltage_source_at x.node) ss ≡ false) → OneVoltageEach (ss ++ x ∷ [])
one_more_source ss x h one = λ node.
    let all = counted_push (is_voltage_source_at node) ss x in
    elim (cases_Bool (is_voltage_source_at node x)) [
      | inl passes ↦
          let is = voltage_test x node passes in
          let none = none_counted (is_voltage_source_at node) ss (ap (λ n. list_any (is_voltage_source_at n) ss) (sym is.1) ∙ one is.0) in
          let more = ap (λ (b : Bool). count_by (is_voltage_source_at node) ss + (if b then 1 else 0)) passes in
          omega (arith, all, more, none)
      | inr fails ↦
          let more = ap (λ (b : Bool). count_by (is_voltage_source_at node) ss + (if b then 1 else 0)) fails in
          omega (arith, all, more, h node)
    ]

pub standing_stay : (vars : List (List ℕ)) (x : List ℕ) → take 6 vars ≡ standing_names → take 6 (vars ++ x ∷ []) ≡ standing_names
standing_stay vars x h = let six : 6 ≤ length vars = omega (arith, ap length h, length-take 6 vars) in take-append-le 6 vars (x ∷ []) six ∙ h
