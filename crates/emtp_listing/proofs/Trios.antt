-- The modes of three-phase lines are known by their lines.
use Rattle.std.proofs.Common.{◌≡◌, ◌∙◌, ap, refl, arith, ◌^◌, List, [], ◌∷◌, ℕ, ℤ, pos, length, get_or, drop, codes}
use Rattle.std.specs.Prelude.{◌≤ℤ◌}
use Rattle.emtp_case.specs.held.Branch.{IsTrio}
use Rattle.emtp_case.specs.declared.branch.Trio.{Trio}
use Rattle.emtp_case.specs.declared.run_data.RunData.{RunData}
use Rattle.emtp_listing.specs.Law.{IsFree, AllFree, HasModes}
use Rattle.emtp_listing.specs.Lines.{all_separated}
use Rattle.emtp_listing.specs.NetworkLines.{trio_entries, trio_line}
use Rattle.emtp_listing.proofs.Cut.{free-both, free-entries, entries-same}
use Rattle.emtp_listing.proofs.Entries.{number-marked, place-marked}
use Rattle.emtp_listing.proofs.Marks.{IsMark, comma, line_end, between-small, travel-least, delay-small}
use Rattle.emtp_listing.proofs.Numbers.{number-same, place-same}

entries-free : (b : ℕ) (run : RunData) (t : Trio) → IsMark b → pos 0 ≤ℤ run.dt → IsTrio run t → HasModes t → AllFree b (trio_entries t)
entries-free b run t mark timed is modes = (
  place-marked b (codes "first branch") t.first mark refl (omega (arith, modes.first)),
  (
    number-marked b (codes "zero surge impedance") 6 (codes "ohm") (get_or t.zc 0 (pos 0)) mark refl refl (between-small 10 (10 ^ 15) (get_or t.zc 0 (pos 0)) (omega arith) (is 0 (omega arith)).surge),
    (
      number-marked b (codes "zero R") 6 (codes "ohm") (get_or t.r 0 (pos 0)) mark refl refl (between-small 0 (10 ^ 15) (get_or t.r 0 (pos 0)) (omega arith) (is 0 (omega arith)).r),
      (
        number-marked b (codes "zero travel time") 12 (codes "s") (get_or t.delay 0 (pos 0)) mark refl refl (delay-small (get_or t.delay 0 (pos 0)) (travel-least run (get_or t.delay 0 (pos 0)) timed (is 0 (omega arith)).long) (is 0 (omega arith)).delay),
        (
          number-marked b (codes "positive surge impedance") 6 (codes "ohm") (get_or t.zc 1 (pos 0)) mark refl refl (between-small 10 (10 ^ 15) (get_or t.zc 1 (pos 0)) (omega arith) (is 1 (omega arith)).surge),
          (
            number-marked b (codes "positive R") 6 (codes "ohm") (get_or t.r 1 (pos 0)) mark refl refl (between-small 0 (10 ^ 15) (get_or t.r 1 (pos 0)) (omega arith) (is 1 (omega arith)).r),
            (
              number-marked b (codes "positive travel time") 12 (codes "s") (get_or t.delay 1 (pos 0)) mark refl refl (delay-small (get_or t.delay 1 (pos 0)) (travel-least run (get_or t.delay 1 (pos 0)) timed (is 1 (omega arith)).long) (is 1 (omega arith)).delay),
              tt,
            ),
          ),
        ),
      ),
    ),
  ),
)

pub trio-free : (run : RunData) (t : Trio) → pos 0 ≤ℤ run.dt → IsTrio run t → HasModes t → IsFree 10 (trio_line t)
trio-free run t timed is modes = free-both 10 (codes "modes") (all_separated (trio_entries t)) refl (free-entries 10 (trio_entries t) (omega arith) (entries-free 10 run t line_end timed is modes))

-- two numbers are known by their places
pair-same : (xs ys : List ℤ) → length xs ≡ 2 → length ys ≡ 2 → get_or xs 0 (pos 0) ≡ get_or ys 0 (pos 0) → get_or xs 1 (pos 0) ≡ get_or ys 1 (pos 0) → xs ≡ ys
pair-same [] ys two two2 e f = absurd (omega (arith, two))
pair-same (a ∷ []) ys two two2 e f = absurd (omega (arith, two))
pair-same (a ∷ b ∷ c ∷ xs) ys two two2 e f = absurd (omega (arith, two))
pair-same (a ∷ b ∷ []) [] two two2 e f = absurd (omega (arith, two2))
pair-same (a ∷ b ∷ []) (c ∷ []) two two2 e f = absurd (omega (arith, two2))
pair-same (a ∷ b ∷ []) (c ∷ d ∷ x ∷ ys) two two2 e f = absurd (omega (arith, two2))
pair-same (a ∷ b ∷ []) (c ∷ d ∷ []) two two2 e f = ap (λ (v : ℤ). v ∷ b ∷ []) e ∙ ap (λ (v : ℤ). c ∷ v ∷ []) f

pub trio-same : (run other : RunData) (x y : Trio) → pos 0 ≤ℤ run.dt → pos 0 ≤ℤ other.dt → IsTrio run x → IsTrio other y → HasModes x → HasModes y → trio_line x ≡ trio_line y → x ≡ y
trio-same run other x y timed timed2 is js hx hy e =
    let entries = entries-same (trio_entries x) (trio_entries y) (entries-free 44 run x comma timed is hx) (entries-free 44 other y comma timed2 js hy) (ap (λ (l : List ℕ). drop 5 l) e) in
    let e0 = place-same (codes "first branch") x.first y.first (omega (arith, hx.first)) (omega (arith, hy.first)) (ap (λ (l : List (List ℕ)). get_or l 0 []) entries) in
    let e1 = number-same (codes "zero surge impedance") 6 (codes "ohm") (get_or x.zc 0 (pos 0)) (get_or y.zc 0 (pos 0)) (between-small 10 (10 ^ 15) (get_or x.zc 0 (pos 0)) (omega arith) (is 0 (omega arith)).surge) (between-small 10 (10 ^ 15) (get_or y.zc 0 (pos 0)) (omega arith) (js 0 (omega arith)).surge) (ap (λ (l : List (List ℕ)). get_or l 1 []) entries) in
    let e2 = number-same (codes "zero R") 6 (codes "ohm") (get_or x.r 0 (pos 0)) (get_or y.r 0 (pos 0)) (between-small 0 (10 ^ 15) (get_or x.r 0 (pos 0)) (omega arith) (is 0 (omega arith)).r) (between-small 0 (10 ^ 15) (get_or y.r 0 (pos 0)) (omega arith) (js 0 (omega arith)).r) (ap (λ (l : List (List ℕ)). get_or l 2 []) entries) in
    let e3 = number-same (codes "zero travel time") 12 (codes "s") (get_or x.delay 0 (pos 0)) (get_or y.delay 0 (pos 0)) (delay-small (get_or x.delay 0 (pos 0)) (travel-least run (get_or x.delay 0 (pos 0)) timed (is 0 (omega arith)).long) (is 0 (omega arith)).delay) (delay-small (get_or y.delay 0 (pos 0)) (travel-least other (get_or y.delay 0 (pos 0)) timed2 (js 0 (omega arith)).long) (js 0 (omega arith)).delay) (ap (λ (l : List (List ℕ)). get_or l 3 []) entries) in
    let e4 = number-same (codes "positive surge impedance") 6 (codes "ohm") (get_or x.zc 1 (pos 0)) (get_or y.zc 1 (pos 0)) (between-small 10 (10 ^ 15) (get_or x.zc 1 (pos 0)) (omega arith) (is 1 (omega arith)).surge) (between-small 10 (10 ^ 15) (get_or y.zc 1 (pos 0)) (omega arith) (js 1 (omega arith)).surge) (ap (λ (l : List (List ℕ)). get_or l 4 []) entries) in
    let e5 = number-same (codes "positive R") 6 (codes "ohm") (get_or x.r 1 (pos 0)) (get_or y.r 1 (pos 0)) (between-small 0 (10 ^ 15) (get_or x.r 1 (pos 0)) (omega arith) (is 1 (omega arith)).r) (between-small 0 (10 ^ 15) (get_or y.r 1 (pos 0)) (omega arith) (js 1 (omega arith)).r) (ap (λ (l : List (List ℕ)). get_or l 5 []) entries) in
    let e6 = number-same (codes "positive travel time") 12 (codes "s") (get_or x.delay 1 (pos 0)) (get_or y.delay 1 (pos 0)) (delay-small (get_or x.delay 1 (pos 0)) (travel-least run (get_or x.delay 1 (pos 0)) timed (is 1 (omega arith)).long) (is 1 (omega arith)).delay) (delay-small (get_or y.delay 1 (pos 0)) (travel-least other (get_or y.delay 1 (pos 0)) timed2 (js 1 (omega arith)).long) (js 1 (omega arith)).delay) (ap (λ (l : List (List ℕ)). get_or l 6 []) entries) in
    let zc = pair-same x.zc y.zc hx.zc hy.zc e1 e4 in
    let r = pair-same x.r y.r hx.r hy.r e2 e5 in
    let delay = pair-same x.delay y.delay hx.delay hy.delay e3 e6 in
    ap (λ (v : ℕ). made v x.zc x.r x.delay) e0 ∙ ap (λ (v : List ℤ). made y.first v x.r x.delay) zc ∙ ap (λ (v : List ℤ). made y.first y.zc v x.delay) r ∙ ap (λ (v : List ℤ). made y.first y.zc y.r v) delay
  where
    made : ℕ → List ℤ → List ℤ → List ℤ → Trio
    made a b c d = record { first = a; zc = b; r = c; delay = d }
