-- Devices and all supplemental cards are known by their lines.
use Rattle.std.proofs.Common.{◌≡◌, ◌++◌, ◌∙◌, sym, ap, refl, arith, ◌^◌, ◌<◌, ◌==◌, List, [], ℕ, ℤ, Option, length, get_or, drop, subst, codes}
use Rattle.std.specs.Prelude.{if◌then◌else◌}
use Rattle.emtp_case.specs.Branch.{points_of}
use Rattle.emtp_case.specs.held.Control.{IsDevice, IsExtra}
use Rattle.emtp_case.specs.declared.control.Device.{Device}
use Rattle.emtp_case.specs.declared.control.DeviceCode.{DeviceCode}
use Rattle.emtp_case.specs.declared.control.DeviceCode.TheVariants.{Counter, Delay, DelayedPulse, Derivative, EffectiveValue, Extreme, Gate, GateAbove, Integral, PeakHold, SampleHold, Selector, Table, Window}
use Rattle.emtp_case.specs.declared.control.Extra.{Extra}
use Rattle.emtp_case.specs.declared.control.Extra.TheVariants.{Device as OfDevice, Formula as OfFormula}
use Rattle.emtp_case.specs.declared.control.Group.{Group}
use Rattle.emtp_case.specs.declared.control.Input.{Input}
use Rattle.emtp_listing.specs.ControlLines.{a_places, a_tail, code_number, device_entries, extra_card_line, extra_lines, extra_points, formula_entries, group_number, table_line}
use Rattle.emtp_listing.specs.Entry.{figure_entry}
use Rattle.emtp_listing.specs.Law.{AllFree, AreApart, Around, HasFewNames, HasVarNames, table_of}
use Rattle.emtp_listing.specs.Lines.{numbered}
use Rattle.emtp_listing.proofs.Blocks.{inputs-free, inputs-same, there-among}
use Rattle.emtp_listing.proofs.Branches.{card-free, card-same}
use Rattle.emtp_listing.proofs.Entries.{count-marked, figure-marked, place-marked}
use Rattle.emtp_listing.proofs.Expressions.{formula-free, formula-same, group-same, group-small}
use Rattle.emtp_listing.proofs.Lists.{front-same, numbered-free, numbered-length, numbered-same}
use Rattle.emtp_listing.proofs.Marks.{IsMark, IsText, comma, line_end, within}
use Rattle.emtp_listing.proofs.Numbers.{count-same, figure-same, place-same}
use Rattle.emtp_listing.proofs.Points.{IsSmallPoint, device-small, points-count, table-free, table-same}
use Rattle.emtp_listing.proofs.Words.{choice-free, choice-same, some-there, variable-free, variable-same}

-- ---- codes, by their numbers

abbrev code_of : ℕ → DeviceCode
code_of n =
    if n == 51 then Gate
    else if n == 52 then GateAbove
    else if n == 53 then Delay
    else if n == 54 then DelayedPulse
    else if n == 56 then Table
    else if n == 57 then Window
    else if n == 58 then Integral
    else if n == 59 then Derivative
    else if n == 60 then Selector
    else if n == 62 then SampleHold
    else if n == 63 then Extreme
    else if n == 64 then PeakHold
    else if n == 65 then Counter
    else EffectiveValue

code-back : (x : DeviceCode) → code_of (code_number x) ≡ x
code-back Gate = refl
code-back GateAbove = refl
code-back Delay = refl
code-back DelayedPulse = refl
code-back Table = refl
code-back Window = refl
code-back Integral = refl
code-back Derivative = refl
code-back Selector = refl
code-back SampleHold = refl
code-back Extreme = refl
code-back PeakHold = refl
code-back Counter = refl
code-back EffectiveValue = refl

code-small : (x : DeviceCode) → code_number x < 2 ^ 64
code-small Gate = omega arith
code-small GateAbove = omega arith
code-small Delay = omega arith
code-small DelayedPulse = omega arith
code-small Table = omega arith
code-small Window = omega arith
code-small Integral = omega arith
code-small Derivative = omega arith
code-small Selector = omega arith
code-small SampleHold = omega arith
code-small Extreme = omega arith
code-small PeakHold = omega arith
code-small Counter = omega arith
code-small EffectiveValue = omega arith

tail-text : (x : DeviceCode) → IsText (a_tail x)
tail-text Gate = refl
tail-text GateAbove = refl
tail-text Delay = refl
tail-text DelayedPulse = refl
tail-text Table = refl
tail-text Window = refl
tail-text Integral = refl
tail-text Derivative = refl
tail-text Selector = refl
tail-text SampleHold = refl
tail-text Extreme = refl
tail-text PeakHold = refl
tail-text Counter = refl
tail-text EffectiveValue = refl

code-same : (x y : DeviceCode) → code_number x ≡ code_number y → x ≡ y
code-same x y e = sym (code-back x) ∙ ap code_of e ∙ code-back y

-- ---- devices

device-free : (b : ℕ) (w : Around) (vars : List (List ℕ)) (x : Device) → IsMark b → HasVarNames w vars → length w.points < 2 ^ 32 → IsDevice w.sizes w.points x → AllFree b (device_entries vars x)
device-free b w vars x mark named few is = (
  variable-free b (codes "NAME") vars x.var mark refl named.names (omega (arith, named.count, is.card.there)),
  (
    count-marked b (codes "card") (group_number x.group) mark refl (group-small x.group),
    (
      count-marked b (codes "code") (code_number x.code) mark refl (code-small x.code),
      (
        figure-marked b (codes "A") (a_places x.code) (a_tail x.code) x.a mark refl (tail-text x.code) (within x.a is.card.a.small),
        (
          figure-marked b (codes "B") 9 [] x.b mark refl refl (within x.b is.card.b),
          (
            figure-marked b (codes "C") 9 [] x.c mark refl refl (within x.c is.card.c),
            (
              choice-free b (codes "D") (codes "(no variable)") vars x.d mark refl refl named.names (some-there w.sizes.vars (length vars) x.d named.count is.card.d),
              (
                choice-free b (codes "E") (codes "(no variable)") vars x.e mark refl refl named.names (some-there w.sizes.vars (length vars) x.e named.count is.card.e),
                (
                  place-marked b (codes "first point") x.first mark refl (omega (arith, is.points_there, few)),
                  (
                    count-marked b (codes "points") x.count mark refl (omega (arith, is.few_points)),
                    inputs-free b vars x.inputs mark named.names (omega (arith, is.card.few_inputs)) (there-among w vars x.inputs named is.card.inputs),
                  ),
                ),
              ),
            ),
          ),
        ),
      ),
    ),
  ),
)

device-same : (w v : Around) (vars : List (List ℕ)) (x y : Device) → HasVarNames w vars → HasVarNames v vars → AreApart vars → length w.points < 2 ^ 32 → length v.points < 2 ^ 32
    → IsDevice w.sizes w.points x → IsDevice v.sizes v.points y → x.line ≡ y.line → device_entries vars x ≡ device_entries vars y → x ≡ y
device-same w v vars x y named named2 apart few few2 is js line e =
    let e1 = variable-same (codes "NAME") vars x.var y.var apart (omega (arith, named.count, is.card.there)) (omega (arith, named2.count, js.card.there)) (ap (λ (l : List (List ℕ)). get_or l 0 []) e) in
    let e2 = group-same (codes "card") x.group y.group (ap (λ (l : List (List ℕ)). get_or l 1 []) e) in
    let e3 = code-same x.code y.code (count-same (codes "code") (code_number x.code) (code_number y.code) (code-small x.code) (code-small y.code) (ap (λ (l : List (List ℕ)). get_or l 2 []) e)) in
    let a : figure_entry (codes "A") (a_places y.code) (a_tail y.code) x.a ≡ figure_entry (codes "A") (a_places y.code) (a_tail y.code) y.a =
    sym (ap (λ (k : DeviceCode). figure_entry (codes "A") (a_places k) (a_tail k) x.a) e3) ∙ ap (λ (l : List (List ℕ)). get_or l 3 []) e in
    let e4 = figure-same (codes "A") (a_places y.code) (a_tail y.code) x.a y.a (within x.a is.card.a.small) (within y.a js.card.a.small) a in
    let e5 = figure-same (codes "B") 9 [] x.b y.b (within x.b is.card.b) (within y.b js.card.b) (ap (λ (l : List (List ℕ)). get_or l 4 []) e) in
    let e6 = figure-same (codes "C") 9 [] x.c y.c (within x.c is.card.c) (within y.c js.card.c) (ap (λ (l : List (List ℕ)). get_or l 5 []) e) in
    let e7 = choice-same (codes "D") (codes "(no variable)") vars x.d y.d (omega arith) named.names apart (some-there w.sizes.vars (length vars) x.d named.count is.card.d) (some-there v.sizes.vars (length vars) y.d named2.count js.card.d) (ap (λ (l : List (List ℕ)). get_or l 6 []) e) in
    let e8 = choice-same (codes "E") (codes "(no variable)") vars x.e y.e (omega arith) named.names apart (some-there w.sizes.vars (length vars) x.e named.count is.card.e) (some-there v.sizes.vars (length vars) y.e named2.count js.card.e) (ap (λ (l : List (List ℕ)). get_or l 7 []) e) in
    let e9 = place-same (codes "first point") x.first y.first (omega (arith, is.points_there, few)) (omega (arith, js.points_there, few2)) (ap (λ (l : List (List ℕ)). get_or l 8 []) e) in
    let e10 = count-same (codes "points") x.count y.count (omega (arith, is.few_points)) (omega (arith, js.few_points)) (ap (λ (l : List (List ℕ)). get_or l 9 []) e) in
    let e11 = inputs-same vars x.inputs y.inputs apart (there-among w vars x.inputs named is.card.inputs) (there-among v vars y.inputs named2 js.card.inputs) (ap (λ (l : List (List ℕ)). drop 10 l) e) in
    ap (λ (z : ℕ). made z x.var x.group x.code x.inputs x.a x.b x.c x.d x.e x.first x.count) line
    ∙ ap (λ (z : ℕ). made y.line z x.group x.code x.inputs x.a x.b x.c x.d x.e x.first x.count) e1
    ∙ ap (λ (z : Group). made y.line y.var z x.code x.inputs x.a x.b x.c x.d x.e x.first x.count) e2
    ∙ ap (λ (z : DeviceCode). made y.line y.var y.group z x.inputs x.a x.b x.c x.d x.e x.first x.count) e3
    ∙ ap (λ (z : List Input). made y.line y.var y.group y.code z x.a x.b x.c x.d x.e x.first x.count) e11
    ∙ ap (λ (z : ℤ). made y.line y.var y.group y.code y.inputs z x.b x.c x.d x.e x.first x.count) e4
    ∙ ap (λ (z : ℤ). made y.line y.var y.group y.code y.inputs y.a z x.c x.d x.e x.first x.count) e5
    ∙ ap (λ (z : ℤ). made y.line y.var y.group y.code y.inputs y.a y.b z x.d x.e x.first x.count) e6
    ∙ ap (λ (z : Option ℕ). made y.line y.var y.group y.code y.inputs y.a y.b y.c z x.e x.first x.count) e7
    ∙ ap (λ (z : Option ℕ). made y.line y.var y.group y.code y.inputs y.a y.b y.c y.d z x.first x.count) e8
    ∙ ap (λ (z : ℕ). made y.line y.var y.group y.code y.inputs y.a y.b y.c y.d y.e z x.count) e9
    ∙ ap (λ (z : ℕ). made y.line y.var y.group y.code y.inputs y.a y.b y.c y.d y.e y.first z) e10
  where
    made : ℕ → ℕ → Group → DeviceCode → List Input → ℤ → ℤ → ℤ → Option ℕ → Option ℕ → ℕ → ℕ → Device
    made a b c d e f g h i j k l = record { line = a; var = b; group = c; code = d; inputs = e; a = f; b = g; c = h; d = i; e = j; first = k; count = l }

-- ---- any supplemental card

extra-line-same : (w v : Around) (vars : List (List ℕ)) (x y : Extra) → HasVarNames w vars → HasVarNames v vars → AreApart vars → length w.points < 2 ^ 32 → length v.points < 2 ^ 32
    → IsExtra w.sizes w.points x → IsExtra v.sizes v.points y → HasFewNames x → HasFewNames y → extra_card_line vars x ≡ extra_card_line vars y → x ≡ y
extra-line-same w v vars (OfDevice x) (OfDevice y) named named2 apart few few2 is js has hbs e =
    let parts = card-same x.line y.line (codes "device") (codes "device") (device_entries vars x) (device_entries vars y) has hbs refl refl (device-free 44 w vars x comma named few is) (device-free 44 v vars y comma named2 few2 js) e in
    ap OfDevice (device-same w v vars x y named named2 apart few few2 is js parts.0 parts.1.1)
extra-line-same w v vars (OfDevice x) (OfFormula y) named named2 apart few few2 is js has hbs e =
    let parts = card-same x.line y.line (codes "device") (codes "formula") (device_entries vars x) (formula_entries vars y) has hbs.0 refl refl (device-free 44 w vars x comma named few is) (formula-free 44 v vars y comma named2 hbs.1 js) e in
    let l : 6 ≡ 7 = ap length parts.1.0 in absurd (omega (arith, l))
extra-line-same w v vars (OfFormula x) (OfDevice y) named named2 apart few few2 is js has hbs e =
    let parts = card-same x.line y.line (codes "formula") (codes "device") (formula_entries vars x) (device_entries vars y) has.0 hbs refl refl (formula-free 44 w vars x comma named has.1 is) (device-free 44 v vars y comma named2 few2 js) e in
    let l : 7 ≡ 6 = ap length parts.1.0 in absurd (omega (arith, l))
extra-line-same w v vars (OfFormula x) (OfFormula y) named named2 apart few few2 is js has hbs e =
    let parts = card-same x.line y.line (codes "formula") (codes "formula") (formula_entries vars x) (formula_entries vars y) has.0 hbs.0 refl refl (formula-free 44 w vars x comma named has.1 is) (formula-free 44 v vars y comma named2 hbs.1 js) e in
    ap OfFormula (formula-same w v vars x y named named2 apart has.1 hbs.1 is js parts.0 parts.1.1)

table-points-free : (w : Around) (x : Device) → IsDevice w.sizes w.points x → AllFree 10 (numbered (table_line x.code) 1 (points_of w.points x.first x.count))
table-points-free w x is =
    numbered-free 10 (2 ^ 32) (table_line x.code) IsSmallPoint (λ n p less h. table-free x.code n p less h) 1 (points_of w.points x.first x.count)
    (omega (arith, is.few_points, points-count w.points x.first x.count is.points_there)) (device-small x.code (points_of w.points x.first x.count) is.points)

pub extra-free : (w : Around) (vars : List (List ℕ)) (x : Extra) → HasVarNames w vars → length w.points < 2 ^ 32 → IsExtra w.sizes w.points x → HasFewNames x → AllFree 10 (extra_lines vars w.points x)
extra-free w vars (OfDevice x) named few is has =
    (card-free 10 x.line (codes "device") (device_entries vars x) (omega arith) has refl refl (device-free 10 w vars x line_end named few is), table-points-free w x is)
extra-free w vars (OfFormula x) named few is has =
    (card-free 10 x.line (codes "formula") (formula_entries vars x) (omega arith) has.0 refl refl (formula-free 10 w vars x line_end named has.1 is), tt)

table-points-same : (w v : Around) (x : Device) → IsDevice w.sizes w.points x → IsDevice v.sizes v.points x
    → numbered (table_line x.code) 1 (points_of w.points x.first x.count) ≡ numbered (table_line x.code) 1 (points_of v.points x.first x.count) → points_of w.points x.first x.count ≡ points_of v.points x.first x.count
table-points-same w v x is js e =
    numbered-same (2 ^ 32) (table_line x.code) (table_line x.code) IsSmallPoint IsSmallPoint (λ n p q less h k same. table-same x.code n p q less h k same) 1 (points_of w.points x.first x.count) (points_of v.points x.first x.count)
    (omega (arith, is.few_points, points-count w.points x.first x.count is.points_there))
    (device-small x.code (points_of w.points x.first x.count) is.points) (device-small x.code (points_of v.points x.first x.count) js.points) e

-- the lines of a card's points, and more behind them
extra-points-same : (w v : Around) (x : Extra) (s t : List (List ℕ)) → IsExtra w.sizes w.points x → IsExtra v.sizes v.points x → extra_points w.points x ++ s ≡ extra_points v.points x ++ t
    → (table_of w.points x ≡ table_of v.points x) × (s ≡ t)
extra-points-same w v (OfDevice x) s t is js e =
    let parts = front-same (extra_points w.points (OfDevice x)) (extra_points v.points (OfDevice x)) s t
    (numbered-length (table_line x.code) 1 (points_of w.points x.first x.count) ∙ points-count w.points x.first x.count is.points_there
    ∙ sym (numbered-length (table_line x.code) 1 (points_of v.points x.first x.count) ∙ points-count v.points x.first x.count js.points_there)) e in
    (table-points-same w v x is js parts.0, parts.1)
extra-points-same w v (OfFormula x) s t is js e = (refl, e)

pub extra-same : (w v : Around) (vars : List (List ℕ)) (x y : Extra) (s t : List (List ℕ)) → HasVarNames w vars → HasVarNames v vars → AreApart vars → length w.points < 2 ^ 32 → length v.points < 2 ^ 32
    → IsExtra w.sizes w.points x → IsExtra v.sizes v.points y → HasFewNames x → HasFewNames y → extra_lines vars w.points x ++ s ≡ extra_lines vars v.points y ++ t
    → (x ≡ y) × ((table_of w.points x ≡ table_of v.points y) × (s ≡ t))
extra-same w v vars x y s t named named2 apart few few2 is js has hbs e =
    let first = extra-line-same w v vars x y named named2 apart few few2 is js has hbs (ap (λ (l : List (List ℕ)). get_or l 0 []) e) in
    let rest : extra_points w.points x ++ s ≡ extra_points v.points x ++ t =
    ap (λ (l : List (List ℕ)). drop 1 l) e ∙ ap (λ (z : Extra). extra_points v.points z ++ t) (sym first) in
    let parts = extra-points-same w v x s t is (subst (IsExtra v.sizes v.points) (sym first) js) rest in
    (first, (parts.0 ∙ ap (table_of v.points) first, parts.1))
