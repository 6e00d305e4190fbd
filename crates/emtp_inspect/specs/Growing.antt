-- Which series branch makes a current grow that nothing drives: its resistance and the fictitious one are below 0 together.
use Rattle.std.specs.Prelude.{◌++◌, ◌*ℤ◌, ◌^◌, ◌-◌, ◌==◌, ◌||◌, ◌∷◌, [], Bool, false, true, List, Option, Some, None, decimal, if◌then◌else◌, int_lt, min, neg_ℤ, not, slice_get, unwrap_or, ℕ, ℤ, pos}
use Rattle.std.specs.Str.{bytes_eq}
use Rattle.emtp_acting.specs.Fictitious.{fictitious_of, held, resistance_of, with_resistance}
use Rattle.emtp_acting.specs.declared.fictitious.Fictitious.{Fictitious}
use Rattle.emtp_case.specs.Branch.{from_of, to_of}
use Rattle.emtp_case.specs.RunData.{time_of}
use Rattle.emtp_case.specs.declared.branch.Branch.{Branch}
use Rattle.emtp_case.specs.declared.branch.Branch.TheVariants.{Lumped as OfLumped}
use Rattle.emtp_case.specs.declared.branch.Lumped.{Lumped}
use Rattle.emtp_case.specs.declared.case.Parts.{Parts}
use Rattle.emtp_fix.specs.Decimal.{fixed_text}
use Rattle.emtp_fix.specs.Rounding.{near}
use Rattle.emtp_inspect.specs.declared.growing.Grown.{Grown}
use Rattle.emtp_inspect.specs.declared.growing.TheConstants.{ACTS_WITH, BRANCH_OF_LINE, BUT_ANOTHER, FROM, GROUND, GROWS_BY, GROWTH_CURE, NONE_AT, OHM, TO}

-- ---- a branch

-- (R + r) t/L in 10^-9, held to 10^18, of R + r in 10^-9 ohm, a time in ps and an inductance in nH
abbrev pub growth_of : ℤ → ℤ → ℤ → ℤ
growth_of acting time l = held (near (acting *ℤ time) (pos 1000 *ℤ l))

-- of an inductance, where a current grows by more than a thousandth of itself: r, and (R + r) t/L
abbrev pub grown_by : Fictitious → ℤ → Lumped → Option Grown
grown_by f growth b =
    if int_lt growth (neg_ℤ (pos (10 ^ 6))) then Some (record { branch = b; resistance = resistance_of f; growth = growth })
    else None

abbrev pub grown_with : Fictitious → ℤ → Lumped → Option Grown
grown_with f time b = if int_lt (pos 0) b.l then grown_by f (growth_of (with_resistance f b.r) time b.l) b else None

abbrev pub grown_of : ℤ → ℤ → Branch → Option Grown
grown_of dt time (OfLumped b) = grown_with (fictitious_of dt b) time b
grown_of dt time other = None

-- ---- of a case

-- the name of a node, or the word for ground
abbrev pub node_name : List (List ℕ) → ℕ → List ℕ
node_name names node = if node == 0 then GROUND.now else unwrap_or (slice_get names (node - 1)) []

abbrev pub ends_at : List (List ℕ) → List ℕ → Branch → Bool
ends_at names name b = bytes_eq (node_name names (from_of b)) name || bytes_eq (node_name names (to_of b)) name

-- at the node of a name, where it has to
abbrev pub is_sought : List (List ℕ) → Bool → List ℕ → Branch → Bool
is_sought names here name b = not here || ends_at names name b

abbrev pub grown_at : Parts → ℤ → Bool → List ℕ → Branch → Option Grown
grown_at p time here name b = if is_sought p.nodes here name b then grown_of p.run.dt time b else None

-- the greater growth, the first of two alike
abbrev pub greater : Option Grown → Option Grown → Option Grown
greater best None = best
greater None (Some next) = Some next
greater (Some best) (Some next) = if int_lt next.growth best.growth then Some next else Some best

abbrev pub greatest_from : Parts → ℤ → Bool → List ℕ → Option Grown → List Branch → Option Grown
greatest_from p time here name best [] = best
greatest_from p time here name best (b ∷ bs) = greatest_from p time here name (greater best (grown_at p time here name b)) bs

-- the greatest growth of all branches, or of those that stand at the node of a name
abbrev pub greatest : Parts → ℤ → Bool → List ℕ → Option Grown
greatest p time here name = greatest_from p time here name None p.branches

-- ---- what is told

unfoldable pub named_text : List (List ℕ) → Lumped → List ℕ
named_text names b =
    BRANCH_OF_LINE.now ++ decimal b.line ++ FROM.now ++ node_name names b.from ++ TO.now ++ node_name names b.to

unfoldable pub framed_text : List ℕ → ℤ → List ℕ → List ℕ
framed_text front value behind = front ++ fixed_text value 9 ++ behind

-- r, and (R + r) t/L
unfoldable pub growth_text : ℤ → ℤ → List ℕ
growth_text resistance growth =
    framed_text ACTS_WITH.now resistance OHM.now ++ framed_text GROWS_BY.now growth GROWTH_CURE.now

unfoldable pub grown_text : List (List ℕ) → Grown → List ℕ
grown_text names g = named_text names g.branch ++ growth_text g.resistance g.growth

-- of another branch it is said that none at the node does that
unfoldable pub another_text : List (List ℕ) → List ℕ → Grown → List ℕ
another_text names name g = NONE_AT.now ++ name ++ BUT_ANOTHER.now ++ grown_text names g

abbrev pub elsewhere_text : List (List ℕ) → List ℕ → Option Grown → List ℕ
elsewhere_text names name None = []
elsewhere_text names name (Some g) = another_text names name g

abbrev pub found_text : Parts → ℤ → List ℕ → Option Grown → List ℕ
found_text p time name (Some g) = grown_text p.nodes g
found_text p time name None = elsewhere_text p.nodes name (greatest p time false name)

-- the branch at a node with the greatest growth in a time, or else that of the case; nothing where there is none
abbrev pub growing_text : Parts → ℤ → List ℕ → List ℕ
growing_text p time name = found_text p time name (greatest p time true name)

-- up to a step, which a run that it is of has
abbrev pub growing_by : Parts → ℕ → List ℕ → List ℕ
growing_by p step name = growing_text p (time_of p.run (min step p.run.steps)) name
