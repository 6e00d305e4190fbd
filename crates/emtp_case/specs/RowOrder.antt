-- The order of the rows. Nodes go by their numbers: it is an order by first appearance where the reader of a case numbers
-- nodes so, which a case doesn't keep.
use Rattle.emtp_case.specs.Branch.{from_of, to_of}
use Rattle.emtp_case.specs.Source.{is_voltage_source_at}
use Rattle.emtp_case.specs.declared.branch.Branch.{Branch}
use Rattle.emtp_case.specs.declared.branch.Branch.TheVariants.{Line as OfLine, Lumped as OfLumped, Phase as OfPhase, Pseudo as OfPseudo}
use Rattle.emtp_case.specs.declared.case.Parts.{Parts}
use Rattle.emtp_case.specs.declared.row_order.Class.{Class}
use Rattle.emtp_case.specs.declared.row_order.Class.TheVariants.{Changing, Constant, Source as SourceClass}
use Rattle.emtp_case.specs.declared.row_order.Key.{Key}
use Rattle.emtp_case.specs.declared.switch.Switch.{Switch}
use Rattle.std.specs.List.{list_any, range_with_len}
use Rattle.std.specs.Ordering.{is_lt, nat_cmp, on, then_cmp}
use Rattle.std.specs.Prelude.{◌+◌, ◌∷◌, ◌==◌, ◌&&◌, ◌||◌, if◌then◌else◌, [], Bool, List, count_by, false, length, suc, sum_by, true, zero, ℕ}
use Rattle.std.specs.declared.cmp.Ordering.{Ordering}

-- a branch has one end at each of its nodes
abbrev pub ends_at : ℕ → Branch → ℕ
ends_at node b = (if from_of b == node then 1 else 0) + (if to_of b == node then 1 else 0)

abbrev pub is_pseudo : Branch → Bool
is_pseudo (OfLumped b) = false
is_pseudo (OfLine b) = false
is_pseudo (OfPseudo b) = true
is_pseudo (OfPhase b) = false

abbrev pub is_pseudo_at : ℕ → Branch → Bool
is_pseudo_at node b = is_pseudo b && (from_of b == node || to_of b == node)

abbrev pub is_switch_at : ℕ → Switch → Bool
is_switch_at node s = s.from == node || s.to == node

-- a node with a voltage source, and one that touches a switch or a pseudo-nonlinear branch
abbrev pub has_source : Parts → ℕ → Bool
has_source p node = list_any (is_voltage_source_at node) p.sources

-- a node touches a switch of any kind, open or closed
abbrev pub touches_switch : Parts → ℕ → Bool
touches_switch p node = list_any (is_switch_at node) p.switches

abbrev pub may_change : Parts → ℕ → Bool
may_change p node = touches_switch p node || list_any (is_pseudo_at node) p.branches

abbrev pub class_of : Parts → ℕ → Class
class_of p node = if has_source p node then SourceClass else if may_change p node then Changing else Constant

-- the number of branch ends, by which only nodes of constant rows go
abbrev pub ends_in : Class → Parts → ℕ → ℕ
ends_in SourceClass p node = 0
ends_in Constant p node = sum_by (ends_at node) p.branches
ends_in Changing p node = 0

-- by what a node is put in order: its class, its number of branch ends, its own number
abbrev pub key_of : Parts → ℕ → Key
key_of p node = record { class = class_of p node; ends = ends_in (class_of p node) p node; node = node }

abbrev pub class_rank : Class → ℕ
class_rank SourceClass = 0
class_rank Constant = 1
class_rank Changing = 2

-- by class, then by ends, then by node
abbrev pub key_cmp : Key → Key → Ordering
key_cmp =
    then_cmp (on (λ (k : Key). class_rank k.class) nat_cmp)
    (then_cmp (on (λ (k : Key). k.ends) nat_cmp) (on (λ (k : Key). k.node) nat_cmp))

abbrev pub goes_before : Parts → ℕ → ℕ → Bool
goes_before p a b = is_lt (key_cmp (key_of p a) (key_of p b))

-- a number put in before the first one that it goes before
abbrev pub put_in : (ℕ → ℕ → Bool) → ℕ → List ℕ → List ℕ
put_in before n [] = n ∷ []
put_in before n (m ∷ rest) = if before n m then n ∷ m ∷ rest else m ∷ put_in before n rest

-- the nodes 1 to n in order
abbrev pub in_order : Parts → ℕ → List ℕ
in_order p zero = []
in_order p (suc n) = put_in (goes_before p) (suc n) (in_order p n)

-- the nodes by row, and how many of them have a voltage source
pub record Rows : Type 0 where
  pub nodes : List ℕ
  pub fixed : ℕ

abbrev pub order_of : Parts → Rows
order_of p = record { nodes = in_order p (length p.nodes); fixed = count_by (has_source p) (range_with_len 1 (length p.nodes)) }
