-- The two-ports of all branches, put into their places.
use Rattle.std.proofs.Common.{◌≡◌, ◌∙◌, sym, ap, ℕ, ◌+◌, ◌<◌, ◌≤◌, ℤ, All, List, length, get_or, slice_set, get_or-set_same, get_or-set_other, inl, inr, arith}
use Rattle.std.proofs.lemmas.Bool.{cases_eq}
use Rattle.std.proofs.lemmas.List.{ext_get_or, get_or-map, get_or_default, length-map}
use Rattle.emtp_case.specs.declared.branch.Branch.{Branch}
use Rattle.emtp_case.specs.declared.case.Parts.{Parts}
use Rattle.emtp_admittance.specs.Admittances.{no_port, port_at}
use Rattle.emtp_admittance.specs.held.Admittances.{IsSmallPort}
use Rattle.emtp_admittance.specs.held.Ports.{ArePorts}
use Rattle.emtp_admittance.specs.Impedance.{port_of, port_or_none, ports_of}
use Rattle.emtp_admittance.specs.declared.admittance.TwoPort.{TwoPort}

pub length-ports_of : (case : Parts) (freq : ℤ) → length (ports_of case freq) ≡ length case.branches
length-ports_of case freq = length-map case.branches (λ b. port_or_none (port_of freq b))

-- that of the branch that an index read
pub port_here : (case : Parts) (freq : ℤ) (others : List Branch) (at : ℕ) (d x : Branch) → others ≡ case.branches → at < length case.branches → get_or others at d ≡ x → port_or_none (port_of freq x) ≡ port_at (ports_of case freq) at
port_here case freq others at d x same there is =
    let f : Branch → TwoPort = λ b. port_or_none (port_of freq b) in
    ap f (sym is ∙ ap (λ bs. get_or bs at d) same) ∙ sym (get_or-map f case.branches at d no_port there)

-- one more
pub ports_more : (case : Parts) (freq : ℤ) (out : List TwoPort) (at : ℕ) (y : TwoPort) → at < length out → y ≡ port_at (ports_of case freq) at → IsSmallPort y
    → ArePorts case freq out at
    → ArePorts case freq (slice_set out at y) (at + 1)
ports_more case freq out at y inside is small before = record {
  value = λ k below. elim (cases_eq k at) [
    | inl same ↦ rw (same, get_or-set_same) is
    | inr ne ↦ rw get_or-set_other (before.value k (omega (arith, below, ne)))
  ];
  small = λ k below. elim (cases_eq k at) [
    | inl same ↦ rw (same, get_or-set_same) small
    | inr ne ↦ rw get_or-set_other (before.small k (omega (arith, below, ne)))
  ];
}

-- all of them
pub ports_all : (case : Parts) (freq : ℤ) (out : List TwoPort) (count : ℕ) → length out ≡ length case.branches → length case.branches ≤ count
    → ArePorts case freq out count
    → out ≡ ports_of case freq
ports_all case freq out count long all ports =
    ext_get_or no_port out (ports_of case freq) (long ∙ sym (length-ports_of case freq)) (λ k below. ports.value k (omega (arith, below, long, all)))

pub ports_small : (case : Parts) (freq : ℤ) (out : List TwoPort) (count : ℕ) → length out ≡ length case.branches → length case.branches ≤ count
    → ArePorts case freq out count
    → All IsSmallPort out
ports_small case freq out count long all ports = λ k d below. rw (get_or_default out k d no_port below) (ports.small k (omega (arith, below, long, all)))
