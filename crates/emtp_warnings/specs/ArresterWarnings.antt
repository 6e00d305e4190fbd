-- The warnings of arresters that a wave comes to from a line, where no capacitance makes a front of it.
use Rattle.std.specs.List.{list_any}
use Rattle.std.specs.Ordering.{int_eq}
use Rattle.std.specs.Prelude.{◌*ℤ◌, ◌==◌, ◌&&◌, ◌||◌, Bool, None, Option, Some, false, int_le, not, slice_get, ℕ, ℤ, pos}
use Rattle.emtp_case.specs.Branch.{from_of, to_of}
use Rattle.emtp_case.specs.declared.branch.Branch.{Branch}
use Rattle.emtp_case.specs.declared.branch.Branch.TheVariants.{Line as OfLine, Lumped as OfLumped, Phase as OfPhase, Pseudo as OfPseudo}
use Rattle.emtp_case.specs.declared.branch.Lumped.{Lumped}
use Rattle.emtp_case.specs.declared.branch.Pseudo.{Pseudo}
use Rattle.emtp_case.specs.declared.branch.Trio.{Trio}
use Rattle.emtp_case.specs.declared.case.Parts.{Parts}
use Rattle.emtp_fix.specs.declared.limit.TheConstants.{NANO}
use Rattle.emtp_warnings.specs.declared.arresters.TheConstants.{STEPS_OF_A_FRONT}

-- ---- the line

abbrev pub stands_at : ℕ → Branch → Bool
stands_at node b = (from_of b == node) || (to_of b == node)

-- of the positive sequence
abbrev pub surge_of_trio : Option Trio → Option ℤ
surge_of_trio None = None
surge_of_trio (Some t) = slice_get t.zc 1

abbrev pub surge_impedance_of : Parts → Branch → Option ℤ
surge_impedance_of p (OfLumped b) = None
surge_impedance_of p (OfLine b) = Some b.zc
surge_impedance_of p (OfPseudo b) = None
surge_impedance_of p (OfPhase b) = surge_of_trio (slice_get p.trios b.trio)

-- ---- the capacitance

-- Z C is at least ten steps
abbrev pub is_slow : ℤ → ℤ → ℤ → Bool
is_slow dt zc c = int_le (STEPS_OF_A_FRONT *ℤ NANO *ℤ dt) (zc *ℤ c)

-- a capacitance alone, from the node to ground
abbrev pub is_capacitance_at : ℕ → Lumped → Bool
is_capacitance_at node b =
    int_eq b.r (pos 0) && int_eq b.l (pos 0) && ((b.from == node && b.to == 0) || (b.to == node && b.from == 0))

abbrev pub holds_wave : ℤ → ℕ → ℤ → Branch → Bool
holds_wave dt node zc (OfLumped b) = is_capacitance_at node b && is_slow dt zc b.c
holds_wave dt node zc other = false

-- ---- the arrester

abbrev pub is_without : Parts → ℕ → Option ℤ → Bool
is_without p node None = false
is_without p node (Some zc) = not (list_any (holds_wave p.run.dt node zc) p.branches)

-- a line that ends at the node, where no capacitance holds its waves
abbrev pub is_bare_end : Parts → ℕ → Branch → Bool
is_bare_end p node b = stands_at node b && is_without p node (surge_impedance_of p b)

-- ground has no waves
abbrev pub is_bare_at : Parts → ℕ → Bool
is_bare_at p node = not (node == 0) && list_any (is_bare_end p node) p.branches

abbrev pub is_bare_resistor : Parts → Pseudo → Bool
is_bare_resistor p x = not x.reactor && (is_bare_at p x.from || is_bare_at p x.to)

abbrev pub is_bare : Parts → Branch → Bool
is_bare p (OfPseudo x) = is_bare_resistor p x
is_bare p other = false
