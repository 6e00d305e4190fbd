-- The source of a scan stands in the case.
use Rattle.std.proofs.Common.{◌≡◌, sym, subst, ℤ, pos, ◌<ℤ◌, int_lt, ◌&&◌, Bool, true, false, if◌then◌else◌, All, List, [], ◌∷◌, Option, Some, None, Result, Ok, Err, IfOk, refl, arith}
use Rattle.std.proofs.lemmas.Int.{ints}
use Rattle.emtp_fix.proofs.Chaining.{same_ok, unless_ok}
use Rattle.emtp_case.specs.held.Sizes.{sizes_of}
use Rattle.emtp_case.specs.held.Source.{IsSource}
use Rattle.emtp_case.specs.declared.case.Parts.{Parts}
use Rattle.emtp_case.specs.declared.source.Source.{Source}
use Rattle.emtp_admittance.specs.Probes.{card_barred, is_plain_cosine, is_probe, probe_in, scanned_by}
use Rattle.emtp_admittance.specs.held.Probes.{IsProbe}
use Rattle.emtp_admittance.specs.declared.probe.Probe.{Probe}
use Rattle.emtp_admittance.specs.declared.refusal.Refused.{Refused}

none_some : {X : Type 0} (x : X) → None ≡ Some x → ⊥
none_some x e = cc

both : (a b : Bool) → (a && b) ≡ true → b ≡ true
both true b e = e
both false b e = absurd (cc)

by_test : (case : Parts) (s : Source) (p : Probe) (b : Bool) → IsSource (sizes_of case) s → is_probe s ≡ b → (if b then Some (record { node = s.node; amplitude = s.amplitude }) else None) ≡ Some p → IsProbe case p
by_test case s p false fits is e = absurd (none_some p e)
by_test case s p true fits is e =
    let made : Probe = record { node = s.node; amplitude = s.amplitude } in
    let same : made ≡ p = cc in
    let above : pos 0 <ℤ s.amplitude = larger s.amplitude (both (s.current && is_plain_cosine s.shape) (int_lt (pos 0) s.amplitude) is) in
    subst (IsProbe case) same (record { node = record { low = fits.above_ground; high = fits.there }; above = above })
  where
    larger : (a : ℤ) → int_lt (pos 0) a ≡ true → pos 0 <ℤ a
    larger a e = grind (arith, ints)

pub probe_fits : (case : Parts) (sources : List Source) (p : Probe) → All (IsSource (sizes_of case)) sources → probe_in sources ≡ Some p → IsProbe case p
probe_fits case [] p all e = absurd (none_some p e)
probe_fits case (s ∷ []) p all e = by_test case s p (is_probe s) (all 0 s (omega arith)) refl e
probe_fits case (s ∷ other ∷ rest) p all e = absurd (none_some p e)

by_source : (case : Parts) (o : Option Probe) (p : Probe) → Ok p ≡ scanned_by case o → ((q : Probe) → o ≡ Some q → IsProbe case q) → IsProbe case p
by_source case None p e fits = absurd (cc)
by_source case (Some q) p e fits = subst (IsProbe case) (same_ok q p (unless_ok (card_barred case) (λ refused. refused) (Ok q) p (sym e)).1) (fits q refl)

pub scanned_fits : (case : Parts) (o : Option Probe) (r : Result Probe Refused) → r ≡ scanned_by case o → ((q : Probe) → o ≡ Some q → IsProbe case q) → IfOk r (IsProbe case)
scanned_fits case o (Ok p) e fits = by_source case o p e fits
scanned_fits case o (Err r) e fits = tt
