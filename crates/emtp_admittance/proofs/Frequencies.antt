-- The frequency of a source is in range.
use Rattle.std.proofs.Common.{◌≡◌, ◌∙◌, sym, suc, ◌^◌, ℤ, pos, Bool, true, false, if◌then◌else◌, All, List, [], ◌∷◌, Option, Some, None, refl, arith}
use Rattle.std.specs.Option.{option_or}
use Rattle.std.specs.Ordering.{int_eq}
use Rattle.std.proofs.lemmas.Int.{ints}
use Rattle.std.proofs.lemmas.Bool.{true≢false}
use Rattle.std.proofs.lemmas.Bool.Decides.{Decides-int_eq}
use Rattle.emtp_case.specs.held.Range.{IsBetween}
use Rattle.emtp_admittance.specs.held.Frequency.{IsFrequency}
use Rattle.emtp_case.specs.held.Sizes.{Sizes}
use Rattle.emtp_case.specs.held.Source.{HasShapeNumbers, IsSource}
use Rattle.emtp_case.specs.declared.source.Shape.{Shape}
use Rattle.emtp_case.specs.declared.source.Shape.TheVariants.{Cosine, NodeVoltage, Pulse, Ramp, Saw, Step, SwitchCurrent, SwitchStatus, Tacs}
use Rattle.emtp_case.specs.declared.source.Source.{Source}
use Rattle.emtp_admittance.specs.Refusals.{first_frequency, frequency_in}

none_some : {X : Type 0} (x : X) → None ≡ Some x → ⊥
none_some x e = cc

by_test : (b : Bool) (f freq : ℤ) → int_eq f (pos 0) ≡ b → IsBetween 0 (10 ^ 13) f → (if b then None else Some f) ≡ Some freq → IsFrequency freq
by_test true f freq is range e = absurd (none_some freq e)
by_test false f freq is range e =
    let same : f ≡ freq = cc in
    let apart : f ≡ pos 0 → ⊥ = λ zero. true≢false (sym ((Decides-int_eq f (pos 0)).1 zero) ∙ is) in
    rw (sym same) (record { least = omega (arith, ints, range.least, apart); most = range.most })

by_shape : (s : Source) (shape : Shape) (freq : ℤ) → HasShapeNumbers s shape → frequency_in shape ≡ Some freq → IsFrequency freq
by_shape s Step freq numbers e = absurd (none_some freq e)
by_shape s (Ramp rise) freq numbers e = absurd (none_some freq e)
by_shape s (Cosine f phase) freq numbers e = by_test (int_eq f (pos 0)) f freq refl numbers.0 e
by_shape s (Tacs var) freq numbers e = absurd (none_some freq e)
by_shape s (Pulse period width) freq numbers e = absurd (none_some freq e)
by_shape s (Saw period) freq numbers e = absurd (none_some freq e)
by_shape s (NodeVoltage node) freq numbers e = absurd (none_some freq e)
by_shape s (SwitchCurrent switch) freq numbers e = absurd (none_some freq e)
by_shape s (SwitchStatus switch) freq numbers e = absurd (none_some freq e)

chosen : (o p : Option ℤ) (freq : ℤ) → (o ≡ Some freq → IsFrequency freq) → (p ≡ Some freq → IsFrequency freq) → option_or o p ≡ Some freq → IsFrequency freq
chosen None p freq first later e = later e
chosen (Some f) p freq first later e = first e

pub first_range : (n : Sizes) (sources : List Source) (freq : ℤ) → All (IsSource n) sources → first_frequency sources ≡ Some freq → IsFrequency freq
first_range n [] freq all e = absurd (none_some freq e)
first_range n (s ∷ rest) freq all e =
    let head : IsSource n s = all 0 s (omega arith) in
    chosen (frequency_in s.shape) (first_frequency rest) freq (by_shape s s.shape freq head.numbers.shape) (first_range n rest freq (λ i d below. all (suc i) d (omega (arith, below)))) e
