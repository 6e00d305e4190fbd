-- A cosine repeats after whole turns.
use Rattle.std.proofs.Common.{◌≡◌, ◌∙◌, ◌*◌, ◌^◌, ap, ℕ, zero, suc, ℤ, pos, neg_ℤ, ◌+ℤ◌, ◌*ℤ◌, arith}
use Rattle.std.proofs.lemmas.Int.{ints}
use Rattle.emtp_fix.proofs.Wide.{mul_add}
use Rattle.emtp_fix.specs.Rounding.{near}
use Rattle.emtp_fix.specs.declared.limit.TheConstants.{TURN}
use Rattle.emtp_wave.proofs.Symmetry.{half_turn}
use Rattle.emtp_wave.specs.Cosine.{cosine}
use Rattle.emtp_wave.specs.Wave.{cosine_wave}

neg_twice : (z : ℤ) → neg_ℤ (neg_ℤ z) ≡ z
neg_twice z = omega (arith, ints)

-- two half turns
whole_turn : (p : ℤ) → cosine (p +ℤ pos TURN) ≡ cosine p
whole_turn p =
    let split : p +ℤ pos TURN ≡ p +ℤ pos (50 * 10 ^ 16) +ℤ pos (50 * 10 ^ 16) = omega (arith, ints) in
    ap cosine split ∙ half_turn (p +ℤ pos (50 * 10 ^ 16)) ∙ ap neg_ℤ (half_turn p) ∙ neg_twice (cosine p)

whole_turns : (k : ℕ) (p : ℤ) → cosine (p +ℤ pos (k * TURN)) ≡ cosine p
whole_turns zero p = let none : p +ℤ pos (0 * TURN) ≡ p = omega (arith, ints) in ap cosine none
whole_turns (suc k) p =
    let split : p +ℤ pos (suc k * TURN) ≡ p +ℤ pos (k * TURN) +ℤ pos TURN = omega (arith, ints) in
    ap cosine split ∙ whole_turn (p +ℤ pos (k * TURN)) ∙ whole_turns k p

pub wave_repeats : (amplitude freq phase t later : ℤ) (k : ℕ) → freq *ℤ later ≡ pos (k * TURN) → cosine_wave amplitude freq phase (t +ℤ later) ≡ cosine_wave amplitude freq phase t
wave_repeats amplitude freq phase t later k e =
    let on : freq *ℤ (t +ℤ later) +ℤ phase ≡ (freq *ℤ t +ℤ phase) +ℤ pos (k * TURN) = moved (freq *ℤ (t +ℤ later)) (freq *ℤ t) (freq *ℤ later) phase (pos (k * TURN)) (mul_add freq t later) e in
    ap (λ c. near (amplitude *ℤ c) (pos (10 ^ 12))) (ap cosine on ∙ whole_turns k (freq *ℤ t +ℤ phase))
  where
    moved : (all a b p n : ℤ) → all ≡ a +ℤ b → b ≡ n → all +ℤ p ≡ (a +ℤ p) +ℤ n
    moved all a b p n e f = omega (arith, ints, e, f)
