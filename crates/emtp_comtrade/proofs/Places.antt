-- Places that pass a test, and what stands at places one after the other.
use Rattle.std.proofs.Common.{◌≡◌, ℕ, zero, suc, ◌+◌, ◌<◌, ◌≤◌, Bool, true, false, cond, inl, inr, add-one, arith, sym, ◌∙◌, ap}
use Rattle.std.proofs.lemmas.Bool.{cases_order}
use Rattle.emtp_comtrade.specs.Record.{count_below}

pub count_below-pass : (test : ℕ → Bool) (n : ℕ) → test n ≡ true → count_below test (n + 1) ≡ count_below test n + 1
count_below-pass test n pass =
    ap (λ (m : ℕ). count_below test m) (add-one n) ∙ ap (λ (b : Bool). count_below test n + cond b 1 0) pass

pub count_below-fail : (test : ℕ → Bool) (n : ℕ) → test n ≡ false → count_below test (n + 1) ≡ count_below test n
count_below-fail test n fail =
    ap (λ (m : ℕ). count_below test m) (add-one n) ∙ ap (λ (b : Bool). count_below test n + cond b 1 0) fail ∙ omega arith

at_most_one : (b : Bool) (n m : ℕ) → n ≤ m → n + cond b 1 0 ≤ suc m
at_most_one true n m le = omega arith
at_most_one false n m le = omega arith

pub count_below-le : (test : ℕ → Bool) (n : ℕ) → count_below test n ≤ n
count_below-le test zero = omega arith
count_below-le test (suc n) = at_most_one (test n) (count_below test n) n (count_below-le test n)

grows : (b : Bool) (n : ℕ) → n ≤ n + cond b 1 0
grows true n = omega arith
grows false n = omega arith

-- a place that passes is counted by those above it
pub count_below-less : (test : ℕ → Bool) (k n : ℕ) → k < n → test k ≡ true → count_below test k < count_below test n
count_below-less test k zero less pass = absurd (omega arith)
count_below-less test k (suc n) less pass =
    elim (cases_order k n) as (λ _. count_below test k < count_below test (suc n)) [
      | inl same ↦
          let here : count_below test k ≡ count_below test n = ap (λ (m : ℕ). count_below test m) same in
          let number : Bool → ℕ = λ b. cond b 1 0 in
          let one : number (test n) ≡ 1 = ap number (sym (ap test same) ∙ pass) in
          omega (arith, here, one)
      | inr order ↦ elim order as (λ _. count_below test k < count_below test (suc n)) [
        | inl below ↦ omega (arith, count_below-less test k n below pass, grows (test n) (count_below test n))
        | inr above ↦ absurd (omega arith)
      ]
    ]
