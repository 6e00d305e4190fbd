-- Lines of the record, piece by piece.
use Rattle.std.proofs.Common.{◌≡◌, ◌≢◌, ℕ, ◌+◌, ◌*◌, ◌≤◌, ℤ, pos, unsigned_abs, ◌-ℤ◌, ◌*ℤ◌, Bool, true, false, cond, ◌==◌, codes, List, [], ◌++◌, add-one, append-nil, append_assoc, sym, ◌∙◌, ap}
use Rattle.std.specs.Fmt.{signed_decimal}
use Rattle.emtp_case.specs.declared.case.Parts.{Parts}
use Rattle.emtp_fix.specs.Rounding.{near}
use Rattle.emtp_fix.proofs.Nearest.{near-rest}
use Rattle.emtp_comtrade.specs.Record.{joined, is_status_at, raw_at, state_at, multiplier_at, analog_line, analog_line_at, status_line, status_line_at}
use Rattle.emtp_machine.specs.Samples.{value_at}

-- the raw value lies at most half a multiplier from the value
pub raw-close : (value multiplier raw : ℤ) → multiplier ≢ pos 0 → raw ≡ near value multiplier → 2 * unsigned_abs (value -ℤ raw *ℤ multiplier) ≤ unsigned_abs multiplier
raw-close value multiplier raw nonzero is =
    rw is (near-rest value multiplier nonzero)

pub ruleset rounding = (raw-close)

-- one more place
pub joined-next : (initial text next : List ℕ) (at : ℕ → List ℕ) (n : ℕ) → text ≡ initial ++ joined n at → next ≡ text ++ at n
    → next ≡ initial ++ joined (n + 1) at
joined-next initial text next at n before is =
    is
    ∙ ap (λ (xs : List ℕ). xs ++ at n) before
    ∙ append_assoc initial (joined n at) (at n)
    ∙ ap (λ (m : ℕ). initial ++ joined m at) (sym (add-one n))

pub ruleset joining = (joined-next)

-- ---- states

pub state_at-none : (p : Parts) (samples : List (List ℤ)) (sample place : ℕ) (text : List ℕ) (b : Bool)
    → b ≡ is_status_at p place → b ≡ false → text ≡ text ++ state_at p samples sample place
unfolding state_at
state_at-none p samples sample place text b is analog =
    let choice : Bool → List ℕ = λ b. cond b (cond (unsigned_abs (value_at samples sample place) == 0) (codes ",0") (codes ",1")) [] in
    sym (append-nil text) ∙ ap (λ (xs : List ℕ). text ++ xs) (ap choice (sym analog ∙ is))

pub state_at-some : (p : Parts) (samples : List (List ℤ)) (sample place : ℕ) (text next digit : List ℕ) (b zero : Bool)
    → b ≡ is_status_at p place → b ≡ true → (unsigned_abs (value_at samples sample place) == 0) ≡ zero
    → next ≡ text ++ digit → digit ≡ cond zero (codes ",0") (codes ",1") → next ≡ text ++ state_at p samples sample place
unfolding state_at
state_at-some p samples sample place text next digit b zero is status test put which =
    let choice : Bool → Bool → List ℕ = λ b zero. cond b (cond zero (codes ",0") (codes ",1")) [] in
    put ∙ ap (λ (xs : List ℕ). text ++ xs) (which ∙ ap (λ (z : Bool). choice true z) (sym test) ∙ ap (λ (c : Bool). choice c (unsigned_abs (value_at samples sample place) == 0)) (sym status ∙ is))

-- ---- raw values

pub raw_at-none : (p : Parts) (samples : List (List ℤ)) (sample place : ℕ) (text : List ℕ) (b : Bool)
    → b ≡ is_status_at p place → b ≡ true → text ≡ text ++ raw_at p samples sample place
unfolding raw_at
raw_at-none p samples sample place text b is status =
    let choice : Bool → List ℕ = λ b. cond b [] (codes "," ++ signed_decimal (near (value_at samples sample place) (pos (multiplier_at samples place)))) in
    sym (append-nil text) ∙ ap (λ (xs : List ℕ). text ++ xs) (ap choice (sym status ∙ is))

pub raw_at-some : (p : Parts) (samples : List (List ℤ)) (sample place : ℕ) (text comma next : List ℕ) (b : Bool) (raw : ℤ)
    → b ≡ is_status_at p place → b ≡ false → raw ≡ near (value_at samples sample place) (pos (multiplier_at samples place))
    → comma ≡ text ++ codes "," → next ≡ comma ++ signed_decimal raw → next ≡ text ++ raw_at p samples sample place
unfolding raw_at
raw_at-some p samples sample place text comma next b raw is analog value put_comma put_raw =
    let choice : Bool → List ℕ = λ b. cond b [] (codes "," ++ signed_decimal (near (value_at samples sample place) (pos (multiplier_at samples place)))) in
    put_raw
    ∙ ap (λ (xs : List ℕ). xs ++ signed_decimal raw) put_comma
    ∙ append_assoc text (codes ",") (signed_decimal raw)
    ∙ ap (λ (z : ℤ). text ++ (codes "," ++ signed_decimal z)) value
    ∙ ap (λ (xs : List ℕ). text ++ xs) (ap choice (sym analog ∙ is))

-- ---- lines of channels

pub analog_line_at-none : (p : Parts) (samples : List (List ℤ)) (place : ℕ) (text : List ℕ) (b : Bool)
    → b ≡ is_status_at p place → b ≡ true → text ≡ text ++ analog_line_at p samples place
unfolding analog_line_at
analog_line_at-none p samples place text b is status =
    let choice : Bool → List ℕ = λ b. cond b [] (analog_line p (pos (multiplier_at samples place)) place) in
    sym (append-nil text) ∙ ap (λ (xs : List ℕ). text ++ xs) (ap choice (sym status ∙ is))

pub analog_line_at-some : (p : Parts) (samples : List (List ℤ)) (place : ℕ) (text next : List ℕ) (b : Bool) (multiplier : ℤ)
    → b ≡ is_status_at p place → b ≡ false → multiplier ≡ pos (multiplier_at samples place)
    → next ≡ text ++ analog_line p multiplier place → next ≡ text ++ analog_line_at p samples place
unfolding analog_line_at
analog_line_at-some p samples place text next b multiplier is analog value put =
    let choice : Bool → List ℕ = λ b. cond b [] (analog_line p (pos (multiplier_at samples place)) place) in
    put
    ∙ ap (λ (m : ℤ). text ++ analog_line p m place) value
    ∙ ap (λ (xs : List ℕ). text ++ xs) (ap choice (sym analog ∙ is))

pub status_line_at-none : (p : Parts) (place : ℕ) (text : List ℕ) (b : Bool)
    → b ≡ is_status_at p place → b ≡ false → text ≡ text ++ status_line_at p place
unfolding status_line_at
status_line_at-none p place text b is analog =
    let choice : Bool → List ℕ = λ b. cond b (status_line p place) [] in
    sym (append-nil text) ∙ ap (λ (xs : List ℕ). text ++ xs) (ap choice (sym analog ∙ is))

pub status_line_at-some : (p : Parts) (place : ℕ) (text next : List ℕ) (b : Bool)
    → b ≡ is_status_at p place → b ≡ true → next ≡ text ++ status_line p place → next ≡ text ++ status_line_at p place
unfolding status_line_at
status_line_at-some p place text next b is status put =
    let choice : Bool → List ℕ = λ b. cond b (status_line p place) [] in
    put ∙ ap (λ (xs : List ℕ). text ++ xs) (ap choice (sym status ∙ is))
