-- Where the lines of a configuration stand.
use Rattle.std.proofs.Common.{◌≡◌, ◌∙◌, sym, ap, ℕ, zero, suc, ◌+◌, ◌-◌, Bool, true, false, cond, not, List, [], ◌∷◌, ◌++◌, length, get_or, Option, pos, ◌≤◌, refl, arith, append-nil, length-append}
use Rattle.std.specs.Prelude.{max}
use Rattle.emtp_case.specs.declared.case.Parts.{Parts}
use Rattle.emtp_comtrade.specs.Record.{joined, is_status_at, analog_before, status_before}
use Rattle.emtp_audit.specs.Cfg.{file_line, scale_on, rate_rule, rate_rules, date_rules, head_rules, analog_rule, analog_rule_at, status_rule, status_rule_at, analog_scales, rates_in, cfg_rules, cfg_differs}
use Rattle.emtp_audit.specs.held.Cfg.{analog_scales_on, scales_at}
use Rattle.emtp_audit.specs.Rules.{Fields, any_field, number_is, audited_lines}
use Rattle.emtp_audit.specs.held.Walk.{Behind, LinesLeft, finds_lines}
use Rattle.emtp_audit.specs.declared.differs.Differs.{Differs}
use Rattle.emtp_audit.specs.declared.scale.Scale.{Scale}
use Rattle.emtp_audit.proofs.DatFile.{short_enough}
use Rattle.emtp_audit.proofs.Joined.{length-joined, joined-same}
use Rattle.emtp_audit.proofs.LineWalks.{behind-both}
use Rattle.emtp_audit.specs.declared.limit.TheConstants.{MOST_BYTES}

-- ---- channels

-- one an analog channel, and one a status channel
pub length-analog : {A : Type 0} (p : Parts) (at : ℕ → A) (n : ℕ) → length (joined n (λ place. cond (is_status_at p place) [] (at place ∷ []))) ≡ analog_before p n
length-analog p at zero = refl
length-analog {A = A} p at (suc n) =
    length-append (joined n (λ place. cond (is_status_at p place) [] (at place ∷ []))) (cond (is_status_at p n) [] (at n ∷ []))
    ∙ ap (λ (k : ℕ). k + length (cond (is_status_at p n) [] (at n ∷ []))) (length-analog p at n)
    ∙ ap (λ (k : ℕ). analog_before p n + k) (one (is_status_at p n) (at n))
  where
    one : (t : Bool) (x : A) → length (cond t [] (x ∷ [])) ≡ cond (not t) 1 0
    one true x = refl
    one false x = refl

pub length-status : {A : Type 0} (p : Parts) (at : ℕ → A) (n : ℕ) → length (joined n (λ place. cond (is_status_at p place) (at place ∷ []) [])) ≡ status_before p n
length-status p at zero = refl
length-status {A = A} p at (suc n) =
    length-append (joined n (λ place. cond (is_status_at p place) (at place ∷ []) [])) (cond (is_status_at p n) (at n ∷ []) [])
    ∙ ap (λ (k : ℕ). k + length (cond (is_status_at p n) (at n ∷ []) [])) (length-status p at n)
    ∙ ap (λ (k : ℕ). status_before p n + k) (one (is_status_at p n) (at n))
  where
    one : (t : Bool) (x : A) → length (cond t (x ∷ []) []) ≡ cond t 1 0
    one true x = refl
    one false x = refl

pub each-is-one : (p : Parts) (n : ℕ) → analog_before p n + status_before p n ≡ n
each-is-one p zero = omega arith
each-is-one p (suc n) = both (is_status_at p n) (analog_before p n) (status_before p n) n (each-is-one p n)
  where
    both : (t : Bool) (a s n : ℕ) → a + s ≡ n → (a + cond (not t) 1 0) + (s + cond t 1 0) ≡ suc n
    both true a s n e = omega arith
    both false a s n e = omega arith

-- the scale of one more channel
pub scales-next : (p : Parts) (place : ℕ) (all now : List (List ℕ)) (items : List Scale) → items ≡ analog_scales_on (analog_before p place) all
    → Behind all (length (joined place (analog_rule_at p))) now → items ++ scales_at p place now ≡ analog_scales_on (analog_before p (place + 1)) all
scales-next p place all now items is behind =
    ap (λ (xs : List Scale). xs ++ scales_at p place now) is
    ∙ ap (λ (line : List ℕ). analog_scales_on (analog_before p place) all ++ cond (is_status_at p place) [] (scale_on line ∷ [])) here
    ∙ one (is_status_at p place)
    ∙ ap (λ (k : ℕ). analog_scales_on (analog_before p k) all) (next place)
  where
    next : (k : ℕ) → suc k ≡ k + 1
    next k = omega arith

    none : (k : ℕ) → k + 0 ≡ k
    none k = omega arith

    here : get_or now 0 [] ≡ get_or all (analog_before p place) []
    here = sym (behind 0) ∙ ap (λ (k : ℕ). get_or all k []) (none (length (joined place (analog_rule_at p))) ∙ length-analog p (analog_rule p) place)

    one : (t : Bool) → analog_scales_on (analog_before p place) all ++ cond t [] (scale_on (get_or all (analog_before p place) []) ∷ []) ≡ analog_scales_on (analog_before p place + cond (not t) 1 0) all
    one true = append-nil (analog_scales_on (analog_before p place) all) ∙ ap (λ (k : ℕ). analog_scales_on k all) (sym (none (analog_before p place)))
    one false = ap (λ (k : ℕ). analog_scales_on k all) (next (analog_before p place))

-- the scales by the lines of all, and by those behind the head
pub scales-behind : (p : Parts) (all rest : List (List ℕ)) → Behind all (length (head_rules p)) rest → analog_scales_on (analog_before p (length p.channels)) rest ≡ analog_scales p all
scales-behind p all rest behind =
    joined-same (λ number. scale_on (file_line rest number) ∷ []) (λ number. scale_on (file_line all (2 + number)) ∷ []) (analog_before p (length p.channels))
    (λ number less. ap (λ (line : List ℕ). scale_on line ∷ []) (sym (behind number)))

-- behind all channels
pub behind-channels : (p : Parts) (all first second rest : List (List ℕ)) → Behind all (length (head_rules p)) first → Behind first (length (joined (length p.channels) (analog_rule_at p))) second
    → Behind second (length (joined (length p.channels) (status_rule_at p))) rest → (k : ℕ) → get_or all (length p.channels + 2 + k) [] ≡ get_or rest k []
behind-channels p all first second rest head analog status k =
    let n = length p.channels in
    let a = length (joined n (analog_rule_at p)) in
    let s = length (joined n (status_rule_at p)) in
    let place : n + 2 + k ≡ (2 + (a + s)) + k = counted n a s k (length-analog p (analog_rule p) n) (length-status p (status_rule p) n) in
    ap (λ (j : ℕ). get_or all j []) place
    ∙ behind-both all first rest 2 (a + s) head (behind-both first second rest a s analog status) k
  where
    counted : (n a s k : ℕ) → a ≡ analog_before p n → s ≡ status_before p n → n + 2 + k ≡ (2 + (a + s)) + k
    counted n a s k e f = omega (arith, e, f, each-is-one p n)

-- ---- behind the channels

length-rates : (rates count : ℕ) → length (rate_rules rates count) ≡ max rates 1
length-rates rates count =
    omega (arith, length-append (joined (rates - 1) (λ rate. rate_rule ∷ [])) (Fields (any_field ∷ number_is (pos count) ∷ []) ∷ []), length-joined (λ (rate : ℕ). rate_rule) (rates - 1))

pub behind-rates : (rates count : ℕ) (all mid rest : List (List ℕ)) → Behind all (length (rate_rules rates count)) mid → Behind mid (length date_rules) rest
    → get_or all (3 + max rates 1) [] ≡ get_or rest 0 []
behind-rates rates count all mid rest first second =
    ap (λ (k : ℕ). get_or all k []) (place (max rates 1) (length (rate_rules rates count)) (length-rates rates count))
    ∙ behind-both all mid rest (length (rate_rules rates count)) 3 first second 0
  where
    place : (m l : ℕ) → l ≡ m → 3 + m ≡ (l + 3) + 0
    place m l e = omega arith

-- ---- the file

pub cfg-start : (p : Parts) (count : ℕ) (bytes : List ℕ) (start : LinesLeft) (found : Option Differs) → length bytes ≤ MOST_BYTES
    → start ≡ record { taken = 0; lines = audited_lines bytes } → finds_lines start (cfg_rules p count (rates_in p (audited_lines bytes))) ≡ found → cfg_differs p count bytes ≡ found
unfolding cfg_differs
cfg-start p count bytes start found short is finds =
    let rules = cfg_rules p count (rates_in p (audited_lines bytes)) in
    short_enough false rules bytes short ∙ ap (λ (w : LinesLeft). finds_lines w rules) (sym is) ∙ finds
