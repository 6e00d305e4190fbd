-- Walks over the fields of a line.
use Rattle.std.proofs.Common.{◌≡◌, ◌++◌, ◌∙◌, sym, ap, ℕ, suc, ◌+◌, ◌-◌, ◌<◌, ◌≤◌, Bool, true, false, cond, List, [], ◌∷◌, Option, Some, None, Result, Ok, Err, map, length, take, drop, position, ltb, refl, arith, append_assoc, length-drop, not}
use Rattle.std.specs.List.{slice_split, position_or_len}
use Rattle.std.proofs.lemmas.Bool.{ltb-false}
use Rattle.std.proofs.lemmas.List.{take_all}
use Rattle.std.proofs.lemmas.List.Quantifiers.{position-Some}
use Rattle.std.proofs.lemmas.List.Splits.{slice_split_first, slice_split_none}
use Rattle.std.proofs.lemmas.List.Sums.{position_or_len_is, fails_before_first}
use Rattle.emtp_card.specs.Name.{is_comma}
use Rattle.emtp_card.specs.Field.{trimmed}
use Rattle.emtp_case.specs.declared.case.Parts.{Parts}
use Rattle.emtp_comtrade.specs.Record.{joined}
use Rattle.emtp_comtrade.specs.Record.{is_status_at, is_analog_at, analog_before}
use Rattle.emtp_comtrade.proofs.Places.{count_below-less}
use Rattle.emtp_audit.proofs.Joined.{later}
use Rattle.emtp_audit.specs.Rules.{Rule, comma_fields, fields_differ, differs_at, cause_or_later}
use Rattle.emtp_audit.specs.held.Walk.{Walked, finds, Walks, TakesField, JudgesField}
use Rattle.emtp_audit.specs.declared.differs.DifferCause.{DifferCause}
use Rattle.emtp_audit.specs.declared.differs.DifferCause.TheVariants.{Extra}
use Rattle.emtp_audit.specs.declared.differs.Differs.{Differs}

-- ---- pieces

-- where the first comma is
found_is : (xs : List ℕ) (place : ℕ) → position is_comma xs ≡ Some place → (place < length xs) × (position_or_len is_comma xs ≡ place)
found_is xs place h =
    let found = position-Some is_comma xs place 0 h in
    (found.0, position_or_len_is is_comma xs place 0 (omega (arith, found.0)) found.2 (λ _. found.1))

none_is : (xs : List ℕ) → position is_comma xs ≡ None → length xs ≤ position_or_len is_comma xs
none_is xs h =
    let first = position_or_len is_comma xs in
    elim (ltb first (length xs)) as (λ t. ltb first (length xs) ≡ t → cond t (Some first) None ≡ None → length xs ≤ first) [
      | true ↦ λ below e. absurd (cc)
      | false ↦ λ past _. ltb-false first (length xs) past
    ] refl h

piece-some : (xs : List ℕ) (place : ℕ) → position is_comma xs ≡ Some place
    → slice_split is_comma xs ≡ take place xs ∷ slice_split is_comma (take (length xs - (place + 1)) (drop (place + 1) xs))
piece-some xs place h =
    let found = found_is xs place h in
    let below : position_or_len is_comma xs < length xs = omega (arith, found.0, found.1) in
    slice_split_first is_comma xs 0 below
    ∙ ap (λ (k : ℕ). take k xs ∷ slice_split is_comma (drop (k + 1) xs)) found.1
    ∙ ap (λ (ys : List ℕ). take place xs ∷ slice_split is_comma ys) (sym (take_all (length xs - (place + 1)) (drop (place + 1) xs) (omega (arith, length-drop (place + 1) xs))))

piece-none : (xs : List ℕ) → position is_comma xs ≡ None → slice_split is_comma xs ≡ xs ∷ []
piece-none xs h = slice_split_none is_comma xs (λ k d below. fails_before_first is_comma xs k d (omega (arith, none_is xs h, below)))

pub fields-some : (xs : List ℕ) (place : ℕ) → position is_comma xs ≡ Some place
    → comma_fields xs ≡ trimmed (take place xs) ∷ comma_fields (take (length xs - (place + 1)) (drop (place + 1) xs))
unfolding comma_fields
fields-some xs place h = ap (map trimmed) (piece-some xs place h)

pub fields-last : (xs : List ℕ) → position is_comma xs ≡ None → comma_fields xs ≡ trimmed xs ∷ []
unfolding comma_fields
fields-last xs h = ap (map trimmed) (piece-none xs h)

-- ---- rules

-- one rule
pub walks-one : (old mid : Walked) (field : List ℕ) (rule : Rule) (cause : Option DifferCause) (result : Result (Unit {0}) Differs) → TakesField (Ok field) old mid → cause ≡ rule field → JudgesField result mid cause
    → Walks result old mid (rule ∷ [])
walks-one old mid field rule cause (Ok u) takes is judges = λ more.
    ap (λ (fs : List (List ℕ)). fields_differ old.dat old.line old.number (rule ∷ more) fs) takes.0
    ∙ ap (λ o. cause_or_later old.dat old.line old.number o (fields_differ old.dat old.line (old.number + 1) more mid.fields)) (sym is ∙ judges)
    ∙ ap (λ (l : ℕ). fields_differ old.dat l (old.number + 1) more mid.fields) (sym takes.1)
    ∙ ap (λ (n : ℕ). fields_differ old.dat mid.line n more mid.fields) (sym takes.2)
    ∙ ap (λ (d : Bool). fields_differ d mid.line mid.number more mid.fields) (sym takes.3)
walks-one old mid field rule None (Err differs) takes is judges = absurd judges
walks-one old mid field rule (Some cause) (Err differs) takes is judges = λ more.
    ap (λ (fs : List (List ℕ)). fields_differ old.dat old.line old.number (rule ∷ more) fs) takes.0
    ∙ ap (λ o. cause_or_later old.dat old.line old.number o (fields_differ old.dat old.line (old.number + 1) more mid.fields)) (sym is)
    ∙ ap (λ (l : ℕ). differs_at old.dat l old.number cause) (sym takes.1)
    ∙ ap (λ (d : Bool). differs_at d mid.line old.number cause) (sym takes.3)
    ∙ sym (judges old.number takes.2)

-- a field that is missing
pub walks-missing : (T : Type 0) (old new : Walked) (rule : Rule) (differs : Differs) → TakesField (Err differs) old new → Walks {T = T} (Err differs) old new (rule ∷ [])
walks-missing T old new rule differs takes = λ more.
    ap (λ (fs : List (List ℕ)). fields_differ old.dat old.line old.number (rule ∷ more) fs) takes.0 ∙ sym takes.1

-- a field too many
pub finds-extra : (old new : Walked) (field : List ℕ) (differs : Differs) → TakesField (Ok field) old new
    → ((at : ℕ) → new.number ≡ at + 1 → Some differs ≡ differs_at new.dat new.line at Extra) → finds old [] ≡ Some differs
finds-extra old new field differs takes is =
    ap (λ (fs : List (List ℕ)). fields_differ old.dat old.line old.number [] fs) takes.0
    ∙ ap (λ (l : ℕ). differs_at old.dat l old.number Extra) (sym takes.1)
    ∙ ap (λ (d : Bool). differs_at d new.line old.number Extra) (sym takes.3)
    ∙ sym (is old.number takes.2)

-- no rules
pub walks-none : {T : Type 0} (u : T) (w : Walked) → Walks (Ok u) w w []
walks-none u w = λ more. refl

-- rules after others that pass
pub walks-both : (old mid new : Walked) (first second : List Rule) {T U : Type 0} (u : U) (result : Result T Differs) → Walks (Ok u) old mid first → Walks result mid new second → Walks result old new (first ++ second)
walks-both old mid new first second v (Ok u) a b = λ more. ap (finds old) (append_assoc first second more) ∙ a (second ++ more) ∙ b more
walks-both old mid new first second v (Err differs) a b = λ more. ap (finds old) (append_assoc first second more) ∙ a (second ++ more) ∙ b more

-- rules before others
pub walks-stop : (T U : Type 0) (old new last : Walked) (first second : List Rule) (differs : Differs) → Walks {T = T} (Err differs) old new first → Walks {T = U} (Err differs) old last (first ++ second)
walks-stop T U old new last first second differs a = λ more. ap (finds old) (append_assoc first second more) ∙ a (second ++ more)

-- ---- channels

-- an analog channel is counted by those above it
pub analog-less : (p : Parts) (place : ℕ) (b : Bool) → place < length p.channels → b ≡ is_status_at p place → b ≡ false → analog_before p place < analog_before p (length p.channels)
analog-less p place b less is analog = count_below-less (is_analog_at p) place (length p.channels) less (ap not (sym is ∙ analog))

-- a difference at a place
pub walks-end : (old mid : Walked) (rules : ℕ → List Rule) (k n : ℕ) (differs : Differs) → k < n
    → ((more : List Rule) → finds old (joined k rules ++ more) ≡ finds mid more) → ((more : List Rule) → finds mid (rules k ++ more) ≡ Some differs)
    → (more : List Rule) → finds old (joined n rules ++ more) ≡ Some differs
walks-end old mid rules k n differs less a b more =
    let split = later n (suc k) rules (omega arith) in
    ap (λ (rs : List Rule). finds old (rs ++ more)) split.split
    ∙ ap (finds old) (append_assoc (joined k rules ++ rules k) split.rest more ∙ append_assoc (joined k rules) (rules k) (split.rest ++ more))
    ∙ a (rules k ++ (split.rest ++ more)) ∙ b (split.rest ++ more)
