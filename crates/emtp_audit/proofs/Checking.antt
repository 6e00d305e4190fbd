-- A table of checks: the rules of its first entries, of the next one and of the others.
use Rattle.std.proofs.Common.{◌≡◌, ◌∙◌, sym, ap, ℕ, suc, ◌<◌, List, ◌∷◌, ◌++◌, map, length, take, drop, get_or, Some, append_assoc, take-append-drop}
use Rattle.std.proofs.Math.Seq.{drop-cons}
use Rattle.std.proofs.lemmas.List.{map-append}
use Rattle.emtp_audit.specs.held.Check.{rule_of}
use Rattle.emtp_audit.specs.Rules.{Rule}
use Rattle.emtp_audit.specs.held.Walk.{Walked, finds}
use Rattle.emtp_audit.specs.declared.check.Check.{Check}
use Rattle.emtp_audit.specs.declared.differs.Differs.{Differs}

-- a difference at an entry
pub checks-stop : (old mid : Walked) (checks : List Check) (i : ℕ) (other : Check) (differs : Differs) → i < length checks
    → ((more : List Rule) → finds old (map rule_of (take i checks) ++ more) ≡ finds mid more)
    → ((more : List Rule) → finds mid (rule_of (get_or checks i other) ∷ more) ≡ Some differs)
    → (more : List Rule) → finds old (map rule_of checks ++ more) ≡ Some differs
checks-stop old mid checks i other differs less pass stop more =
    let parts = take-append-drop i checks in
    let next = drop-cons checks i other less in
    let rest = map rule_of (drop (suc i) checks) in
    ap (λ (cs : List Check). finds old (map rule_of cs ++ more)) (sym parts)
    ∙ ap (λ (cs : List Check). finds old (map rule_of (take i checks ++ cs) ++ more)) next
    ∙ ap (λ (rs : List Rule). finds old (rs ++ more)) (map-append rule_of (take i checks) (get_or checks i other ∷ drop (suc i) checks))
    ∙ ap (finds old) (append_assoc (map rule_of (take i checks)) (rule_of (get_or checks i other) ∷ rest) more)
    ∙ pass (rule_of (get_or checks i other) ∷ (rest ++ more))
    ∙ stop (rest ++ more)
