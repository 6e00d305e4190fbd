-- The refusal of the least line, card by card.
use Rattle.std.proofs.Common.{◌≡◌, ◌∙◌, sym, ap, ℕ, ◌+◌, ◌<◌, ◌≤◌, nat_le, Bool, true, false, if◌then◌else◌, List, length, drop, get_or, Option, Some, None, refl, arith}
use Rattle.std.proofs.lemmas.Bool.Decides.{nat_tests}
use Rattle.std.proofs.lemmas.List.{at_drop_more, drop_all, get_or_default}
use Rattle.emtp_admittance.specs.Refusals.{least_refusal, sooner}
use Rattle.emtp_admittance.specs.declared.refusal.Refused.{Refused}

-- of three the least may be taken from either end
pub sooner_chain : (a b c : Option Refused) → sooner a (sooner b c) ≡ sooner (sooner a b) c
sooner_chain None b c = refl
sooner_chain (Some a) None c = refl
sooner_chain (Some a) (Some b) None = by_line (nat_le a.line b.line)
  where
    by_line : (t : Bool) → (if t then Some a else Some b) ≡ sooner (if t then Some a else Some b) None
    by_line true = refl
    by_line false = refl
sooner_chain (Some a) (Some b) (Some c) = grind (arith, nat_tests)

-- the card that an index read
pub card_here : {X : Type 0} (xs others : List X) (at : ℕ) (d x : X) → others ≡ xs → at < length xs → get_or others at d ≡ x → x ≡ get_or xs at x
card_here xs others at d x same below is = sym is ∙ ap (λ ys. get_or ys at d) same ∙ get_or_default xs at d x below

-- one card more
pub least_more : {X : Type 0} (f : X → Option Refused) (xs : List X) (at : ℕ) (x : X) (r best now whole : Option Refused)
    → at < length xs
    → x ≡ get_or xs at x
    → r ≡ f x
    → now ≡ sooner best r
    → whole ≡ sooner best (least_refusal f (drop at xs))
    → whole ≡ sooner now (least_refusal f (drop (at + 1) xs))
least_more f xs at x r best now whole below here said is so_far =
    so_far
    ∙ ap (sooner best) (at_drop_more (least_refusal f) xs at x below)
    ∙ sooner_chain best (f (get_or xs at x)) (least_refusal f (drop (at + 1) xs))
    ∙ ap (λ b. sooner b (least_refusal f (drop (at + 1) xs))) (ap (sooner best) (ap f (sym here) ∙ sym said) ∙ sym is)

-- all of them
pub least_all : {X : Type 0} (f : X → Option Refused) (xs : List X) (at : ℕ) (best : Option Refused) → length xs ≤ at
    → least_refusal f xs ≡ sooner best (least_refusal f (drop at xs))
    → best ≡ least_refusal f xs
least_all f xs at best past is = last best ∙ ap (λ rest. sooner best (least_refusal f rest)) (sym (drop_all at xs past)) ∙ sym is
  where
    last : (a : Option Refused) → a ≡ sooner a None
    last None = refl
    last (Some a) = refl
