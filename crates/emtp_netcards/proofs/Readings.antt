-- What was read of a card, or of a part of it, that isn't refused.
use Rattle.std.proofs.Common.{◌≡◌, ◌∙◌, sym, ap, refl, ℕ, Option, Some, None, Result, Ok, Err}
use Rattle.emtp_card.specs.declared.fault.Fault.{Fault}
use Rattle.emtp_card.specs.declared.reason.Why.{Why}
use Rattle.emtp_netcards.specs.Reading.{◌>>=◌, both, card_by, in_column}
use Rattle.emtp_netcards.specs.held.Reading.{judged}

pub by : {A : Type 0} (number : ℕ) (found : Option (ℕ × Why)) (read : Result A Fault) (card : A) → card_by number found read ≡ Ok card → read ≡ Ok card
by number (Some fault) read card e = absurd (cc)
by number None (Ok x) card e = cc
by number None (Err fault) card e = absurd (cc)

-- the bytes of its line have no fault
pub whole_by : {A : Type 0} (number : ℕ) (found : Option (ℕ × Why)) (read : Result A Fault) (card : A) → card_by number found read ≡ Ok card → found ≡ None
whole_by number (Some fault) read card e = absurd (cc)
whole_by number None read card e = refl

-- what goes on with what was read
-- both parts were read
pub each_of : {A B : Type 0} (a : Result A Fault) (b : Result B Fault) (pair : A × B) → both a b ≡ Ok pair → (a ≡ Ok pair.0) × (b ≡ Ok pair.1)
each_of {A} {B} (Ok x) (Ok y) pair e =
    let same : pair ≡ (x, y) = cc in
    (ap Ok (sym (ap (λ (p : A × B). p.0) same)), ap Ok (sym (ap (λ (p : A × B). p.1) same)))
each_of (Ok x) (Err g) pair e = absurd (cc)
each_of (Err f) (Ok y) pair e = absurd (cc)
each_of (Err f) (Err g) pair e = absurd (cc)

pub field_of_column : {A : Type 0} (column : ℕ) (field : Result A Why) (x : A) → in_column column field ≡ Ok x → field ≡ Ok x
field_of_column column (Ok y) x e = cc
field_of_column column (Err why) x e = absurd (cc)

-- what a rule that answers always makes of what was read
pub made_of : {A B : Type 0} (P : Type 0) (read : Result A Fault) (f : A → B) (card : B) → judged read (λ x. Ok (f x)) ≡ Ok card → ((x : A) → read ≡ Ok x → f x ≡ card → P) → P
made_of P (Ok x) f card e so = let same : f x ≡ card = cc in so x refl same
made_of P (Err fault) f card e so = absurd (cc)

pub made : {A B C : Type 0} (read : Result A Fault) (f : A → B) (part : B → C) (is : C) (card : B) → ((x : A) → part (f x) ≡ is) → judged read (λ x. Ok (f x)) ≡ Ok card → part card ≡ is
made (Ok x) f part is card all e = let same : f x ≡ card = cc in ap part (sym same) ∙ all x
made (Err fault) f part is card all e = absurd (cc)
