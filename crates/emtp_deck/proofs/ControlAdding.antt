-- One more record of the control, and what the control leaves.
use Rattle.emtp_case.specs.declared.limit.TheConstants.{MOST_HISTORY_VALUES}
use Rattle.std.proofs.Common.{List, [], ap, arith, drop, fold, get_or, length, length-append, map, refl, sym, take, take-append-drop, ℕ, ◌++◌, ◌+◌, ◌<◌, ◌∙◌, ◌∷◌, ◌≡◌, ◌≤◌}
use Rattle.std.proofs.lemmas.List.{map_more, take_more}
use Rattle.std.proofs.lemmas.List.Elements.{All-nil}
use Rattle.std.proofs.lemmas.List.Sums.{fold-append, sum_by-append, sum_by-cons}
use Rattle.std.specs.List.{sum_by}
use Rattle.emtp_case.specs.held.Channel.{IsChannel}
use Rattle.emtp_case.specs.HistoryValues.{history_values_of}
use Rattle.emtp_case.specs.held.Sizes.{sizes_of}
use Rattle.emtp_case.specs.declared.branch.Point.{Point}
use Rattle.emtp_case.specs.declared.case.Parts.{Parts}
use Rattle.emtp_deck.proofs.Asking.{control_is}
use Rattle.emtp_deck.specs.ControlFilling.{with_extra}
use Rattle.emtp_deck.specs.Deck.{control_made}
use Rattle.emtp_deck.specs.held.Filling.{IsFilling, made_of}
use Rattle.emtp_deck.specs.Made.{Made, none_asked}
use Rattle.emtp_walk.specs.declared.control_cards.ExtraEntry.{ExtraEntry}
use Rattle.emtp_walk.specs.declared.control_cards.ExtraEntry.TheVariants.{Device as DeviceEntry, Formula as FormulaEntry}
use Rattle.emtp_walk.specs.declared.deck.Deck.{Deck}
use Rattle.emtp_deck.specs.declared.filling.Filling.{Filling}

taken : {A : Type 0} (xs : List A) (k : ℕ) (x : A) → x ≡ get_or xs k x → k < length xs → take (k + 1) xs ≡ take k xs ++ x ∷ []
taken xs k x is l = take_more xs k x l ∙ ap (λ y. take k xs ++ y ∷ []) (sym is)

pub fold_next : {A B : Type 0} (g : B → A → B) (b : B) (xs : List A) (k : ℕ) (x : A) → x ≡ get_or xs k x → k < length xs → fold g b (take (k + 1) xs) ≡ g (fold g b (take k xs)) x
fold_next g b xs k x is l = ap (fold g b) (taken xs k x is l) ∙ fold-append g b (take k xs) (x ∷ [])

pub map_next : {A B : Type 0} (f : A → B) (xs : List A) (k : ℕ) (x : A) → x ≡ get_or xs k x → k < length xs → map f (take (k + 1) xs) ≡ map f (take k xs) ++ f x ∷ []
map_next f xs k x is l = map_more f xs k x l ∙ ap (λ y. map f (take k xs) ++ f y ∷ []) (sym is)

pub sum_next : {A : Type 0} (f : A → ℕ) (xs : List A) (k : ℕ) (x : A) → x ≡ get_or xs k x → k < length xs → sum_by f (take (k + 1) xs) ≡ sum_by f (take k xs) + f x
sum_next f xs k x is l =
    let more = ap (sum_by f) (taken xs k x is l) in
    let one = sum_by-cons f x [] in
    omega (arith, more, sum_by-append f (take k xs) (x ∷ []), one)

pub sum_front : {A : Type 0} (f : A → ℕ) (xs : List A) (k : ℕ) (x : A) → x ≡ get_or xs k x → k < length xs → sum_by f (take k xs) + f x ≤ sum_by f xs
sum_front f xs k x is l =
    let all = ap (sum_by f) (take-append-drop (k + 1) xs) in
    omega (arith, all, sum_by-append f (take (k + 1) xs) (drop (k + 1) xs), sum_next f xs k x is l)

pub record IsOneMore (p q : Parts) : Type 0 where
  pub vars : q.vars ≡ p.vars
  pub run : q.run ≡ p.run
  pub room : length q.extras ≡ length p.extras + 1

pub extra_more : (variables : List (List ℕ)) (points : List Point) (p : Parts) (e : ExtraEntry) → IsOneMore p (with_extra variables points p e)
extra_more variables points p (DeviceEntry card first count) = record { vars = refl; run = refl; room = length-append p.extras _ }
extra_more variables points p (FormulaEntry card) = record { vars = refl; run = refl; room = length-append p.extras _ }

pub room_for : (h before t s e all : ℕ) → h ≡ before + t → t ≡ s → s + e ≤ all → before + all ≤ MOST_HISTORY_VALUES → h + e ≤ MOST_HISTORY_VALUES
room_for h before t s e all is sum front most = omega (arith, is, sum, front, most)

pub next_history : (new old before t e r : ℕ) → new ≡ old + e → old ≡ before + t → r ≡ e → new ≡ before + (t + r)
next_history new old before t e r more is value = omega (arith, more, is, value)

pub next_sum : (t s e r n : ℕ) → t ≡ s → r ≡ e → n ≡ s + e → t + r ≡ n
next_sum t s e r n is value next = omega (arith, is, value, next)

pub summed : (new old total : ℕ) → new ≡ old + total → old ≡ 0 → total ≡ new
summed new old total is none = omega (arith, is, none)

pub control_filled : (f : Filling) (nodes variables : List (List ℕ)) (deck : Deck) → made_of f ≡ control_made nodes variables deck → f.nodes.keys ≡ nodes → f.variables.keys ≡ variables → f.history ≡ history_values_of f.draft.parts → IsFilling f
control_filled f nodes variables deck made keys names history =
    let is = control_is nodes variables deck in
    let asked : f.asked ≡ none_asked = ap (λ (m : Made). m.asked) made in
    record {
      nodes = keys ∙ sym (ap (λ (m : Made). m.parts.nodes) made ∙ is.nodes_are);
      variables = names ∙ sym (ap (λ (m : Made). m.parts.vars) made ∙ is.vars);
      history = history;
      no_sources = ap (λ (m : Made). m.parts.tacs_sources) made ∙ is.sources;
      no_channels = ap (λ (m : Made). m.parts.channels) made ∙ is.channels;
      few = rw asked (omega arith);
      there = rw asked (record {
        variables = All-nil (IsChannel (sizes_of f.draft.parts));
        outputs = All-nil (IsChannel (sizes_of f.draft.parts));
        branches = All-nil (IsChannel (sizes_of f.draft.parts));
        switches = All-nil (IsChannel (sizes_of f.draft.parts));
        statuses = All-nil (IsChannel (sizes_of f.draft.parts));
      });
    }
