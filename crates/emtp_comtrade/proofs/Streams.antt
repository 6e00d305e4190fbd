-- A text that is written as it grows, line by line.
use Rattle.std.proofs.Common.{◌≡◌, inl, inr, ℕ, zero, suc, ◌+◌, ◌<◌, List, [], ◌++◌, add-one, append_assoc, append-nil, arith, refl, sym, ◌∙◌, ap, subst, Result, Ok, Err, IsErr, OnOk}
use Rattle.std.proofs.lemmas.Bool.{cases_order}
use Rattle.emtp_io.specs.declared.cabinet.Output.{Output}
use Rattle.emtp_io.specs.Cabinet.{CabinetState}
use Rattle.emtp_io.specs.held.Whole.{Appends}
use Rattle.emtp_io.proofs.Appending.{appends-nothing, appends-append, appends-front}
use Rattle.emtp_comtrade.specs.Record.{joined}
use Rattle.emtp_comtrade.specs.held.Stream.{Gathers}

-- all of a text waits
pub gathers-none : {T E : Type 0} {state : CabinetState} {out : Output} {text : List ℕ} {value : T}
    → Gathers {T = T} {E = E} state state out text text (Ok value)
gathers-none {text = text} = record { front = []; rest = text; split = refl; appends = appends-nothing; waits = refl }

-- no byte waits
pub gathers-all : {T E : Type 0} {old new : CabinetState} {out : Output} {text waiting : List ℕ} {result : Result T E}
    → Appends old new out text result → OnOk result (waiting ≡ []) → Gathers old new out text waiting result
gathers-all {text = text} appends none =
    record { front = text; rest = []; split = sym (append-nil text); appends = appends; waits = none }

-- a text, and then what was put after the bytes that waited
pub gathers-more : {T E T' E' : Type 0} {old middle new : CabinetState} {out : Output} {text waiting last : List ℕ} {value : T} {result : Result T' E'} (more : List ℕ)
    → Gathers {T = T} {E = E} old middle out text waiting (Ok value) → Gathers middle new out (waiting ++ more) last result
    → Gathers old new out (text ++ more) last result
gathers-more more first second = record {
  front = first.front ++ second.front;
  rest = second.rest;
  split =
      ap (λ (xs : List ℕ). xs ++ more) (first.split ∙ ap (λ (xs : List ℕ). first.front ++ xs) (sym first.waits))
      ∙ append_assoc first.front _ more
      ∙ ap (λ (xs : List ℕ). first.front ++ xs) second.split
      ∙ sym (append_assoc first.front second.front second.rest);
  appends = appends-append first.appends second.appends;
  waits = second.waits;
}

-- a text that was cut short, and the caller answers a refusal
pub gathers-front : {T E T' E' : Type 0} {old new : CabinetState} {out : Output} {text waiting : List ℕ} {fault : E}
    (more waiting' : List ℕ) (result : Result T' E')
    → IsErr result → Gathers {T = T} {E = E} old new out text waiting (Err fault) → Gathers old new out (text ++ more) waiting' result
gathers-front more waiting' (Ok value) err first = cc
gathers-front {text = text} more waiting' (Err fault') err first = record {
  front = first.front ++ (first.rest ++ more);
  rest = [];
  split =
      ap (λ (xs : List ℕ). xs ++ more) first.split
      ∙ append_assoc first.front first.rest more
      ∙ sym (append-nil (first.front ++ (first.rest ++ more)));
  appends = appends-front (first.rest ++ more) (Err fault') err first.appends;
  waits = tt;
}

-- the end of a text was written with what waited
pub appends-end : {T E T' E' : Type 0} {old middle new : CabinetState} {out : Output} {text waiting last : List ℕ} {value : T} {result : Result T' E'} (more : List ℕ)
    → Gathers {T = T} {E = E} old middle out text waiting (Ok value) → last ≡ waiting ++ more → Appends middle new out last result
    → Appends old new out (text ++ more) result
appends-end {old = old} {new = new} {out = out} {text = text} {waiting = waiting} {result = result} more first is second =
    let whole : first.front ++ (waiting ++ more) ≡ text ++ more =
    sym (append_assoc first.front waiting more)
    ∙ ap (λ (xs : List ℕ). (first.front ++ xs) ++ more) first.waits
    ∙ ap (λ (xs : List ℕ). xs ++ more) (sym first.split) in
    subst (λ (xs : List ℕ). Appends old new out xs result) (ap (λ (xs : List ℕ). first.front ++ xs) is ∙ whole)
    (appends-append first.appends second)

-- a text was cut short before its end, and the caller answers a refusal
pub appends-stopped : {T E T' E' : Type 0} {old new : CabinetState} {out : Output} {text waiting : List ℕ} {fault : E} (more : List ℕ) (result : Result T' E')
    → IsErr result → Gathers {T = T} {E = E} old new out text waiting (Err fault) → Appends old new out (text ++ more) result
appends-stopped {old = old} {new = new} {out = out} more result err first =
    let whole = ap (λ (xs : List ℕ). xs ++ more) first.split ∙ append_assoc first.front first.rest more in
    subst (λ (xs : List ℕ). Appends old new out xs result) (sym whole) (appends-front (first.rest ++ more) result err first.appends)

-- ---- lines

-- no line was put after the text yet
pub gathers-start : {T E : Type 0} {state : CabinetState} {out : Output} {text : List ℕ} {value : T} (at : ℕ → List ℕ)
    → Gathers {T = T} {E = E} state state out (text ++ joined 0 at) text (Ok value)
gathers-start {T = T} {E = E} {state = state} {out = out} {text = text} {value = value} at =
    subst (λ (xs : List ℕ). Gathers {T = T} {E = E} state state out xs text (Ok value)) (sym (append-nil text)) gathers-none

-- one more line was put after the text
pub gathers-line : {T E T' E' : Type 0} {old middle new : CabinetState} {out : Output} {waiting pushed last : List ℕ} {value : T} {result : Result T' E'}
    (start : List ℕ) (at : ℕ → List ℕ) (n : ℕ)
    → Gathers {T = T} {E = E} old middle out (start ++ joined n at) waiting (Ok value) → pushed ≡ waiting ++ at n
    → Gathers middle new out pushed last result → Gathers old new out (start ++ joined (n + 1) at) last result
gathers-line {old = old} {middle = middle} {new = new} {out = out} {last = last} {result = result} start at n first is second =
    let text : (start ++ joined n at) ++ at n ≡ start ++ joined (n + 1) at =
    append_assoc start (joined n at) (at n) ∙ ap (λ (m : ℕ). start ++ joined m at) (sym (add-one n)) in
    subst (λ (xs : List ℕ). Gathers old new out xs last result) text
    (gathers-more (at n) first (subst (λ (xs : List ℕ). Gathers middle new out xs last result) is second))

-- a text begins with another one
record IsFront (front text : List ℕ) : Type 0 where
  rest : List ℕ
  split : text ≡ front ++ rest

front-more : (front text more : List ℕ) → IsFront front text → IsFront front (text ++ more)
front-more front text more is = record {
  rest = is.rest ++ more;
  split = ap (λ (xs : List ℕ). xs ++ more) is.split ∙ append_assoc front is.rest more;
}

front-joined : (at : ℕ → List ℕ) (n count : ℕ) → n < count → IsFront (joined (n + 1) at) (joined count at)
front-joined at n zero less = absurd (omega arith)
front-joined at n (suc count) less =
    elim (cases_order n count) as (λ _. IsFront (joined (n + 1) at) (joined (suc count) at)) [
      | inl same ↦ record {
        rest = [];
        split = sym (append-nil (joined (n + 1) at) ∙ ap (λ (m : ℕ). joined m at) (add-one n ∙ ap (λ (m : ℕ). suc m) same));
      }
      | inr order ↦ elim order as (λ _. IsFront (joined (n + 1) at) (joined (suc count) at)) [
        | inl below ↦ front-more (joined (n + 1) at) (joined count at) (at count) (front-joined at n count below)
        | inr above ↦ absurd (omega arith)
      ]
    ]

-- the text was cut short at a line, others would have followed, and the caller answers a refusal
pub gathers-stopped : {T E T' E' : Type 0} {old new : CabinetState} {out : Output} {waiting : List ℕ} {fault : E}
    (start : List ℕ) (at : ℕ → List ℕ) (n count : ℕ) (waiting' : List ℕ) (result : Result T' E')
    → n < count → IsErr result → Gathers {T = T} {E = E} old new out (start ++ joined (n + 1) at) waiting (Err fault)
    → Gathers old new out (start ++ joined count at) waiting' result
gathers-stopped {old = old} {new = new} {out = out} start at n count waiting' result less err first =
    let front = front-joined at n count less in
    let whole = ap (λ (xs : List ℕ). start ++ xs) front.split ∙ sym (append_assoc start (joined (n + 1) at) front.rest) in
    subst (λ (xs : List ℕ). Gathers old new out xs waiting' result) (sym whole) (gathers-front front.rest waiting' result err first)
