-- Outputs that are made one after the other.
use Rattle.std.proofs.Common.{◌≡◌, inl, inr, ℕ, ◌≤◌, arith, length, OnOk, OnErr, IsSome, List, [], ◌∷◌, ◌++◌, take, refl, sym, ◌∙◌, ap, subst, Some, Result, Ok, Err, IsErr, IsOk, IsTrue}
use Rattle.std.proofs.lemmas.List.{map-append}
use Rattle.std.proofs.lemmas.Result.{on_ok_weaker, on_err_weaker}
use Rattle.emtp_io.specs.declared.cabinet.Output.{Output}
use Rattle.emtp_io.specs.declared.cabinet.Output.TheVariants.{Cfg, Dat, Note, Summary}
use Rattle.emtp_io.specs.Cabinet.{CabinetState, Nature, Outputs, output, turn, with_output, appended, one_more, HasRoom, HasCause, IsCreatedBy, IsOutputCall}
use Rattle.emtp_io.specs.declared.turns.Turns.{Turns}
use Rattle.emtp_io.specs.held.Whole.{Appends}
use Rattle.emtp_io.specs.Writes.{Written, with_written, with_all, AllFit, AreCreated, IsCutShort, StopsCreating}
use Rattle.emtp_io.specs.held.Writes.{outs, AreApart, IsOther, Makes}
use Rattle.emtp_io.proofs.Appending.{call-call, tells-later, calm-later}

-- an output under a name, with no byte
abbrev created : Outputs → Output → List ℕ → Outputs
created outputs out name = with_output outputs out (Some (record { name = name; bytes = [] }))

appended-created : (outputs : Outputs) (out : Output) (name bytes : List ℕ)
    → appended (created outputs out name) out bytes ≡ with_output outputs out (Some (record { name = name; bytes = bytes }))
appended-created outputs Cfg name bytes = refl
appended-created outputs Dat name bytes = refl
appended-created outputs Note name bytes = refl
appended-created outputs Summary name bytes = refl

room-created : (outputs : Outputs) (out : Output) (name : List ℕ) (more room : ℕ)
    → more ≤ room → HasRoom (output (created outputs out name) out) more room
room-created outputs Cfg name more room le = omega (arith, le)
room-created outputs Dat name more room le = omega (arith, le)
room-created outputs Note name more room le = omega (arith, le)
room-created outputs Summary name more room le = omega (arith, le)

-- what holds anyway
on_ok_any : {T E P : Type 0} (result : Result T E) → P → OnOk result P
on_ok_any (Ok value) here = here
on_ok_any (Err fault) here = tt

on_err_any : {T E P : Type 0} (result : Result T E) → P → OnErr result P
on_err_any (Ok value) here = tt
on_err_any (Err fault) here = here

-- ---- which calls made the outputs

-- these outputs were created, and then others, which leaves these
created-append : (xs ys : List Output) (count : ℕ) (middle new : CabinetState) → AreApart xs ys
    → ((other : Output) → IsSome (output middle.outputs other) → IsSome (output new.outputs other))
    → ((other : Output) → IsOther other ys → turn new.turns other ≡ turn middle.turns other)
    → AreCreated xs count middle → AreCreated ys middle.creates new → AreCreated (xs ++ ys) count new
created-append [] ys count middle new apart stays turns first second = subst (λ (n : ℕ). AreCreated ys n new) first second
created-append (x ∷ xs) ys count middle new apart stays turns first second = (
  record { created = stays x first.0.created; turn = turns x apart.0 ∙ first.0.turn },
  created-append xs ys (one_more count) middle new apart.1 stays turns first.1 second,
)

-- these outputs were created, and then it stopped at one of the others
stops-append : (xs ys : List Output) (count : ℕ) (middle new : CabinetState) → AreApart xs ys
    → ((other : Output) → IsSome (output middle.outputs other) → IsSome (output new.outputs other))
    → ((other : Output) → IsOther other ys → turn new.turns other ≡ turn middle.turns other)
    → AreCreated xs count middle → StopsCreating ys middle.creates new → StopsCreating (xs ++ ys) count new
stops-append [] ys count middle new apart stays turns first second = subst (λ (n : ℕ). StopsCreating ys n new) first second
stops-append (x ∷ xs) ys count middle new apart stays turns first second = inr (
  record { created = stays x first.0.created; turn = turns x apart.0 ∙ first.0.turn },
  stops-append xs ys (one_more count) middle new apart.1 stays turns first.1 second,
)

stops-front : (xs ys : List Output) (count : ℕ) (new : CabinetState) → StopsCreating xs count new → StopsCreating (xs ++ ys) count new
stops-front [] ys count new stopped = elim stopped [ ]
stops-front (x ∷ xs) ys count new (inl here) = inl here
stops-front (x ∷ xs) ys count new (inr later) = inr (later.0, stops-front xs ys (one_more count) new later.1)

outs-append : (xs ys : List Written) → outs (xs ++ ys) ≡ outs xs ++ outs ys
outs-append xs ys = map-append (λ (w : Written). w.out) xs ys

-- ---- one output

-- an output was created, and then its text was written
pub makes-one : {T E T' E' : Type 0} {old middle new : CabinetState} {out : Output} {name bytes : List ℕ} {value : T} {result : Result T' E'}
    → IsOutputCall {T = T} {E = E} old middle out (Ok value)
    → middle.creates ≡ one_more old.creates
    → IsCreatedBy middle.creates out middle
    → (IsTrue old.nature.tells → middle.outputs ≡ created old.outputs out name)
    → Appends middle new out bytes result
    → Makes old new (record { out = out; name = name; bytes = bytes } ∷ []) result
makes-one {old = old} {middle = middle} {new = new} {out = out} {name = name} {bytes = bytes} {result = result} first counted made is second =
    let call = call-call first second.call in
    record {
      nature = call.nature;
      faults_in = call.faults_in;
      cause = call.cause;
      unread = call.unread;
      stays = call.stays;
      opens = call.opens;
      turns = λ other is_other. call.turns other is_other.0;
      created = on_ok_any result (
        record {
          created = second.call.stays out made.created;
          turn = ap (λ (turns : Turns). turn turns out) second.turns ∙ made.turn ∙ counted;
        },
        second.creates ∙ counted,
      );
      stopped = on_err_any result (inl (second.creates ∙ counted));
      others = λ other is_other. call.others other is_other.0;
      ok = λ tells. on_ok_weaker result (λ grew. grew
          ∙ ap (λ (outputs : Outputs). appended outputs out bytes) (is tells)
          ∙ appended-created old.outputs out name bytes)
          (second.ok (tells-later first.nature tells));
      err = λ tells. on_err_weaker result (λ grew. inr (inl (
        grew.count,
        grew.within,
        grew.grew
            ∙ ap (λ (outputs : Outputs). appended outputs out (take grew.count bytes)) (is tells)
            ∙ appended-created old.outputs out name (take grew.count bytes),
      )))
          (second.err (tells-later first.nature tells));
      calm = λ tells calm fits.
          let room : HasRoom (output (created old.outputs out name) out) (length bytes) middle.nature.room =
          subst (λ (n : Nature). HasRoom (output (created old.outputs out name) out) (length bytes) n.room) (sym first.nature)
          (room-created old.outputs out name (length bytes) old.nature.room fits.1) in
          second.calm (tells-later first.nature tells) (calm-later first.nature calm)
          (subst (λ (outputs : Outputs). HasRoom (output outputs out) (length bytes) middle.nature.room) (sym (is tells)) room);
    }

-- an output couldn't be created, and the caller answers a refusal
pub makes-none : {T E T' E' : Type 0} {old new : CabinetState} {out : Output} {name : List ℕ} {fault : E} (bytes : List ℕ) (result : Result T' E')
    → IsErr result
    → IsOutputCall {T = T} {E = E} old new out (Err fault)
    → new.creates ≡ one_more old.creates
    → new.outputs ≡ old.outputs
    → (IsTrue old.nature.calm → length name ≤ old.nature.room → IsOk {T = T} {E = E} (Err fault))
    → Makes old new (record { out = out; name = name; bytes = bytes } ∷ []) result
makes-none bytes (Ok value) err call counted same never = cc
makes-none bytes (Err fault') err call counted same never = record {
  nature = call.nature;
  faults_in = call.faults_in;
  cause = record { later = call.cause.later; ok = call.cause.ok; failed = call.cause.failed };
  unread = call.unread;
  stays = call.stays;
  opens = call.opens;
  turns = λ other is_other. call.turns other is_other.0;
  created = tt;
  stopped = inl counted;
  others = λ other is_other. call.others other is_other.0;
  ok = λ tells. tt;
  err = λ tells. inl same;
  calm = λ tells calm fits. never calm fits.0;
}

-- ---- one output after another

with_all-append : (outputs : Outputs) (xs ys : List Written) → with_all (with_all outputs xs) ys ≡ with_all outputs (xs ++ ys)
with_all-append outputs [] ys = refl
with_all-append outputs (x ∷ xs) ys = with_all-append (with_written outputs x x.bytes) xs ys

cut-append : (outputs new : Outputs) (xs ys : List Written) → IsCutShort (with_all outputs xs) ys new → IsCutShort outputs (xs ++ ys) new
cut-append outputs new [] ys cut = cut
cut-append outputs new (x ∷ xs) ys cut = inr (inr (cut-append (with_written outputs x x.bytes) new xs ys cut))

cut-front : (outputs new : Outputs) (xs ys : List Written) → IsCutShort outputs xs new → IsCutShort outputs (xs ++ ys) new
cut-front outputs new [] ys cut = elim cut [ ]
cut-front outputs new (x ∷ xs) ys (inl same) = inl same
cut-front outputs new (x ∷ xs) ys (inr (inl part)) = inr (inl part)
cut-front outputs new (x ∷ xs) ys (inr (inr later)) = inr (inr (cut-front (with_written outputs x x.bytes) new xs ys later))

fit-parts : (xs ys : List Written) (room : ℕ) → AllFit (xs ++ ys) room → AllFit xs room × AllFit ys room
fit-parts [] ys room fit = (tt, fit)
fit-parts (x ∷ xs) ys room fit =
    let rest = fit-parts xs ys room fit.2 in
    ((fit.0, fit.1, rest.0), rest.1)

other-parts : (other : Output) (xs ys : List Output) → IsOther other (xs ++ ys) → IsOther other xs × IsOther other ys
other-parts other [] ys is = (tt, is)
other-parts other (x ∷ xs) ys is =
    let rest = other-parts other xs ys is.1 in
    ((is.0, rest.0), rest.1)

-- the first outputs are whole, and then the others were made
pub makes-append : {T E T' E' : Type 0} {old middle new : CabinetState} {xs ys : List Written} {value : T} {result : Result T' E'}
    → AreApart (outs xs) (outs ys)
    → Makes {T = T} {E = E} old middle xs (Ok value) → Makes middle new ys result
    → Makes old new (xs ++ ys) result
makes-append {old = old} {middle = middle} {new = new} {xs = xs} {ys = ys} {result = result} apart first second = record {
  nature = second.nature ∙ first.nature;
  faults_in = second.faults_in ∙ first.faults_in;
  cause = subst (λ (count : ℕ). HasCause count new.faults_out result) first.cause.ok second.cause;
  unread = second.unread ∙ first.unread;
  stays = λ other some. second.stays other (first.stays other some);
  opens = second.opens ∙ first.opens;
  turns = λ other is.
      let parts = both other is in
      second.turns other parts.1 ∙ first.turns other parts.0;
  created = on_ok_weaker result (λ created. subst (λ (outputs : List Output). AreCreated outputs old.creates new) (sym (outs-append xs ys))
      (created-append (outs xs) (outs ys) old.creates middle new apart second.stays second.turns first.created created)) second.created;
  stopped = on_err_weaker result (λ stopped. subst (λ (outputs : List Output). StopsCreating outputs old.creates new) (sym (outs-append xs ys))
      (stops-append (outs xs) (outs ys) old.creates middle new apart second.stays second.turns first.created stopped)) second.stopped;
  others = λ other is.
      let parts = both other is in
      second.others other parts.1 ∙ first.others other parts.0;
  ok = λ tells. on_ok_weaker result (λ made. made
      ∙ ap (λ (outputs : Outputs). with_all outputs ys) (first.ok tells)
      ∙ with_all-append old.outputs xs ys)
      (second.ok (tells-later first.nature tells));
  err = λ tells. on_err_weaker result (λ cut.
      cut-append old.outputs new.outputs xs ys (subst (λ (outputs : Outputs). IsCutShort outputs ys new.outputs) (first.ok tells) cut))
      (second.err (tells-later first.nature tells));
  calm = λ tells calm fit.
      let parts = fit-parts xs ys old.nature.room fit in
      second.calm (tells-later first.nature tells) (calm-later first.nature calm)
      (subst (λ (n : Nature). AllFit ys n.room) (sym first.nature) parts.1);
}
  where
    both : (other : Output) → IsOther other (outs (xs ++ ys)) → IsOther other (outs xs) × IsOther other (outs ys)
    both other is = other-parts other (outs xs) (outs ys) (subst (λ (outputs : List Output). IsOther other outputs) (outs-append xs ys) is)

-- it stopped at one of the first outputs, and the caller answers a refusal
pub makes-front : {T E T' E' : Type 0} {old new : CabinetState} {xs : List Written} {fault : E} (ys : List Written) (result : Result T' E')
    → IsErr result → Makes {T = T} {E = E} old new xs (Err fault) → Makes old new (xs ++ ys) result
makes-front ys (Ok value) err first = cc
makes-front {old = old} {new = new} {xs = xs} ys (Err fault') err first = record {
  nature = first.nature;
  faults_in = first.faults_in;
  cause = record { later = first.cause.later; ok = first.cause.ok; failed = first.cause.failed };
  unread = first.unread;
  stays = first.stays;
  opens = first.opens;
  turns = λ other is. first.turns other (front other is);
  created = tt;
  stopped = subst (λ (outputs : List Output). StopsCreating outputs old.creates new) (sym (outs-append xs ys)) (stops-front (outs xs) (outs ys) old.creates new first.stopped);
  others = λ other is. first.others other (front other is);
  ok = first.ok;
  err = λ tells. cut-front old.outputs new.outputs xs ys (first.err tells);
  calm = λ tells calm fit. first.calm tells calm (fit-parts xs ys old.nature.room fit).0;
}
  where
    front : (other : Output) → IsOther other (outs (xs ++ ys)) → IsOther other (outs xs)
    front other is = (other-parts other (outs xs) (outs ys) (subst (λ (outputs : List Output). IsOther other outputs) (outs-append xs ys) is)).0
