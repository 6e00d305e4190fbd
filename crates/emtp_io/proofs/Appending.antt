-- Texts that are written by one call after another.
use Rattle.std.proofs.Common.{◌≡◌, ℕ, ◌+◌, length, arith, length-append, List, [], ◌++◌, refl, sym, ◌∙◌, ap, subst, Result, Ok, Err, IsErr, IsTrue}
use Rattle.std.proofs.lemmas.Result.{on_ok_weaker, on_err_weaker}
use Rattle.emtp_io.specs.declared.cabinet.Output.{Output}
use Rattle.emtp_io.specs.Cabinet.{CabinetState, Nature, Outputs, output, appended, HasRoom, HasCause, IsOutputCall}
use Rattle.emtp_io.specs.held.Whole.{Appends}
use Rattle.emtp_io.proofs.Pieces.{appended-nil, appended-append, grew-first, grew-second, room-appended, room_less}

-- a call that worked, and the next one
pub call-call : {T E T' E' : Type 0} {old middle new : CabinetState} {out : Output} {value : T} {result : Result T' E'}
    → IsOutputCall {T = T} {E = E} old middle out (Ok value) → IsOutputCall middle new out result
    → IsOutputCall old new out result
call-call {new = new} {result = result} first second = record {
  nature = second.nature ∙ first.nature;
  unread = second.unread ∙ first.unread;
  faults_in = second.faults_in ∙ first.faults_in;
  cause = subst (λ (count : ℕ). HasCause count new.faults_out result) first.cause.ok second.cause;
  others = λ other ne. second.others other ne ∙ first.others other ne;
  turns = λ other ne. second.turns other ne ∙ first.turns other ne;
  stays = λ other some. second.stays other (first.stays other some);
  opens = second.opens ∙ first.opens;
}

-- a call that was refused, and a refusal that its caller answers then
pub call-refused : {T E T' E' : Type 0} {old new : CabinetState} {out : Output} {fault : E} (result : Result T' E') → IsErr result
    → IsOutputCall {T = T} {E = E} old new out (Err fault) → IsOutputCall old new out result
call-refused (Ok value) err call = cc
call-refused (Err fault') err call = record {
  nature = call.nature;
  unread = call.unread;
  faults_in = call.faults_in;
  cause = record { later = call.cause.later; ok = call.cause.ok; failed = call.cause.failed };
  others = call.others;
  turns = call.turns;
  stays = call.stays;
  opens = call.opens;
}

pub tells-later : {old new : Nature} → new ≡ old → IsTrue old.tells → IsTrue new.tells
tells-later same tells = subst (λ (n : Nature). IsTrue n.tells) (sym same) tells

pub calm-later : {old new : Nature} → new ≡ old → IsTrue old.calm → IsTrue new.calm
calm-later same calm = subst (λ (n : Nature). IsTrue n.calm) (sym same) calm

-- the first text is whole, and then the second one
pub appends-append : {T E T' E' : Type 0} {old middle new : CabinetState} {out : Output} {xs ys : List ℕ} {value : T} {result : Result T' E'}
    → Appends {T = T} {E = E} old middle out xs (Ok value) → Appends middle new out ys result
    → Appends old new out (xs ++ ys) result
appends-append {old = old} {middle = middle} {new = new} {out = out} {xs = xs} {ys = ys} {result = result} first second = record {
  call = call-call first.call second.call;
  creates = second.creates ∙ first.creates;
  turns = second.turns ∙ first.turns;
  ok = λ tells. on_ok_weaker result (λ grew. grew
      ∙ ap (λ (outputs : Outputs). appended outputs out ys) (first.ok tells)
      ∙ appended-append old.outputs out xs ys)
      (second.ok (tells-later first.call.nature tells));
  err = λ tells. on_err_weaker result (λ grew. grew-second old.outputs middle.outputs new.outputs out xs ys (first.ok tells) grew)
      (second.err (tells-later first.call.nature tells));
  calm = λ tells calm fits.
      let parts : HasRoom (output old.outputs out) (length xs + length ys) old.nature.room =
      subst (λ (size : ℕ). HasRoom (output old.outputs out) size old.nature.room) (length-append xs ys) fits in
      let rest = room-appended old.outputs out xs (length ys) old.nature.room parts in
      let there = subst (λ (outputs : Outputs). HasRoom (output outputs out) (length ys) old.nature.room) (sym (first.ok tells)) rest in
      second.calm (tells-later first.call.nature tells) (calm-later first.call.nature calm)
      (subst (λ (n : Nature). HasRoom (output middle.outputs out) (length ys) n.room) (sym first.call.nature) there);
}

-- the first text was cut short, and the caller answers a refusal
pub appends-front : {T E T' E' : Type 0} {old new : CabinetState} {out : Output} {xs : List ℕ} {fault : E} (ys : List ℕ) (result : Result T' E')
    → IsErr result → Appends {T = T} {E = E} old new out xs (Err fault) → Appends old new out (xs ++ ys) result
appends-front ys (Ok value) err first = cc
appends-front {old = old} {new = new} {out = out} {xs = xs} ys (Err fault') err first = record {
  call = call-refused (Err fault') err first.call;
  creates = first.creates;
  turns = first.turns;
  ok = first.ok;
  err = λ tells. grew-first old.outputs new.outputs out xs ys (first.err tells);
  calm = λ tells calm fits.
      first.calm tells calm (room_less (output old.outputs out) (length (xs ++ ys)) (length xs) old.nature.room
      (omega (arith, length-append xs ys)) fits);
}

-- no byte was written, and the cabinet is as it was
pub appends-nothing : {T E : Type 0} {state : CabinetState} {out : Output} {value : T}
    → Appends {T = T} {E = E} state state out [] (Ok value)
appends-nothing {state = state} {out = out} = record {
  call = record {
    nature = refl;
    unread = refl;
    faults_in = refl;
    cause = record { later = omega arith; ok = refl; failed = tt };
    others = λ other ne. refl;
    turns = λ other ne. refl;
    stays = λ other some. some;
    opens = refl;
  };
  creates = refl;
  turns = refl;
  ok = λ tells. sym (appended-nil state.outputs out);
  err = λ tells. tt;
  calm = λ tells calm fits. refl;
}
