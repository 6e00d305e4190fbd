-- Outputs that grow piece by piece, and a file that is read piece by piece.
use Rattle.std.proofs.Common.{◌≡◌, ℕ, ◌+◌, ◌≤◌, length, arith, length-append, List, ◌++◌, take, drop, refl, sym, ◌∙◌, ap, subst, append_assoc, append-nil, [], Option, Some, None, IsSome}
use Rattle.std.proofs.Math.Seq.{take-add, take-append-add}
use Rattle.std.proofs.lemmas.List.{take-append-le, take_rest}
use Rattle.emtp_io.specs.declared.cabinet.Output.{Output}
use Rattle.emtp_io.specs.declared.cabinet.Output.TheVariants.{Cfg, Dat, Note, Summary}
use Rattle.emtp_io.specs.Cabinet.{CreatedOutput, Outputs, output, with_output, with_bytes, appended, put_back, HasRoom}
use Rattle.emtp_io.specs.Whole.{TookFront}
use Rattle.emtp_io.specs.held.Whole.{GrewByPrefix}

pub with_bytes-append : (e : Option CreatedOutput) (xs ys : List ℕ) → with_bytes (with_bytes e xs) ys ≡ with_bytes e (xs ++ ys)
with_bytes-append None xs ys = refl
with_bytes-append (Some e) xs ys =
    ap (λ (bytes : List ℕ). Some (record e { bytes = bytes })) (append_assoc e.bytes xs ys)

-- two pieces are one
pub appended-append : (outputs : Outputs) (out : Output) (xs ys : List ℕ)
    → appended (appended outputs out xs) out ys ≡ appended outputs out (xs ++ ys)
appended-append outputs Cfg xs ys =
    ap (λ (e : Option CreatedOutput). with_output outputs Cfg e) (with_bytes-append outputs.cfg xs ys)
appended-append outputs Dat xs ys =
    ap (λ (e : Option CreatedOutput). with_output outputs Dat e) (with_bytes-append outputs.dat xs ys)
appended-append outputs Note xs ys =
    ap (λ (e : Option CreatedOutput). with_output outputs Note e) (with_bytes-append outputs.note xs ys)
appended-append outputs Summary xs ys =
    ap (λ (e : Option CreatedOutput). with_output outputs Summary e) (with_bytes-append outputs.summary xs ys)

with_bytes-nil : (e : Option CreatedOutput) → with_bytes e [] ≡ e
with_bytes-nil None = refl
with_bytes-nil (Some e) = ap (λ (bytes : List ℕ). Some (record e { bytes = bytes })) (append-nil e.bytes)

-- no piece leaves all as it was
pub appended-nil : (outputs : Outputs) (out : Output) → appended outputs out [] ≡ outputs
appended-nil outputs Cfg = ap (λ (e : Option CreatedOutput). with_output outputs Cfg e) (with_bytes-nil outputs.cfg)
appended-nil outputs Dat = ap (λ (e : Option CreatedOutput). with_output outputs Dat e) (with_bytes-nil outputs.dat)
appended-nil outputs Note = ap (λ (e : Option CreatedOutput). with_output outputs Note e) (with_bytes-nil outputs.note)
appended-nil outputs Summary =
    ap (λ (e : Option CreatedOutput). with_output outputs Summary e) (with_bytes-nil outputs.summary)

-- the next piece of some bytes
pub appended-next : (outputs : Outputs) (out : Output) (bytes : List ℕ) (n m : ℕ)
    → appended (appended outputs out (take n bytes)) out (take m (drop n bytes))
    ≡ appended outputs out (take (n + m) bytes)
appended-next outputs out bytes n m =
    appended-append outputs out (take n bytes) (take m (drop n bytes))
    ∙ ap (λ (xs : List ℕ). appended outputs out xs) (sym (take-add n m bytes))

pub put_back-put_back : (xs ys : List ℕ) (unread : Option (List ℕ))
    → put_back xs (put_back ys unread) ≡ put_back (xs ++ ys) unread
put_back-put_back xs ys None = refl
put_back-put_back xs ys (Some rest) =
    ap (λ (bytes : List ℕ). Some bytes) (sym (append_assoc xs ys rest))

-- one more piece was read
pub took-next : (most : ℕ) (xs ys : List ℕ) (first middle last : Option (List ℕ))
    → length xs + length ys ≤ most → first ≡ put_back xs middle → middle ≡ put_back ys last → TookFront most first last
took-next most xs ys first middle last fit p q = record {
  front = xs ++ ys;
  within = omega (arith, length-append xs ys, fit);
  took = p ∙ ap (λ (o : Option (List ℕ)). put_back xs o) q ∙ put_back-put_back xs ys last;
}

-- what a piece was read from was opened
pub opened-before : (xs : List ℕ) (first last : Option (List ℕ))
    → first ≡ put_back xs last → IsSome last → IsSome first
opened-before xs first None p some = cc
opened-before xs first (Some rest) p some = subst (λ (o : Option (List ℕ)). IsSome o) (sym p) some

-- one more turn of a loop over `write` or `read`
pub ruleset pieces = (appended-next, take_rest, took-next, opened-before)

-- the first part stopped
pub grew-first : (old new : Outputs) (out : Output) (xs ys : List ℕ)
    → GrewByPrefix old new out xs → GrewByPrefix old new out (xs ++ ys)
grew-first old new out xs ys grew = record {
  count = grew.count;
  within = omega (arith, length-append xs ys, grew.within);
  grew = grew.grew ∙ ap (λ (bytes : List ℕ). appended old out bytes) (sym (take-append-le grew.count xs ys grew.within));
}

-- the first part is whole, and the second stopped
pub grew-second : (old middle new : Outputs) (out : Output) (xs ys : List ℕ)
    → middle ≡ appended old out xs → GrewByPrefix middle new out ys → GrewByPrefix old new out (xs ++ ys)
grew-second old middle new out xs ys whole grew = record {
  count = length xs + grew.count;
  within = omega (arith, length-append xs ys, grew.within);
  grew =
      grew.grew
      ∙ ap (λ (outputs : Outputs). appended outputs out (take grew.count ys)) whole
      ∙ appended-append old out xs (take grew.count ys)
      ∙ ap (λ (bytes : List ℕ). appended old out bytes) (sym (take-append-add xs ys grew.count));
}

room_after : (e : Option CreatedOutput) (xs : List ℕ) (more room : ℕ)
    → HasRoom e (length xs + more) room → HasRoom (with_bytes e xs) more room
room_after None xs more room has = has
room_after (Some e) xs more room has = omega (arith, length-append e.bytes xs, has)

-- what was written leaves room for the rest
pub room-appended : (old : Outputs) (out : Output) (xs : List ℕ) (more room : ℕ)
    → HasRoom (output old out) (length xs + more) room → HasRoom (output (appended old out xs) out) more room
room-appended old Cfg xs more room has = room_after old.cfg xs more room has
room-appended old Dat xs more room has = room_after old.dat xs more room has
room-appended old Note xs more room has = room_after old.note xs more room has
room-appended old Summary xs more room has = room_after old.summary xs more room has

-- fewer bytes have room too
pub room_less : (e : Option CreatedOutput) (more less room : ℕ)
    → less ≤ more → HasRoom e more room → HasRoom e less room
room_less None more less room le has = has
room_less (Some e) more less room le has = omega (arith, has)
