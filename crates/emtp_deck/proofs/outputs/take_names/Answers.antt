use Rattle.std.proofs.Common.{◌≡◌, ◌∙◌, ℕ, ◌+◌, ◌<◌, List, Err, None, Option, Result, Some, ap, arith, drop, get_or, length, refl, sym}
use Rattle.std.proofs.lemmas.List.{at_drop_all, at_drop_more}
use Rattle.emtp_card.specs.declared.reason.Bad.{Bad}
use Rattle.emtp_card.specs.declared.reason.Refused.{Refused}
use Rattle.emtp_card.specs.declared.reason.Refused.TheVariants.{Bad as OfBad, NoMemory}
use Rattle.emtp_walk.specs.Answer.{go_on}
use Rattle.emtp_deck.specs.held.Filling.{Makes, made_of}
use Rattle.emtp_deck.specs.Made.{Made}
use Rattle.emtp_deck.specs.declared.outputs.Named.{Named}
use Rattle.emtp_deck.specs.Outputs.{take_name, take_names}
use Rattle.emtp_deck.proofs.outputs.take_names.Goals.{in-Some+in-Ok, in_default}
use Rattle.emtp_deck.proofs.outputs.take_names.Goals as goal

-- one name further
further : (named : Named) (line : ℕ) (m : Made) (column : ℕ) (names : List (Option (List ℕ))) (i : ℕ) (x : Option (List ℕ)) (taken : Result Made Bad) → x ≡ get_or names i x → i < length names → take_name named line m column x ≡ taken
    → take_names named line m column (drop i names) ≡ go_on (λ (made : Made). take_names named line made (column + 6) (drop (i + 1) names)) taken
further named line m column names i x taken is inside takes =
    let go : Result Made Bad → Result Made Bad = go_on (λ (made : Made). take_names named line made (column + 6) (drop (i + 1) names)) in
    at_drop_more (take_names named line m column) names i x inside ∙ ap (λ y. go (take_name named line m column y)) (sym is) ∙ ap go takes

bad_left : (refused : Refused) (defined whole : Result Made Bad) (m : Made) → ((bad : Bad) → defined ≡ Err bad → whole ≡ Err bad) → Makes (Err refused) defined m → Makes (Err refused) whole m
bad_left (OfBad bad) defined whole m on is = on bad is
bad_left NoMemory defined whole m on is = is

pub take_known_name-requires : goal.take_known_name-requires
take_known_name-requires c = record { filling = c.loop-name.invariant.filling }

pub loop-name-preserved : goal.loop-name-preserved
loop-name-preserved c =
    let before = c.loop-name.invariant in
    let on = further c.args.named c.args.line (made_of c.loop-name.filling) c.loop-name.column c.args.names.now c.loop-name.name-index in
    elim c.match-name.branch [
      | in-Some+in-Ok w ↦ rw w.filling-is (record {
        same = before.same ∙ on (Some w.in-Some.name) _ (rw w.in-Some.is at c.name-item.is) c.loop-name-test.true w.in-Ok.ensures.value;
        column = omega (arith, before.column);
        filling = w.in-Ok.ensures.filling;
      })
      | in_default w ↦ rw w.filling-is (record {
        same = before.same ∙ on None _ (rw w.in_default.is at c.name-item.is) c.loop-name-test.true refl;
        column = omega (arith, before.column);
        filling = before.filling;
      })
    ]

pub returns-in-Err : goal.returns-in-Err
returns-in-Err c =
    let on = further c.args.named c.args.line (made_of c.loop-name.filling) c.loop-name.column c.args.names.now c.loop-name.name-index (Some c.in-Some.name) in
    record {
      value = bad_left c.in-Err.refused _ _ _ (λ bad is. c.loop-name.invariant.same ∙ on (Err bad) (rw c.in-Some.is at c.name-item.is) c.loop-name-test.true is) c.in-Err.ensures.value;
      filling = tt;
    }

pub returns : goal.returns
returns c = record {
  value = c.loop-name.invariant.same ∙ at_drop_all (take_names c.args.named c.args.line (made_of c.loop-name.filling) c.loop-name.column) c.args.names.now c.loop-name.name-index c.loop-name-test.false;
  filling = c.loop-name.invariant.filling;
}
