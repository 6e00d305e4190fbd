use Rattle.std.proofs.Common.{◌≡◌, ◌∙◌, sym, ap, ℕ, ◌+◌, ◌-◌, ◌<◌, ◌==◌, cond, false, [], ◌∷◌, length, take, drop, List, arith, length-drop, length-take}
use Rattle.std.proofs.lemmas.Bool.Decides.{nat_tests}
use Rattle.std.proofs.lemmas.List.{take_rest, drop_all}
use Rattle.emtp_card.specs.Lines.{lines_of}
use Rattle.emtp_card.proofs.Splitting.{found_is, first_line, last_line, lines_of-nil}
use Rattle.emtp_card.proofs.cards.next_line.Goals as goal

-- what `&rest[rest.len()..]` reads
no_tail : (xs : List ℕ) → take (length xs - length xs) (drop (length xs) xs) ≡ []
no_tail xs = take_rest xs (length xs) ∙ drop_all (length xs) xs (omega arith)

some_bytes : (n : ℕ) → false ≡ (n == 0) → 0 < n
some_bytes n h = grind (arith, nat_tests)

pub returns-in-Some-clause-lines : goal.returns-in-Some-clause-lines
returns-in-Some-clause-lines c =
    let rest = c.args.rest.now in
    let end = c.in-Some.end in
    let line = c.without_carriage_return.result.now in
    first_line rest end (sym c.in-Some.ensures)
    ∙ ap (λ t. t ∷ lines_of (drop (end + 1) rest)) (sym c.without_carriage_return.ensures.value)
    ∙ ap (λ t. line ∷ lines_of t) (sym (take_rest rest (end + 1)))

pub returns-in-Some-clause-short : goal.returns-in-Some-clause-short
returns-in-Some-clause-short c =
    let rest = c.args.rest.now in
    let end = c.in-Some.end in
    let found = found_is rest end (sym c.in-Some.ensures) in (
      omega (arith, c.without_carriage_return.ensures.short, length-take end rest),
      omega (arith, ap length (take_rest rest (end + 1)), length-drop (end + 1) rest, found.0),
    )

pub returns-then-is_empty-clause-lines : goal.returns-then-is_empty-clause-lines
returns-then-is_empty-clause-lines c =
    last_line c.args.rest.now (sym c.in-None.ensures)
    ∙ ap (λ t. cond t [] (c.args.rest.now ∷ [])) (sym c.if-is_empty.ensures)

pub returns-else-is_empty-clause-lines : goal.returns-else-is_empty-clause-lines
returns-else-is_empty-clause-lines c =
    let rest = c.args.rest.now in
    last_line rest (sym c.in-None.ensures)
    ∙ ap (λ t. cond t [] (rest ∷ [])) (sym c.if-is_empty.ensures)
    ∙ ap (λ t. rest ∷ t) (sym lines_of-nil)
    ∙ ap (λ t. rest ∷ lines_of t) (sym (no_tail rest))

pub returns-else-is_empty-clause-short : goal.returns-else-is_empty-clause-short
returns-else-is_empty-clause-short c =
    let rest = c.args.rest.now in
    (omega arith, omega (arith, ap length (no_tail rest), some_bytes (length rest) c.if-is_empty.ensures))
