use Rattle.std.proofs.Common.{◌≡◌, ◌∙◌, sym, ap, ℕ, ◌<◌, ◌≤◌, List, [], ◌∷◌, ◌++◌, Some, None, length, map, arith, length-append, append-nil}
use Rattle.std.proofs.lemmas.List.{length-map}
use Rattle.std.proofs.lemmas.List.Elements.{All-weaker}
use Rattle.std.specs.Borrow.{Bor}
use Rattle.emtp_card.specs.Lines.{lines_of}
use Rattle.emtp_card.specs.declared.cards.TheConstants.{MAX_LINES, MAX_BYTES}
use Rattle.emtp_card.proofs.Splitting.{lines_by_pieces}
use Rattle.emtp_card.proofs.LineCount.{size_fault_by_count, size_fault_by_bytes, few_bytes}
use Rattle.emtp_card.proofs.cards.Cards.split.Goals as goal

seen : List (Bor (List ℕ)) → List (List ℕ)
seen lines = map (λ (line : Bor (List ℕ)). line.now) lines

length-seen : (lines : List (Bor (List ℕ))) → length (seen lines) ≡ length lines
unfolding seen
length-seen lines = length-map lines (λ (line : Bor (List ℕ)). line.now)

-- where nothing is left, the lines so far are all
all_seen : (lines : List (Bor (List ℕ))) (rest bytes : List ℕ) → seen lines ++ lines_of rest ≡ lines_of bytes → lines_of rest ≡ [] → length lines ≤ MAX_LINES → length (lines_of bytes) ≤ MAX_LINES
all_seen lines rest bytes all none few =
    let whole : lines_of bytes ≡ seen lines = sym all ∙ ap (λ t. seen lines ++ t) none ∙ append-nil (seen lines) in
    omega (arith, ap length whole, length-seen lines)

-- where a line is left beside as many as there may be, the case has too many
one_more : (lines : List (Bor (List ℕ))) (rest bytes line : List ℕ) (more : List (List ℕ)) → seen lines ++ lines_of rest ≡ lines_of bytes → lines_of rest ≡ line ∷ more → length lines ≡ MAX_LINES → MAX_LINES < length (lines_of bytes)
one_more lines rest bytes line more all left full =
    let whole : lines_of bytes ≡ seen lines ++ line ∷ more = sym all ∙ ap (λ t. seen lines ++ t) left in
    omega (arith, ap length whole, length-append (seen lines) (line ∷ more), length-seen lines)

pub returns-then-len-eq-MAX_LINES-clause-bad : goal.returns-then-len-eq-MAX_LINES-clause-bad
unfolding seen
returns-then-len-eq-MAX_LINES-clause-bad c = λ bad is.
    let same : c.too_many_lines.result ≡ bad = cc in
    let full : length c.loop-line.lines.items ≡ MAX_LINES = omega (arith, c.len.ensures) in
    let many = one_more c.loop-line.lines.items c.loop-line.rest.now c.args.bytes.now c.in-Some.line.now (lines_of c.in-Some.tail.now) c.loop-line.invariant.lines c.in-Some.ensures.lines full in
    size_fault_by_count c.args.bytes.now c.past_bytes-far.result c.lesser-first.result many c.past_bytes-far.ensures c.lesser-first.ensures
    ∙ ap Some (sym c.too_many_lines.ensures ∙ same)

pub returns-in-Some-far-clause-bad : goal.returns-in-Some-far-clause-bad
unfolding seen
returns-in-Some-far-clause-bad c = λ bad is.
    let same : c.too_many_lines-in-Some-far.result ≡ bad = cc in
    let few = all_seen c.loop-line.lines.items c.loop-line.rest.now c.args.bytes.now c.loop-line.invariant.lines c.in_default.ensures.lines c.loop-line.invariant.few in
    size_fault_by_bytes c.args.bytes.now (Some c.in-Some-far.line) few c.in-Some-far.ensures
    ∙ ap Some (sym c.too_many_lines-in-Some-far.ensures ∙ same)

pub returns-clause-fits : goal.returns-clause-fits
unfolding seen
returns-clause-fits c =
    let few = all_seen c.loop-line.lines.items c.loop-line.rest.now c.args.bytes.now c.loop-line.invariant.lines c.in_default.ensures.lines c.loop-line.invariant.few in
    size_fault_by_bytes c.args.bytes.now None few (c.in-None.ensures {u = tt})

pub returns-then-len-eq-MAX_LINES-clause-pieces : goal.returns-then-len-eq-MAX_LINES-clause-pieces
returns-then-len-eq-MAX_LINES-clause-pieces c = lines_by_pieces c.args.bytes.now

pub returns-in_err-push-clause-pieces : goal.returns-in_err-push-clause-pieces
returns-in_err-push-clause-pieces c = lines_by_pieces c.args.bytes.now

pub returns-in-Some-far-clause-pieces : goal.returns-in-Some-far-clause-pieces
returns-in-Some-far-clause-pieces c = lines_by_pieces c.args.bytes.now

pub returns-clause-pieces : goal.returns-clause-pieces
returns-clause-pieces c = lines_by_pieces c.args.bytes.now

pub invariant_of-result : goal.invariant_of-result
invariant_of-result c =
    let bytes = few_bytes c.args.bytes.now (sym (c.in-None.ensures {u = tt})) in
    record {
      few = c.loop-line.invariant.few;
      short = All-weaker (λ (line : Bor (List ℕ)). length line.now ≤ length c.args.bytes.now) (λ (line : Bor (List ℕ)). length line.now ≤ MAX_BYTES) (λ line h. omega (arith, h, bytes)) c.loop-line.lines.items c.loop-line.invariant.short;
    }
