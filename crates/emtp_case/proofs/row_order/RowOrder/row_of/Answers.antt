use Rattle.std.proofs.Common.{◌≡◌, ◌≤◌, ◌<◌, ◌∙◌, ap, arith, get_or, length, sym}
use Rattle.std.proofs.lemmas.List.{get_or_default}
use Rattle.std.specs.Prelude.{List, slice_index, ℕ}
use Rattle.emtp_case.specs.RowOrder.{Rows}
use Rattle.emtp_case.specs.held.RowTable.{AreRows}
use Rattle.emtp_case.proofs.row_order.RowOrder.row_of.Goals as goal

row_read : (nodes rows : List ℕ) (node d : ℕ) → AreRows nodes rows → node ≤ length nodes → get_or rows node d ≡ slice_index rows node
row_read nodes rows node d h high = get_or_default rows node d _ (omega (arith, high, h.one_more))

pub returns-clause-within : goal.returns-clause-within
returns-clause-within c =
    let same = ap (λ (r : Rows). r.nodes) c.self.view_is in
    let high : c.args.node ≤ length c.self.inside.nodes.items = omega (arith, ap length same, c.requires.high) in
    omega (arith, c.index.ensures, row_read _ _ c.args.node c.index.result.now c.self.invariant high, ap length same, c.self.invariant.row_within c.args.node c.requires.low high)

pub returns-clause-there : goal.returns-clause-there
returns-clause-there c =
    let same = ap (λ (r : Rows). r.nodes) c.self.view_is in
    let high : c.args.node ≤ length c.self.inside.nodes.items = omega (arith, ap length same, c.requires.high) in
    let read = c.index.ensures ∙ row_read _ _ c.args.node c.index.result.now c.self.invariant high in
    ap (λ ns. slice_index ns c.index.result.now) (sym same) ∙ ap (slice_index c.self.inside.nodes.items) read ∙ c.self.invariant.row_leads c.args.node c.requires.low high

pub returns-clause-only : goal.returns-clause-only
returns-clause-only c = λ row below is.
    let same = ap (λ (r : Rows). r.nodes) c.self.view_is in
    let high : c.args.node ≤ length c.self.inside.nodes.items = omega (arith, ap length same, c.requires.high) in
    let read = c.index.ensures ∙ row_read _ _ c.args.node c.index.result.now c.self.invariant high in
    let inside : row < length c.self.inside.nodes.items = omega (arith, ap length same, below) in
    sym (c.self.invariant.node_leads row inside) ∙ ap (slice_index c.self.inside.rows.items) (ap (λ ns. slice_index ns row) same ∙ is) ∙ sym read
