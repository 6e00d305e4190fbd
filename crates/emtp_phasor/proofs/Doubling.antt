-- The doubled matrix, entry by entry.
use Rattle.std.proofs.Common.{◌≡◌, ◌∙◌, sym, ap, ℕ, ◌*◌, ◌/◌, ◌<◌, ℤ, pos, List, [], length, arith}
use Rattle.std.proofs.lemmas.List.{ext_get_or}
use Rattle.std.proofs.lemmas.List.FromFn.{length-map-range_with_len, get_or-map-range_with_len}
use Rattle.emtp_elim.specs.Matrix.{item, row_of, entry}
use Rattle.emtp_case.specs.declared.case.Parts.{Parts}
use Rattle.emtp_case.specs.declared.row_kind.RowKind.{RowKind}
use Rattle.emtp_case.specs.NodeRows.{kind_at}
use Rattle.emtp_phasor.specs.Doubled.{Doubled, doubled_matrix, doubled_entry}
use Rattle.emtp_phasor.specs.Volts.{doubled_right_by, doubled_right}

pub length-doubled_matrix : (s : Doubled) → length (doubled_matrix s) ≡ 2 * length s.case.nodes
unfolding doubled_matrix
length-doubled_matrix s = length-map-range_with_len _ 0 (2 * length s.case.nodes)

pub length-doubled_row : (s : Doubled) (r : ℕ) → r < 2 * length s.case.nodes → length (row_of (doubled_matrix s) r) ≡ 2 * length s.case.nodes
unfolding doubled_matrix
length-doubled_row s r below = ap length (get_or-map-range_with_len _ 0 (2 * length s.case.nodes) r r [] below (omega arith)) ∙ length-map-range_with_len _ 0 (2 * length s.case.nodes)

pub doubled_matrix_entry : (s : Doubled) (r c : ℕ) → r < 2 * length s.case.nodes → c < 2 * length s.case.nodes → entry (doubled_matrix s) r c ≡ doubled_entry s r c (kind_at s.kinds (r / 2))
unfolding doubled_matrix
doubled_matrix_entry s r c below within =
    ap (λ row. item row c) (get_or-map-range_with_len _ 0 (2 * length s.case.nodes) r r [] below (omega arith))
    ∙ get_or-map-range_with_len _ 0 (2 * length s.case.nodes) c c (pos 0) within (omega arith)

-- a row by its entries
pub row_is : (s : Doubled) (r : ℕ) (out : List ℤ) → r < 2 * length s.case.nodes → length out ≡ 2 * length s.case.nodes → ((c : ℕ) → c < length out → item out c ≡ doubled_entry s r c (kind_at s.kinds (r / 2))) → out ≡ row_of (doubled_matrix s) r
row_is s r out below long each =
    ext_get_or (pos 0) out (row_of (doubled_matrix s) r) (long ∙ sym (length-doubled_row s r below))
    (λ c inside. each c inside ∙ sym (doubled_matrix_entry s r c below (omega (arith, inside, long))))

-- ---- the right side

pub length-right_side : (case : Parts) (kinds : List RowKind) → length (doubled_right case kinds) ≡ 2 * length case.nodes
unfolding doubled_right
length-right_side case kinds = length-map-range_with_len (λ r. doubled_right_by case kinds r (kind_at kinds (r / 2))) 0 (2 * length case.nodes)
