-- The work on right sides, ratio by ratio.
use Rattle.emtp_fix.specs.declared.limit.TheConstants.{LARGEST_VALUE}
use Rattle.std.proofs.Common.{◌≡◌, ℕ, suc, ◌+◌, ◌<◌, ◌≤◌, ℤ, unsigned_abs, List, slice_index, sym, ◌∙◌, inl, inr, arith}
use Rattle.std.proofs.lemmas.Bool.{cases_lt}
use Rattle.emtp_elim.specs.Matrix.{item}
use Rattle.emtp_elim.specs.Elimination.{less_product}
use Rattle.emtp_elim.specs.held.Stored.{AreEntries}
use Rattle.emtp_elim.specs.held.Substitution.{partial_right}
use Rattle.emtp_elim.proofs.Entries.{IsAt, at_start, at_entry, at_next, stands_still}
use Rattle.emtp_elim.proofs.Products.{less_product-zero_left}

-- over ratios that are 0 nothing changes
partial_still : (start : ℤ) (ratios above : List ℤ) (i : ℕ) (columns : List ℕ) (values : List ℤ) (first e last a b : ℕ) → AreEntries ratios 0 i columns values first last
    → IsAt columns first e last a → IsAt columns first e last b → a ≤ b → b ≤ i → partial_right start ratios above b ≡ partial_right start ratios above a
partial_still start ratios above i columns values first e last a b entries at_a at_b low high =
    stands_still (partial_right start ratios above) ratios 0 i columns values first e last a b entries at_a at_b (omega arith) low high
    (λ j from_on clear. rw clear (less_product-zero_left (partial_right start ratios above j) (item above j)))

-- the products of the ratios before place e are taken away, so that h columns are done for each h up to the next ratio
pub record IsPartial (start : ℤ) (ratios above : List ℤ) (i : ℕ) (columns : List ℕ) (first e last : ℕ) (value : ℤ) : Type 0 where
  pub value_is : (h : ℕ) → h ≤ i → IsAt columns first e last h → value ≡ partial_right start ratios above h
  pub small : unsigned_abs value ≤ LARGEST_VALUE
  pub within : (h g : ℕ) → h ≤ g → g ≤ i → IsAt columns first e last g → unsigned_abs (partial_right start ratios above h) ≤ LARGEST_VALUE

pub partial_start : (start : ℤ) (ratios above : List ℤ) (i : ℕ) (columns : List ℕ) (values : List ℤ) (first last : ℕ) → AreEntries ratios 0 i columns values first last
    → unsigned_abs start ≤ LARGEST_VALUE → IsPartial start ratios above i columns first first last start
partial_start start ratios above i columns values first last entries small =
    let still : (h g : ℕ) → h ≤ g → g ≤ i → IsAt columns first first last g → partial_right start ratios above h ≡ start = λ h g low inside at.
    partial_still start ratios above i columns values first first last 0 h entries (at_start ratios 0 i columns values first last 0 entries (λ d from_on below. omega arith))
    (at_start ratios 0 i columns values first last h entries (λ d from_on below. omega (arith, at.after d from_on below))) (omega arith) (omega arith) in
    record {
      value_is = λ h inside at. sym (still h h (omega arith) inside at);
      small = small;
      within = λ h g low inside at. rw (still h g low inside at) small;
    }

-- one product more
pub partial_next : (start : ℤ) (ratios above : List ℤ) (i : ℕ) (columns : List ℕ) (values : List ℤ) (first e last : ℕ) (value m p v : ℤ)
    → AreEntries ratios 0 i columns values first last → IsPartial start ratios above i columns first e last value → first ≤ e → e < last
    → m ≡ item values e → p ≡ item above (slice_index columns e) → v ≡ less_product value m p → v ≡ partial_right start ratios above (suc (slice_index columns e))
partial_next start ratios above i columns values first e last value m p v entries was low_e inside m_is p_is v_is =
    let k = slice_index columns e in
    let before : k < i = entries.high e low_e inside in
    let ratio_is : m ≡ item ratios k = m_is ∙ entries.value_is e low_e inside in
    let same_value : value ≡ partial_right start ratios above k = was.value_is k (omega arith) (at_entry ratios 0 i columns values first e last entries low_e inside) in
    rw (same_value, ratio_is, p_is) at v_is

pub partial_more : (start : ℤ) (ratios above : List ℤ) (i : ℕ) (columns : List ℕ) (values : List ℤ) (first e last : ℕ) (value v : ℤ)
    → AreEntries ratios 0 i columns values first last → IsPartial start ratios above i columns first e last value → first ≤ e → e < last
    → v ≡ partial_right start ratios above (suc (slice_index columns e)) → unsigned_abs v ≤ LARGEST_VALUE → IsPartial start ratios above i columns first (e + 1) last v
partial_more start ratios above i columns values first e last value v entries was low_e inside next small =
    let k = slice_index columns e in
    let still : (h g : ℕ) → k < h → h ≤ g → g ≤ i → IsAt columns first (e + 1) last g → partial_right start ratios above h ≡ v = λ h g past low in_row at.
    let next_at = at_next ratios 0 i columns values first e last entries low_e inside in
    partial_still start ratios above i columns values first (e + 1) last (suc k) h entries next_at
    (record { before = λ d from_on below. omega (arith, next_at.before d from_on below); after = λ d from_on below. omega (arith, at.after d from_on below) }) (omega arith) (omega arith) ∙ sym next in
    record {
      value_is = λ h in_row at. sym (still h h (at.before e low_e (omega arith)) (omega arith) in_row at);
      small = small;
      within = λ h g low in_row at. elim (cases_lt k h) [
        | inl past ↦ rw (still h g past low in_row at) small
        | inr reached ↦ was.within h k reached (omega (arith, entries.high e low_e inside)) (at_entry ratios 0 i columns values first e last entries low_e inside)
      ];
    }
