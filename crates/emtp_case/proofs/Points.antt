-- Lists of points that grow by one, for readers that judge point by point; the two modes of a three-phase line.
use Rattle.emtp_case.specs.Branch.{origin}
use Rattle.emtp_case.specs.held.Branch.{HasLineNumbers, IsCharacteristic, IsSegment, IsTrio}
use Rattle.emtp_case.specs.held.Control.{AreTimes, FollowsInTable, FollowsInTime, IsTable}
use Rattle.emtp_case.specs.declared.branch.Point.{Point}
use Rattle.emtp_case.specs.declared.branch.Trio.{Trio}
use Rattle.emtp_case.specs.declared.run_data.RunData.{RunData}
use Rattle.emtp_fix.specs.declared.limit.TheConstants.{LARGEST_TIME, LARGEST_VALUE}
use Rattle.std.proofs.Common.{arith, inl, inr}
use Rattle.std.proofs.Math.ListN.{get_or-append}
use Rattle.std.proofs.Math.Seq.{get_or-append_seam}
use Rattle.std.proofs.lemmas.Bool.{cases_lt}
use Rattle.std.proofs.lemmas.List.{length-append}
use Rattle.std.proofs.lemmas.List.Elements.{All-push}
use Rattle.std.specs.Prelude.{◌≡◌, ◌+◌, ◌-◌, ◌<◌, ◌≤◌, ◌<ℤ◌, ◌≤ℤ◌, ◌∷◌, ◌++◌, [], Bool, List, length, pos, slice_index_or, suc, unsigned_abs, zero, ℕ, ℤ}

-- the point that a segment to one more point begins at: the last one, or the origin
abbrev pub last_point : List Point → Point
last_point points = slice_index_or (origin ∷ points) (length points) origin

pub no_points : (reactor : Bool) (dt : ℤ) → IsCharacteristic reactor dt []
no_points reactor dt k h = absurd (omega arith)

-- one more point of a characteristic
pub one_more_point : (reactor : Bool) (dt : ℤ) (points : List Point) (p : Point) → IsCharacteristic reactor dt points → IsSegment reactor dt (last_point points) p → IsCharacteristic reactor dt (points ++ p ∷ [])
one_more_point reactor dt points p all last = λ k h. elim (cases_lt k (length points)) [
  | inl old ↦
      let from_same = get_or-append (origin ∷ points) (p ∷ []) origin k (omega arith) in
      let to_same = get_or-append points (p ∷ []) origin k old in
      rw (from_same, to_same) (all k old)
  | inr new ↦
      let here : k ≡ length points = omega (arith, length-append points (p ∷ [])) in
      let from_same = get_or-append (origin ∷ points) (p ∷ []) origin (length points) (omega arith) in
      let to_same = get_or-append_seam points p [] origin in
      rw (here, from_same, to_same) last
]

-- the modes of a three-phase line
pub two_modes : (run : RunData) (t : Trio) → HasLineNumbers run.dt (slice_index_or t.zc 0 (pos 0)) (slice_index_or t.r 0 (pos 0)) (slice_index_or t.delay 0 (pos 0))
    → HasLineNumbers run.dt (slice_index_or t.zc 1 (pos 0)) (slice_index_or t.r 1 (pos 0)) (slice_index_or t.delay 1 (pos 0)) → IsTrio run t
two_modes run t zero_sequence positive zero h = zero_sequence
two_modes run t zero_sequence positive (suc zero) h = positive
two_modes run t zero_sequence positive (suc (suc m)) h = absurd (omega arith)

-- one more point after some, where a relation holds of each two neighbours
neighbours : (R : Point → Point → Type 0) (points : List Point) (p : Point) → ((k : ℕ) → k + 1 < length points → R (slice_index_or points k origin) (slice_index_or points (k + 1) origin)) → (1 ≤ length points → R (slice_index_or points (length points - 1) origin) p)
    → (k : ℕ) → k + 1 < length (points ++ p ∷ []) → R (slice_index_or (points ++ p ∷ []) k origin) (slice_index_or (points ++ p ∷ []) (k + 1) origin)
neighbours R points p all last = λ k h. elim (cases_lt (k + 1) (length points)) [
  | inl old ↦ rw (get_or-append points (p ∷ []) origin k (omega arith), get_or-append points (p ∷ []) origin (k + 1) old) (all k old)
  | inr new ↦
      let next : k + 1 ≡ length points = omega (arith, length-append points (p ∷ [])) in
      let here : k ≡ length points - 1 = omega arith in
      let seam = get_or-append_seam points p [] origin in
      rw (get_or-append points (p ∷ []) origin k (omega arith), next, seam, here) (last (omega arith))
]

pub one_more_in_table : (points : List Point) (p : Point) → IsTable points → FollowsInTable points p → IsTable (points ++ p ∷ [])
one_more_in_table points p h next = record {
  some = omega (arith, h.some, length-append points (p ∷ []));
  few = omega (arith, next.room, length-append points (p ∷ []));
  inputs = All-push (λ (q : Point). unsigned_abs q.current ≤ LARGEST_VALUE) points p h.inputs next.input;
  outputs = All-push (λ (q : Point). unsigned_abs q.other ≤ LARGEST_VALUE) points p h.outputs next.output;
  rising = neighbours (λ a b. a.current <ℤ b.current) points p h.rising (λ some. next.rises);
}

pub one_more_pair : (points : List Point) (p : Point) → AreTimes points → FollowsInTime points p → AreTimes (points ++ p ∷ [])
one_more_pair points p h next = record {
  some = omega (arith, h.some, length-append points (p ∷ []));
  few = omega (arith, next.room, length-append points (p ∷ []));
  close = All-push (λ (q : Point). pos 0 ≤ℤ q.current) points p h.close next.close;
  «open» = All-push (λ (q : Point). q.other ≤ℤ pos LARGEST_TIME) points p h.«open» next.«open»;
  closes_first = All-push (λ (q : Point). q.current <ℤ q.other) points p h.closes_first next.closes_first;
  in_turn = neighbours (λ a b. a.other ≤ℤ b.current) points p h.in_turn (λ some. next.in_turn);
}
