-- The values of the channels, one after the other.
use Rattle.std.proofs.Common.{◌≡◌, ◌∙◌, sym, ℕ, ◌+◌, ◌<◌, ℤ, pos, List, length, map, get_or, slice_set, get_or-set_same, get_or-set_other, inl, inr, arith}
use Rattle.std.proofs.lemmas.Bool.{cases_eq}
use Rattle.std.proofs.lemmas.List.{ext_get_or, get_or-map, length-map}
use Rattle.emtp_elim.specs.Matrix.{item}
use Rattle.emtp_case.specs.declared.channel.Channel.{Channel}

-- the values before this place are those of the channels
abbrev pub AreFilled : (Channel → ℤ) → List Channel → List ℤ → ℕ → Type 0
AreFilled f channels row n = (k : ℕ) → k < n → item row k ≡ item (map f channels) k

pub filled_more : (f : Channel → ℤ) (channels : List Channel) (row : List ℤ) (i : ℕ) (v : ℤ) (d : Channel) → i < length row → i < length channels → v ≡ f (get_or channels i d) → AreFilled f channels row i → AreFilled f channels (slice_set row i v) (i + 1)
filled_more f channels row i v d inside within is before = λ k below. elim (cases_eq k i) [
  | inl same ↦ rw (same, get_or-set_same) (is ∙ sym (get_or-map f channels i d (pos 0) within))
  | inr ne ↦ rw get_or-set_other (before k (omega arith))
]

pub filled_all : (f : Channel → ℤ) (channels : List Channel) (row : List ℤ) → length row ≡ length channels → ((k : ℕ) → k < length row → item row k ≡ item (map f channels) k) → row ≡ map f channels
filled_all f channels row size each = ext_get_or (pos 0) row (map f channels) (size ∙ sym (length-map channels f)) each
