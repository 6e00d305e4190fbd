-- Lists of numbers with the opposite signs.
use Rattle.std.proofs.Common.{◌≡◌, ◌∙◌, ℕ, zero, suc, ℤ, pos, neg_ℤ, unsigned_abs, if◌then◌else◌, Bool, true, false, List, [], ◌∷◌, map, slice_index_or, refl, ap, sym, arith}
use Rattle.std.specs.List.{range_with_len}
use Rattle.std.proofs.Math.Path.{fun_ext}
use Rattle.std.proofs.lemmas.Int.{ints}
use Rattle.std.proofs.lemmas.Simd.{map-map}
use Rattle.emtp_elim.specs.Matrix.{item, list_of}
use Rattle.emtp_elim.specs.held.Matrix.{opposites}

-- where f keeps what stands for no element, it may be applied before or after reading
pub place_map : {X Y : Type 0} (f : X → Y) (xs : List X) (i : ℕ) (d : X) → slice_index_or (map f xs) i (f d) ≡ f (slice_index_or xs i d)
place_map f [] i d = refl
place_map f (x ∷ xs) zero d = refl
place_map f (x ∷ xs) (suc i) d = place_map f xs i d

pub item_turned : (xs : List ℤ) (i : ℕ) → item (opposites xs) i ≡ neg_ℤ (item xs i)
item_turned xs i = place_map neg_ℤ xs i (pos 0)

pub abs_neg : (x : ℤ) → unsigned_abs (neg_ℤ x) ≡ unsigned_abs x
abs_neg x = omega (arith, ints)

pub map_turned : {X : Type 0} (f g : X → ℤ) → ((x : X) → g x ≡ neg_ℤ (f x)) → (xs : List X) → map g xs ≡ opposites (map f xs)
map_turned f g h xs = ap (λ k. map k xs) (fun_ext h) ∙ sym (map-map neg_ℤ f xs)

pub list_of_turned : (n : ℕ) (f g : ℕ → ℤ) → ((i : ℕ) → g i ≡ neg_ℤ (f i)) → list_of n g ≡ opposites (list_of n f)
list_of_turned n f g h = map_turned f g h (range_with_len 0 n)

pub if_turned : (b : Bool) (x y u v : ℤ) → u ≡ neg_ℤ x → v ≡ neg_ℤ y → (if b then u else v) ≡ neg_ℤ (if b then x else y)
if_turned true x y u v e h = e
if_turned false x y u v e h = h
