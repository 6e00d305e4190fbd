-- A branch whose values a card takes is one of the case.
use Rattle.std.proofs.Common.{◌≡◌, subst, ℕ, suc, ◌==◌, ℤ, Bool, true, false, ◌&&◌, List, [], ◌∷◌, Option, Some, refl, arith}
use Rattle.std.specs.Prelude.{All, find, if◌then◌else◌}
use Rattle.std.specs.Ordering.{int_eq}
use Rattle.emtp_case.specs.Branch.{from_of, to_of}
use Rattle.emtp_case.specs.held.Branch.{IsBranch}
use Rattle.emtp_case.specs.held.Sizes.{sizes_of}
use Rattle.emtp_case.specs.declared.branch.Branch.{Branch}
use Rattle.emtp_case.specs.declared.case.Parts.{Parts}
use Rattle.emtp_deck.specs.Copies.{is_like, type_of_branch}
use Rattle.emtp_deck.specs.held.Copies.{IsEarlier}

-- what is found passes the test, and has what all have
record IsFound {X : Type 0} (p : X → Bool) (P : X → Type 0) (x : X) : Type 0 where
  passes : p x ≡ true
  has : P x

here : {X : Type 0} (p : X → Bool) (P : X → Type 0) (y x : X) (is : Bool) (rest : Option X) → p y ≡ is → P y → (rest ≡ Some x → IsFound p P x) → (if is then Some y else rest) ≡ Some x → IsFound p P x
here p P y x true rest h has later e = let same : y ≡ x = cc in record { passes = subst (λ z. p z ≡ true) same h; has = subst P same has }
here p P y x false rest h has later e = later e

found : {X : Type 0} (p : X → Bool) (P : X → Type 0) (xs : List X) (x : X) → All P xs → find p xs ≡ Some x → IsFound p P x
found p P [] x all e = cc
found p P (y ∷ ys) x all e =
    here p P y x (p y) (find p ys) refl (all 0 y (omega arith))
    (λ e'. found p P ys x (λ k d lt. all (suc k) d (omega arith)) e') e

of_type : (n type : ℤ) (b c : Bool) → (b && c && int_eq n type) ≡ true → n ≡ type
of_type n type b c e = grind arith

pub earlier : (p : Parts) (type : ℤ) (a b : ℕ) (x : Branch) → All (IsBranch p.run (sizes_of p) p.points) p.branches → find (is_like type a b) p.branches ≡ Some x → IsEarlier p type x
earlier p type a b x all e =
    let is = found (is_like type a b) (IsBranch p.run (sizes_of p) p.points) p.branches x all e in
    record { there = is.has; same = of_type (type_of_branch x) type (from_of x == a) (to_of x == b) is.passes }
