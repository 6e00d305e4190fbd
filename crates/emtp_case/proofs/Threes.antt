-- The phases of three-phase lines keep their places where branches are added.
use Rattle.emtp_case.specs.Branch.{first_of_trio}
use Rattle.emtp_case.specs.held.Branch.{AreInThrees, IsBranch, IsSingle, phase_at, phase_of}
use Rattle.emtp_case.specs.held.Sizes.{Sizes}
use Rattle.emtp_case.specs.declared.branch.Branch.{Branch}
use Rattle.emtp_case.specs.declared.branch.Branch.TheVariants.{Line as OfLine, Lumped as OfLumped, Phase as OfPhase, Pseudo as OfPseudo}
use Rattle.emtp_case.specs.declared.branch.Point.{Point}
use Rattle.emtp_case.specs.declared.branch.Trio.{Trio}
use Rattle.emtp_case.specs.declared.run_data.RunData.{RunData}
use Rattle.std.proofs.Common.{◌∙◌, ap, arith, sym, ⊎_elim}
use Rattle.std.proofs.Math.ListN.{get_or-append}
use Rattle.std.proofs.Math.Seq.{get_or-append_seam}
use Rattle.std.proofs.lemmas.Bool.{cases_lt}
use Rattle.std.proofs.lemmas.List.{get_or-append-add, length-append, length-map, map-append}
use Rattle.std.proofs.lemmas.List.Elements.{All-head, All-tail}
use Rattle.std.specs.Prelude.{◌≡◌, ◌+◌, ◌-◌, ◌<◌, ◌≤◌, ◌∷◌, ◌++◌, [], All, List, None, Some, length, map, refl, slice_index_or, suc, zero, ℕ}

-- an item, which is the default past the end, stays where the default is added
get_or-append_default : {X : Type 0} (xs : List X) (d : X) (i : ℕ) → slice_index_or (xs ++ d ∷ []) i d ≡ slice_index_or xs i d
get_or-append_default [] d zero = refl
get_or-append_default [] d (suc i) = refl
get_or-append_default (x ∷ xs) d zero = refl
get_or-append_default (x ∷ xs) d (suc i) = get_or-append_default xs d i

phase_of-single : (x : Branch) → IsSingle x → phase_of x ≡ None
phase_of-single (OfLumped b) h = refl
phase_of-single (OfLine b) h = refl
phase_of-single (OfPseudo b) h = refl
phase_of-single (OfPhase b) h = absurd h

phase_at-single : (bs : List Branch) (x : Branch) → IsSingle x → (at : ℕ) → phase_at (bs ++ x ∷ []) at ≡ phase_at bs at
phase_at-single bs x single at =
    ap (λ ps. slice_index_or ps at None) (map-append phase_of bs (x ∷ [])) ∙ ap (λ p. slice_index_or (map phase_of bs ++ p ∷ []) at None) (phase_of-single x single)
    ∙ get_or-append_default (map phase_of bs) None at

pub threes_and_single : (bs : List Branch) (ts : List Trio) (x : Branch) → IsSingle x → AreInThrees bs ts → AreInThrees (bs ++ x ∷ []) ts
threes_and_single bs ts x single h = record {
  phases = λ t p lt lp. phase_at-single bs x single (first_of_trio ts t + p) ∙ h.phases t p lt lp;
  places = λ at t p e. h.places at t p (sym (phase_at-single bs x single at) ∙ e);
}

-- a phase that stands somewhere stands within the list
phase_within : (bs : List Branch) (at : ℕ) (x : ℕ × ℕ) → phase_at bs at ≡ Some x → at < length bs
phase_within [] zero x e = absurd (cc)
phase_within [] (suc at) x e = absurd (cc)
phase_within (b ∷ bs) zero x e = omega arith
phase_within (b ∷ bs) (suc at) x e = omega (arith, phase_within bs at x e)

phase_at-append : (bs more : List Branch) (at : ℕ) → at < length bs → phase_at (bs ++ more) at ≡ phase_at bs at
phase_at-append bs more at h =
    ap (λ ps. slice_index_or ps at None) (map-append phase_of bs more) ∙ get_or-append (map phase_of bs) (map phase_of more) None at (omega (arith, length-map bs phase_of))

phase_at-behind : (bs more : List Branch) (k : ℕ) → phase_at (bs ++ more) (length bs + k) ≡ phase_at more k
phase_at-behind bs more k =
    ap (λ ps. slice_index_or ps (length bs + k) None) (map-append phase_of bs more)
    ∙ ap (λ n. slice_index_or (map phase_of bs ++ map phase_of more) (n + k) None) (sym (length-map bs phase_of))
    ∙ get_or-append-add (map phase_of bs) (map phase_of more) k None

first_of_trio-append : (ts : List Trio) (x : Trio) (t : ℕ) → t < length ts → first_of_trio (ts ++ x ∷ []) t ≡ first_of_trio ts t
first_of_trio-append ts x t h =
    ap (λ ns. slice_index_or ns t 0) (map-append (λ (y : Trio). y.first) ts (x ∷ []))
    ∙ get_or-append (map (λ (y : Trio). y.first) ts) (x.first ∷ []) 0 t (omega (arith, length-map ts (λ (y : Trio). y.first)))

first_of_trio-last : (ts : List Trio) (x : Trio) (t : ℕ) → t ≡ length ts → first_of_trio (ts ++ x ∷ []) t ≡ x.first
first_of_trio-last ts x t e =
    ap (λ ns. slice_index_or ns t 0) (map-append (λ (y : Trio). y.first) ts (x ∷ []))
    ∙ ap (λ n. slice_index_or (map (λ (y : Trio). y.first) ts ++ x.first ∷ []) n 0) (e ∙ sym (length-map ts (λ (y : Trio). y.first)))
    ∙ get_or-append_seam (map (λ (y : Trio). y.first) ts) x.first [] 0

some_same : (x y : ℕ × ℕ) → Some x ≡ Some y → x ≡ y
some_same x y e = (cc)

-- a phase names a three-phase line that is there
trio_there : (run : RunData) (n : Sizes) (points : List Point) (bs : List Branch) (at t p : ℕ) → All (IsBranch run n points) bs → phase_at bs at ≡ Some (t, p) → t < n.trios
trio_there run n points [] zero t p h e = absurd (cc)
trio_there run n points [] (suc at) t p h e = absurd (cc)
trio_there run n points (b ∷ bs) zero t p h e = of_branch b (All-head (IsBranch run n points) b bs h) e
  where
    of_branch : (b : Branch) → IsBranch run n points b → phase_of b ≡ Some (t, p) → t < n.trios
    of_branch (OfLumped b) h e = absurd (cc)
    of_branch (OfLine b) h e = absurd (cc)
    of_branch (OfPseudo b) h e = absurd (cc)
    of_branch (OfPhase b) h e = let same : b.trio ≡ t = ap (λ (x : ℕ × ℕ). x.0) (some_same (b.trio, b.phase) (t, p) e) in omega (arith, h.trio, same)
trio_there run n points (b ∷ bs) (suc at) t p h e = trio_there run n points bs at t p (All-tail (IsBranch run n points) b bs h) e

-- the three phases of a line that is added
pub record ArePhases (bs : List Branch) (ts : List Trio) (x : Trio) (a b c : Branch) : Type 0 where
  pub first : x.first ≡ length bs
  pub phase0 : phase_of a ≡ Some (length ts, 0)
  pub phase1 : phase_of b ≡ Some (length ts, 1)
  pub phase2 : phase_of c ≡ Some (length ts, 2)

new_phase : (bs : List Branch) (ts : List Trio) (x : Trio) (a b c : Branch) → ArePhases bs ts x a b c → (p : ℕ) → p < 3 → phase_at (a ∷ b ∷ c ∷ []) p ≡ Some (length ts, p)
new_phase bs ts x a b c h zero lp = h.phase0
new_phase bs ts x a b c h (suc zero) lp = h.phase1
new_phase bs ts x a b c h (suc (suc zero)) lp = h.phase2
new_phase bs ts x a b c h (suc (suc (suc p))) lp = absurd (omega arith)

-- only phases of the new line stand behind the old branches
new_place : (bs : List Branch) (ts : List Trio) (x : Trio) (a b c : Branch) → ArePhases bs ts x a b c → (k t p : ℕ) → phase_at (a ∷ b ∷ c ∷ []) k ≡ Some (t, p) → (t ≡ length ts) × (p ≡ k)
new_place bs ts x a b c h zero t p e = let same : (length ts, 0) ≡ (t, p) = some_same _ _ (sym h.phase0 ∙ e) in (sym (ap (λ (y : ℕ × ℕ). y.0) same), sym (ap (λ (y : ℕ × ℕ). y.1) same))
new_place bs ts x a b c h (suc zero) t p e = let same : (length ts, 1) ≡ (t, p) = some_same _ _ (sym h.phase1 ∙ e) in (sym (ap (λ (y : ℕ × ℕ). y.0) same), sym (ap (λ (y : ℕ × ℕ). y.1) same))
new_place bs ts x a b c h (suc (suc zero)) t p e = let same : (length ts, 2) ≡ (t, p) = some_same _ _ (sym h.phase2 ∙ e) in (sym (ap (λ (y : ℕ × ℕ). y.0) same), sym (ap (λ (y : ℕ × ℕ). y.1) same))
new_place bs ts x a b c h (suc (suc (suc k))) t p e = absurd (omega (arith, phase_within (a ∷ b ∷ c ∷ []) (suc (suc (suc k))) (t, p) e))

pub threes_and_trio : (run : RunData) (n : Sizes) (points : List Point) (bs : List Branch) (ts : List Trio) (x : Trio) (a b c : Branch) → ArePhases bs ts x a b c → n.trios ≡ length ts → All (IsBranch run n points) bs → AreInThrees bs ts
    → AreInThrees (bs ++ a ∷ b ∷ c ∷ []) (ts ++ x ∷ [])
threes_and_trio run n points bs ts x a b c new count all h = record {
  phases = λ t p lt lp. ⊎_elim
      (λ (old : t < length ts).
      let was = h.phases t p old lp in
      ap (λ n. phase_at (bs ++ a ∷ b ∷ c ∷ []) (n + p)) (first_of_trio-append ts x t old)
      ∙ phase_at-append bs (a ∷ b ∷ c ∷ []) (first_of_trio ts t + p) (phase_within bs (first_of_trio ts t + p) (t, p) was) ∙ was)
      (λ (past : length ts ≤ t).
      let last : t ≡ length ts = omega (arith, length-append ts (x ∷ [])) in
      ap (λ n. phase_at (bs ++ a ∷ b ∷ c ∷ []) (n + p)) (first_of_trio-last ts x t last ∙ new.first)
      ∙ phase_at-behind bs (a ∷ b ∷ c ∷ []) p ∙ new_phase bs ts x a b c new p lp ∙ ap (λ n. Some (n, p)) (sym last))
      (cases_lt t (length ts));
  places = λ at t p e. ⊎_elim
      (λ (old : at < length bs).
      let was : phase_at bs at ≡ Some (t, p) = sym (phase_at-append bs (a ∷ b ∷ c ∷ []) at old) ∙ e in
      h.places at t p was ∙ ap (λ n. n + p) (sym (first_of_trio-append ts x t (omega (arith, count, trio_there run n points bs at t p all was)))))
      (λ (past : length bs ≤ at).
      let k = at - length bs in
      let split : at ≡ length bs + k = omega arith in
      let here : phase_at (a ∷ b ∷ c ∷ []) k ≡ Some (t, p) = sym (phase_at-behind bs (a ∷ b ∷ c ∷ []) k) ∙ ap (phase_at (bs ++ a ∷ b ∷ c ∷ [])) (sym split) ∙ e in
      let is = new_place bs ts x a b c new k t p here in
      omega (arith, split, is.0, is.1, first_of_trio-last ts x t is.0, new.first))
      (cases_lt at (length bs));
}
