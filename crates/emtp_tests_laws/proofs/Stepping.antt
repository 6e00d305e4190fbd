-- One branch after the other.
use Rattle.std.proofs.Common.{◌≡◌, ◌≢◌, ◌∙◌, sym, subst, ℕ, ◌+◌, ◌<◌, ◌≤◌, ℤ, pos, List, ◌∷◌, length, slice_set, slice_index_or, get_or-set_same, get_or-set_other, IsSome, Option, Some, refl, inl, inr, arith}
use Rattle.std.proofs.lemmas.Bool.{cases_eq}
use Rattle.std.proofs.lemmas.Option.{slice_get_within}
use Rattle.emtp_case.specs.StepRecord.{StepRecord, lumped_at}
use Rattle.emtp_case.specs.declared.branch.Branch.TheVariants.{Lumped as OfLumped}
use Rattle.emtp_case.specs.declared.branch.Lumped.{Lumped}
use Rattle.emtp_case.specs.declared.branch.LumpedState.{LumpedState}
use Rattle.emtp_case.specs.declared.case.Parts.{Parts}
use Rattle.emtp_lumped.specs.Lumps.{states_of}
use Rattle.emtp_lumped.specs.held.Lumps.{Lumping, IsSeries, HasMoved, StandsAt, StandsFor}
use Rattle.emtp_tests_laws.specs.Stepping.{next_at, HaveMoved, IsNext}
use Rattle.emtp_tests_laws.proofs.Reading.{series_in}

-- what stood at the other branches stands there still
abbrev pub KeepsOthers : Lumping → Lumping → ℕ → Type 0
KeepsOthers s t at = (b : ℕ) (past : List LumpedState) → b ≢ at → StandsAt s b past → StandsAt t b past

-- the branches from n on stand as before
abbrev pub HaveStayed : Parts → List StepRecord → Lumping → ℕ → Type 0
HaveStayed case H s n = (b : ℕ) (x : Lumped) → n ≤ b → IsSeries case b x → StandsAt s b (states_of b H)

moved_stays : (s t : Lumping) (b : ℕ) (past : List LumpedState) (next : Option LumpedState) (i j : ℤ) → j ≡ i → ((q : List LumpedState) → StandsAt s b q → StandsAt t b q) → HasMoved s b past next i → HasMoved t b past next j
moved_stays s t b past next i j same keeps h = record { state = h.state; is = h.is; current = same ∙ h.current; stands = keeps (h.state ∷ past) h.stands }

pub moved_more : (case : Parts) (H : List StepRecord) (voltages : List ℤ) (s t : Lumping) (old : List ℤ) (at : ℕ) (i : ℤ) → at < length old → KeepsOthers s t at → HaveMoved case H voltages s old at
    → ((x : Lumped) → IsSeries case at x → HasMoved t at (states_of at H) (next_at case H voltages at x) i) → HaveMoved case H voltages t (slice_set old at i) (at + 1)
moved_more case H voltages s t old at i inside others before here b x below series = elim (cases_eq b at) [
  | inl same ↦
      let P : ℕ → Type 0 = λ k. IsSeries case k x → HasMoved t k (states_of k H) (next_at case H voltages k x) (slice_index_or (slice_set old at i) k (pos 0)) in
      subst P (sym same) (λ is. moved_stays t t at (states_of at H) (next_at case H voltages at x) i _ (get_or-set_same old at i (pos 0) inside) (λ q stands. stands) (here x is)) series
  | inr apart ↦ moved_stays s t b (states_of b H) (next_at case H voltages b x) _ _ (get_or-set_other old at b i (pos 0) apart) (λ q. others b q apart) (before b x (omega (arith, below, apart)) series)
]

pub stayed_more : (case : Parts) (H : List StepRecord) (s t : Lumping) (at : ℕ) → KeepsOthers s t at → HaveStayed case H s at → HaveStayed case H t (at + 1)
stayed_more case H s t at others before b x above series = others b (states_of b H) (λ e. omega (arith, above, e)) (before b x (omega (arith, above)) series)

-- once all branches have moved, they stand for one more record
pub all_stand : (case : Parts) (H : List StepRecord) (voltages currents : List ℤ) (t : Lumping) (r : StepRecord) → t.case ≡ case → HaveMoved case H voltages t currents (length case.branches) → IsNext case H voltages r → StandsFor t (r ∷ H)
all_stand case H voltages currents t r same moved next b x series' =
    let series : IsSeries case b x = series_in case t.case b x (sym same) series' in
    let h = moved b x (slice_get_within case.branches b (OfLumped x) series) series in
    let state : h.state ≡ lumped_at b r = some_same h.state (lumped_at b r) (sym h.is ∙ next b x series) in
    subst (λ (s : LumpedState). StandsAt t b (s ∷ states_of b H)) state h.stands
  where
    some_same : (s t : LumpedState) → Some s ≡ Some t → s ≡ t
    some_same s t e = cc

pub there_is_next : (new : Lumping) (b : ℕ) (past : List LumpedState) (next : Option LumpedState) (i : ℤ) → HasMoved new b past next i → IsSome next
there_is_next new b past next i h = subst IsSome (sym h.is) (refl)
