-- Switches are known by their lines.
use Rattle.std.proofs.Common.{◌≡◌, ◌∙◌, ap, refl, arith, ◌^◌, ◌<◌, List, [], ◌∷◌, ℕ, ℤ, length, get_or, drop, codes, Option}
use Rattle.emtp_case.specs.held.Switch.{IsSwitch, IsSwitchKind}
use Rattle.emtp_case.specs.declared.switch.Switch.{Switch}
use Rattle.emtp_case.specs.declared.switch.SwitchKind.{SwitchKind}
use Rattle.emtp_case.specs.declared.switch.SwitchKind.TheVariants.{Control, Measuring, Time, Valve}
use Rattle.emtp_listing.specs.Entry.{node_entry}
use Rattle.emtp_listing.specs.Law.{IsFree, AllFree, AreApart, Around, HasNodeNames, HasVarNames}
use Rattle.emtp_listing.specs.NetworkLines.{switch_word, switch_kind_entries, switch_line}
use Rattle.emtp_listing.proofs.Branches.{card-same, card-free}
use Rattle.emtp_listing.proofs.Entries.{number-marked}
use Rattle.emtp_listing.proofs.Marks.{IsMark, IsText, comma, node-free, node-same, between-small}
use Rattle.emtp_listing.proofs.Numbers.{number-same}
use Rattle.emtp_listing.proofs.Words.{time-free, time-same, variable-free, variable-same, choice-free, choice-same, some-there}

kind-free : (b : ℕ) (w : Around) (vars : List (List ℕ)) (k : SwitchKind) → IsMark b → HasVarNames w vars → IsSwitchKind w.sizes k → AllFree b (switch_kind_entries vars k)
kind-free b w vars (Time close open_at margin) mark named is = (
  number-marked b (codes "T-CLOSE") 12 (codes "s") close mark refl refl (omega (arith, is.0.close_small)),
  (
    time-free b (codes "T-OPEN") open_at mark refl is.0.open_small,
    (
      number-marked b (codes "margin") 9 (codes "A") margin mark refl refl (between-small 0 (10 ^ 18) margin (omega arith) is.1),
      tt,
    ),
  ),
)
kind-free b w vars Measuring mark named is = tt
kind-free b w vars (Valve ignition holding control) mark named is = (
  number-marked b (codes "ignition") 9 (codes "V") ignition mark refl refl (between-small 0 (10 ^ 18) ignition (omega arith) is.0),
  (
    number-marked b (codes "holding") 9 (codes "A") holding mark refl refl (between-small 0 (10 ^ 18) holding (omega arith) is.1),
    (
      choice-free b (codes "control") (codes "(always)") vars control mark refl refl named.names (some-there w.sizes.vars (length vars) control named.count is.2),
      tt,
    ),
  ),
)
kind-free b w vars (Control control) mark named is = (variable-free b (codes "control") vars control mark refl named.names (omega (arith, named.count, is)), tt)

word-text : (k : SwitchKind) → IsText (switch_word k)
word-text (Time close open_at margin) = refl
word-text Measuring = refl
word-text (Valve ignition holding control) = refl
word-text (Control control) = refl

kind-same : (w v : Around) (vars : List (List ℕ)) (j k : SwitchKind) → HasVarNames w vars → HasVarNames v vars → AreApart vars → IsSwitchKind w.sizes j → IsSwitchKind v.sizes k
    → switch_word j ≡ switch_word k → switch_kind_entries vars j ≡ switch_kind_entries vars k → j ≡ k
kind-same w v vars (Time close open_at margin) (Time close2 open2 margin2) named named2 apart is js word e =
    let e1 = number-same (codes "T-CLOSE") 12 (codes "s") close close2 (omega (arith, is.0.close_small)) (omega (arith, js.0.close_small)) (ap (λ (l : List (List ℕ)). get_or l 0 []) e) in
    let e2 = time-same (codes "T-OPEN") open_at open2 is.0.open_small js.0.open_small (ap (λ (l : List (List ℕ)). get_or l 1 []) e) in
    let e3 = number-same (codes "margin") 9 (codes "A") margin margin2 (between-small 0 (10 ^ 18) margin (omega arith) is.1) (between-small 0 (10 ^ 18) margin2 (omega arith) js.1) (ap (λ (l : List (List ℕ)). get_or l 2 []) e) in
    ap (λ (x : ℤ). Time x open_at margin) e1 ∙ ap (λ (x : Option ℤ). Time close2 x margin) e2 ∙ ap (λ (x : ℤ). Time close2 open2 x) e3
kind-same w v vars Measuring Measuring named named2 apart is js word e = refl
kind-same w v vars (Valve i h c) (Valve i2 h2 c2) named named2 apart is js word e =
    let e1 = number-same (codes "ignition") 9 (codes "V") i i2 (between-small 0 (10 ^ 18) i (omega arith) is.0) (between-small 0 (10 ^ 18) i2 (omega arith) js.0) (ap (λ (l : List (List ℕ)). get_or l 0 []) e) in
    let e2 = number-same (codes "holding") 9 (codes "A") h h2 (between-small 0 (10 ^ 18) h (omega arith) is.1) (between-small 0 (10 ^ 18) h2 (omega arith) js.1) (ap (λ (l : List (List ℕ)). get_or l 1 []) e) in
    let e3 = choice-same (codes "control") (codes "(always)") vars c c2 (omega arith) named.names apart (some-there w.sizes.vars (length vars) c named.count is.2) (some-there v.sizes.vars (length vars) c2 named2.count js.2) (ap (λ (l : List (List ℕ)). get_or l 2 []) e) in
    ap (λ (x : ℤ). Valve x h c) e1 ∙ ap (λ (x : ℤ). Valve i2 x c) e2 ∙ ap (λ (x : Option ℕ). Valve i2 h2 x) e3
kind-same w v vars (Control c) (Control c2) named named2 apart is js word e =
    ap (λ (x : ℕ). Control x) (variable-same (codes "control") vars c c2 apart (omega (arith, named.count, is)) (omega (arith, named2.count, js)) (ap (λ (l : List (List ℕ)). get_or l 0 []) e))
kind-same w v vars (Time a1 a2 a3) Measuring named named2 apart is js word e = let l : 11 ≡ 16 = ap length word in absurd (omega (arith, l))
kind-same w v vars (Time a1 a2 a3) (Valve b1 b2 b3) named named2 apart is js word e = let l : 11 ≡ 5 = ap length word in absurd (omega (arith, l))
kind-same w v vars (Time a1 a2 a3) (Control b1) named named2 apart is js word e = let l : 11 ≡ 17 = ap length word in absurd (omega (arith, l))
kind-same w v vars Measuring (Time b1 b2 b3) named named2 apart is js word e = let l : 16 ≡ 11 = ap length word in absurd (omega (arith, l))
kind-same w v vars Measuring (Valve b1 b2 b3) named named2 apart is js word e = let l : 16 ≡ 5 = ap length word in absurd (omega (arith, l))
kind-same w v vars Measuring (Control b1) named named2 apart is js word e = let l : 16 ≡ 17 = ap length word in absurd (omega (arith, l))
kind-same w v vars (Valve a1 a2 a3) (Time b1 b2 b3) named named2 apart is js word e = let l : 5 ≡ 11 = ap length word in absurd (omega (arith, l))
kind-same w v vars (Valve a1 a2 a3) Measuring named named2 apart is js word e = let l : 5 ≡ 16 = ap length word in absurd (omega (arith, l))
kind-same w v vars (Valve a1 a2 a3) (Control b1) named named2 apart is js word e = let l : 5 ≡ 17 = ap length word in absurd (omega (arith, l))
kind-same w v vars (Control a1) (Time b1 b2 b3) named named2 apart is js word e = let l : 17 ≡ 11 = ap length word in absurd (omega (arith, l))
kind-same w v vars (Control a1) Measuring named named2 apart is js word e = let l : 17 ≡ 16 = ap length word in absurd (omega (arith, l))
kind-same w v vars (Control a1) (Valve b1 b2 b3) named named2 apart is js word e = let l : 17 ≡ 5 = ap length word in absurd (omega (arith, l))

entries-free : (b : ℕ) (w : Around) (nodes vars : List (List ℕ)) (s : Switch) → IsMark b → HasNodeNames w nodes → HasVarNames w vars → IsSwitch w.sizes s
    → AllFree b (node_entry (codes "BUS1") nodes s.from ∷ node_entry (codes "BUS2") nodes s.to ∷ switch_kind_entries vars s.kind)
entries-free b w nodes vars s mark few named is = (
  node-free b (codes "BUS1") nodes s.from mark refl few.names (omega (arith, few.count, is.ends.from_there)),
  (
    node-free b (codes "BUS2") nodes s.to mark refl few.names (omega (arith, few.count, is.ends.to_there)),
    kind-free b w vars s.kind mark named is.kind,
  ),
)

pub switch-free : (b : ℕ) (w : Around) (nodes vars : List (List ℕ)) (s : Switch) → b < 32 → IsMark b → HasNodeNames w nodes → HasVarNames w vars → IsSwitch w.sizes s → s.line < 2 ^ 32 → IsFree b (switch_line nodes vars s)
switch-free b w nodes vars s low mark few named is small =
    card-free b s.line (switch_word s.kind) (node_entry (codes "BUS1") nodes s.from ∷ node_entry (codes "BUS2") nodes s.to ∷ switch_kind_entries vars s.kind) low small
    (mark.texts (codes "line ") refl) (mark.texts (switch_word s.kind) (word-text s.kind)) (entries-free b w nodes vars s mark few named is)

pub switch-same : (w v : Around) (nodes vars : List (List ℕ)) (s t : Switch) → HasNodeNames w nodes → HasNodeNames v nodes → AreApart nodes → HasVarNames w vars → HasVarNames v vars → AreApart vars
    → IsSwitch w.sizes s → IsSwitch v.sizes t → s.line < 2 ^ 32 → t.line < 2 ^ 32 → switch_line nodes vars s ≡ switch_line nodes vars t → s ≡ t
switch-same w v nodes vars s t few few2 apart named named2 apart_vars is js small_s small_t e =
    let parts = card-same s.line t.line (switch_word s.kind) (switch_word t.kind)
    (node_entry (codes "BUS1") nodes s.from ∷ node_entry (codes "BUS2") nodes s.to ∷ switch_kind_entries vars s.kind)
    (node_entry (codes "BUS1") nodes t.from ∷ node_entry (codes "BUS2") nodes t.to ∷ switch_kind_entries vars t.kind) small_s small_t
    (comma.texts (switch_word s.kind) (word-text s.kind)) (comma.texts (switch_word t.kind) (word-text t.kind)) (entries-free 44 w nodes vars s comma few named is) (entries-free 44 v nodes vars t comma few2 named2 js) e in
    let e1 = node-same (codes "BUS1") nodes s.from t.from few.names apart (omega (arith, few.count, is.ends.from_there)) (omega (arith, few2.count, js.ends.from_there)) (ap (λ (l : List (List ℕ)). get_or l 0 []) parts.1.1) in
    let e2 = node-same (codes "BUS2") nodes s.to t.to few.names apart (omega (arith, few.count, is.ends.to_there)) (omega (arith, few2.count, js.ends.to_there)) (ap (λ (l : List (List ℕ)). get_or l 1 []) parts.1.1) in
    let e3 = kind-same w v vars s.kind t.kind named named2 apart_vars is.kind js.kind parts.1.0 (ap (λ (l : List (List ℕ)). drop 2 l) parts.1.1) in
    ap (λ (x : ℕ). made x s.from s.to s.kind) parts.0 ∙ ap (λ (x : ℕ). made t.line x s.to s.kind) e1 ∙ ap (λ (x : ℕ). made t.line t.from x s.kind) e2 ∙ ap (λ (x : SwitchKind). made t.line t.from t.to x) e3
  where
    made : ℕ → ℕ → ℕ → SwitchKind → Switch
    made a b c d = record { line = a; «from» = b; to = c; kind = d }
