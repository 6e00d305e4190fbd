-- Sources of the network and of the control are known by their lines.
use Rattle.emtp_fix.specs.declared.limit.TheConstants.{LARGEST_TIME}
use Rattle.std.proofs.Common.{◌≡◌, ◌∙◌, sym, ap, refl, arith, ◌^◌, ◌<◌, ◌≤◌, Bool, true, false, List, [], ◌∷◌, ℕ, ℤ, pos, negsuc, unsigned_abs, get_or, drop, codes, Option}
use Rattle.std.specs.Option.{ForSome}
use Rattle.std.proofs.lemmas.Int.{ints}
use Rattle.emtp_case.specs.held.Range.{IsBetween}
use Rattle.emtp_case.specs.held.Source.{IsSource, IsTacsSource}
use Rattle.emtp_case.specs.declared.source.Shape.{Shape}
use Rattle.emtp_case.specs.declared.source.Source.{Source}
use Rattle.emtp_listing.specs.ControlLines.{tacs_source_line}
use Rattle.emtp_listing.specs.Entry.{figure_entry, node_entry, number_entry, time_entry, variable_entry}
use Rattle.emtp_listing.specs.Law.{IsFree, AllFree, AreApart, Around, HasNodeNames, HasVarNames}
use Rattle.emtp_listing.specs.NetworkLines.{source_word, source_unit, shape_entries, source_line}
use Rattle.emtp_listing.proofs.Branches.{card-same, card-free}
use Rattle.emtp_listing.proofs.Entries.{figure-marked, number-marked}
use Rattle.emtp_listing.proofs.Marks.{IsMark, IsText, comma, node-free, node-same}
use Rattle.emtp_listing.proofs.Numbers.{figure-same, number-same}
use Rattle.emtp_listing.proofs.Shapes.{control-listed, network-listed, shape-free, shape-same}
use Rattle.emtp_listing.proofs.Words.{IsSmallTime, time-free, time-same, variable-free, variable-same}

word-text : (t : Bool) → IsText (source_word t)
word-text false = refl
word-text true = refl

unit-text : (t : Bool) → IsText (source_unit t)
unit-text false = refl
unit-text true = refl

current-same : (s t : Bool) → source_word s ≡ source_word t → s ≡ t
current-same false false e = refl
current-same false true e = let l : 118 ≡ 99 = ap (λ (l : List ℕ). get_or l 0 0) e in absurd (omega (arith, l))
current-same true false e = let l : 99 ≡ 118 = ap (λ (l : List ℕ). get_or l 0 0) e in absurd (omega (arith, l))
current-same true true e = refl

pub stop-small : (stop : Option ℤ) → ForSome stop (IsBetween 1 LARGEST_TIME) → IsSmallTime stop
stop-small stop is t e = let small = between-limit t (is t e) in omega (arith, small)
  where
    between-limit : (z : ℤ) → IsBetween 1 LARGEST_TIME z → unsigned_abs z ≤ LARGEST_TIME
    between-limit (pos x) is = omega (arith, ints, is.most)
    between-limit (negsuc x) is = absurd (omega (arith, ints, is.least))

abbrev own_entries : List (List ℕ) → List (List ℕ) → Source → List (List ℕ)
own_entries nodes vars s =
    node_entry (codes "NAME") nodes s.node
    ∷ number_entry (codes "amplitude") 9 (source_unit s.current) s.amplitude
    ∷ number_entry (codes "TSTART") 12 (codes "s") s.start
    ∷ time_entry (codes "TSTOP") s.stop
    ∷ shape_entries nodes vars s.shape

entries-free : (b : ℕ) (w : Around) (nodes vars : List (List ℕ)) (s : Source) → IsMark b → HasNodeNames w nodes → HasVarNames w vars → IsSource w.sizes s → AllFree b (own_entries nodes vars s)
entries-free b w nodes vars s mark few named is = (
  node-free b (codes "NAME") nodes s.node mark refl few.names (omega (arith, few.count, is.there)),
  (
    number-marked b (codes "amplitude") 9 (source_unit s.current) s.amplitude mark refl (unit-text s.current) (omega (arith, is.numbers.amplitude)),
    (
      number-marked b (codes "TSTART") 12 (codes "s") s.start mark refl refl (omega (arith, is.numbers.start)),
      (
        time-free b (codes "TSTOP") s.stop mark refl (stop-small s.stop is.numbers.stop),
        shape-free b w nodes vars s s.shape mark few named is.numbers.shape (network-listed w.sizes s.shape is.shape),
      ),
    ),
  ),
)

pub source-free : (b : ℕ) (w : Around) (nodes vars : List (List ℕ)) (s : Source) → b < 32 → IsMark b → HasNodeNames w nodes → HasVarNames w vars → IsSource w.sizes s → s.line < 2 ^ 32 → IsFree b (source_line nodes vars s)
source-free b w nodes vars s low mark few named is small =
    card-free b s.line (source_word s.current) (own_entries nodes vars s) low small
    (mark.texts (codes "line ") refl) (mark.texts (source_word s.current) (word-text s.current)) (entries-free b w nodes vars s mark few named is)

pub source-same : (w v : Around) (nodes vars : List (List ℕ)) (s t : Source) → HasNodeNames w nodes → HasNodeNames v nodes → AreApart nodes → HasVarNames w vars → HasVarNames v vars → AreApart vars
    → IsSource w.sizes s → IsSource v.sizes t → s.line < 2 ^ 32 → t.line < 2 ^ 32 → source_line nodes vars s ≡ source_line nodes vars t → s ≡ t
source-same w v nodes vars s t few few2 apart named named2 apart_vars is js small_s small_t e =
    let parts = card-same s.line t.line (source_word s.current) (source_word t.current) (own_entries nodes vars s) (own_entries nodes vars t) small_s small_t
    (comma.texts (source_word s.current) (word-text s.current)) (comma.texts (source_word t.current) (word-text t.current)) (entries-free 44 w nodes vars s comma few named is) (entries-free 44 v nodes vars t comma few2 named2 js) e in
    let e0 = current-same s.current t.current parts.1.0 in
    let e1 = node-same (codes "NAME") nodes s.node t.node few.names apart (omega (arith, few.count, is.there)) (omega (arith, few2.count, js.there)) (ap (λ (l : List (List ℕ)). get_or l 0 []) parts.1.1) in
    let amp : number_entry (codes "amplitude") 9 (source_unit t.current) s.amplitude ≡ number_entry (codes "amplitude") 9 (source_unit t.current) t.amplitude =
    sym (ap (λ (c : Bool). number_entry (codes "amplitude") 9 (source_unit c) s.amplitude) e0) ∙ ap (λ (l : List (List ℕ)). get_or l 1 []) parts.1.1 in
    let e2 = number-same (codes "amplitude") 9 (source_unit t.current) s.amplitude t.amplitude (omega (arith, is.numbers.amplitude)) (omega (arith, js.numbers.amplitude)) amp in
    let e3 = number-same (codes "TSTART") 12 (codes "s") s.start t.start (omega (arith, is.numbers.start)) (omega (arith, js.numbers.start)) (ap (λ (l : List (List ℕ)). get_or l 2 []) parts.1.1) in
    let e4 = time-same (codes "TSTOP") s.stop t.stop (stop-small s.stop is.numbers.stop) (stop-small t.stop js.numbers.stop) (ap (λ (l : List (List ℕ)). get_or l 3 []) parts.1.1) in
    let e5 = shape-same w v nodes vars s t s.shape t.shape few few2 apart named named2 apart_vars is.numbers.shape js.numbers.shape (network-listed w.sizes s.shape is.shape) (network-listed v.sizes t.shape js.shape) (ap (λ (l : List (List ℕ)). drop 4 l) parts.1.1) in
    ap (λ (x : ℕ). made x s.node s.current s.shape s.amplitude s.start s.stop) parts.0
    ∙ ap (λ (x : ℕ). made t.line x s.current s.shape s.amplitude s.start s.stop) e1
    ∙ ap (λ (x : Bool). made t.line t.node x s.shape s.amplitude s.start s.stop) e0
    ∙ ap (λ (x : Shape). made t.line t.node t.current x s.amplitude s.start s.stop) e5
    ∙ ap (λ (x : ℤ). made t.line t.node t.current t.shape x s.start s.stop) e2
    ∙ ap (λ (x : ℤ). made t.line t.node t.current t.shape t.amplitude x s.stop) e3
    ∙ ap (λ (x : Option ℤ). made t.line t.node t.current t.shape t.amplitude t.start x) e4
  where
    made : ℕ → ℕ → Bool → Shape → ℤ → ℤ → Option ℤ → Source
    made a b c d e f g = record { line = a; node = b; current = c; shape = d; amplitude = e; start = f; stop = g }

-- ---- of the control

abbrev tacs_entries : List (List ℕ) → List (List ℕ) → Source → List (List ℕ)
tacs_entries nodes vars s =
    variable_entry (codes "NAME") vars s.node
    ∷ figure_entry (codes "amplitude") 9 [] s.amplitude
    ∷ number_entry (codes "TSTART") 12 (codes "s") s.start
    ∷ time_entry (codes "TSTOP") s.stop
    ∷ shape_entries nodes vars s.shape

tacs-free : (b : ℕ) (w : Around) (nodes vars : List (List ℕ)) (s : Source) → IsMark b → HasNodeNames w nodes → HasVarNames w vars → IsTacsSource w.sizes s → AllFree b (tacs_entries nodes vars s)
tacs-free b w nodes vars s mark few named is = (
  variable-free b (codes "NAME") vars s.node mark refl named.names (omega (arith, named.count, is.there)),
  (
    figure-marked b (codes "amplitude") 9 [] s.amplitude mark refl refl (omega (arith, is.numbers.amplitude)),
    (
      number-marked b (codes "TSTART") 12 (codes "s") s.start mark refl refl (omega (arith, is.numbers.start)),
      (
        time-free b (codes "TSTOP") s.stop mark refl (stop-small s.stop is.numbers.stop),
        shape-free b w nodes vars s s.shape mark few named is.numbers.shape (control-listed w.sizes s.shape is.shape),
      ),
    ),
  ),
)

pub tacs_source-free : (b : ℕ) (w : Around) (nodes vars : List (List ℕ)) (s : Source) → b < 32 → IsMark b → HasNodeNames w nodes → HasVarNames w vars → IsTacsSource w.sizes s → s.line < 2 ^ 32 → IsFree b (tacs_source_line nodes vars s)
tacs_source-free b w nodes vars s low mark few named is small =
    card-free b s.line (codes "control source") (tacs_entries nodes vars s) low small (mark.texts (codes "line ") refl) (mark.texts (codes "control source") refl) (tacs-free b w nodes vars s mark few named is)

pub tacs_source-same : (w v : Around) (nodes vars : List (List ℕ)) (s t : Source) → HasNodeNames w nodes → HasNodeNames v nodes → AreApart nodes → HasVarNames w vars → HasVarNames v vars → AreApart vars
    → IsTacsSource w.sizes s → IsTacsSource v.sizes t → s.line < 2 ^ 32 → t.line < 2 ^ 32 → tacs_source_line nodes vars s ≡ tacs_source_line nodes vars t → s ≡ t
tacs_source-same w v nodes vars s t few few2 apart named named2 apart_vars is js small_s small_t e =
    let parts = card-same s.line t.line (codes "control source") (codes "control source") (tacs_entries nodes vars s) (tacs_entries nodes vars t) small_s small_t
    refl refl (tacs-free 44 w nodes vars s comma few named is) (tacs-free 44 v nodes vars t comma few2 named2 js) e in
    let e1 = variable-same (codes "NAME") vars s.node t.node apart_vars (omega (arith, named.count, is.there)) (omega (arith, named2.count, js.there)) (ap (λ (l : List (List ℕ)). get_or l 0 []) parts.1.1) in
    let e2 = figure-same (codes "amplitude") 9 [] s.amplitude t.amplitude (omega (arith, is.numbers.amplitude)) (omega (arith, js.numbers.amplitude)) (ap (λ (l : List (List ℕ)). get_or l 1 []) parts.1.1) in
    let e3 = number-same (codes "TSTART") 12 (codes "s") s.start t.start (omega (arith, is.numbers.start)) (omega (arith, js.numbers.start)) (ap (λ (l : List (List ℕ)). get_or l 2 []) parts.1.1) in
    let e4 = time-same (codes "TSTOP") s.stop t.stop (stop-small s.stop is.numbers.stop) (stop-small t.stop js.numbers.stop) (ap (λ (l : List (List ℕ)). get_or l 3 []) parts.1.1) in
    let e5 = shape-same w v nodes vars s t s.shape t.shape few few2 apart named named2 apart_vars is.numbers.shape js.numbers.shape (control-listed w.sizes s.shape is.shape) (control-listed v.sizes t.shape js.shape) (ap (λ (l : List (List ℕ)). drop 4 l) parts.1.1) in
    ap (λ (x : ℕ). made x s.node s.current s.shape s.amplitude s.start s.stop) parts.0
    ∙ ap (λ (x : ℕ). made t.line x s.current s.shape s.amplitude s.start s.stop) e1
    ∙ ap (λ (x : Bool). made t.line t.node x s.shape s.amplitude s.start s.stop) (is.no_current ∙ sym js.no_current)
    ∙ ap (λ (x : Shape). made t.line t.node t.current x s.amplitude s.start s.stop) e5
    ∙ ap (λ (x : ℤ). made t.line t.node t.current t.shape x s.start s.stop) e2
    ∙ ap (λ (x : ℤ). made t.line t.node t.current t.shape t.amplitude x s.stop) e3
    ∙ ap (λ (x : Option ℤ). made t.line t.node t.current t.shape t.amplitude t.start x) e4
  where
    made : ℕ → ℕ → Bool → Shape → ℤ → ℤ → Option ℤ → Source
    made a b c d e f g = record { line = a; node = b; current = c; shape = d; amplitude = e; start = f; stop = g }
