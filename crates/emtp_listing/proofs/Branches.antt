-- Branches are known by their lines.
use Rattle.std.proofs.Common.{◌≡◌, ◌≢◌, ◌++◌, ◌∙◌, sym, ap, refl, arith, ◌^◌, ◌<◌, Bool, true, false, List, [], ◌∷◌, ℕ, ℤ, length, get_or, drop, subst, codes, decimal}
use Rattle.std.proofs.lemmas.Fmt.{decimal_injective}
use Rattle.emtp_case.specs.Branch.{line_of}
use Rattle.emtp_case.specs.held.Branch.{IsBranch, IsLumped, IsLine, IsPseudo, IsPhase}
use Rattle.emtp_case.specs.declared.branch.Branch.{Branch}
use Rattle.emtp_case.specs.declared.branch.Branch.TheVariants.{Line as OfLine, Lumped as OfLumped, Phase as OfPhase, Pseudo as OfPseudo}
use Rattle.emtp_case.specs.declared.branch.Line.{Line}
use Rattle.emtp_case.specs.declared.branch.Lumped.{Lumped}
use Rattle.emtp_case.specs.declared.branch.Phase.{Phase}
use Rattle.emtp_case.specs.declared.branch.Pseudo.{Pseudo}
use Rattle.emtp_listing.specs.Law.{IsFree, AllFree, AreApart, Around, HasNodeNames}
use Rattle.emtp_listing.specs.Lines.{all_separated, card_line}
use Rattle.emtp_listing.specs.NetworkLines.{series_entries, line_entries, pseudo_entries, phase_entries, pseudo_word, branch_line}
use Rattle.emtp_listing.proofs.Cut.{free-both, free-entries, fronts-same}
use Rattle.emtp_listing.proofs.Entries.{count-marked, number-marked, place-marked}
use Rattle.emtp_listing.proofs.Marks.{IsMark, IsText, comma, node-free, node-same, between-small, travel-least, delay-small}
use Rattle.emtp_listing.proofs.Numbers.{count-same, decimal-free, number-same, place-same}

-- a card's line is known by its number, its kind and its entries
pub card-same : (m n : ℕ) (kind other : List ℕ) (xs ys : List (List ℕ)) → m < 2 ^ 32 → n < 2 ^ 32 → IsFree 44 kind → IsFree 44 other → AllFree 44 xs → AllFree 44 ys
    → card_line m kind xs ≡ card_line n other ys → (m ≡ n) × ((kind ≡ other) × (xs ≡ ys))
card-same m n kind other xs ys small_m small_n f g h k e =
    let parts = fronts-same (decimal m) (decimal n) (kind ∷ xs) (other ∷ ys) (decimal-free 44 m (omega arith) (omega arith)) (decimal-free 44 n (omega arith) (omega arith)) (f, h) (g, k)
    (ap (λ (l : List ℕ). drop 5 l) e) in
    (decimal_injective m n (omega arith) (omega arith) parts.0, (ap (λ (l : List (List ℕ)). get_or l 0 []) parts.1, ap (λ (l : List (List ℕ)). drop 1 l) parts.1))

pub card-free : (b m : ℕ) (kind : List ℕ) (xs : List (List ℕ)) → b < 32 → m < 2 ^ 32 → IsFree b (codes "line ") → IsFree b kind → AllFree b xs → IsFree b (card_line m kind xs)
card-free b m kind xs low small front f h =
    free-both b (codes "line " ++ decimal m) (all_separated (kind ∷ xs)) (free-both b (codes "line ") (decimal m) front (decimal-free b m (omega arith) (omega arith)))
    (free-entries b (kind ∷ xs) low (f, h))

-- ---- Lumped

series-free : (b : ℕ) (w : Around) (nodes : List (List ℕ)) (x : Lumped) → IsMark b → HasNodeNames w nodes → IsLumped w.run w.sizes x → AllFree b (series_entries nodes x)
series-free b w nodes x mark few is = (
  node-free b (codes "BUS1") nodes x.from mark refl few.names (omega (arith, few.count, is.ends.from_there)),
  (
    node-free b (codes "BUS2") nodes x.to mark refl few.names (omega (arith, few.count, is.ends.to_there)),
    (
      number-marked b (codes "R") 6 (codes "ohm") x.r mark refl refl (between-small 0 (10 ^ 15) x.r (omega arith) is.numbers.resistance),
      (
        number-marked b (codes "L") 6 (codes "mH") x.l mark refl refl (between-small 0 (10 ^ 15) x.l (omega arith) is.numbers.inductance),
        (
          number-marked b (codes "C") 9 (codes "uF") x.c mark refl refl (between-small 0 (10 ^ 15) x.c (omega arith) is.numbers.capacitance),
          tt,
        ),
      ),
    ),
  ),
)

series-same : (w v : Around) (nodes : List (List ℕ)) (x y : Lumped) → HasNodeNames w nodes → HasNodeNames v nodes → AreApart nodes → IsLumped w.run w.sizes x → IsLumped v.run v.sizes y → x.line ≡ y.line → series_entries nodes x ≡ series_entries nodes y → x ≡ y
series-same w v nodes x y few few2 apart is js line e =
    let e_from = node-same (codes "BUS1") nodes x.from y.from few.names apart (omega (arith, few.count, is.ends.from_there)) (omega (arith, few2.count, js.ends.from_there)) (ap (λ (l : List (List ℕ)). get_or l 0 []) e) in
    let e_to = node-same (codes "BUS2") nodes x.to y.to few.names apart (omega (arith, few.count, is.ends.to_there)) (omega (arith, few2.count, js.ends.to_there)) (ap (λ (l : List (List ℕ)). get_or l 1 []) e) in
    let e_r = number-same (codes "R") 6 (codes "ohm") x.r y.r (between-small 0 (10 ^ 15) x.r (omega arith) is.numbers.resistance) (between-small 0 (10 ^ 15) y.r (omega arith) js.numbers.resistance) (ap (λ (l : List (List ℕ)). get_or l 2 []) e) in
    let e_l = number-same (codes "L") 6 (codes "mH") x.l y.l (between-small 0 (10 ^ 15) x.l (omega arith) is.numbers.inductance) (between-small 0 (10 ^ 15) y.l (omega arith) js.numbers.inductance) (ap (λ (l : List (List ℕ)). get_or l 3 []) e) in
    let e_c = number-same (codes "C") 9 (codes "uF") x.c y.c (between-small 0 (10 ^ 15) x.c (omega arith) is.numbers.capacitance) (between-small 0 (10 ^ 15) y.c (omega arith) js.numbers.capacitance) (ap (λ (l : List (List ℕ)). get_or l 4 []) e) in
    ap (λ (v : ℕ). made v x.from x.to x.r x.l x.c) line
    ∙ ap (λ (v : ℕ). made y.line v x.to x.r x.l x.c) e_from
    ∙ ap (λ (v : ℕ). made y.line y.from v x.r x.l x.c) e_to
    ∙ ap (λ (v : ℤ). made y.line y.from y.to v x.l x.c) e_r
    ∙ ap (λ (v : ℤ). made y.line y.from y.to y.r v x.c) e_l
    ∙ ap (λ (v : ℤ). made y.line y.from y.to y.r y.l v) e_c
  where
    made : ℕ → ℕ → ℕ → ℤ → ℤ → ℤ → Lumped
    made a b c d e f = record { line = a; «from» = b; to = c; r = d; l = e; c = f }

-- ---- Line

line-free : (b : ℕ) (w : Around) (nodes : List (List ℕ)) (x : Line) → IsMark b → HasNodeNames w nodes → IsLine w.run w.sizes x → AllFree b (line_entries nodes x)
line-free b w nodes x mark few is = (
  node-free b (codes "BUS1") nodes x.from mark refl few.names (omega (arith, few.count, is.ends.from_there)),
  (
    node-free b (codes "BUS2") nodes x.to mark refl few.names (omega (arith, few.count, is.ends.to_there)),
    (
      number-marked b (codes "surge impedance") 6 (codes "ohm") x.zc mark refl refl (between-small 10 (10 ^ 15) x.zc (omega arith) is.numbers.surge),
      (
        number-marked b (codes "R") 6 (codes "ohm") x.r mark refl refl (between-small 0 (10 ^ 15) x.r (omega arith) is.numbers.r),
        (
          number-marked b (codes "travel time") 12 (codes "s") x.delay mark refl refl (delay-small x.delay (travel-least w.run x.delay few.timed is.numbers.long) is.numbers.delay),
          tt,
        ),
      ),
    ),
  ),
)

line-same : (w v : Around) (nodes : List (List ℕ)) (x y : Line) → HasNodeNames w nodes → HasNodeNames v nodes → AreApart nodes → IsLine w.run w.sizes x → IsLine v.run v.sizes y → x.line ≡ y.line → line_entries nodes x ≡ line_entries nodes y → x ≡ y
line-same w v nodes x y few few2 apart is js line e =
    let e_from = node-same (codes "BUS1") nodes x.from y.from few.names apart (omega (arith, few.count, is.ends.from_there)) (omega (arith, few2.count, js.ends.from_there)) (ap (λ (l : List (List ℕ)). get_or l 0 []) e) in
    let e_to = node-same (codes "BUS2") nodes x.to y.to few.names apart (omega (arith, few.count, is.ends.to_there)) (omega (arith, few2.count, js.ends.to_there)) (ap (λ (l : List (List ℕ)). get_or l 1 []) e) in
    let e_zc = number-same (codes "surge impedance") 6 (codes "ohm") x.zc y.zc (between-small 10 (10 ^ 15) x.zc (omega arith) is.numbers.surge) (between-small 10 (10 ^ 15) y.zc (omega arith) js.numbers.surge) (ap (λ (l : List (List ℕ)). get_or l 2 []) e) in
    let e_r = number-same (codes "R") 6 (codes "ohm") x.r y.r (between-small 0 (10 ^ 15) x.r (omega arith) is.numbers.r) (between-small 0 (10 ^ 15) y.r (omega arith) js.numbers.r) (ap (λ (l : List (List ℕ)). get_or l 3 []) e) in
    let e_delay = number-same (codes "travel time") 12 (codes "s") x.delay y.delay (delay-small x.delay (travel-least w.run x.delay few.timed is.numbers.long) is.numbers.delay) (delay-small y.delay (travel-least v.run y.delay few2.timed js.numbers.long) js.numbers.delay) (ap (λ (l : List (List ℕ)). get_or l 4 []) e) in
    ap (λ (v : ℕ). made v x.from x.to x.zc x.r x.delay) line
    ∙ ap (λ (v : ℕ). made y.line v x.to x.zc x.r x.delay) e_from
    ∙ ap (λ (v : ℕ). made y.line y.from v x.zc x.r x.delay) e_to
    ∙ ap (λ (v : ℤ). made y.line y.from y.to v x.r x.delay) e_zc
    ∙ ap (λ (v : ℤ). made y.line y.from y.to y.zc v x.delay) e_r
    ∙ ap (λ (v : ℤ). made y.line y.from y.to y.zc y.r v) e_delay
  where
    made : ℕ → ℕ → ℕ → ℤ → ℤ → ℤ → Line
    made a b c d e f = record { line = a; «from» = b; to = c; zc = d; r = e; delay = f }

-- ---- Pseudo

pseudo-free : (b : ℕ) (w : Around) (nodes : List (List ℕ)) (x : Pseudo) → IsMark b → HasNodeNames w nodes → IsPseudo w.run w.sizes w.points x → AllFree b (pseudo_entries nodes x)
pseudo-free b w nodes x mark few is = (
  node-free b (codes "BUS1") nodes x.from mark refl few.names (omega (arith, few.count, is.ends.from_there)),
  (
    node-free b (codes "BUS2") nodes x.to mark refl few.names (omega (arith, few.count, is.ends.to_there)),
    (
      place-marked b (codes "first point") x.first mark refl (omega (arith, is.there, few.points)),
      (
        count-marked b (codes "points") x.count mark refl (omega (arith, is.few)),
        tt,
      ),
    ),
  ),
)

pseudo-same : (w v : Around) (nodes : List (List ℕ)) (x y : Pseudo) → HasNodeNames w nodes → HasNodeNames v nodes → AreApart nodes → IsPseudo w.run w.sizes w.points x → IsPseudo v.run v.sizes v.points y → x.line ≡ y.line → x.reactor ≡ y.reactor → pseudo_entries nodes x ≡ pseudo_entries nodes y → x ≡ y
pseudo-same w v nodes x y few few2 apart is js line reactor e =
    let e_from = node-same (codes "BUS1") nodes x.from y.from few.names apart (omega (arith, few.count, is.ends.from_there)) (omega (arith, few2.count, js.ends.from_there)) (ap (λ (l : List (List ℕ)). get_or l 0 []) e) in
    let e_to = node-same (codes "BUS2") nodes x.to y.to few.names apart (omega (arith, few.count, is.ends.to_there)) (omega (arith, few2.count, js.ends.to_there)) (ap (λ (l : List (List ℕ)). get_or l 1 []) e) in
    let e_first = place-same (codes "first point") x.first y.first (omega (arith, is.there, few.points)) (omega (arith, js.there, few2.points)) (ap (λ (l : List (List ℕ)). get_or l 2 []) e) in
    let e_count = count-same (codes "points") x.count y.count (omega (arith, is.few)) (omega (arith, js.few)) (ap (λ (l : List (List ℕ)). get_or l 3 []) e) in
    ap (λ (v : ℕ). made v x.from x.to x.reactor x.first x.count) line
    ∙ ap (λ (v : ℕ). made y.line v x.to x.reactor x.first x.count) e_from
    ∙ ap (λ (v : ℕ). made y.line y.from v x.reactor x.first x.count) e_to
    ∙ ap (λ (v : Bool). made y.line y.from y.to v x.first x.count) reactor
    ∙ ap (λ (v : ℕ). made y.line y.from y.to y.reactor v x.count) e_first
    ∙ ap (λ (v : ℕ). made y.line y.from y.to y.reactor y.first v) e_count
  where
    made : ℕ → ℕ → ℕ → Bool → ℕ → ℕ → Pseudo
    made a b c d e f = record { line = a; «from» = b; to = c; reactor = d; first = e; count = f }

-- ---- Phase

phase-free : (b : ℕ) (w : Around) (nodes : List (List ℕ)) (x : Phase) → IsMark b → HasNodeNames w nodes → IsPhase w.sizes x → AllFree b (phase_entries nodes x)
phase-free b w nodes x mark few is = (
  node-free b (codes "BUS1") nodes x.from mark refl few.names (omega (arith, few.count, is.ends.from_there)),
  (
    node-free b (codes "BUS2") nodes x.to mark refl few.names (omega (arith, few.count, is.ends.to_there)),
    (
      place-marked b (codes "three-phase line") x.trio mark refl (omega (arith, is.trio, few.trios)),
      (
        place-marked b (codes "phase") x.phase mark refl (omega (arith, is.phase)),
        tt,
      ),
    ),
  ),
)

phase-same : (w v : Around) (nodes : List (List ℕ)) (x y : Phase) → HasNodeNames w nodes → HasNodeNames v nodes → AreApart nodes → IsPhase w.sizes x → IsPhase v.sizes y → x.line ≡ y.line → phase_entries nodes x ≡ phase_entries nodes y → x ≡ y
phase-same w v nodes x y few few2 apart is js line e =
    let e_from = node-same (codes "BUS1") nodes x.from y.from few.names apart (omega (arith, few.count, is.ends.from_there)) (omega (arith, few2.count, js.ends.from_there)) (ap (λ (l : List (List ℕ)). get_or l 0 []) e) in
    let e_to = node-same (codes "BUS2") nodes x.to y.to few.names apart (omega (arith, few.count, is.ends.to_there)) (omega (arith, few2.count, js.ends.to_there)) (ap (λ (l : List (List ℕ)). get_or l 1 []) e) in
    let e_trio = place-same (codes "three-phase line") x.trio y.trio (omega (arith, is.trio, few.trios)) (omega (arith, js.trio, few2.trios)) (ap (λ (l : List (List ℕ)). get_or l 2 []) e) in
    let e_phase = place-same (codes "phase") x.phase y.phase (omega (arith, is.phase)) (omega (arith, js.phase)) (ap (λ (l : List (List ℕ)). get_or l 3 []) e) in
    ap (λ (v : ℕ). made v x.from x.to x.trio x.phase) line
    ∙ ap (λ (v : ℕ). made y.line v x.to x.trio x.phase) e_from
    ∙ ap (λ (v : ℕ). made y.line y.from v x.trio x.phase) e_to
    ∙ ap (λ (v : ℕ). made y.line y.from y.to v x.phase) e_trio
    ∙ ap (λ (v : ℕ). made y.line y.from y.to y.trio v) e_phase
  where
    made : ℕ → ℕ → ℕ → ℕ → ℕ → Phase
    made a b c d e = record { line = a; «from» = b; to = c; trio = d; phase = e }

-- ---- any branch

pseudo_word-text : (t : Bool) → IsText (pseudo_word t)
pseudo_word-text false = refl
pseudo_word-text true = refl

-- the word and the entries of a branch
abbrev kind_word : Branch → List ℕ
kind_word (OfLumped x) = codes "series branch"
kind_word (OfLine x) = codes "line"
kind_word (OfPseudo x) = pseudo_word x.reactor
kind_word (OfPhase x) = codes "phase of a line"

abbrev kind_entries : List (List ℕ) → Branch → List (List ℕ)
kind_entries nodes (OfLumped x) = series_entries nodes x
kind_entries nodes (OfLine x) = line_entries nodes x
kind_entries nodes (OfPseudo x) = pseudo_entries nodes x
kind_entries nodes (OfPhase x) = phase_entries nodes x

as_card : (nodes : List (List ℕ)) (x : Branch) → branch_line nodes x ≡ card_line (line_of x) (kind_word x) (kind_entries nodes x)
as_card nodes (OfLumped x) = refl
as_card nodes (OfLine x) = refl
as_card nodes (OfPseudo x) = refl
as_card nodes (OfPhase x) = refl

entries-free : (b : ℕ) (w : Around) (nodes : List (List ℕ)) (x : Branch) → IsMark b → HasNodeNames w nodes → IsBranch w.run w.sizes w.points x → AllFree b (kind_entries nodes x)
entries-free b w nodes (OfLumped x) mark few is = series-free b w nodes x mark few is
entries-free b w nodes (OfLine x) mark few is = line-free b w nodes x mark few is
entries-free b w nodes (OfPseudo x) mark few is = pseudo-free b w nodes x mark few is
entries-free b w nodes (OfPhase x) mark few is = phase-free b w nodes x mark few is

word-text : (x : Branch) → IsText (kind_word x)
word-text (OfLumped x) = refl
word-text (OfLine x) = refl
word-text (OfPseudo x) = pseudo_word-text x.reactor
word-text (OfPhase x) = refl

pub branch-free : (b : ℕ) (w : Around) (nodes : List (List ℕ)) (x : Branch) → b < 32 → IsMark b → HasNodeNames w nodes → IsBranch w.run w.sizes w.points x → line_of x < 2 ^ 32 → IsFree b (branch_line nodes x)
branch-free b w nodes x low mark few is small =
    subst (IsFree b) (sym (as_card nodes x))
    (card-free b (line_of x) (kind_word x) (kind_entries nodes x) low small (mark.texts (codes "line ") refl) (mark.texts (kind_word x) (word-text x)) (entries-free b w nodes x mark few is))

reactor-same : (s t : Bool) → pseudo_word s ≡ pseudo_word t → s ≡ t
reactor-same false false e = refl
reactor-same false true e = let l : 18 ≡ 17 = ap length e in absurd (omega (arith, l))
reactor-same true false e = let l : 17 ≡ 18 = ap length e in absurd (omega (arith, l))
reactor-same true true e = refl

-- no two kinds have words of one length
not_pseudo : (k : ℕ) (t : Bool) → k ≡ length (pseudo_word t) → k ≢ 13 × ((k ≢ 4) × (k ≢ 15))
not_pseudo k false e = (λ f. omega (arith, e, f), (λ f. omega (arith, e, f), λ f. omega (arith, e, f)))
not_pseudo k true e = (λ f. omega (arith, e, f), (λ f. omega (arith, e, f), λ f. omega (arith, e, f)))

kinds-same : (w v : Around) (nodes : List (List ℕ)) (x y : Branch) → HasNodeNames w nodes → HasNodeNames v nodes → AreApart nodes → IsBranch w.run w.sizes w.points x → IsBranch v.run v.sizes v.points y
    → line_of x ≡ line_of y → kind_word x ≡ kind_word y → kind_entries nodes x ≡ kind_entries nodes y → x ≡ y
kinds-same w v nodes (OfLumped x) (OfLumped y) few few2 apart is js line word e = ap OfLumped (series-same w v nodes x y few few2 apart is js line e)
kinds-same w v nodes (OfLumped x) (OfLine y) few few2 apart is js line word e = let l : 13 ≡ 4 = ap length word in absurd (omega (arith, l))
kinds-same w v nodes (OfLumped x) (OfPseudo y) few few2 apart is js line word e = absurd ((not_pseudo 13 y.reactor (ap length word)).0 refl)
kinds-same w v nodes (OfLumped x) (OfPhase y) few few2 apart is js line word e = let l : 13 ≡ 15 = ap length word in absurd (omega (arith, l))
kinds-same w v nodes (OfLine x) (OfLumped y) few few2 apart is js line word e = let l : 4 ≡ 13 = ap length word in absurd (omega (arith, l))
kinds-same w v nodes (OfLine x) (OfLine y) few few2 apart is js line word e = ap OfLine (line-same w v nodes x y few few2 apart is js line e)
kinds-same w v nodes (OfLine x) (OfPseudo y) few few2 apart is js line word e = absurd ((not_pseudo 4 y.reactor (ap length word)).1.0 refl)
kinds-same w v nodes (OfLine x) (OfPhase y) few few2 apart is js line word e = let l : 4 ≡ 15 = ap length word in absurd (omega (arith, l))
kinds-same w v nodes (OfPseudo x) (OfLumped y) few few2 apart is js line word e = absurd ((not_pseudo 13 x.reactor (ap length (sym word))).0 refl)
kinds-same w v nodes (OfPseudo x) (OfLine y) few few2 apart is js line word e = absurd ((not_pseudo 4 x.reactor (ap length (sym word))).1.0 refl)
kinds-same w v nodes (OfPseudo x) (OfPseudo y) few few2 apart is js line word e = ap OfPseudo (pseudo-same w v nodes x y few few2 apart is js line (reactor-same x.reactor y.reactor word) e)
kinds-same w v nodes (OfPseudo x) (OfPhase y) few few2 apart is js line word e = absurd ((not_pseudo 15 x.reactor (ap length (sym word))).1.1 refl)
kinds-same w v nodes (OfPhase x) (OfLumped y) few few2 apart is js line word e = let l : 15 ≡ 13 = ap length word in absurd (omega (arith, l))
kinds-same w v nodes (OfPhase x) (OfLine y) few few2 apart is js line word e = let l : 15 ≡ 4 = ap length word in absurd (omega (arith, l))
kinds-same w v nodes (OfPhase x) (OfPseudo y) few few2 apart is js line word e = absurd ((not_pseudo 15 y.reactor (ap length word)).1.1 refl)
kinds-same w v nodes (OfPhase x) (OfPhase y) few few2 apart is js line word e = ap OfPhase (phase-same w v nodes x y few few2 apart is js line e)

pub branch-same : (w v : Around) (nodes : List (List ℕ)) (x y : Branch) → HasNodeNames w nodes → HasNodeNames v nodes → AreApart nodes → IsBranch w.run w.sizes w.points x → IsBranch v.run v.sizes v.points y
    → line_of x < 2 ^ 32 → line_of y < 2 ^ 32 → branch_line nodes x ≡ branch_line nodes y → x ≡ y
branch-same w v nodes x y few few2 apart is js small_x small_y e =
    let parts = card-same (line_of x) (line_of y) (kind_word x) (kind_word y) (kind_entries nodes x) (kind_entries nodes y) small_x small_y (comma.texts (kind_word x) (word-text x)) (comma.texts (kind_word y) (word-text y))
    (entries-free 44 w nodes x comma few is) (entries-free 44 v nodes y comma few2 js) (sym (as_card nodes x) ∙ e ∙ as_card nodes y) in
    kinds-same w v nodes x y few few2 apart is js parts.0 parts.1.0 parts.1.1
