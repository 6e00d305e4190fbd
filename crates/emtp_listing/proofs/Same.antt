-- Two cases of one listing have the same records.
use Rattle.std.proofs.Common.{◌≡◌, ◌++◌, ◌∙◌, sym, ap, refl, arith, ◌+◌, ◌^◌, ◌<◌, List, [], ◌∷◌, ℕ, length, map, get_or, drop, subst, codes, append_assoc}
use Rattle.std.specs.Prelude.{All}
use Rattle.std.proofs.lemmas.Int.{ints}
use Rattle.std.proofs.lemmas.List.Elements.{All-cons, All-head, All-nil, All-tail}
use Rattle.emtp_case.specs.Branch.{line_of}
use Rattle.emtp_case.specs.held.Branch.{IsBranch, IsTrio}
use Rattle.emtp_case.specs.held.Case.{IsCase}
use Rattle.emtp_case.specs.held.Channel.{IsChannel}
use Rattle.emtp_case.specs.held.Control.{IsBlock, IsExtra}
use Rattle.emtp_case.specs.held.Name.{IsName}
use Rattle.emtp_case.specs.held.Sizes.{sizes_of}
use Rattle.emtp_case.specs.held.Source.{IsSource, IsTacsSource}
use Rattle.emtp_case.specs.held.Switch.{IsSwitch}
use Rattle.emtp_case.specs.declared.branch.Branch.{Branch}
use Rattle.emtp_case.specs.declared.case.Parts.{Parts}
use Rattle.emtp_case.specs.declared.control.Block.{Block}
use Rattle.emtp_case.specs.declared.switch.Switch.{Switch}
use Rattle.emtp_listing.specs.ChannelLines.{channel_line}
use Rattle.emtp_listing.specs.ControlLines.{block_lines, extra_lines, tacs_source_line}
use Rattle.emtp_listing.specs.Law.{HasFewNames, HasFileLine, HasModes, HasPowers, AllFree, AreApart, Around, HasNodeNames, HasVarNames, FitsTypes, AreSame, characteristic_of, table_of}
use Rattle.emtp_listing.specs.Lines.{grouped, numbered}
use Rattle.emtp_listing.specs.Listing.{control_part, listed_lines, listing, name_line, network_lines}
use Rattle.emtp_listing.specs.NetworkLines.{branch_group, source_line, switch_line, trio_line}
use Rattle.emtp_listing.proofs.Blocks.{block-free, block-same}
use Rattle.emtp_listing.proofs.Channels.{channel-free, channel-same}
use Rattle.emtp_listing.proofs.Characteristics.{branch_group-free, branch_group-same}
use Rattle.emtp_listing.proofs.Cut.{lines-same}
use Rattle.emtp_listing.proofs.Devices.{extra-free, extra-same}
use Rattle.emtp_listing.proofs.Heads.{HasLengths, case-free, case-same, name-line-free, name-same, record-free, run-free, run-same}
use Rattle.emtp_listing.proofs.Lists.{all-free, front-same, grouped-free, grouped-same, map-free, map-length, map-same, numbered-free, numbered-length, numbered-same}
use Rattle.emtp_listing.proofs.Marks.{IsText, line_end}
use Rattle.emtp_listing.proofs.Sources.{source-free, source-same, tacs_source-free, tacs_source-same}
use Rattle.emtp_listing.proofs.Switches.{switch-free, switch-same}
use Rattle.emtp_listing.proofs.Trios.{trio-free, trio-same}

-- ---- each record fits, and its types hold

abbrev Both : {X : Type 0} → (X → Type 0) → (X → Type 0) → X → Type 0
Both P L x = P x × L x

all-both : {X : Type 0} (P L : X → Type 0) (xs : List X) → All P xs → All L xs → All (Both P L) xs
all-both P L [] ps ls = All-nil (Both P L)
all-both P L (x ∷ xs) ps ls = All-cons (Both P L) x xs (All-head P x xs ps, All-head L x xs ls) (all-both P L xs (All-tail P x xs ps) (All-tail L x xs ls))

abbrev HasSmallLine : Switch → Type 0
HasSmallLine s = s.line < 2 ^ 32

abbrev HasBranchLine : Branch → Type 0
HasBranchLine b = line_of b < 2 ^ 32

branches-held : (p : Parts) → IsCase p → FitsTypes p → All (Both (IsBranch p.run (sizes_of p) p.points) HasBranchLine) p.branches
branches-held p is types = all-both (IsBranch p.run (sizes_of p) p.points) HasBranchLine p.branches is.draft.network.branches types.branches

trios-held : (p : Parts) → IsCase p → FitsTypes p → All (Both (IsTrio p.run) HasModes) p.trios
trios-held p is types = all-both (IsTrio p.run) HasModes p.trios is.draft.network.trios types.trios

switches-held : (p : Parts) → IsCase p → FitsTypes p → All (Both (IsSwitch (sizes_of p)) HasSmallLine) p.switches
switches-held p is types = all-both (IsSwitch (sizes_of p)) HasSmallLine p.switches is.draft.network.switches types.switches

sources-held : (p : Parts) → IsCase p → FitsTypes p → All (Both (IsSource (sizes_of p)) HasFileLine) p.sources
sources-held p is types = all-both (IsSource (sizes_of p)) HasFileLine p.sources is.draft.network.sources types.sources

tacs_sources-held : (p : Parts) → IsCase p → FitsTypes p → All (Both (IsTacsSource (sizes_of p)) HasFileLine) p.tacs_sources
tacs_sources-held p is types = all-both (IsTacsSource (sizes_of p)) HasFileLine p.tacs_sources is.draft.control.tacs_sources types.tacs_sources

blocks-held : (p : Parts) → IsCase p → FitsTypes p → All (Both (IsBlock p.run (sizes_of p)) HasPowers) p.blocks
blocks-held p is types = all-both (IsBlock p.run (sizes_of p)) HasPowers p.blocks is.draft.control.blocks types.blocks

extras-held : (p : Parts) → IsCase p → FitsTypes p → All (Both (IsExtra (sizes_of p) p.points) HasFewNames) p.extras
extras-held p is types = all-both (IsExtra (sizes_of p) p.points) HasFewNames p.extras is.draft.control.extras types.extras

-- ---- a case

abbrev around : Parts → Around
around p = record { run = p.run; sizes = sizes_of p; points = p.points }

few-of : (p : Parts) → IsCase p → HasNodeNames (around p) p.nodes
few-of p is =
    let counts = is.draft.counts in
    record {
      names = is.draft.network.names;
      count = refl;
      points = omega (arith, counts.points, counts.branches, counts.extras);
      branches = omega (arith, counts.branches);
      trios = omega (arith, counts.trios, counts.branches);
      switches = omega (arith, counts.switches);
      timed = omega (arith, ints, is.draft.run.dt.least);
    }

named-of : (p : Parts) → IsCase p → HasVarNames (around p) p.vars
named-of p is = record { names = is.draft.control.names; count = refl }

-- ---- no line has an LF

names-free : (word : List ℕ) (first : ℕ) (names : List (List ℕ)) → IsText word → first + length names < 2 ^ 32 → All IsName names → AllFree 10 (numbered (name_line word) first names)
names-free word first names named few all =
    numbered-free 10 (2 ^ 32) (name_line word) IsName (λ n x less is. name-line-free 10 word n x (omega arith) line_end named less is) first names (omega (arith, few)) all

network-free : (p : Parts) → IsCase p → FitsTypes p → AllFree 10 (network_lines p)
network-free p is types =
    let few = few-of p is in
    let named = named-of p is in
    let branches = grouped-free 10 (branch_group p.nodes p.points) (Both (IsBranch p.run (sizes_of p) p.points) HasBranchLine)
    (λ x h. branch_group-free (around p) p.nodes x few h.0 h.1) p.branches (branches-held p is types) in
    let trios = map-free 10 trio_line (Both (IsTrio p.run) HasModes) (λ x h. trio-free p.run x few.timed h.0 h.1) p.trios (trios-held p is types) in
    let switches = map-free 10 (switch_line p.nodes p.vars) (Both (IsSwitch (sizes_of p)) HasSmallLine)
    (λ x h. switch-free 10 (around p) p.nodes p.vars x (omega arith) line_end few named h.0 h.1) p.switches (switches-held p is types) in
    let sources = map-free 10 (source_line p.nodes p.vars) (Both (IsSource (sizes_of p)) HasFileLine)
    (λ x h. source-free 10 (around p) p.nodes p.vars x (omega arith) line_end few named h.0 h.1) p.sources (sources-held p is types) in
    all-free 10 _ _ branches (all-free 10 _ _ trios (all-free 10 _ _ switches sources))

control-free : (p : Parts) → IsCase p → FitsTypes p → AllFree 10 (control_part p)
control-free p is types =
    let few = few-of p is in
    let named = named-of p is in
    let sources = map-free 10 (tacs_source_line p.nodes p.vars) (Both (IsTacsSource (sizes_of p)) HasFileLine)
    (λ x h. tacs_source-free 10 (around p) p.nodes p.vars x (omega arith) line_end few named h.0 h.1) p.tacs_sources (tacs_sources-held p is types) in
    let blocks = grouped-free 10 (block_lines p.vars) (Both (IsBlock p.run (sizes_of p)) HasPowers) (λ x h. block-free (around p) p.vars x named h.0 h.1) p.blocks (blocks-held p is types) in
    let extras = grouped-free 10 (extra_lines p.vars p.points) (Both (IsExtra (sizes_of p) p.points) HasFewNames) (λ x h. extra-free (around p) p.vars x named few.points h.0 h.1) p.extras (extras-held p is types) in
    let channels = numbered-free 10 (2 ^ 32) (channel_line p) (IsChannel (sizes_of p)) (λ n x less h. channel-free (around p) p n x less few named h) 1 p.channels (omega (arith, is.draft.counts.channels)) is.draft.channels in
    all-free 10 _ _ sources (all-free 10 _ _ blocks (all-free 10 _ _ extras channels))

lines-free : (p : Parts) → IsCase p → FitsTypes p → AllFree 10 (listed_lines p)
lines-free p is types =
    let counts = is.draft.counts in
    let nodes = names-free (codes "node") 1 p.nodes refl (omega (arith, counts.nodes)) is.draft.network.names in
    let vars = names-free (codes "variable") 0 p.vars refl (omega (arith, counts.vars)) is.draft.control.names in
    (case-free p counts, (run-free p.run is.draft.run, (record-free p counts is.draft.run, all-free 10 _ _ nodes (all-free 10 _ _ vars (all-free 10 _ _ (network-free p is types) (control-free p is types))))))

-- ---- names

names-same : (word : List ℕ) (first : ℕ) (xs ys : List (List ℕ)) → IsText word → first + length xs < 2 ^ 32 → All IsName xs → All IsName ys → numbered (name_line word) first xs ≡ numbered (name_line word) first ys → xs ≡ ys
names-same word first xs ys named few all both e =
    numbered-same (2 ^ 32) (name_line word) (name_line word) IsName IsName (λ n x y less is js same. name-same word n x y named less is js same) first xs ys (omega (arith, few)) all both e

names-front : (word : List ℕ) (first : ℕ) (xs ys : List (List ℕ)) (s t : List (List ℕ)) → IsText word → first + length xs < 2 ^ 32 → All IsName xs → All IsName ys → length xs ≡ length ys
    → numbered (name_line word) first xs ++ s ≡ numbered (name_line word) first ys ++ t → (xs ≡ ys) × (s ≡ t)
names-front word first xs ys s t named few all both long e =
    let parts = front-same (numbered (name_line word) first xs) (numbered (name_line word) first ys) s t
    (numbered-length (name_line word) first xs ∙ long ∙ sym (numbered-length (name_line word) first ys)) e in
    (names-same word first xs ys named few all both parts.0, parts.1)

-- lines of a list, and more behind them
map-front : {X : Type 0} (f : X → List ℕ) (P Q : X → Type 0) (xs ys : List X) (s t : List (List ℕ)) → ((x y : X) → P x → Q y → f x ≡ f y → x ≡ y) → All P xs → All Q ys → length xs ≡ length ys
    → map f xs ++ s ≡ map f ys ++ t → (xs ≡ ys) × (s ≡ t)
map-front f P Q xs ys s t each ps qs long e =
    let parts = front-same (map f xs) (map f ys) s t (map-length f xs ∙ long ∙ sym (map-length f ys)) e in
    (map-same f P Q each xs ys ps qs parts.0, parts.1)

-- ---- two cases

-- what is known of two cases once their names are
record AreNamedAlike (p q : Parts) : Type 0 where
  is : IsCase p
  other : IsCase q
  types : FitsTypes p
  other_types : FitsTypes q
  nodes : p.nodes ≡ q.nodes
  vars : p.vars ≡ q.vars
  apart : AreApart p.nodes
  apart_vars : AreApart p.vars
  long : HasLengths p q

few-other : (p q : Parts) → AreNamedAlike p q → HasNodeNames (around q) p.nodes
few-other p q alike = subst (HasNodeNames (around q)) (sym alike.nodes) (few-of q alike.other)

named-other : (p q : Parts) → AreNamedAlike p q → HasVarNames (around q) p.vars
named-other p q alike = subst (HasVarNames (around q)) (sym alike.vars) (named-of q alike.other)

record AreNetworksSame (p q : Parts) (s t : List (List ℕ)) : Type 0 where
  branches : p.branches ≡ q.branches
  characteristics : map (characteristic_of p.points) p.branches ≡ map (characteristic_of q.points) q.branches
  trios : p.trios ≡ q.trios
  switches : p.switches ≡ q.switches
  sources : p.sources ≡ q.sources
  rest : s ≡ t

-- the same part of the second case, over the names of the first
renamed-network : (p q : Parts) → p.nodes ≡ q.nodes → p.vars ≡ q.vars
    → network_lines q ≡ grouped (branch_group p.nodes q.points) q.branches ++ (map trio_line q.trios ++ (map (switch_line p.nodes p.vars) q.switches ++ map (source_line p.nodes p.vars) q.sources))
renamed-network p q nodes vars = sym (ap (λ (ns : List (List ℕ)). over ns p.vars) nodes ∙ ap (over q.nodes) vars)
  where
    over : List (List ℕ) → List (List ℕ) → List (List ℕ)
    over ns vs = grouped (branch_group ns q.points) q.branches ++ (map trio_line q.trios ++ (map (switch_line ns vs) q.switches ++ map (source_line ns vs) q.sources))

networks-same : (p q : Parts) (s t : List (List ℕ)) → AreNamedAlike p q → network_lines p ++ s ≡ network_lines q ++ t → AreNetworksSame p q s t
networks-same p q s t alike e =
    let few = few-of p alike.is in
    let few2 = few-other p q alike in
    let named = named-of p alike.is in
    let named2 = named-other p q alike in
    let bs = grouped (branch_group p.nodes p.points) p.branches in
    let bs2 = grouped (branch_group p.nodes q.points) q.branches in
    let ts = map trio_line p.trios in
    let ts2 = map trio_line q.trios in
    let ss = map (switch_line p.nodes p.vars) p.switches in
    let ss2 = map (switch_line p.nodes p.vars) q.switches in
    let vs = map (source_line p.nodes p.vars) p.sources in
    let vs2 = map (source_line p.nodes p.vars) q.sources in
    let whole : bs ++ (ts ++ (ss ++ (vs ++ s))) ≡ bs2 ++ (ts2 ++ (ss2 ++ (vs2 ++ t))) =
    sym (apart_four bs ts ss vs s) ∙ e ∙ ap (λ (l : List (List ℕ)). l ++ t) (renamed-network p q alike.nodes alike.vars) ∙ apart_four bs2 ts2 ss2 vs2 t in
    let r1 = grouped-same (branch_group p.nodes p.points) (branch_group p.nodes q.points) (characteristic_of p.points) (characteristic_of q.points)
    (Both (IsBranch p.run (sizes_of p) p.points) HasBranchLine) (Both (IsBranch q.run (sizes_of q) q.points) HasBranchLine)
    (λ x y m n h k same. branch_group-same (around p) (around q) p.nodes x y m n few few2 alike.apart h.0 k.0 h.1 k.1 same)
    p.branches q.branches (ts ++ (ss ++ (vs ++ s))) (ts2 ++ (ss2 ++ (vs2 ++ t))) alike.long.branches (branches-held p alike.is alike.types) (branches-held q alike.other alike.other_types) whole in
    let r2 = map-front trio_line (Both (IsTrio p.run) HasModes) (Both (IsTrio q.run) HasModes) p.trios q.trios (ss ++ (vs ++ s)) (ss2 ++ (vs2 ++ t))
    (λ x y h k same. trio-same p.run q.run x y few.timed few2.timed h.0 k.0 h.1 k.1 same) (trios-held p alike.is alike.types) (trios-held q alike.other alike.other_types) alike.long.trios r1.1.1 in
    let r3 = map-front (switch_line p.nodes p.vars) (Both (IsSwitch (sizes_of p)) HasSmallLine) (Both (IsSwitch (sizes_of q)) HasSmallLine) p.switches q.switches (vs ++ s) (vs2 ++ t)
    (λ x y h k same. switch-same (around p) (around q) p.nodes p.vars x y few few2 alike.apart named named2 alike.apart_vars h.0 k.0 h.1 k.1 same)
    (switches-held p alike.is alike.types) (switches-held q alike.other alike.other_types) alike.long.switches r2.1 in
    let r4 = map-front (source_line p.nodes p.vars) (Both (IsSource (sizes_of p)) HasFileLine) (Both (IsSource (sizes_of q)) HasFileLine) p.sources q.sources s t
    (λ x y h k same. source-same (around p) (around q) p.nodes p.vars x y few few2 alike.apart named named2 alike.apart_vars h.0 k.0 h.1 k.1 same)
    (sources-held p alike.is alike.types) (sources-held q alike.other alike.other_types) alike.long.sources r3.1 in
    record { branches = r1.0; characteristics = r1.1.0; trios = r2.0; switches = r3.0; sources = r4.0; rest = r4.1 }
  where
    apart_four : (a b c d s : List (List ℕ)) → (a ++ (b ++ (c ++ d))) ++ s ≡ a ++ (b ++ (c ++ (d ++ s)))
    apart_four a b c d s =
        append_assoc a (b ++ (c ++ d)) s ∙ ap (λ (l : List (List ℕ)). a ++ l) (append_assoc b (c ++ d) s ∙ ap (λ (l : List (List ℕ)). b ++ l) (append_assoc c d s))

record AreControlsSame (p q : Parts) : Type 0 where
  tacs_sources : p.tacs_sources ≡ q.tacs_sources
  blocks : p.blocks ≡ q.blocks
  extras : p.extras ≡ q.extras
  tables : map (table_of p.points) p.extras ≡ map (table_of q.points) q.extras
  channels : p.channels ≡ q.channels

renamed-control : (p q : Parts) → p.nodes ≡ q.nodes → p.vars ≡ q.vars
    → control_part q ≡ map (tacs_source_line p.nodes p.vars) q.tacs_sources ++ (grouped (block_lines p.vars) q.blocks ++ (grouped (extra_lines p.vars q.points) q.extras ++ numbered (channel_line q) 1 q.channels))
renamed-control p q nodes vars = sym (ap (λ (ns : List (List ℕ)). over ns p.vars) nodes ∙ ap (over q.nodes) vars)
  where
    over : List (List ℕ) → List (List ℕ) → List (List ℕ)
    over ns vs = map (tacs_source_line ns vs) q.tacs_sources ++ (grouped (block_lines vs) q.blocks ++ (grouped (extra_lines vs q.points) q.extras ++ numbered (channel_line q) 1 q.channels))

controls-same : (p q : Parts) → AreNamedAlike p q → control_part p ≡ control_part q → AreControlsSame p q
controls-same p q alike e =
    let few = few-of p alike.is in
    let few2 = few-other p q alike in
    let own2 = few-of q alike.other in
    let named = named-of p alike.is in
    let named2 = named-other p q alike in
    let bs = grouped (block_lines p.vars) p.blocks in
    let bs2 = grouped (block_lines p.vars) q.blocks in
    let xs = grouped (extra_lines p.vars p.points) p.extras in
    let xs2 = grouped (extra_lines p.vars q.points) q.extras in
    let cs = numbered (channel_line p) 1 p.channels in
    let cs2 = numbered (channel_line q) 1 q.channels in
    let r1 = map-front (tacs_source_line p.nodes p.vars) (Both (IsTacsSource (sizes_of p)) HasFileLine) (Both (IsTacsSource (sizes_of q)) HasFileLine) p.tacs_sources q.tacs_sources (bs ++ (xs ++ cs)) (bs2 ++ (xs2 ++ cs2))
    (λ x y h k same. tacs_source-same (around p) (around q) p.nodes p.vars x y few few2 alike.apart named named2 alike.apart_vars h.0 k.0 h.1 k.1 same)
    (tacs_sources-held p alike.is alike.types) (tacs_sources-held q alike.other alike.other_types) alike.long.tacs_sources (e ∙ renamed-control p q alike.nodes alike.vars) in
    let r2 = grouped-same (block_lines p.vars) (block_lines p.vars) (λ (b : Block). 0) (λ (b : Block). 0) (Both (IsBlock p.run (sizes_of p)) HasPowers) (Both (IsBlock q.run (sizes_of q)) HasPowers)
    (λ x y m n h k same. alone (block-same (around p) (around q) p.vars x y m n named named2 alike.apart_vars h.0 k.0 h.1 k.1 same))
    p.blocks q.blocks (xs ++ cs) (xs2 ++ cs2) alike.long.blocks (blocks-held p alike.is alike.types) (blocks-held q alike.other alike.other_types) r1.1 in
    let r3 = grouped-same (extra_lines p.vars p.points) (extra_lines p.vars q.points) (table_of p.points) (table_of q.points)
    (Both (IsExtra (sizes_of p) p.points) HasFewNames) (Both (IsExtra (sizes_of q) q.points) HasFewNames)
    (λ x y m n h k same. extra-same (around p) (around q) p.vars x y m n named named2 alike.apart_vars few.points own2.points h.0 k.0 h.1 k.1 same)
    p.extras q.extras cs cs2 alike.long.extras (extras-held p alike.is alike.types) (extras-held q alike.other alike.other_types) r2.1.1 in
    let r4 = numbered-same (2 ^ 32) (channel_line p) (channel_line q) (IsChannel (sizes_of p)) (IsChannel (sizes_of q))
    (λ n x y less h k same. channel-same (around p) (around q) p q n x y less alike.nodes alike.vars few own2 alike.apart named (named-of q alike.other) alike.apart_vars h k same)
    1 p.channels q.channels (omega (arith, alike.is.draft.counts.channels)) alike.is.draft.channels alike.other.draft.channels r3.1.1 in
    record { tacs_sources = r1.0; blocks = r2.0; extras = r3.0; tables = r3.1.0; channels = r4 }
  where
    alone : {X : Type 0} {x y : X} {m n : List (List ℕ)} → (x ≡ y) × (m ≡ n) → (x ≡ y) × ((◌≡◌ {A = ℕ} 0 0) × (m ≡ n))
    alone parts = (parts.0, (refl, parts.1))

pub case-listed-same : (p q : Parts) → IsCase p → IsCase q → FitsTypes p → FitsTypes q → AreApart p.nodes → AreApart p.vars → listing p ≡ listing q → AreSame p q
unfolding listing
case-listed-same p q is js types types2 apart apart_vars e =
    let all = lines-same (listed_lines p) (listed_lines q) (lines-free p is types) (lines-free q js types2) e in
    let long = case-same p q is.draft.counts js.draft.counts (ap (λ (l : List (List ℕ)). get_or l 0 []) all) in
    let run = run-same p.run q.run is.draft.run js.draft.run (ap (λ (l : List (List ℕ)). get_or l 1 []) all) in
    let r1 = names-front (codes "node") 1 p.nodes q.nodes (numbered (name_line (codes "variable")) 0 p.vars ++ (network_lines p ++ control_part p)) (numbered (name_line (codes "variable")) 0 q.vars ++ (network_lines q ++ control_part q))
    refl (omega (arith, is.draft.counts.nodes)) is.draft.network.names js.draft.network.names long.nodes (ap (λ (l : List (List ℕ)). drop 3 l) all) in
    let r2 = names-front (codes "variable") 0 p.vars q.vars (network_lines p ++ control_part p) (network_lines q ++ control_part q)
    refl (omega (arith, is.draft.counts.vars)) is.draft.control.names js.draft.control.names long.vars r1.1 in
    let alike : AreNamedAlike p q = record { is = is; other = js; types = types; other_types = types2; nodes = r1.0; vars = r2.0; apart = apart; apart_vars = apart_vars; long = long } in
    let network = networks-same p q (control_part p) (control_part q) alike r2.1 in
    let control = controls-same p q alike network.rest in
    record {
      run = run;
      nodes = r1.0;
      vars = r2.0;
      branches = network.branches;
      characteristics = network.characteristics;
      trios = network.trios;
      switches = network.switches;
      sources = network.sources;
      tacs_sources = control.tacs_sources;
      blocks = control.blocks;
      extras = control.extras;
      tables = control.tables;
      channels = control.channels;
    }
