-- The lines of the case, of its run and of its names.
use Rattle.std.proofs.Common.{◌≡◌, ◌∙◌, ap, refl, arith, ◌*◌, ◌-◌, ◌^◌, ◌<◌, ◌≤◌, List, [], ◌∷◌, ℕ, ℤ, pos, length, get_or, drop, codes, decimal, unsigned_abs}
use Rattle.std.specs.Prelude.{◌*ℤ◌, count_by}
use Rattle.std.proofs.Math.Nat.{div-le_self, mul-le-mul}
use Rattle.std.proofs.lemmas.Int.{unsigned_abs-mul}
use Rattle.std.proofs.lemmas.List.Sums.{count_by-le-length}
use Rattle.emtp_case.specs.held.Name.{IsName}
use Rattle.emtp_case.specs.held.Case.{HasCounts}
use Rattle.emtp_case.specs.Channel.{is_status}
use Rattle.emtp_case.specs.HistoryValues.{history_values_of}
use Rattle.emtp_case.specs.held.Range.{IsBetween}
use Rattle.emtp_case.specs.RunData.{samples_of, time_of}
use Rattle.emtp_case.specs.held.RunData.{IsRun}
use Rattle.emtp_case.specs.declared.case.Parts.{Parts}
use Rattle.emtp_case.specs.declared.run_data.RunData.{RunData}
use Rattle.emtp_listing.specs.Entry.{count_entry, limited_entry, number_entry, word_entry}
use Rattle.emtp_listing.specs.Law.{IsFree, AllFree}
use Rattle.emtp_listing.specs.Lines.{all_separated, head_text}
use Rattle.emtp_listing.specs.Listing.{case_line, name_line, record_line, run_line}
use Rattle.emtp_case.specs.declared.limit.TheConstants.{MOST_BRANCHES, MOST_CHANNELS, MOST_CONTROL_CARDS, MOST_HISTORY_VALUES, MOST_NODES, MOST_SOURCES, MOST_STEPS, MOST_STORED_VALUES, MOST_SWITCHES}
use Rattle.emtp_listing.proofs.Cut.{free-both, free-entries, entries-same, fronts-same}
use Rattle.emtp_listing.proofs.Entries.{number-marked, count-marked, limited-marked, limited-same}
use Rattle.emtp_listing.proofs.Marks.{IsMark, IsText, comma, line_end, name-text, word-free, word-same, between-most, between-small}
use Rattle.emtp_listing.proofs.Numbers.{decimal-free, number-same, count-same}

-- ---- the case and its run

product-small : (m n : ℕ) → m ≤ 1000000 → n ≤ 10 ^ 12 → m * n < 2 ^ 64
product-small m n few small = let most : m * n ≤ 1000000 * 10 ^ 12 = mul-le-mul few small in omega (arith, most)

end-small : (run : RunData) → IsRun run → unsigned_abs (time_of run run.steps) < 2 ^ 64
end-small run is = time-small run.steps run.dt is.few_steps is.dt
  where
    time-small : (steps : ℕ) (dt : ℤ) → steps ≤ 1000000 → IsBetween 1000 (10 ^ 12) dt → unsigned_abs (pos steps *ℤ dt) < 2 ^ 64
    time-small steps dt few is =
        rw (unsigned_abs-mul (pos steps) dt) (product-small steps (unsigned_abs dt) few (between-most 1000 (10 ^ 12) dt is))

samples-small : (run : RunData) → IsRun run → samples_of run < 2 ^ 64
samples-small run is = let few = div-le_self run.steps run.every in omega (arith, few, is.few_steps)

abbrev case_entries : Parts → List (List ℕ)
case_entries p =
    limited_entry (codes "nodes") MOST_NODES (length p.nodes)
    ∷ count_entry (codes "variables") (length p.vars)
    ∷ limited_entry (codes "branches") MOST_BRANCHES (length p.branches)
    ∷ count_entry (codes "three-phase lines") (length p.trios)
    ∷ limited_entry (codes "switches") MOST_SWITCHES (length p.switches)
    ∷ limited_entry (codes "sources") MOST_SOURCES (length p.sources)
    ∷ limited_entry (codes "control sources") MOST_CONTROL_CARDS (length p.tacs_sources)
    ∷ limited_entry (codes "blocks") MOST_CONTROL_CARDS (length p.blocks)
    ∷ limited_entry (codes "supplemental cards") MOST_CONTROL_CARDS (length p.extras)
    ∷ limited_entry (codes "channels") MOST_CHANNELS (length p.channels)
    ∷ []

case_entries-free : (b : ℕ) (p : Parts) → IsMark b → HasCounts p → AllFree b (case_entries p)
case_entries-free b p mark counts = (
  limited-marked b (codes "nodes") MOST_NODES (length p.nodes) mark refl (omega arith) (omega (arith, counts.nodes)),
  (
    count-marked b (codes "variables") (length p.vars) mark refl (omega (arith, counts.vars)),
    (
      limited-marked b (codes "branches") MOST_BRANCHES (length p.branches) mark refl (omega arith) (omega (arith, counts.branches)),
      (
        count-marked b (codes "three-phase lines") (length p.trios) mark refl (omega (arith, counts.trios, counts.branches)),
        (
          limited-marked b (codes "switches") MOST_SWITCHES (length p.switches) mark refl (omega arith) (omega (arith, counts.switches)),
          (
            limited-marked b (codes "sources") MOST_SOURCES (length p.sources) mark refl (omega arith) (omega (arith, counts.sources)),
            (
              limited-marked b (codes "control sources") MOST_CONTROL_CARDS (length p.tacs_sources) mark refl (omega arith) (omega (arith, counts.tacs_sources)),
              (
                limited-marked b (codes "blocks") MOST_CONTROL_CARDS (length p.blocks) mark refl (omega arith) (omega (arith, counts.blocks)),
                (
                  limited-marked b (codes "supplemental cards") MOST_CONTROL_CARDS (length p.extras) mark refl (omega arith) (omega (arith, counts.extras)),
                  (
                    limited-marked b (codes "channels") MOST_CHANNELS (length p.channels) mark refl (omega arith) (omega (arith, counts.channels)),
                    tt,
                  ),
                ),
              ),
            ),
          ),
        ),
      ),
    ),
  ),
)

pub case-free : (p : Parts) → HasCounts p → IsFree 10 (case_line p)
case-free p counts = free-both 10 (codes "case") (all_separated (case_entries p)) refl (free-entries 10 (case_entries p) (omega arith) (case_entries-free 10 p line_end counts))

-- as many records of each kind
pub record HasLengths (p q : Parts) : Type 0 where
  pub nodes : length p.nodes ≡ length q.nodes
  pub vars : length p.vars ≡ length q.vars
  pub branches : length p.branches ≡ length q.branches
  pub trios : length p.trios ≡ length q.trios
  pub switches : length p.switches ≡ length q.switches
  pub sources : length p.sources ≡ length q.sources
  pub tacs_sources : length p.tacs_sources ≡ length q.tacs_sources
  pub blocks : length p.blocks ≡ length q.blocks
  pub extras : length p.extras ≡ length q.extras
  pub channels : length p.channels ≡ length q.channels

pub case-same : (p q : Parts) → HasCounts p → HasCounts q → case_line p ≡ case_line q → HasLengths p q
case-same p q cp cq e =
    let entries = entries-same (case_entries p) (case_entries q) (case_entries-free 44 p comma cp) (case_entries-free 44 q comma cq) (ap (λ (l : List ℕ). drop 4 l) e) in
    record {
      nodes = limited-same (codes "nodes") MOST_NODES (length p.nodes) (length q.nodes) (omega (arith, cp.nodes)) (omega (arith, cq.nodes)) (ap (λ (l : List (List ℕ)). get_or l 0 []) entries);
      vars = count-same (codes "variables") (length p.vars) (length q.vars) (omega (arith, cp.vars)) (omega (arith, cq.vars)) (ap (λ (l : List (List ℕ)). get_or l 1 []) entries);
      branches = limited-same (codes "branches") MOST_BRANCHES (length p.branches) (length q.branches) (omega (arith, cp.branches)) (omega (arith, cq.branches)) (ap (λ (l : List (List ℕ)). get_or l 2 []) entries);
      trios = count-same (codes "three-phase lines") (length p.trios) (length q.trios) (omega (arith, cp.trios, cp.branches)) (omega (arith, cq.trios, cq.branches)) (ap (λ (l : List (List ℕ)). get_or l 3 []) entries);
      switches = limited-same (codes "switches") MOST_SWITCHES (length p.switches) (length q.switches) (omega (arith, cp.switches)) (omega (arith, cq.switches)) (ap (λ (l : List (List ℕ)). get_or l 4 []) entries);
      sources = limited-same (codes "sources") MOST_SOURCES (length p.sources) (length q.sources) (omega (arith, cp.sources)) (omega (arith, cq.sources)) (ap (λ (l : List (List ℕ)). get_or l 5 []) entries);
      tacs_sources = limited-same (codes "control sources") MOST_CONTROL_CARDS (length p.tacs_sources) (length q.tacs_sources) (omega (arith, cp.tacs_sources)) (omega (arith, cq.tacs_sources)) (ap (λ (l : List (List ℕ)). get_or l 6 []) entries);
      blocks = limited-same (codes "blocks") MOST_CONTROL_CARDS (length p.blocks) (length q.blocks) (omega (arith, cp.blocks)) (omega (arith, cq.blocks)) (ap (λ (l : List (List ℕ)). get_or l 7 []) entries);
      extras = limited-same (codes "supplemental cards") MOST_CONTROL_CARDS (length p.extras) (length q.extras) (omega (arith, cp.extras)) (omega (arith, cq.extras)) (ap (λ (l : List (List ℕ)). get_or l 8 []) entries);
      channels = limited-same (codes "channels") MOST_CHANNELS (length p.channels) (length q.channels) (omega (arith, cp.channels)) (omega (arith, cq.channels)) (ap (λ (l : List (List ℕ)). get_or l 9 []) entries);
    }

-- ---- the run

abbrev run_entries : RunData → List (List ℕ)
run_entries run =
    number_entry (codes "DELTAT") 12 (codes "s") run.dt
    ∷ limited_entry (codes "steps") MOST_STEPS run.steps
    ∷ count_entry (codes "IPLOT") run.every
    ∷ number_entry (codes "tolerance") 9 (codes "A") run.tolerance
    ∷ []

run_entries-free : (b : ℕ) (run : RunData) → IsMark b → IsRun run → AllFree b (run_entries run)
run_entries-free b run mark is = (
  number-marked b (codes "DELTAT") 12 (codes "s") run.dt mark refl refl (between-small 1000 (10 ^ 12) run.dt (omega arith) is.dt),
  (
    limited-marked b (codes "steps") MOST_STEPS run.steps mark refl (omega arith) (omega (arith, is.few_steps)),
    (
      count-marked b (codes "IPLOT") run.every mark refl (omega (arith, is.few_every)),
      (number-marked b (codes "tolerance") 9 (codes "A") run.tolerance mark refl refl (between-small 0 (10 ^ 12) run.tolerance (omega arith) is.tolerance), tt),
    ),
  ),
)

pub run-free : (run : RunData) → IsRun run → IsFree 10 (run_line run)
run-free run is = free-both 10 (codes "run") (all_separated (run_entries run)) refl (free-entries 10 (run_entries run) (omega arith) (run_entries-free 10 run line_end is))

pub run-same : (x y : RunData) → IsRun x → IsRun y → run_line x ≡ run_line y → x ≡ y
run-same x y is js e =
    let entries = entries-same (run_entries x) (run_entries y) (run_entries-free 44 x comma is) (run_entries-free 44 y comma js) (ap (λ (l : List ℕ). drop 3 l) e) in
    let e1 = number-same (codes "DELTAT") 12 (codes "s") x.dt y.dt (between-small 1000 (10 ^ 12) x.dt (omega arith) is.dt) (between-small 1000 (10 ^ 12) y.dt (omega arith) js.dt) (ap (λ (l : List (List ℕ)). get_or l 0 []) entries) in
    let e2 = limited-same (codes "steps") MOST_STEPS x.steps y.steps (omega (arith, is.few_steps)) (omega (arith, js.few_steps)) (ap (λ (l : List (List ℕ)). get_or l 1 []) entries) in
    let e3 = count-same (codes "IPLOT") x.every y.every (omega (arith, is.few_every)) (omega (arith, js.few_every)) (ap (λ (l : List (List ℕ)). get_or l 2 []) entries) in
    let e4 = number-same (codes "tolerance") 9 (codes "A") x.tolerance y.tolerance (between-small 0 (10 ^ 12) x.tolerance (omega arith) is.tolerance) (between-small 0 (10 ^ 12) y.tolerance (omega arith) js.tolerance) (ap (λ (l : List (List ℕ)). get_or l 3 []) entries) in
    ap (λ (v : ℤ). made v x.steps x.every x.tolerance) e1 ∙ ap (λ (v : ℕ). made y.dt v x.every x.tolerance) e2 ∙ ap (λ (v : ℕ). made y.dt y.steps v x.tolerance) e3 ∙ ap (λ (v : ℤ). made y.dt y.steps y.every v) e4
  where
    made : ℤ → ℕ → ℕ → ℤ → RunData
    made a b c d = record { dt = a; steps = b; every = c; tolerance = d }

-- ---- the record

abbrev record_entries : Parts → List (List ℕ)
record_entries p =
    number_entry (codes "end") 12 (codes "s") (time_of p.run p.run.steps)
    ∷ count_entry (codes "samples") (samples_of p.run)
    ∷ count_entry (codes "analog channels") (length p.channels - count_by is_status p.channels)
    ∷ count_entry (codes "status channels") (count_by is_status p.channels)
    ∷ limited_entry (codes "values") MOST_STORED_VALUES (length p.channels * samples_of p.run)
    ∷ limited_entry (codes "history values") MOST_HISTORY_VALUES (history_values_of p)
    ∷ []

record_entries-free : (b : ℕ) (p : Parts) → IsMark b → HasCounts p → IsRun p.run → AllFree b (record_entries p)
record_entries-free b p mark counts is = (
  number-marked b (codes "end") 12 (codes "s") (time_of p.run p.run.steps) mark refl refl (end-small p.run is),
  (
    count-marked b (codes "samples") (samples_of p.run) mark refl (samples-small p.run is),
    (
      count-marked b (codes "analog channels") (length p.channels - count_by is_status p.channels) mark refl (omega (arith, counts.channels)),
      (
        count-marked b (codes "status channels") (count_by is_status p.channels) mark refl (omega (arith, counts.channels, count_by-le-length is_status p.channels)),
        (
          limited-marked b (codes "values") MOST_STORED_VALUES (length p.channels * samples_of p.run) mark refl (omega arith) (omega (arith, counts.stored)),
          (limited-marked b (codes "history values") MOST_HISTORY_VALUES (history_values_of p) mark refl (omega arith) (omega (arith, counts.history)), tt),
        ),
      ),
    ),
  ),
)

pub record-free : (p : Parts) → HasCounts p → IsRun p.run → IsFree 10 (record_line p)
record-free p counts is =
    free-both 10 (codes "record") (all_separated (record_entries p)) refl (free-entries 10 (record_entries p) (omega arith) (record_entries-free 10 p line_end counts is))

-- ---- names

pub name-line-free : (b : ℕ) (word : List ℕ) (number : ℕ) (name : List ℕ) → b < 32 → IsMark b → IsText word → number < 2 ^ 32 → IsName name → IsFree b (name_line word number name)
name-line-free b word number name low mark named small is =
    free-both b (head_text word number) (all_separated (word_entry (codes "name") name ∷ []))
    (free-both b word (32 ∷ decimal number) (mark.texts word named) (free-both b (codes " ") (decimal number) (mark.texts (codes " ") refl) (decimal-free b number (omega arith) (omega arith))))
    (free-entries b (word_entry (codes "name") name ∷ []) low (word-free b (codes "name") name mark refl (name-text name is), tt))

pub name-same : (word : List ℕ) (number : ℕ) (x y : List ℕ) → IsText word → number < 2 ^ 32 → IsName x → IsName y → name_line word number x ≡ name_line word number y → x ≡ y
name-same word number x y named small is js e =
    let head = free-both 44 word (32 ∷ decimal number) (comma.texts word named) (free-both 44 (codes " ") (decimal number) refl (decimal-free 44 number (omega arith) (omega arith))) in
    let parts = fronts-same (head_text word number) (head_text word number) (word_entry (codes "name") x ∷ []) (word_entry (codes "name") y ∷ []) head head
    (word-free 44 (codes "name") x comma refl (name-text x is), tt) (word-free 44 (codes "name") y comma refl (name-text y js), tt) e in
    word-same (codes "name") x y (ap (λ (l : List (List ℕ)). get_or l 0 []) parts.1)
