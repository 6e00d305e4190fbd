-- Walks over the lines of a configuration.
use Rattle.std.proofs.Common.{◌≡◌, ◌∙◌, sym, ap, ℕ, suc, ◌+◌, ◌<◌, false, List, [], ◌∷◌, ◌++◌, length, get_or, Option, Some, None, refl, arith, append_assoc, add-one, length-append}
use Rattle.emtp_comtrade.specs.Record.{joined}
use Rattle.emtp_audit.specs.Rules.{LineRule, differs_or_later, line_differs, lines_differ, differs_at}
use Rattle.emtp_audit.specs.held.Walk.{Behind, LinesLeft, finds_lines, Passes, StopsAt}
use Rattle.emtp_audit.specs.declared.differs.DifferCause.TheVariants.{Missing}
use Rattle.emtp_audit.specs.declared.differs.Differs.{Differs}
use Rattle.emtp_audit.proofs.Joined.{later}

-- ---- what stands behind

pub behind-one : (all rest : List (List ℕ)) (first : List ℕ) → all ≡ first ∷ rest → Behind all 1 rest
behind-one all rest first is place =
    ap (λ (xs : List (List ℕ)). get_or xs (1 + place) []) is ∙ ap (λ (k : ℕ). get_or (first ∷ rest) k []) (one place)
  where
    one : (k : ℕ) → 1 + k ≡ suc k
    one k = omega arith

pub behind-both : (all mid rest : List (List ℕ)) (m n : ℕ) → Behind all m mid → Behind mid n rest → Behind all (m + n) rest
behind-both all mid rest m n first second place =
    ap (λ (k : ℕ). get_or all k []) (grouped m n place) ∙ first (n + place) ∙ second place
  where
    grouped : (m n k : ℕ) → (m + n) + k ≡ m + (n + k)
    grouped m n k = omega arith

-- ---- one line

first-line : (old new : LinesLeft) (line : List ℕ) (rule : LineRule) (found : Option Differs) → old.lines ≡ line ∷ new.lines → new.taken ≡ old.taken + 1
    → line_differs false new.taken rule line ≡ found → (more : List LineRule) → finds_lines old (rule ∷ more) ≡ differs_or_later found (finds_lines new more)
first-line old new line rule found lines taken differs more =
    ap (lines_differ false (old.taken + 1) (rule ∷ more)) lines
    ∙ ap (λ (k : ℕ). differs_or_later (line_differs false k rule line) (lines_differ false (k + 1) more new.lines)) (sym taken)
    ∙ ap (λ (o : Option Differs). differs_or_later o (finds_lines new more)) differs

pub passes-line : (old new : LinesLeft) (line : List ℕ) (rule : LineRule) → old.lines ≡ line ∷ new.lines → new.taken ≡ old.taken + 1
    → line_differs false new.taken rule line ≡ None → Passes old new (rule ∷ [])
passes-line old new line rule lines taken same = record {
  pass = first-line old new line rule None lines taken same;
  behind = behind-one old.lines new.lines line lines;
}

pub stops-line : (old new : LinesLeft) (line : List ℕ) (rule : LineRule) (differs : Differs) → old.lines ≡ line ∷ new.lines → new.taken ≡ old.taken + 1
    → line_differs false new.taken rule line ≡ Some differs → StopsAt old (rule ∷ []) differs
stops-line old new line rule differs lines taken is = first-line old new line rule (Some differs) lines taken is

pub stops-missing : (old : LinesLeft) (rule : LineRule) (differs : Differs) → old.lines ≡ [] → Some differs ≡ differs_at false (old.taken + 1) 1 Missing → StopsAt old (rule ∷ []) differs
stops-missing old rule differs none is more = ap (lines_differ false (old.taken + 1) (rule ∷ more)) none ∙ sym is

-- ---- several lines

pub passes-none : (w : LinesLeft) → Passes w w []
passes-none w = record { pass = λ more. refl; behind = λ place. ap (λ (k : ℕ). get_or w.lines k []) (none place) }
  where
    none : (k : ℕ) → 0 + k ≡ k
    none k = omega arith

pub passes-both : (old mid new : LinesLeft) (first second : List LineRule) → Passes old mid first → Passes mid new second → Passes old new (first ++ second)
passes-both old mid new first second a b = record {
  pass = λ more. ap (finds_lines old) (append_assoc first second more) ∙ a.pass (second ++ more) ∙ b.pass more;
  behind = λ place.
      ap (λ (k : ℕ). get_or old.lines (k + place) []) (length-append first second)
      ∙ behind-both old.lines mid.lines new.lines (length first) (length second) a.behind b.behind place;
}

-- a difference behind rules that pass, and before others
pub stops-later : (old mid : LinesLeft) (first second : List LineRule) (differs : Differs) → Passes old mid first → StopsAt mid second differs → StopsAt old (first ++ second) differs
stops-later old mid first second differs a b more = ap (finds_lines old) (append_assoc first second more) ∙ a.pass (second ++ more) ∙ b more

pub stops-more : (old : LinesLeft) (first second : List LineRule) (differs : Differs) → StopsAt old first differs → StopsAt old (first ++ second) differs
stops-more old first second differs a more = ap (finds_lines old) (append_assoc first second more) ∙ a (second ++ more)

-- ---- lines place by place

pub passes-next : (old mid new : LinesLeft) (rules : ℕ → List LineRule) (k : ℕ) → Passes old mid (joined k rules) → Passes mid new (rules k) → Passes old new (joined (k + 1) rules)
passes-next old mid new rules k a b =
    let both = passes-both old mid new (joined k rules) (rules k) a b in
    rw (add-one k) both

pub stops-joined : (old mid : LinesLeft) (rules : ℕ → List LineRule) (k n : ℕ) (differs : Differs) → k < n → Passes old mid (joined k rules) → StopsAt mid (rules k) differs → StopsAt old (joined n rules) differs
stops-joined old mid rules k n differs less a b more =
    let split = later n (suc k) rules (omega arith) in
    ap (λ (rs : List LineRule). finds_lines old (rs ++ more)) split.split
    ∙ stops-more old (joined k rules ++ rules k) split.rest differs (stops-later old mid (joined k rules) (rules k) differs a b) more
