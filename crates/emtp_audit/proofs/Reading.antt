-- Lines of the data, one after the other.
use Rattle.std.proofs.Common.{◌≡◌, ◌++◌, ◌∙◌, sym, ap, ℕ, suc, ◌+◌, ◌<◌, pos, Bool, true, false, cond, List, [], ◌∷◌, Option, Some, unwrap_or, get_or, refl, arith, append_assoc, add-one}
use Rattle.std.specs.List.{list_all}
use Rattle.emtp_card.specs.Lines.{lines_of}
use Rattle.emtp_card.specs.Field.{trimmed}
use Rattle.emtp_comtrade.specs.Record.{joined}
use Rattle.emtp_audit.specs.Numbers.{stamp_of}
use Rattle.emtp_audit.specs.Rules.{LineRule, lines_differ, line_differs, differs_or_later, is_padding, without_padding, audited_lines, comma_fields}
use Rattle.emtp_audit.specs.Dat.{first_stamp}
use Rattle.emtp_audit.proofs.Joined.{later}
use Rattle.emtp_audit.specs.held.Walk.{stamp_in}
use Rattle.emtp_audit.specs.declared.differs.Differs.{Differs}

-- ---- lines that are compared

pub audited-none : (text : List ℕ) → lines_of text ≡ [] → audited_lines text ≡ []
unfolding audited_lines
audited-none text none = ap without_padding none

pub audited-end : (text line tail : List ℕ) (t : Bool) → lines_of text ≡ line ∷ lines_of tail → t ≡ list_all is_padding (line ∷ lines_of tail) → t ≡ true → audited_lines text ≡ []
unfolding audited_lines
audited-end text line tail t lines is e = ap without_padding lines ∙ ap (λ u. cond u [] (line ∷ without_padding (lines_of tail))) (sym is ∙ e)

pub audited-some : (text line tail : List ℕ) (t : Bool) → lines_of text ≡ line ∷ lines_of tail → t ≡ list_all is_padding (line ∷ lines_of tail) → t ≡ false → audited_lines text ≡ line ∷ audited_lines tail
unfolding audited_lines
audited-some text line tail t lines is e = ap without_padding lines ∙ ap (λ u. cond u [] (line ∷ without_padding (lines_of tail))) (sym is ∙ e)

-- ---- the first stamp

no_stamp : unwrap_or (stamp_of (get_or (comma_fields []) 1 [])) (pos 0) ≡ pos 0
unfolding comma_fields trimmed stamp_of
no_stamp = refl

pub first-none : (bytes : List ℕ) → audited_lines bytes ≡ [] → first_stamp bytes ≡ pos 0
unfolding first_stamp
first-none bytes none = ap (λ (ls : List (List ℕ)). unwrap_or (stamp_of (get_or (comma_fields (get_or ls 0 [])) 1 [])) (pos 0)) none ∙ no_stamp

pub first-some : (bytes line : List ℕ) (lines : List (List ℕ)) → audited_lines bytes ≡ line ∷ lines → first_stamp bytes ≡ stamp_in line
unfolding first_stamp stamp_in
first-some bytes line lines some = ap (λ (ls : List (List ℕ)). unwrap_or (stamp_of (get_or (comma_fields (get_or ls 0 [])) 1 [])) (pos 0)) some

none_at : unwrap_or (stamp_of []) (pos 0) ≡ pos 0
unfolding stamp_of
none_at = refl

-- a line without fields, with one, and with two
pub stamp-none : (line : List ℕ) → comma_fields line ≡ [] → stamp_in line ≡ pos 0
unfolding stamp_in
stamp-none line none = ap (λ (fs : List (List ℕ)). unwrap_or (stamp_of (get_or fs 1 [])) (pos 0)) none ∙ none_at

pub stamp-one : (line field : List ℕ) (fields : List (List ℕ)) → comma_fields line ≡ field ∷ fields → fields ≡ [] → stamp_in line ≡ pos 0
unfolding stamp_in
stamp-one line field fields one none = ap (λ (fs : List (List ℕ)). unwrap_or (stamp_of (get_or fs 1 [])) (pos 0)) (one ∙ ap (λ (fs : List (List ℕ)). field ∷ fs) none) ∙ none_at

pub stamp-two : (line field second : List ℕ) (fields rest : List (List ℕ)) → comma_fields line ≡ field ∷ fields → fields ≡ second ∷ rest → stamp_in line ≡ unwrap_or (stamp_of second) (pos 0)
unfolding stamp_in
stamp-two line field second fields rest one two = ap (λ (fs : List (List ℕ)). unwrap_or (stamp_of (get_or fs 1 [])) (pos 0)) (one ∙ ap (λ (fs : List (List ℕ)). field ∷ fs) two)

-- ---- rules of lines

-- a line that differs, and one that doesn't
pub line-differs : (number : ℕ) (rule : LineRule) (more : List LineRule) (line : List ℕ) (lines : List (List ℕ)) (all : List (List ℕ)) (found : Option Differs) → all ≡ line ∷ lines → line_differs true number rule line ≡ found
    → lines_differ true number (rule ∷ more) all ≡ differs_or_later found (lines_differ true (number + 1) more lines)
line-differs number rule more line lines all found is e =
    ap (lines_differ true number (rule ∷ more)) is ∙ ap (λ o. differs_or_later o (lines_differ true (number + 1) more lines)) e

-- one more line
pub lines-next : (all now next : List (List ℕ)) (rule : ℕ → LineRule) (k : ℕ)
    → ((more : List LineRule) → lines_differ true 1 (joined k (λ j. rule j ∷ []) ++ more) all ≡ lines_differ true (k + 1) more now)
    → ((more : List LineRule) → lines_differ true (k + 1) (rule k ∷ more) now ≡ lines_differ true (k + 1 + 1) more next)
    → (more : List LineRule) → lines_differ true 1 (joined (k + 1) (λ j. rule j ∷ []) ++ more) all ≡ lines_differ true (k + 1 + 1) more next
lines-next all now next rule k a b more =
    ap (λ (j : ℕ). lines_differ true 1 (joined j (λ j. rule j ∷ []) ++ more) all) (add-one k)
    ∙ ap (λ (rs : List LineRule). lines_differ true 1 rs all) (append_assoc (joined k (λ j. rule j ∷ [])) (rule k ∷ []) more)
    ∙ a (rule k ∷ more) ∙ b more

-- a line that differs
pub lines-end : (all now : List (List ℕ)) (rule : ℕ → LineRule) (k n : ℕ) (differs : Differs) → k < n
    → ((more : List LineRule) → lines_differ true 1 (joined k (λ j. rule j ∷ []) ++ more) all ≡ lines_differ true (k + 1) more now)
    → ((more : List LineRule) → lines_differ true (k + 1) (rule k ∷ more) now ≡ Some differs)
    → lines_differ true 1 (joined n (λ j. rule j ∷ [])) all ≡ Some differs
lines-end all now rule k n differs less a b =
    let split = later n (suc k) (λ j. rule j ∷ []) (omega arith) in
    ap (λ (rs : List LineRule). lines_differ true 1 rs all) (split.split ∙ append_assoc (joined k (λ j. rule j ∷ [])) (rule k ∷ []) split.rest)
    ∙ a (rule k ∷ split.rest) ∙ b split.rest
