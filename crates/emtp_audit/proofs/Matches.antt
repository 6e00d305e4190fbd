-- Texts whose fields and lines meet their rules, piece by piece.
use Rattle.std.proofs.Common.{◌≡◌, ◌++◌, ◌∙◌, sym, ap, ℕ, zero, suc, ◌<◌, Bool, true, false, cond, not, List, [], ◌∷◌, map, None, refl, arith, subst}
use Rattle.std.specs.Prelude.{◌&&◌}
use Rattle.std.specs.List.{list_all}
use Rattle.std.proofs.lemmas.List.{map-append}
use Rattle.std.proofs.lemmas.List.Folds.{list_all-append}
use Rattle.std.proofs.lemmas.List.Elements.{All-append, All-cons, All-nil}
use Rattle.emtp_card.specs.Lines.{is_newline, lines_of}
use Rattle.emtp_card.specs.held.Lines.{HasNoNewline}
use Rattle.emtp_card.specs.Field.{trimmed}
use Rattle.emtp_audit.specs.held.Pieces.{ended, IsLines}
use Rattle.emtp_comtrade.specs.Record.{joined}
use Rattle.emtp_audit.specs.Rules.{Rule, LineRule, Fields, lines_differ, is_padding, without_padding, audited_lines}
use Rattle.emtp_audit.proofs.LinesOfPieces.{lines-piece, lines-none, lines-both}
use Rattle.emtp_audit.proofs.FieldsOfPieces.{HasNoComma, AddsFields, fields-none, fields-piece, fields-both, fields-line, ArePieces, with_commas, fields-pieces, one_line-pieces}
use Rattle.emtp_audit.proofs.Agreeing.{Pass, pass-both, Meets, Agree, agree-both, agree-none}
use Rattle.emtp_audit.proofs.Tests.{and_both}

-- ---- fields

-- after a line that has a field, a text adds fields that pass these rules
pub record Adds (tail : List ℕ) (rules : List Rule) : Type 0 where
  pub fields : List (List ℕ)
  pub adds : AddsFields tail fields
  pub pass : Pass rules (map trimmed fields)
  pub one_line : HasNoNewline tail

pub adds-none : Adds [] []
adds-none = record { fields = []; adds = fields-none; pass = tt; one_line = All-nil (λ byte. is_newline byte ≡ false) }

pub adds-piece : (piece : List ℕ) (rule : Rule) → HasNoComma piece → HasNoNewline piece → rule (trimmed piece) ≡ None → Adds (44 ∷ piece) (rule ∷ [])
adds-piece piece rule no_comma one_line pass = record {
  fields = piece ∷ [];
  adds = fields-piece piece no_comma;
  pass = (pass, tt);
  one_line = All-cons (λ byte. is_newline byte ≡ false) 44 piece refl one_line;
}

pub adds-both : (a b : List ℕ) (x y : List Rule) → Adds a x → Adds b y → Adds (a ++ b) (x ++ y)
adds-both a b x y first second = record {
  fields = first.fields ++ second.fields;
  adds = fields-both a b first.fields second.fields first.adds second.adds;
  pass = subst (Pass (x ++ y)) (sym (map-append trimmed first.fields second.fields)) (pass-both x y (map trimmed first.fields) (map trimmed second.fields) first.pass second.pass);
  one_line = All-append (λ byte. is_newline byte ≡ false) a b first.one_line second.one_line;
}

pub adds-joined : (n : ℕ) (at : ℕ → List ℕ) (rules : ℕ → List Rule) → ((k : ℕ) → k < n → Adds (at k) (rules k)) → Adds (joined n at) (joined n rules)
adds-joined zero at rules each = adds-none
adds-joined (suc n) at rules each =
    adds-both (joined n at) (at n) (joined n rules) (rules n) (adds-joined n at rules (λ k less. each k (omega arith))) (each n (omega arith))

-- ---- lines

-- a line that meets its rule, and says something
pub record MeetsLine (line : List ℕ) (rule : LineRule) : Type 0 where
  pub meets : Meets rule line
  pub one_line : HasNoNewline line
  pub solid : is_padding line ≡ false

pub meets-fields : (piece tail : List ℕ) (rule : Rule) (rules : List Rule) → HasNoComma piece → HasNoNewline piece → rule (trimmed piece) ≡ None
    → Adds tail rules → is_padding (piece ++ tail) ≡ false → MeetsLine (piece ++ tail) (Fields (rule ∷ rules))
meets-fields piece tail rule rules no_comma one_line pass more solid = record {
  meets = subst (Pass (rule ∷ rules)) (sym (fields-line piece tail more.fields no_comma more.adds)) (pass, more.pass);
  one_line = All-append (λ byte. is_newline byte ≡ false) piece tail one_line more.one_line;
  solid = solid;
}

-- a line of pieces that are joined by commas
pub meets-pieces : (piece : List ℕ) (pieces : List (List ℕ)) (rules : List Rule) → ArePieces (piece ∷ pieces) → Pass rules (map trimmed (piece ∷ pieces))
    → is_padding (with_commas piece pieces) ≡ false → MeetsLine (with_commas piece pieces) (Fields rules)
meets-pieces piece pieces rules are pass solid = record {
  meets = subst (Pass rules) (sym (fields-pieces piece pieces are)) pass;
  one_line = one_line-pieces piece pieces are;
  solid = solid;
}

-- ---- files

-- a text makes these lines, whatever stands after it; they meet these rules, and each of them says something
pub record Makes (text : List ℕ) (rules : List LineRule) (lines : List (List ℕ)) : Type 0 where
  pub are : IsLines text lines
  pub agree : Agree rules lines
  pub solid : list_all (λ line. not (is_padding line)) lines ≡ true

pub makes-none : Makes [] [] []
makes-none = record { are = lines-none; agree = tt; solid = refl }

pub makes-line : (line : List ℕ) (rule : LineRule) → MeetsLine line rule → Makes (ended line) (rule ∷ []) (line ∷ [])
makes-line line rule meets = record {
  are = lines-piece line meets.one_line;
  agree = (meets.meets, tt);
  solid = ap (λ t. not t && true) meets.solid;
}

pub makes-both : (a b : List ℕ) (x y : List LineRule) (l m : List (List ℕ)) → Makes a x l → Makes b y m → Makes (a ++ b) (x ++ y) (l ++ m)
makes-both a b x y l m first second = record {
  are = lines-both a b l m first.are second.are;
  agree = agree-both x y l m first.agree second.agree;
  solid = list_all-append (λ line. not (is_padding line)) l m ∙ and_both _ _ first.solid second.solid;
}

pub makes-joined : (n : ℕ) (at : ℕ → List ℕ) (rules : ℕ → List LineRule) (lines : ℕ → List (List ℕ)) → ((k : ℕ) → k < n → Makes (at k) (rules k) (lines k)) → Makes (joined n at) (joined n rules) (joined n lines)
makes-joined zero at rules lines each = makes-none
makes-joined (suc n) at rules lines each =
    makes-both (joined n at) (at n) (joined n rules) (rules n) (joined n lines) (lines n) (makes-joined n at rules lines (λ k less. each k (omega arith))) (each n (omega arith))

-- lines that say something are kept, and those that say nothing behind them aren't
kept : (lines pads : List (List ℕ)) → list_all (λ line. not (is_padding line)) lines ≡ true → list_all is_padding pads ≡ true → without_padding (lines ++ pads) ≡ lines
kept [] [] solid pad = refl
kept [] (p ∷ ps) solid pad = ap (λ t. cond t [] (p ∷ without_padding ps)) pad
kept (line ∷ lines) pads solid pad =
    ap (λ t. cond (t && list_all is_padding (lines ++ pads)) [] (line ∷ without_padding (lines ++ pads))) (is_not (is_padding line) (list_all (λ line. not (is_padding line)) lines) solid)
    ∙ ap (λ (ls : List (List ℕ)). line ∷ ls) (kept lines pads (rest (is_padding line) (list_all (λ line. not (is_padding line)) lines) solid) pad)
  where
    is_not : (t u : Bool) → (not t && u) ≡ true → t ≡ false
    is_not true u h = sym h
    is_not false u h = refl

    rest : (t u : Bool) → (not t && u) ≡ true → u ≡ true
    rest true u h = absurd (cc)
    rest false u h = h

-- the lines of a text, and what stands behind it and says nothing
pub makes-audited : (text end : List ℕ) (rules : List LineRule) (lines : List (List ℕ)) → Makes text rules lines → list_all is_padding (lines_of end) ≡ true
    → audited_lines (text ++ end) ≡ lines
unfolding audited_lines
makes-audited text end rules lines makes pad = ap without_padding (makes.are end) ∙ kept lines (lines_of end) makes.solid pad

pub makes-none_differ : (dat : Bool) (text end : List ℕ) (rules : List LineRule) (lines : List (List ℕ)) → Makes text rules lines → list_all is_padding (lines_of end) ≡ true
    → lines_differ dat 1 rules (audited_lines (text ++ end)) ≡ None
makes-none_differ dat text end rules lines makes pad =
    ap (lines_differ dat 1 rules) (makes-audited text end rules lines makes pad) ∙ agree-none dat 1 rules lines makes.agree
