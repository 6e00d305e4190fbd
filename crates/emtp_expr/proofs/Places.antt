-- The places in a tree are those of its words.
use Rattle.std.proofs.Common.{◌≡◌, ℕ, zero, suc, ◌+◌, ◌-◌, ◌==◌, nat_eq, nat_lt, not, pos, take, length, All, Option, Some, None, Result, Ok, Err, ◌<◌, ◌≤◌, ℤ, Bool, true, false, List, [], ◌∷◌, ◌++◌, replicate, unsigned_abs, arith, refl}
use Rattle.std.specs.Prelude.{if◌then◌else◌, int_lt, ◌≤ℤ◌}
use Rattle.std.proofs.lemmas.Int.{ints}
use Rattle.emtp_case.specs.held.Range.{IsBetween}
use Rattle.emtp_fix.specs.Limit.{in_range}
use Rattle.emtp_fix.specs.declared.limit.TheConstants.{LARGEST_VALUE}
use Rattle.emtp_fix.proofs.Ranges.{in_range-small}
use Rattle.emtp_case.specs.declared.expr.UnaryOp.{UnaryOp}
use Rattle.std.proofs.lemmas.List.Elements.{All-append, All-cons, All-nil, All-push}
use Rattle.std.specs.List.{starts_with}
use Rattle.emtp_card.specs.Number.{read_number_of}
use Rattle.emtp_card.specs.declared.reason.Why.{Why}
use Rattle.emtp_expr.specs.Number.{number_read, number_word, word_of}
use Rattle.emtp_expr.specs.Words.{Placed, dotted, dotted_words, first_mark, begun_with, function_or_name, functions, mark, mark_in, marks, name_length, name_word, number_length, placed, taken, word_at, word_or, words_from, words_of}
use Rattle.emtp_expr.specs.declared.words.Taken.{Taken}
use Rattle.emtp_expr.specs.declared.words.Word.{Word}
use Rattle.emtp_expr.specs.declared.words.Word.TheVariants.{Number, Name, Function as FunctionWord, Operator as OperatorWord, Not as NotWord, Open as OpenWord, Close as CloseWord, Nothing as NothingWord}
use Rattle.emtp_case.specs.declared.expr.Node.TheVariants.{Unary as UnaryNode, Binary as BinaryNode}
use Rattle.std.specs.Str.{bytes_eq}
use Rattle.emtp_case.specs.held.Expr.{FitsPlaces}
use Rattle.emtp_case.specs.declared.expr.BinaryOp.TheVariants.{And, Or}
use Rattle.emtp_case.specs.declared.expr.Node.{Node}
use Rattle.emtp_expr.specs.Grammar.{Atom, Constant, Place, atom_node, AFactor, ANot, ARelation, ASum, ATerm, AnAnd, AnOr, Level, Symbol, Value, Function, Operator, Not, Open, Close, Nothing, Tree, Leaf, Unary, Binary, negated, postfix, Phrase, or_one, or_more, and_one, and_more, nots, relation_one, relation_two, sum_one, sum_plus, sum_minus, sum_more, term_one, term_more, value, group, call}

-- a symbol's place is below a number, and a number is in range
abbrev pub FitsSymbol : ℕ → Symbol → Type 0
FitsSymbol n (Value (Constant x)) = IsBetween 0 LARGEST_VALUE x
FitsSymbol n (Value (Place p)) = p < n
FitsSymbol n (Function f) = Unit {0}
FitsSymbol n (Operator op) = Unit {0}
FitsSymbol n Not = Unit {0}
FitsSymbol n Open = Unit {0}
FitsSymbol n Close = Unit {0}
FitsSymbol n Nothing = Unit {0}

abbrev pub AllFit : ℕ → List Symbol → Type 0
AllFit n [] = Unit {0}
AllFit n (s ∷ ss) = FitsSymbol n s × AllFit n ss

-- the same of a tree
abbrev pub TreeFits : ℕ → Tree → Type 0
TreeFits n (Leaf atom) = FitsSymbol n (Value atom)
TreeFits n (Unary op t) = TreeFits n t
TreeFits n (Binary op t u) = TreeFits n t × TreeFits n u

fit_left : (n : ℕ) (a b : List Symbol) → AllFit n (a ++ b) → AllFit n a
fit_left n [] b h = tt
fit_left n (s ∷ a) b h = (h.0, fit_left n a b h.1)

fit_right : (n : ℕ) (a b : List Symbol) → AllFit n (a ++ b) → AllFit n b
fit_right n [] b h = h
fit_right n (s ∷ a) b h = fit_right n a b h.1

negated_fits : (n k : ℕ) (t : Tree) → TreeFits n t → TreeFits n (negated k t)
negated_fits n zero t h = h
negated_fits n (suc k) t h = negated_fits n k t h

pub tree_fits : (n : ℕ) (level : Level) {d : ℕ} {a : List Symbol} {t : Tree} → Phrase level d a t → AllFit n a → TreeFits n t
tree_fits n AnOr (or_one h) fit = tree_fits n AnAnd h fit
tree_fits n AnOr (or_more {a = a} {b = b} h g) fit = (tree_fits n AnOr h (fit_left n a (Operator Or ∷ b) fit), tree_fits n AnAnd g (fit_right n a (Operator Or ∷ b) fit).1)
tree_fits n AnAnd (and_one h) fit = tree_fits n ANot h fit
tree_fits n AnAnd (and_more {a = a} {b = b} h g) fit = (tree_fits n AnAnd h (fit_left n a (Operator And ∷ b) fit), tree_fits n ANot g (fit_right n a (Operator And ∷ b) fit).1)
tree_fits n ANot (nots {a = a} {t = t} k few h) fit = negated_fits n k t (tree_fits n ARelation h (fit_right n (replicate k Not) a fit))
tree_fits n ARelation (relation_one h) fit = tree_fits n ASum h fit
tree_fits n ARelation (relation_two {a = a} {b = b} op is h g) fit = (tree_fits n ASum h (fit_left n a (Operator op ∷ b) fit), tree_fits n ASum g (fit_right n a (Operator op ∷ b) fit).1)
tree_fits n ASum (sum_one h) fit = tree_fits n ATerm h fit
tree_fits n ASum (sum_plus h) fit = tree_fits n ATerm h fit.1
tree_fits n ASum (sum_minus h) fit = tree_fits n ATerm h fit.1
tree_fits n ASum (sum_more {a = a} {b = b} op is h g) fit = (tree_fits n ASum h (fit_left n a (Operator op ∷ b) fit), tree_fits n ATerm g (fit_right n a (Operator op ∷ b) fit).1)
tree_fits n ATerm (term_one h) fit = tree_fits n AFactor h fit
tree_fits n ATerm (term_more {a = a} {b = b} op is h g) fit = (tree_fits n ATerm h (fit_left n a (Operator op ∷ b) fit), tree_fits n AFactor g (fit_right n a (Operator op ∷ b) fit).1)
tree_fits n AFactor (value atom) fit = fit.0
tree_fits n AFactor (group {a = a} h) fit = tree_fits n AnOr h (fit_left n a (Close ∷ []) fit.1)
tree_fits n AFactor (call {a = a} f h) fit = tree_fits n AnOr h (fit_left n a (Close ∷ []) fit.1.1)

one : (n : ℕ) (node : Node) → FitsPlaces n node → All (FitsPlaces n) (node ∷ [])
one n node h = All-cons (FitsPlaces n) node [] h (All-nil (FitsPlaces n))

atom_fits : (n : ℕ) (atom : Atom) → FitsSymbol n (Value atom) → FitsPlaces n (atom_node atom)
atom_fits n (Constant x) h = h
atom_fits n (Place p) h = h

pub nodes_fit : (n : ℕ) (t : Tree) → TreeFits n t → All (FitsPlaces n) (postfix t)
nodes_fit n (Leaf atom) h = one n (atom_node atom) (atom_fits n atom h)
nodes_fit n (Unary op t) h = All-push (FitsPlaces n) (postfix t) (UnaryNode op) (nodes_fit n t h) tt
nodes_fit n (Binary op t u) h =
    All-append (FitsPlaces n) (postfix t) (postfix u ++ BinaryNode op ∷ []) (nodes_fit n t h.0) (All-push (FitsPlaces n) (postfix u) (BinaryNode op) (nodes_fit n u h.1) tt)

-- names only grow, and a name's place is among them
place_step : (b : Bool) (rest len : ℕ) → (b ≡ false → rest < len) → (if not b then suc rest else 0) < suc len
place_step true rest len h = omega arith
place_step false rest len h = omega (arith, h refl)

abbrev pub SmallWord : Word → Type 0
SmallWord (Number x) = IsBetween 0 LARGEST_VALUE x
SmallWord (Name n) = Unit {0}
SmallWord (FunctionWord f) = Unit {0}
SmallWord (OperatorWord op) = Unit {0}
SmallWord NotWord = Unit {0}
SmallWord OpenWord = Unit {0}
SmallWord CloseWord = Unit {0}
SmallWord NothingWord = Unit {0}

abbrev SmallTable : {A : Type 0} → List (A × Word) → Type 0
SmallTable [] = Unit {0}
SmallTable (entry ∷ table) = SmallWord entry.1 × SmallTable table

abbrev SmallOption : Option Taken → Type 0
SmallOption None = Unit {0}
SmallOption (Some t) = SmallWord t.word

if_small : (b : Bool) (x y : Word) → SmallWord x → SmallWord y → SmallWord (if b then x else y)
if_small true x y h g = h
if_small false x y h g = g

if_taken : (b : Bool) (x y : Taken) → SmallWord x.word → SmallWord y.word → SmallWord (if b then x else y).word
if_taken true x y h g = h
if_taken false x y h g = g

if_option : (b : Bool) (x : Taken) (y : Option Taken) → SmallWord x.word → SmallOption y → SmallOption (if b then Some x else y)
if_option true x y h g = h
if_option false x y h g = g

or_small : (o : Option Taken) (t : Taken) → SmallOption o → SmallWord t.word → SmallWord (word_or o t).word
or_small None t h g = g
or_small (Some x) t h g = h

first_small : (table : List (List ℕ × Word)) (text : List ℕ) → SmallTable table → SmallOption (begun_with table text)
first_small [] text h = tt
first_small (entry ∷ table) text h = if_option (starts_with nat_eq text entry.0) (taken entry.1 (length entry.0)) (begun_with table text) h.0 (first_small table text h.1)

dotted_small : (text : List ℕ) → SmallOption (dotted text)
unfolding dotted
dotted_small text = first_small dotted_words text (tt, (tt, (tt, (tt, (tt, (tt, (tt, (tt, (tt, tt)))))))))

named_small : (table : List (List ℕ × UnaryOp)) (text : List ℕ) → SmallWord (function_or_name table text)
named_small [] text = tt
named_small (entry ∷ table) text = if_small (bytes_eq text entry.0) (FunctionWord entry.1) (function_or_name table text) tt (named_small table text)

name_small : (text : List ℕ) → SmallWord (name_word text)
unfolding name_word
name_small text = named_small functions text

marked_small : (table : List (ℕ × Word)) (byte : ℕ) → SmallTable table → SmallWord (mark_in table byte)
marked_small [] byte h = tt
marked_small (entry ∷ table) byte h = if_small (byte == entry.0) entry.1 (mark_in table byte) h.0 (marked_small table byte h.1)

mark_small : (text : List ℕ) → SmallWord (first_mark text)
unfolding mark
mark_small [] = tt
mark_small (byte ∷ bytes) = marked_small marks byte (tt, (tt, (tt, (tt, (tt, (tt, tt))))))

signed_small : (x : ℤ) (b : Bool) → int_lt x (pos 0) ≡ b → unsigned_abs x ≤ LARGEST_VALUE → SmallWord (if b then NothingWord else Number x)
signed_small x true is small = tt
signed_small x false is small = let low : pos 0 ≤ℤ x = omega (arith, ints) in record { least = low; most = omega (arith, ints, small) }

ranged_small : (o : Option ℤ) (x : ℤ) → in_range x ≡ o → SmallWord (word_of o)
ranged_small None x is = tt
ranged_small (Some y) x is = signed_small y (int_lt y (pos 0)) refl (in_range-small x y is)

read_small : (r : Result ℤ Why) → SmallWord (number_read r)
read_small (Ok x) = ranged_small (in_range x) x refl
read_small (Err why) = tt

word_small : (text : List ℕ) → SmallWord (word_at text).word
unfolding word_at
word_small text =
    let number = taken (number_word (take (number_length text) text)) (number_length text) in
    let name = taken (name_word (take (name_length text) text)) (name_length text) in
    let other = if nat_lt 0 (name_length text) then name else taken (first_mark text) 1 in
    or_small (dotted text) (if nat_lt 0 (number_length text) then number else other) (dotted_small text)
    (if_taken (nat_lt 0 (number_length text)) number other (read_small (read_number_of (take (number_length text) text) (pos 9) (pos LARGEST_VALUE)))
    (if_taken (nat_lt 0 (name_length text)) name (taken (first_mark text) 1) (name_small (take (name_length text) text)) (mark_small text)))

abbrev pub AllSmall : List Placed → Type 0
AllSmall [] = Unit {0}
AllSmall (w ∷ ws) = SmallWord w.word × AllSmall ws

words_step : (b : Bool) (xs : List Placed) (w : Placed) (ys : List Placed) → AllSmall xs → SmallWord w.word → AllSmall ys → AllSmall (if b then xs else w ∷ ys)
words_step true xs w ys h g f = h
words_step false xs w ys h g f = (g, f)

words_small : (skip column : ℕ) (text : List ℕ) → AllSmall (words_from skip column text)
unfolding words_from
words_small skip column [] = tt
words_small (suc skip) column (byte ∷ bytes) = words_small skip (column + 1) bytes
words_small zero column (byte ∷ bytes) =
    words_step (byte == 32) (words_from 0 (column + 1) bytes) (placed (word_at (byte ∷ bytes)).word column) (words_from ((word_at (byte ∷ bytes)).length - 1) (column + 1) bytes)
    (words_small 0 (column + 1) bytes) (word_small (byte ∷ bytes)) (words_small ((word_at (byte ∷ bytes)).length - 1) (column + 1) bytes)

pub text_small : (text : List ℕ) → AllSmall (words_of text)
unfolding words_of
text_small text = words_small 0 1 text
