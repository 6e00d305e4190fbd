-- The two marks, the comma and LF, stand in no entry.
use Rattle.emtp_fix.specs.declared.limit.TheConstants.{LARGEST_TIME}
use Rattle.std.proofs.Common.{◌≡◌, ◌≢◌, ◌++◌, ◌∙◌, sym, ap, refl, arith, ◌^◌, ◌<◌, ◌≤◌, ◌==◌, Bool, true, not, List, [], ◌∷◌, ℕ, zero, suc, ℤ, pos, negsuc, unsigned_abs, nat_le, length, get_or, drop, codes}
use Rattle.std.specs.Prelude.{◌&&◌, All, ◌≤ℤ◌}
use Rattle.std.specs.List.{list_all}
use Rattle.std.proofs.lemmas.Int.{ints}
use Rattle.std.proofs.lemmas.Bool.Decides.{nat_tests}
use Rattle.std.proofs.lemmas.List.{append_cancel_left}
use Rattle.std.proofs.lemmas.List.Elements.{All-get_or, All-head, All-tail, All-weaker}
use Rattle.std.proofs.lemmas.List.Folds.{list_all-append}
use Rattle.std.proofs.lemmas.List.Sums.{AllPass-from_list_all, list_all-from_AllPass}
use Rattle.emtp_case.specs.held.Name.{IsName, IsNameByte}
use Rattle.emtp_case.specs.held.Range.{IsBetween}
use Rattle.emtp_case.specs.declared.run_data.RunData.{RunData}
use Rattle.emtp_listing.specs.Entry.{word_entry, node_word, node_entry}
use Rattle.emtp_listing.specs.Law.{IsFree, AreApart}
use Rattle.emtp_listing.proofs.Cut.{and_both, free-both}

-- a byte that a name or a word may have: printable, and no comma
abbrev pub is_text_byte : ℕ → Bool
is_text_byte x = nat_le 32 x && nat_le x 126 && not (x == 44)

abbrev pub IsText : List ℕ → Type 0
IsText text = list_all is_text_byte text ≡ true

pub record IsMark (b : ℕ) : Type 0 where
  pub low : b < 45
  pub other : b ≢ 32
  pub texts : (text : List ℕ) → IsText text → IsFree b text

free-text : (b : ℕ) → ((x : ℕ) → is_text_byte x ≡ true → not (x == b) ≡ true) → (text : List ℕ) → IsText text → IsFree b text
free-text b apart text is =
    list_all-from_AllPass (λ x. not (x == b)) text (All-weaker (λ x. is_text_byte x ≡ true) (λ x. not (x == b) ≡ true) apart text (AllPass-from_list_all is_text_byte text is))

pub comma : IsMark 44
comma = record { low = omega arith; other = λ e. omega (arith, e); texts = free-text 44 apart }
  where
    apart : (x : ℕ) → is_text_byte x ≡ true → not (x == 44) ≡ true
    apart x h = grind (arith, nat_tests)

pub line_end : IsMark 10
line_end = record { low = omega arith; other = λ e. omega (arith, e); texts = free-text 10 apart }
  where
    apart : (x : ℕ) → is_text_byte x ≡ true → not (x == 10) ≡ true
    apart x h = grind (arith, nat_tests)

pub blank-text : (text : List ℕ) → IsText text → IsText (32 ∷ text)
blank-text text is = is

pub text-both : (xs ys : List ℕ) → IsText xs → IsText ys → IsText (xs ++ ys)
text-both xs ys f g = list_all-append is_text_byte xs ys ∙ and_both _ _ f g

pub name-text : (name : List ℕ) → IsName name → IsText name
name-text name is = list_all-from_AllPass is_text_byte name (All-weaker IsNameByte (λ x. is_text_byte x ≡ true) here name is.bytes)
  where
    here : (x : ℕ) → IsNameByte x → is_text_byte x ≡ true
    here x h = grind (arith, nat_tests)

-- any place of a list of names has a text, also where the list has no such place
pub name_at-text : (names : List (List ℕ)) (at : ℕ) → All IsName names → IsText (get_or names at [])
name_at-text [] at all = refl
name_at-text (x ∷ names) zero all = name-text x (All-head IsName x names all)
name_at-text (x ∷ names) (suc at) all = name_at-text names at (All-tail IsName x names all)

-- ---- words and nodes

pub word-free : (b : ℕ) (name word : List ℕ) → IsMark b → IsText name → IsText word → IsFree b (word_entry name word)
word-free b name word mark named is = free-both b name (61 ∷ word) (mark.texts name named) (and_both _ _ (equals b mark.low) (mark.texts word is))
  where
    equals : (b : ℕ) → b < 45 → not (61 == b) ≡ true
    equals b h = grind (arith, nat_tests)

pub word-same : (name v w : List ℕ) → word_entry name v ≡ word_entry name w → v ≡ w
word-same name v w e = ap (λ (l : List ℕ). drop 1 l) (append_cancel_left name (61 ∷ v) (61 ∷ w) e)

node_word-text : (nodes : List (List ℕ)) (n : ℕ) → All IsName nodes → n ≤ length nodes → IsText (node_word nodes n)
node_word-text nodes zero names there = refl
node_word-text nodes (suc at) names there = name-text (get_or nodes at []) (All-get_or IsName nodes at [] (omega arith) names)

pub node-free : (b : ℕ) (name : List ℕ) (nodes : List (List ℕ)) (n : ℕ) → IsMark b → IsText name → All IsName nodes → n ≤ length nodes → IsFree b (node_entry name nodes n)
node-free b name nodes n mark named names there = word-free b name (node_word nodes n) mark named (node_word-text nodes n names there)

not_ground : (nodes : List (List ℕ)) (at : ℕ) → All IsName nodes → at < length nodes → codes "(ground)" ≡ get_or nodes at [] → ⊥
not_ground nodes at names there e =
    let short = (All-get_or IsName nodes at [] there names).short in
    let l : 8 ≡ length (get_or nodes at []) = ap length e in
    omega (arith, short, l)

node_word-same : (nodes : List (List ℕ)) (m n : ℕ) → All IsName nodes → AreApart nodes → m ≤ length nodes → n ≤ length nodes → node_word nodes m ≡ node_word nodes n → m ≡ n
node_word-same nodes zero zero names apart there_m there_n e = refl
node_word-same nodes zero (suc n) names apart there_m there_n e = absurd (not_ground nodes n names (omega arith) e)
node_word-same nodes (suc m) zero names apart there_m there_n e = absurd (not_ground nodes m names (omega arith) (sym e))
node_word-same nodes (suc m) (suc n) names apart there_m there_n e = ap suc (apart m n (omega arith) (omega arith) e)

pub node-same : (name : List ℕ) (nodes : List (List ℕ)) (m n : ℕ) → All IsName nodes → AreApart nodes → m ≤ length nodes → n ≤ length nodes
    → node_entry name nodes m ≡ node_entry name nodes n → m ≡ n
node-same name nodes m n names apart there_m there_n e = node_word-same nodes m n names apart there_m there_n (word-same name (node_word nodes m) (node_word nodes n) e)

pub between-most : (low high : ℕ) (z : ℤ) → IsBetween low high z → unsigned_abs z ≤ high
between-most low high (pos x) is = omega (arith, ints, is.most)
between-most low high (negsuc x) is = absurd (omega (arith, ints, is.least))

pub between-small : (low high : ℕ) (z : ℤ) → high < 2 ^ 64 → IsBetween low high z → unsigned_abs z < 2 ^ 64
between-small low high (pos x) few is = omega (arith, ints, is.most)
between-small low high (negsuc x) few is = absurd (omega (arith, ints, is.least))

-- a travel time is at least a time step
pub travel-least : (run : RunData) (z : ℤ) → pos 0 ≤ℤ run.dt → run.dt ≤ℤ z → pos 0 ≤ℤ z
travel-least run z timed long = omega (arith, ints, timed, long)

pub delay-small : (z : ℤ) → pos 0 ≤ℤ z → z ≤ℤ pos LARGEST_TIME → unsigned_abs z < 2 ^ 64
delay-small z least most = between-small 0 (10 ^ 18) z (omega arith) (record { least = least; most = most })

-- a number to 10^18 in magnitude
pub within : (z : ℤ) → unsigned_abs z ≤ 10 ^ 18 → unsigned_abs z < 2 ^ 64
within z small = omega (arith, small)
