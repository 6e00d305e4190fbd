use Rattle.std.proofs.Common.{◌≡◌, ◌∙◌, ap, ℕ, ◌+◌, ◌-◌, ◌≤◌, min, true, cond, List, [], ◌∷◌, length, take, drop, get_or, arith}
use Rattle.std.specs.Char.{is_ascii_alphabetic}
use Rattle.std.proofs.lemmas.List.{take_all, take_min}
use Rattle.emtp_expr.specs.Words.{letter_count, name_length}
use Rattle.emtp_expr.proofs.words.name_length.Goals as goal

-- a name is as long as what was counted
counted : (text : List ℕ) (m n : ℕ) → 1 ≤ length text → true ≡ is_ascii_alphabetic (get_or text 0 0) → m ≡ min (length (take (length text - 1) (drop 1 text))) 5 → n ≡ letter_count (take m (take (length text - 1) (drop 1 text)))
    → 1 + n ≡ name_length text
unfolding name_length
counted [] m n there letter is count = absurd (omega (arith, there))
counted (byte ∷ bytes) m n there letter is count =
    let all : take (length (byte ∷ bytes) - 1) (drop 1 (byte ∷ bytes)) ≡ bytes = take_all (length (byte ∷ bytes) - 1) bytes (omega arith) in
    let short : m ≡ min 5 (length bytes) = omega (arith, is, ap length all) in
    ap (λ k. 1 + k) (count ∙ ap (λ xs. letter_count (take m xs)) all ∙ ap (λ k. letter_count (take k bytes)) short ∙ ap letter_count (take_min 5 bytes))
    ∙ ap (λ t. cond t (1 + letter_count (take 5 bytes)) 0) letter

pub returns-in-len1-up-clause-count : goal.returns-in-len1-up-clause-count
returns-in-len1-up-clause-count c = counted c.args.text.now c.min.result c.letter_count.result c.in-len1-up.len_at_least c.if-is_ascii_alphabetic.ensures.value c.min.ensures c.letter_count.ensures.count
