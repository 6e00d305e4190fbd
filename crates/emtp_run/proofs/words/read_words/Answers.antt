use Rattle.std.proofs.Common.{◌≡◌, ◌<◌, ◌≤◌, arith, length, List, [], ◌∷◌, None, refl, String}
use Rattle.std.specs.declared.alloc.Global.{Global}
use Rattle.emtp_run.specs.Words.{fits, texts}
use Rattle.emtp_run.proofs.words.read_words.Goals as goal

-- no command has one word alone
alone : (words : List (String Global)) → 1 ≤ length words → length words < 2 → None ≡ fits (texts words)
alone [] some few = absurd (omega (arith, some))
alone (a ∷ []) some few = refl
alone (a ∷ b ∷ more) some few = absurd (omega (arith, few))

-- none has six or more
too_many : (words : List (String Global)) → 6 ≤ length words → None ≡ fits (texts words)
too_many [] many = absurd (omega (arith, many))
too_many (a ∷ []) many = absurd (omega (arith, many))
too_many (a ∷ b ∷ []) many = absurd (omega (arith, many))
too_many (a ∷ b ∷ c ∷ []) many = absurd (omega (arith, many))
too_many (a ∷ b ∷ c ∷ d ∷ []) many = absurd (omega (arith, many))
too_many (a ∷ b ∷ c ∷ d ∷ e ∷ []) many = absurd (omega (arith, many))
too_many (a ∷ b ∷ c ∷ d ∷ e ∷ f ∷ more) many = refl

pub returns-in-len1-clause-value : goal.returns-in-len1-clause-value
returns-in-len1-clause-value c = alone c.args.words.now c.in-len1.len_at_least c.in-len1.len_below

pub returns-in_default-clause-value : goal.returns-in_default-clause-value
returns-in_default-clause-value c = too_many c.args.words.now c.in_default.len_at_least
