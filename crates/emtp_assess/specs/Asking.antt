-- What the words of a command line ask for: what is asked of a run, and the name of its case's file.
use Rattle.std.specs.Prelude.{◌∷◌, [], List, Option, Some, None, codes, if◌then◌else◌, ℕ}
use Rattle.std.specs.Str.{bytes_eq}
use Rattle.emtp_assess.specs.declared.words.Question.{Question}
use Rattle.emtp_assess.specs.declared.words.Question.TheVariants.{Count, Samples, Worth}
use Rattle.emtp_run.specs.Words.{is_name}

-- the word before the name asks for the samples, or for how much there is to judge
abbrev pub question_of : List ℕ → Option Question
question_of word = if bytes_eq word (codes "--samples") then Some Samples else if bytes_eq word (codes "--count") then Some Count else None

-- a question of the case that a name names
abbrev pub named : Option Question → List ℕ → Option (Question × List ℕ)
named None word = None
named (Some question) word = if is_name word then Some (question, word) else None

abbrev pub question_in : List (List ℕ) → Option (Question × List ℕ)
question_in [] = None
question_in (word ∷ []) = named (Some Worth) word
question_in (first ∷ word ∷ []) = named (question_of first) word
question_in (first ∷ word ∷ next ∷ more) = None
