use Rattle.std.proofs.Common.{◌≡◌, ◌∙◌, sym, ap, ◌++◌, ◌∷◌, [], ℕ, List, arith}
use lib.Seq.{append_snoc}
use Rattle.std.proofs.lemmas.List.Elements.{All-rest}
use Rattle.std.specs.Str.{IsUtf8}
use Rattle.emtp_card.specs.Lines.{lines_of}
use Rattle.emtp_page.proofs.given.read_words.Goals as goal

-- a word more, and the lines that are left are still all
one_more : (words after rest more all : List (List ℕ)) (word : List ℕ) → after ≡ words ++ word ∷ [] → words ++ rest ≡ all → rest ≡ word ∷ more → after ++ more ≡ all
one_more words after rest more all word added so_far first =
    ap (λ t. t ++ more) added ∙ append_snoc words word more ∙ ap (λ t. words ++ t) (sym first) ∙ so_far

pub loop-line-preserved : goal.loop-line-preserved
loop-line-preserved c =
    let first = c.in-Some.ensures.lines in
    record {
      lines = one_more _ _ _ _ _ _ c.in_ok-add_word.ensures c.loop-line.invariant.lines first;
      left = All-rest IsUtf8 c.in-Some.line.now (lines_of c.in-Some.tail.now) (lines_of c.loop-line.rest.now) first c.loop-line.invariant.left;
      short = omega (arith, c.in-Some.ensures.short, c.loop-line.invariant.short);
    }
