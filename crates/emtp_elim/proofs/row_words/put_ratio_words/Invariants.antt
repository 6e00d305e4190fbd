use Rattle.std.specs.Prelude.{◌≡◌, ℕ, ◌<◌}
use Rattle.emtp_elim.specs.Matrix.{item}
use Rattle.emtp_elim.specs.held.RowWords.{HaveWords}
use Rattle.emtp_elim.proofs.row_words.put_ratio_words.Given as goal

abbrev pub invariant-loop-e : goal.invariant-loop-e
invariant-loop-e l = HaveWords l.values l.words l.first l.e l.from × ((w : ℕ) → w < l.from → item l.words w ≡ item l.fn.words w)
