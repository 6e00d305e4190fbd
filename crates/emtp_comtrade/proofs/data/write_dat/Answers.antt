use Rattle.std.proofs.Common.{◌∷◌, [], ◌++◌, ℕ, List, length, subst}
use Rattle.emtp_io.specs.declared.cabinet.Output.TheVariants.{Dat}
use Rattle.emtp_io.specs.held.Whole.{Appends}
use Rattle.emtp_comtrade.specs.Record.{joined, dat_line, dat_text}
use Rattle.emtp_comtrade.proofs.Streams.{appends-end, appends-stopped}
use Rattle.emtp_comtrade.proofs.data.write_dat.Goals as goal

pub returns : goal.returns
unfolding dat_text
returns g c =
    let lines = joined (length c.args.samples.now.rows) (dat_line c.args.case.now.parts c.args.samples.now.rows) in
    subst (λ (xs : List ℕ). Appends (g.C.Cabinet.state c.args.cabinet.now) (g.C.Cabinet.state c.flush.new.cabinet) Dat ((xs ++ lines) ++ 26 ∷ []) c.flush.result)
    c.new-text.ensures
    (appends-end (26 ∷ []) c.in_ok-write_samples.ensures.text c.push.ensures.text c.flush.ensures.written)

pub returns-in_err-write_samples : goal.returns-in_err-write_samples
unfolding dat_text
returns-in_err-write_samples g c =
    let lines = joined (length c.args.samples.now.rows) (dat_line c.args.case.now.parts c.args.samples.now.rows) in
    let result = c.from_residual.result in
    subst (λ (xs : List ℕ). Appends (g.C.Cabinet.state c.args.cabinet.now) (g.C.Cabinet.state c.write_samples.new.cabinet) Dat ((xs ++ lines) ++ 26 ∷ []) result)
    c.new-text.ensures
    (appends-stopped (26 ∷ []) result c.from_residual.ensures.0 c.in_err-write_samples.ensures.text)
