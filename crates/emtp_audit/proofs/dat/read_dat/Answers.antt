use Rattle.std.proofs.Common.{◌≡◌, ◌∙◌, sym, ap, ℕ, ℤ, ◌+◌, ◌++◌, ◌∷◌, [], List, true, length, append-nil, arith, FitsSigned, rules}
use mir.Syntax.{w64}
use Rattle.std.proofs.lemmas.Int.{to_z-of_z}
use Rattle.emtp_fix.proofs.Wide.{fits_64}
use Rattle.emtp_comtrade.specs.Record.{joined}
use Rattle.emtp_audit.specs.Rules.{LineRule, lines_differ, file_differs, audited_lines, differs_at}
use Rattle.emtp_audit.specs.declared.differs.DifferCause.TheVariants.{Extra}
use Rattle.emtp_audit.specs.Dat.{scales_of, dat_rule, dat_rules, dat_differs}
use Rattle.emtp_audit.proofs.DatFile.{short_enough}
use Rattle.emtp_audit.proofs.Reading.{lines-next, lines-end}
use Rattle.emtp_audit.proofs.dat.read_dat.Goals as goal

pub returns-in-Err : goal.returns-in-Err
unfolding dat_differs
returns-in-Err c =
    let unit : FitsSigned w64 c.args.cfg.now.multiplier = fits_64 c.args.cfg.now.multiplier c.requires.multiplier in
    let first : FitsSigned w64 c.first_stamp-first.result = search rules in
    let p = c.args.case.now.parts in
    let rows = c.args.samples.now.rows in
    let rule : ℕ → LineRule = dat_rule p rows (scales_of c.args.cfg.now.scales.items c.args.cfg.now.multiplier) c.first_stamp-first.result in
    let inv = simp to_z-of_z at c.loop-sample.invariant.walks in
    let start = ap (λ (f : ℤ). file_differs true (dat_rules p rows (scales_of c.args.cfg.now.scales.items c.args.cfg.now.multiplier) f) c.args.bytes.now) (sym c.first_stamp-first.ensures.value)
    ∙ short_enough true (dat_rules p rows (scales_of c.args.cfg.now.scales.items c.args.cfg.now.multiplier) c.first_stamp-first.result) c.args.bytes.now c.if-bytes-gt-MOST_BYTES.false in
    let err = simp to_z-of_z at c.in-Err.ensures.err in
    start ∙ lines-end (audited_lines c.args.bytes.now) (audited_lines c.loop-sample.rest.now) rule c.loop-sample.sample (length rows) c.in-Err.differs (omega (arith, c.loop-sample-test.true, c.count-sample-end.ensures.value)) inv err

pub loop-sample-preserved : goal.loop-sample-preserved
loop-sample-preserved c = record {
  walks = λ more.
      let unit : FitsSigned w64 c.args.cfg.now.multiplier = fits_64 c.args.cfg.now.multiplier c.requires.multiplier in
      let first : FitsSigned w64 c.first_stamp-first.result = search rules in
      let p = c.args.case.now.parts in
      let rows = c.args.samples.now.rows in
      let rule : ℕ → LineRule = dat_rule p rows (scales_of c.args.cfg.now.scales.items c.args.cfg.now.multiplier) c.first_stamp-first.result in
      let inv = simp to_z-of_z at c.loop-sample.invariant.walks in
      let ok = simp to_z-of_z at c.in-Ok.ensures.ok in
      let done : lines_differ true 1 (joined (c.loop-sample.sample + 1) (λ k. rule k ∷ []) ++ more) (audited_lines c.args.bytes.now) ≡ lines_differ true (c.loop-sample.sample + 1 + 1) more (audited_lines c.in-Ok.tail.now) =
      lines-next (audited_lines c.args.bytes.now) (audited_lines c.loop-sample.rest.now) (audited_lines c.in-Ok.tail.now) rule c.loop-sample.sample inv ok more in
      simp to_z-of_z done;
  far = omega (arith, c.loop-sample.invariant.far, c.in-Ok.ensures.short);
}

pub returns-in-None : goal.returns-in-None
unfolding dat_differs
returns-in-None c =
    let unit : FitsSigned w64 c.args.cfg.now.multiplier = fits_64 c.args.cfg.now.multiplier c.requires.multiplier in
    let first : FitsSigned w64 c.first_stamp-first.result = search rules in
    let p = c.args.case.now.parts in
    let rows = c.args.samples.now.rows in
    let rule : ℕ → LineRule = dat_rule p rows (scales_of c.args.cfg.now.scales.items c.args.cfg.now.multiplier) c.first_stamp-first.result in
    let inv = simp to_z-of_z at c.loop-sample.invariant.walks in
    let start = ap (λ (f : ℤ). file_differs true (dat_rules p rows (scales_of c.args.cfg.now.scales.items c.args.cfg.now.multiplier) f) c.args.bytes.now) (sym c.first_stamp-first.ensures.value)
    ∙ short_enough true (dat_rules p rows (scales_of c.args.cfg.now.scales.items c.args.cfg.now.multiplier) c.first_stamp-first.result) c.args.bytes.now c.if-bytes-gt-MOST_BYTES.false in
    let all : length rows ≡ c.loop-sample.sample = omega (arith, c.loop-sample-test.false, c.loop-sample.auto.sample-end, c.count-sample-end.ensures.value) in
    start
    ∙ ap (λ (rs : List LineRule). lines_differ true 1 rs (audited_lines c.args.bytes.now)) (ap (λ (n : ℕ). joined n (λ k. rule k ∷ [])) all ∙ sym (append-nil (joined c.loop-sample.sample (λ k. rule k ∷ []))))
    ∙ inv [] ∙ ap (lines_differ true (c.loop-sample.sample + 1) []) c.in-None.ensures.lines

pub returns-in-Some : goal.returns-in-Some
unfolding dat_differs
returns-in-Some c =
    let unit : FitsSigned w64 c.args.cfg.now.multiplier = fits_64 c.args.cfg.now.multiplier c.requires.multiplier in
    let first : FitsSigned w64 c.first_stamp-first.result = search rules in
    let p = c.args.case.now.parts in
    let rows = c.args.samples.now.rows in
    let rule : ℕ → LineRule = dat_rule p rows (scales_of c.args.cfg.now.scales.items c.args.cfg.now.multiplier) c.first_stamp-first.result in
    let inv = simp to_z-of_z at c.loop-sample.invariant.walks in
    let start = ap (λ (f : ℤ). file_differs true (dat_rules p rows (scales_of c.args.cfg.now.scales.items c.args.cfg.now.multiplier) f) c.args.bytes.now) (sym c.first_stamp-first.ensures.value)
    ∙ short_enough true (dat_rules p rows (scales_of c.args.cfg.now.scales.items c.args.cfg.now.multiplier) c.first_stamp-first.result) c.args.bytes.now c.if-bytes-gt-MOST_BYTES.false in
    let all : length rows ≡ c.loop-sample.sample = omega (arith, c.loop-sample-test.false, c.loop-sample.auto.sample-end, c.count-sample-end.ensures.value) in
    start
    ∙ ap (λ (rs : List LineRule). lines_differ true 1 rs (audited_lines c.args.bytes.now)) (ap (λ (n : ℕ). joined n (λ k. rule k ∷ [])) all ∙ sym (append-nil (joined c.loop-sample.sample (λ k. rule k ∷ []))))
    ∙ inv [] ∙ ap (lines_differ true (c.loop-sample.sample + 1) []) c.in-Some.ensures.lines
    ∙ ap (λ (n : ℕ). differs_at true (n + 1) 1 Extra) (sym all ∙ sym c.count.ensures.value)
