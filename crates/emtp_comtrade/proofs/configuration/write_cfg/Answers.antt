use Rattle.std.proofs.Common.{◌≡◌, ◌∙◌, ◌++◌, ℕ, List, length, ap, append_assoc, subst, sym}
use Rattle.emtp_io.specs.declared.cabinet.Output.TheVariants.{Cfg}
use Rattle.emtp_io.specs.held.Whole.{Appends}
use Rattle.emtp_comtrade.specs.Record.{joined, analog_line_at, status_line_at, cfg_head, cfg_tail, cfg_text}
use Rattle.emtp_comtrade.proofs.Streams.{gathers-more, appends-end, appends-stopped}
use Rattle.emtp_comtrade.proofs.configuration.write_cfg.Goals as goal

pub returns-in_err-write_status_lines : goal.returns-in_err-write_status_lines
unfolding cfg_text
returns-in_err-write_status_lines g c =
    let p = c.args.case.now.parts in
    let rows = c.args.samples.now.rows in
    let analog = joined (length p.channels) (analog_line_at p rows) in
    let status = joined (length p.channels) (status_line_at p) in
    let tail = cfg_tail p (length rows) in
    let result = c.from_residual-in_err-write_status_lines.result in
    let head : c.push_head.new.text ≡ cfg_head p = c.push_head.ensures.text ∙ ap (λ (xs : List ℕ). xs ++ cfg_head p) c.new-text.ensures in
    let both = gathers-more status c.in_ok-write_analog_lines.ensures.text c.in_err-write_status_lines.ensures.text in
    subst (λ (xs : List ℕ). Appends (g.C.Cabinet.state c.args.cabinet.now) (g.C.Cabinet.state c.write_status_lines.new.cabinet) Cfg (((xs ++ analog) ++ status) ++ tail) result)
    head
    (appends-stopped tail result c.from_residual-in_err-write_status_lines.ensures.0 both)

pub returns : goal.returns
unfolding cfg_text
returns g c =
    let p = c.args.case.now.parts in
    let rows = c.args.samples.now.rows in
    let analog = joined (length p.channels) (analog_line_at p rows) in
    let status = joined (length p.channels) (status_line_at p) in
    let tail = cfg_tail p (length rows) in
    let head : c.push_head.new.text ≡ cfg_head p = c.push_head.ensures.text ∙ ap (λ (xs : List ℕ). xs ++ cfg_head p) c.new-text.ensures in
    let end : c.push_tail.new.text ≡ c.write_status_lines.new.text ++ tail =
    c.push_tail.ensures.text ∙ ap (λ (n : ℕ). c.write_status_lines.new.text ++ cfg_tail p n) c.count.ensures.value in
    let both = gathers-more status c.in_ok-write_analog_lines.ensures.text c.in_ok-write_status_lines.ensures.text in
    subst (λ (xs : List ℕ). Appends (g.C.Cabinet.state c.args.cabinet.now) (g.C.Cabinet.state c.flush.new.cabinet) Cfg (((xs ++ analog) ++ status) ++ tail) c.flush.result)
    head
    (appends-end tail both end c.flush.ensures.written)

pub returns-in_err-write_analog_lines : goal.returns-in_err-write_analog_lines
unfolding cfg_text
returns-in_err-write_analog_lines g c =
    let p = c.args.case.now.parts in
    let rows = c.args.samples.now.rows in
    let analog = joined (length p.channels) (analog_line_at p rows) in
    let status = joined (length p.channels) (status_line_at p) in
    let tail = cfg_tail p (length rows) in
    let result = c.from_residual.result in
    let state = g.C.Cabinet.state c.write_analog_lines.new.cabinet in
    let head : c.push_head.new.text ≡ cfg_head p = c.push_head.ensures.text ∙ ap (λ (xs : List ℕ). xs ++ cfg_head p) c.new-text.ensures in
    subst (λ (xs : List ℕ). Appends (g.C.Cabinet.state c.args.cabinet.now) state Cfg (((xs ++ analog) ++ status) ++ tail) result)
    head
    (subst (λ (xs : List ℕ). Appends (g.C.Cabinet.state c.args.cabinet.now) state Cfg xs result) (sym (append_assoc (c.push_head.new.text ++ analog) status tail))
    (appends-stopped (status ++ tail) result c.from_residual.ensures.0 c.in_err-write_analog_lines.ensures.text))
