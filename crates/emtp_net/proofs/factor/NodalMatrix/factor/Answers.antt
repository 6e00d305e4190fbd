use Rattle.std.proofs.Common.{◌≡◌, ◌∙◌, Err, ap, subst, sym, length, arith}
use Rattle.emtp_elim.specs.Outcome.{outcome}
use Rattle.emtp_elim.specs.declared.fault.PlainFault.TheVariants.{Row}
use Rattle.emtp_case.specs.declared.case.Parts.{Parts}
use Rattle.emtp_rows.proofs.NodalRows.{length-nodal_matrix}
use Rattle.emtp_rows.specs.Nodal.{Nodal, nodal_matrix}
use Rattle.emtp_net.proofs.Ending.{row_ends}
use Rattle.emtp_net.specs.System.{right}
use Rattle.emtp_net.proofs.Factoring.{holds_next, nodal_is, redone_is, row_adds, stands_touched, ticks_are, ticks_most}
use Rattle.emtp_net.proofs.factor.NodalMatrix.factor.Goals as goal

pub set_conductances-requires-clause-fixed : goal.set_conductances-requires-clause-fixed
set_conductances-requires-clause-fixed g c = c.requires.rows.fixed

pub follow-requires-clause-size : goal.follow-requires-clause-size
follow-requires-clause-size g c =
    let sized : length c.set_conductances.new.rows.nodal.case.nodes ≡ length c.args.network.case.now.parts.nodes = ap (λ (n : Nodal). length n.case.nodes) c.set_conductances.ensures.rest ∙ ap (λ (p : Parts). length p.nodes) c.requires.rows.case_is in
    c.requires.rows.kept_size ∙ sym sized

pub follow-requires-clause-stands : goal.follow-requires-clause-stands
follow-requires-clause-stands g c =
    stands_touched c.args.self.now.rows c.set_conductances.new.rows c.args.self.now.kept.rows c.set_conductances.ensures.touched c.requires.rows.kept_stands

pub row_fault-requires-clause-row : goal.row_fault-requires-clause-row
row_fault-requires-clause-row g c =
    let sized : length c.set_conductances.new.rows.nodal.case.nodes ≡ length c.args.network.case.now.parts.nodes = ap (λ (n : Nodal). length n.case.nodes) c.set_conductances.ensures.rest ∙ ap (λ (p : Parts). length p.nodes) c.requires.rows.case_is in
    omega (arith, c.in-Err.ensures.follows.fault.within, length-nodal_matrix c.set_conductances.new.rows.nodal, sized)

pub returns-in-Ok-clause-rows : goal.returns-in-Ok-clause-rows
returns-in-Ok-clause-rows g c =
    holds_next c.args.network.case.now.parts c.args.self.now.rows c.set_conductances.new.rows c.follow.new.self.rows c.args.self.now.kept c.follow.new.self.kept c.requires.rows c.set_conductances.ensures.rest c.set_conductances.ensures.room c.set_conductances.ensures.fixed c.follow.ensures.nodal c.follow.ensures.size c.follow.ensures.stands

pub returns-in-Err-clause-rows : goal.returns-in-Err-clause-rows
returns-in-Err-clause-rows g c =
    holds_next c.args.network.case.now.parts c.args.self.now.rows c.set_conductances.new.rows c.follow.new.self.rows c.args.self.now.kept c.follow.new.self.kept c.requires.rows c.set_conductances.ensures.rest c.set_conductances.ensures.room c.set_conductances.ensures.fixed c.follow.ensures.nodal c.follow.ensures.size c.follow.ensures.stands

pub returns-in-Ok-clause-kinds : goal.returns-in-Ok-clause-kinds
returns-in-Ok-clause-kinds g c = ap (λ (n : Nodal). n.kinds) (c.follow.ensures.nodal ∙ c.set_conductances.ensures.rest)

pub returns-in-Err-clause-kinds : goal.returns-in-Err-clause-kinds
returns-in-Err-clause-kinds g c = ap (λ (n : Nodal). n.kinds) (c.follow.ensures.nodal ∙ c.set_conductances.ensures.rest)

pub returns-in-Ok-clause-all : goal.returns-in-Ok-clause-all
returns-in-Ok-clause-all g c =
    let sized : length c.set_conductances.new.rows.nodal.case.nodes ≡ length c.args.network.case.now.parts.nodes = ap (λ (n : Nodal). length n.case.nodes) c.set_conductances.ensures.rest ∙ ap (λ (p : Parts). length p.nodes) c.requires.rows.case_is in
    ap length c.in-Ok.ensures.follows.good ∙ length-nodal_matrix c.set_conductances.new.rows.nodal ∙ sized

pub returns-in-Ok-clause-few_ticks : goal.returns-in-Ok-clause-few_ticks
returns-in-Ok-clause-few_ticks g c = omega (arith, c.in-Ok.ensures.follows.ticks, c.requires.rows.kept_size, c.args.network.case.now.fits.draft.counts.nodes)

pub returns-in-Err-clause-few_ticks : goal.returns-in-Err-clause-few_ticks
returns-in-Err-clause-few_ticks g c = omega (arith, c.in-Err.ensures.follows.fault_ticks, c.requires.rows.kept_size, c.args.network.case.now.fits.draft.counts.nodes)

pub returns-in-Ok-clause-factors : goal.returns-in-Ok-clause-factors
returns-in-Ok-clause-factors g c = λ H ready.
    let case = c.args.network.case.now.parts in
    let mid = c.set_conductances.new.rows.nodal in
    let kept = c.args.self.now.kept in
    let are = nodal_is case H c.args.self.now.rows.nodal mid c.requires.rows.case_is c.requires.rows.coupling_is ready.kinds (c.set_conductances.ensures.set H ready.stands) in
    let ticked = ticks_are case H kept.rows mid kept.size c.args.steps.now c.follow.new.steps ready.kept_is are c.requires.rows.kept_size c.in-Ok.ensures.follows.ticks in
    record {
      made = c.in-Ok.ensures.follows.good ∙ ap nodal_matrix are;
      ends = tt;
      redone = redone_is case H kept.rows mid c.args.made kept.size c.args.self.now.redone c.follow.new.self.redone ready.kept_is are ready.steps c.requires.rows.kept_size c.follow.ensures.follows.redone;
      ticks = ticked;
      most = omega (arith, ticked);
    }

pub returns-in-Err-clause-factors : goal.returns-in-Err-clause-factors
returns-in-Err-clause-factors g c = λ H ready.
    let case = c.args.network.case.now.parts in
    let mid = c.set_conductances.new.rows.nodal in
    let kept = c.args.self.now.kept in
    let are = nodal_is case H c.args.self.now.rows.nodal mid c.requires.rows.case_is c.requires.rows.coupling_is ready.kinds (c.set_conductances.ensures.set H ready.stands) in
    let faulty = subst (λ (n : Nodal). outcome (nodal_matrix n) (right case H) ≡ Err (Row c.in-Err.fault)) are (c.in-Err.ensures.follows.ends (right case H)) in
    record {
      made = tt;
      ends = record { is = row_ends case H c.in-Err.fault c.row_fault.result ready.free faulty c.row_fault.ensures.value; adds = row_adds case H c.in-Err.fault.cause _ c.row_fault.result c.row_fault.ensures.value };
      redone = redone_is case H kept.rows mid c.args.made kept.size c.args.self.now.redone c.follow.new.self.redone ready.kept_is are ready.steps c.requires.rows.kept_size c.follow.ensures.follows.redone;
      ticks = tt;
      most = ticks_most case H kept.rows mid kept.size c.args.steps.now c.follow.new.steps ready.kept_is are c.requires.rows.kept_size c.in-Err.ensures.follows.fault_ticks;
    }
