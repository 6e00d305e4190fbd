use Rattle.std.proofs.Common.{◌∙◌, FitsSigned, rules, arith}
use mir.Syntax.{w64}
use Rattle.std.proofs.lemmas.Int.{to_z-of_z}
use Rattle.emtp_lumped.specs.Lumps.{states_of}
use Rattle.emtp_tests_laws.proofs.Stepping.{moved_more, stayed_more, all_stand, there_is_next}
use Rattle.emtp_tests_laws.proofs.lumped.accept_all.Goals as goal

pub loop-at-preserved : goal.loop-at-preserved
loop-at-preserved c =
    let case = c.args.case.now.parts in
    let voltages = c.args.voltages.now in
    let old = c.loop-at.lumps in
    let new = c.accept_one.new.lumps in
    let at = c.loop-at.at in
    let i : FitsSigned w64 c.in-Ok.current = search rules in
    record {
      same = c.in-Ok.ensures.case ∙ c.loop-at.invariant.same;
      moved = λ H stands. moved_more case H voltages old new c.loop-at.currents at _ (omega arith) c.in-Ok.ensures.others (c.loop-at.invariant.moved H stands)
          (λ x series. rw (to_z-of_z w64 c.in-Ok.current i) (c.in-Ok.ensures.moved x (states_of at H) series (c.loop-at.invariant.stayed H stands at x (omega arith) series)));
      stayed = λ H stands. stayed_more case H old new at c.in-Ok.ensures.others (c.loop-at.invariant.stayed H stands);
    }

pub returns-in-Err-clause-first : goal.returns-in-Err-clause-first
returns-in-Err-clause-first c = λ H stands.
    let at = c.loop-at.at in
    let out = c.in-Err.ensures.out in
    record {
      branch = out.0;
      series = out.1;
      out = out.2 (states_of at H) (c.loop-at.invariant.stayed H stands at out.0 (omega arith) out.1);
      before = λ k x below series. there_is_next c.loop-at.lumps k (states_of k H) _ _ (c.loop-at.invariant.moved H stands k x below series);
    }

pub returns-clause-moved : goal.returns-clause-moved
returns-clause-moved c = λ H stands b x within series. c.loop-at.invariant.moved H stands b x (omega arith) series

pub returns-clause-stands : goal.returns-clause-stands
returns-clause-stands c = λ H r stands next.
    all_stand c.args.case.now.parts H c.args.voltages.now c.loop-at.currents c.loop-at.lumps r c.loop-at.invariant.same (λ b x within series. c.loop-at.invariant.moved H stands b x (omega arith) series) next
