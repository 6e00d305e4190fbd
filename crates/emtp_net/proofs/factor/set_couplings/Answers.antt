use Rattle.std.proofs.Common.{◌≡◌, ◌∙◌, ◌<◌, sym, ap, length, length-set, map, pos, slice_set, ℤ, ℕ, to_z, of_z, arith}
use mir.Syntax.{w64}
use Rattle.std.specs.List.{range_with_len}
use Rattle.std.proofs.lemmas.Int.{ints}
use Rattle.std.proofs.lemmas.List.{ext_get_or}
use Rattle.std.proofs.lemmas.List.FromFn.{get_or-map-range_with_len, length-map-range_with_len}
use Rattle.emtp_case.specs.declared.case.Parts.{Parts}
use Rattle.emtp_elim.specs.Matrix.{item}
use Rattle.emtp_line.specs.Lines as lined
use Rattle.emtp_line.specs.Phases.{modes_of, mutual_conductance}
use Rattle.emtp_net.proofs.Conductances.{set_more}
use Rattle.emtp_rows.specs.Nodal.{Nodal}
use Rattle.emtp_net.proofs.factor.set_couplings.Goals as goal

pub mutual-requires : goal.mutual-requires
mutual-requires c = omega (arith, c.loop-trio-test.true, c.len-trio-end.ensures, ap (λ (p : Parts). length p.trios) c.requires.same.lines)

pub set_mutual-requires-clause-there : goal.set_mutual-requires-clause-there
set_mutual-requires-clause-there c =
    let same : length c.loop-trio.rows.nodal.case.trios ≡ length c.args.case.now.parts.trios = ap (λ (n : Nodal). length n.case.trios) c.loop-trio.invariant.rest ∙ ap (λ (p : Parts). length p.trios) c.requires.rows in
    omega (arith, c.loop-trio-test.true, c.len-trio-end.ensures, same)

pub loop-trio-preserved : goal.loop-trio-preserved
loop-trio-preserved c =
    let case = c.args.case.now.parts in
    let at = c.loop-trio.trio in
    let g = c.mutual.result in
    let wide : to_z w64 (of_z w64 g) ≡ g = omega (arith, ints, c.mutual.ensures.bound) in
    let nodal = rw wide at c.set_mutual.ensures.nodal in
    let coupling : c.set_mutual.new.self.nodal.coupling ≡ slice_set c.loop-trio.rows.nodal.coupling at g = ap (λ (s : Nodal). s.coupling) nodal in
    let inside : at < length c.loop-trio.rows.nodal.coupling = omega (arith, c.loop-trio.invariant.room, c.loop-trio-test.true, c.len-trio-end.ensures) in
    let value : g ≡ mutual_conductance (modes_of case.run.dt (lined.trio_of case at)) = c.mutual.ensures.value ∙ ap (λ (p : Parts). mutual_conductance (modes_of p.run.dt (lined.trio_of p at))) c.requires.same.lines in
    record {
      rest = nodal ∙ ap (λ (s : Nodal). record s { coupling = slice_set c.loop-trio.rows.nodal.coupling at g }) c.loop-trio.invariant.rest ∙ ap (λ xs. record c.args.rows.now.nodal { coupling = xs }) (sym coupling);
      room = ap length coupling ∙ length-set c.loop-trio.rows.nodal.coupling at g ∙ c.loop-trio.invariant.room;
      set = λ t below. ap (λ xs. item xs t) coupling ∙ set_more c.loop-trio.rows.nodal.coupling at g (λ t. mutual_conductance (modes_of case.run.dt (lined.trio_of case t))) inside value c.loop-trio.invariant.set t below;
    }

pub returns : goal.returns
returns c =
    let case = c.args.case.now.parts in
    let f : ℕ → ℤ = λ t. mutual_conductance (modes_of case.run.dt (lined.trio_of case t)) in
    let n = length case.trios in
    let all = ext_get_or (pos 0) c.loop-trio.rows.nodal.coupling (map f (range_with_len 0 n)) (c.loop-trio.invariant.room ∙ sym (length-map-range_with_len f 0 n)) (λ t inside.
    let below : t < n = omega (arith, inside, c.loop-trio.invariant.room) in
    c.loop-trio.invariant.set t (omega (arith, below, c.loop-trio-test.false, c.len-trio-end.ensures)) ∙ sym (get_or-map-range_with_len f 0 n t t (pos 0) below (omega arith))) in
    c.loop-trio.invariant.rest ∙ ap (λ xs. record c.args.rows.now.nodal { coupling = xs }) all
