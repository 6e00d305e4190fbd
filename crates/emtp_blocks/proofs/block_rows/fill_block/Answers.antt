use Rattle.emtp_fix.specs.declared.limit.TheConstants.{LARGEST_COEFFICIENT}
use Rattle.std.proofs.Common.{◌≡◌, ◌∙◌, sym, ap, subst, ◌<◌, ◌≤◌, ℕ, ℤ, ◌+ℤ◌, List, All, Some, length, get_or, slice_get, unsigned_abs, to_z, of_z, arith}
use mir.Syntax.{w64}
use Rattle.std.proofs.lemmas.List.{get_or-map}
use Rattle.std.proofs.lemmas.Option.{slice_get-get_or}
use Rattle.emtp_case.specs.Control.{step_gain}
use Rattle.emtp_case.specs.Sums.{total}
use Rattle.emtp_case.specs.held.Sizes.{sizes_of}
use Rattle.emtp_case.specs.held.Control.{IsBlock}
use Rattle.emtp_case.specs.declared.case.Parts.{Parts}
use Rattle.emtp_case.specs.declared.control.Block.{Block}
use Rattle.emtp_case.specs.declared.control.Input.{Input}
use Rattle.emtp_case.specs.declared.control.Limiter.{Limiter}
use Rattle.emtp_case.specs.declared.control.Limiter.TheVariants.{Free, AtHigh, AtLow}
use Rattle.emtp_elim.specs.Matrix.{item, row_of}
use Rattle.emtp_fix.proofs.Wide.{through_64}
use Rattle.emtp_blocks.specs.held.BlockRows.{limiters_kept, no_kept, no_law, place_in, places_of}
use Rattle.emtp_blocks.specs.System.{control_matrix, coupling_by, row_entry}
use Rattle.emtp_case.specs.declared.control.BlockState.{BlockState}
use Rattle.emtp_blocks.proofs.Matrices.{row_is}
use Rattle.emtp_blocks.proofs.Systems.{length-places_of, place_there, row_entry_is}
use Rattle.emtp_blocks.proofs.block_rows.fill_block.Goals as goal

-- a row by its entries, where the limiter stands at l
filled : (case : Parts) (k : ℤ) (states : List BlockState) (i : ℕ) (b : Block) (l : Limiter) (out : List ℤ) → i < length case.blocks → length states ≡ length case.blocks → length out ≡ length case.blocks → slice_get case.blocks i ≡ Some b
    → All (λ (n : Input). n.var < length case.vars) b.inputs → k ≡ step_gain case.run.dt b → (get_or states i no_kept).limiter ≡ l → ((j : ℕ) → j < length case.blocks → item out j ≡ row_entry (place_in (places_of case)) k b.inputs l i j) → out ≡ row_of (control_matrix case (limiters_kept states)) i
filled case k states i b l out there each size here inputs gain at each_is =
    let limiter = get_or-map (λ (s : BlockState). s.limiter) states i no_kept Free (omega (arith, there, each)) in
    row_is case (limiters_kept states) i b out there size here (λ j below. row_entry_is case k b l _ i j (item out j) inputs gain (sym (limiter ∙ at)) (each_is j (omega (arith, below, size))))

pub add_inputs-requires-clause-blocks : goal.add_inputs-requires-clause-blocks
add_inputs-requires-clause-blocks c = λ k d below x is.
    let e = c.requires.diagram.places_are in
    let there = place_there c.args.diagram.now.case.now.parts k d x (rw e at below) (rw e at is) in
    omega (arith, there, c.requires.out, c.fill_unit.auto.out)

pub add_inputs-requires-clause-there : goal.add_inputs-requires-clause-there
add_inputs-requires-clause-there c = λ k d below.
    let case = c.args.diagram.now.case.now.parts in
    let b = c.index-as_slice-i.result in
    let read : b ≡ get_or case.blocks c.args.i b = rw c.as_slice.ensures at c.index-as_slice-i.is in
    let fits = let P = λ (y : Block). IsBlock case.run (sizes_of case) y in subst P (sym read) (c.args.diagram.now.case.now.fits.draft.control.blocks c.args.i b c.requires.there) in
    let inputs = c.as_slice-in-Free.ensures in
    let there = fits.inputs k d (rw inputs at below) in
    rw inputs (omega (arith, there, ap length c.requires.diagram.places_are, length-places_of case))

pub returns-in-Free : goal.returns-in-Free
returns-in-Free c =
    let case = c.args.diagram.now.case.now.parts in
    let i = c.args.i in
    let b = c.index-as_slice-i.result in
    let read : b ≡ get_or case.blocks i b = rw c.as_slice.ensures at c.index-as_slice-i.is in
    let here : slice_get case.blocks i ≡ Some b = slice_get-get_or case.blocks i b c.requires.there ∙ ap Some (sym read) in
    let fits = let P = λ (y : Block). IsBlock case.run (sizes_of case) y in subst P (sym read) (c.args.diagram.now.case.now.fits.draft.control.blocks i b c.requires.there) in
    let law = c.requires.diagram.laws_are i b c.requires.there here in
    let gain = (get_or c.args.diagram.now.laws.now i no_law).gain in
    let small : unsigned_abs gain ≤ LARGEST_COEFFICIENT = (c.requires.diagram.laws_fit i no_law (omega (arith, c.requires.there, c.requires.diagram.law_each))).gain_small in
    let k : to_z w64 (of_z w64 gain) ≡ gain = through_64 _ small in
    let added = rw (k, c.as_slice-in-Free.ensures, c.requires.diagram.places_are) at c.add_inputs.ensures in
    filled case gain c.args.states.now i b Free c.add_inputs.new.out c.requires.there c.requires.state_each (omega (arith, c.requires.out, c.fill_unit.auto.out, c.add_inputs.auto.out)) here fits.inputs law.gain c.in-Free.is
    (λ j below. added j (omega (arith, below, c.requires.out, c.fill_unit.auto.out)) ∙ ap (λ z. z +ℤ total (λ n. coupling_by gain j n (place_in (places_of case) n.var)) b.inputs) (c.fill_unit.ensures.value j (omega (arith, below, c.requires.out))))

pub returns-in-AtHigh : goal.returns-in-AtHigh
returns-in-AtHigh c =
    let case = c.args.diagram.now.case.now.parts in
    let i = c.args.i in
    let b = c.index-as_slice-i.result in
    let read : b ≡ get_or case.blocks i b = rw c.as_slice.ensures at c.index-as_slice-i.is in
    let here : slice_get case.blocks i ≡ Some b = slice_get-get_or case.blocks i b c.requires.there ∙ ap Some (sym read) in
    let fits = let P = λ (y : Block). IsBlock case.run (sizes_of case) y in subst P (sym read) (c.args.diagram.now.case.now.fits.draft.control.blocks i b c.requires.there) in
    let law = c.requires.diagram.laws_are i b c.requires.there here in
    filled case _ c.args.states.now i b AtHigh c.fill_unit.new.out c.requires.there c.requires.state_each (omega (arith, c.requires.out, c.fill_unit.auto.out)) here fits.inputs law.gain c.in-AtHigh.is (λ j below. c.fill_unit.ensures.value j (omega (arith, below, c.requires.out)))

pub returns-in-AtLow : goal.returns-in-AtLow
returns-in-AtLow c =
    let case = c.args.diagram.now.case.now.parts in
    let i = c.args.i in
    let b = c.index-as_slice-i.result in
    let read : b ≡ get_or case.blocks i b = rw c.as_slice.ensures at c.index-as_slice-i.is in
    let here : slice_get case.blocks i ≡ Some b = slice_get-get_or case.blocks i b c.requires.there ∙ ap Some (sym read) in
    let fits = let P = λ (y : Block). IsBlock case.run (sizes_of case) y in subst P (sym read) (c.args.diagram.now.case.now.fits.draft.control.blocks i b c.requires.there) in
    let law = c.requires.diagram.laws_are i b c.requires.there here in
    filled case _ c.args.states.now i b AtLow c.fill_unit.new.out c.requires.there c.requires.state_each (omega (arith, c.requires.out, c.fill_unit.auto.out)) here fits.inputs law.gain c.in-AtLow.is (λ j below. c.fill_unit.ensures.value j (omega (arith, below, c.requires.out)))
