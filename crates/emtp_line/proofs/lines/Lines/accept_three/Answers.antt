use Rattle.std.proofs.Common.{◌≡◌, ◌∙◌, ◌<◌, ap, sym, subst, slice_set, length}
use Rattle.emtp_line.specs.held.Held.{IsHeldTrio, held_modes}
use Rattle.emtp_line.specs.held.Lines.{Lining, TrioMoves}
use Rattle.emtp_line.proofs.Holding.{shown}
use Rattle.emtp_line.proofs.Trios.{held_trio_read, trio_rings_kept, trio_within, trio_read, lining-set_trio}
use Rattle.emtp_line.proofs.Lining.{trio_moves}
use Rattle.emtp_line.proofs.lines.Lines.accept_three.Goals as goal

pub invariant_of-self : goal.invariant_of-self
invariant_of-self c =
    let seen : Lining = shown c.self.inside.case.now.parts c.self.inside.lines.cap c.self.inside.trios.cap c.self.inside.lines.items c.self.inside.trios.items in
    let same : seen ≡ c.args.self.now = c.self.view_is in
    let there = let P = λ (s : Lining). c.args.trio < length s.case.trios in subst P (sym same) c.requires in
    let within = trio_within seen.case seen.lines seen.trios c.args.trio c.self.invariant there in
    let read = trio_read seen.trios c.args.trio c.index_mut.result.now within c.index_mut.ensures.value in
    lining-set_trio seen.case seen.lines seen.trios c.args.trio c.accept.new.self c.self.invariant within (c.accept.ensures.modes ∙ ap held_modes read) c.accept.ensures.fits

pub returns : goal.returns
returns c =
    let seen : Lining = shown c.self.inside.case.now.parts c.self.inside.lines.cap c.self.inside.trios.cap c.self.inside.lines.items c.self.inside.trios.items in
    let left : Lining = shown c.self.inside.case.now.parts c.self.inside.lines.cap c.self.inside.trios.cap c.self.inside.lines.items (slice_set c.self.inside.trios.items c.args.trio c.accept.new.self) in
    let same : seen ≡ c.args.self.now = c.self.view_is in
    let there = let P = λ (s : Lining). c.args.trio < length s.case.trios in subst P (sym same) c.requires in
    let within = trio_within seen.case seen.lines seen.trios c.args.trio c.self.invariant there in
    let read = trio_read seen.trios c.args.trio c.index_mut.result.now within c.index_mut.ensures.value in
    let was = subst IsHeldTrio (sym read) (held_trio_read seen.case seen.lines seen.trios c.args.trio c.self.invariant within) in
    let rings = trio_rings_kept c.index_mut.result.now c.accept.new.self was c.accept.ensures.fits c.accept.ensures.modes in
    let P = λ (s : Lining). TrioMoves s left c.args.trio c.args.v c.args.w c.accept.result in
    subst P same (trio_moves seen.case seen.lines seen.trios c.args.trio c.args.v c.args.w c.accept.result c.index_mut.result.now c.accept.new.self c.self.invariant there within read c.accept.ensures.moved c.accept.ensures.out c.accept.ensures.same rings c.accept.ensures.phase)
