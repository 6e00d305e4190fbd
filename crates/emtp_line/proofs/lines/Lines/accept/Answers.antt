use Rattle.std.proofs.Common.{◌≡◌, ◌∙◌, ap, sym, subst, slice_set, FitsSigned}
use mir.Syntax.{w64}
use Rattle.std.proofs.lemmas.Int.{to_z-of_z}
use Rattle.emtp_line.specs.held.Held.{IsHeld}
use Rattle.emtp_line.specs.held.Lines.{Lining, IsLineAt, Moves}
use Rattle.emtp_line.specs.declared.held.HeldLine.{HeldLine}
use Rattle.emtp_line.proofs.Holding.{line_within, line_read, held_read, lining-set, rings_kept, shown}
use Rattle.emtp_line.proofs.Lining.{moves}
use Rattle.emtp_line.proofs.lines.Lines.accept.Goals as goal

pub accept-requires : goal.accept-requires
accept-requires c =
    let seen : Lining = shown c.self.inside.case.now.parts c.self.inside.lines.cap c.self.inside.trios.cap c.self.inside.lines.items c.self.inside.trios.items in
    let same : seen ≡ c.args.self.now = c.self.view_is in
    let line = let P = λ (s : Lining). IsLineAt s.case c.args.branch c.requires.0 in subst P (sym same) c.requires.1 in
    let within = line_within seen.case seen.lines seen.trios c.args.branch c.requires.0 c.self.invariant line in
    let read = line_read seen.lines c.args.branch c.index_mut.result.now within c.index_mut.ensures.value in
    subst IsHeld (sym read) (held_read seen.case seen.lines seen.trios c.args.branch c.self.invariant within)

pub invariant_of-self : goal.invariant_of-self
invariant_of-self c =
    let seen : Lining = shown c.self.inside.case.now.parts c.self.inside.lines.cap c.self.inside.trios.cap c.self.inside.lines.items c.self.inside.trios.items in
    let same : seen ≡ c.args.self.now = c.self.view_is in
    let line = let P = λ (s : Lining). IsLineAt s.case c.args.branch c.requires.0 in subst P (sym same) c.requires.1 in
    let within = line_within seen.case seen.lines seen.trios c.args.branch c.requires.0 c.self.invariant line in
    let read = line_read seen.lines c.args.branch c.index_mut.result.now within c.index_mut.ensures.value in
    lining-set seen.case seen.lines seen.trios c.args.branch c.accept.new.self c.self.invariant within (c.accept.ensures.mode ∙ ap (λ (k : HeldLine). k.waves.mode) read) c.accept.ensures.fits

pub returns : goal.returns
returns c =
    let seen : Lining = shown c.self.inside.case.now.parts c.self.inside.lines.cap c.self.inside.trios.cap c.self.inside.lines.items c.self.inside.trios.items in
    let left : Lining = shown c.self.inside.case.now.parts c.self.inside.lines.cap c.self.inside.trios.cap (slice_set c.self.inside.lines.items c.args.branch c.accept.new.self) c.self.inside.trios.items in
    let same : seen ≡ c.args.self.now = c.self.view_is in
    let line = let P = λ (s : Lining). IsLineAt s.case c.args.branch c.requires.0 in subst P (sym same) c.requires.1 in
    let within = line_within seen.case seen.lines seen.trios c.args.branch c.requires.0 c.self.invariant line in
    let read = line_read seen.lines c.args.branch c.index_mut.result.now within c.index_mut.ensures.value in
    let v : FitsSigned w64 c.args.v = c.ranges.v in
    let w : FitsSigned w64 c.args.w = c.ranges.w in
    let moved = simp to_z-of_z at c.accept.ensures.moved in
    let out = simp to_z-of_z at c.accept.ensures.out in
    let was = subst IsHeld (sym read) (held_read seen.case seen.lines seen.trios c.args.branch c.self.invariant within) in
    let rings = rings_kept c.index_mut.result.now.waves c.accept.new.self.waves was.waves c.accept.ensures.fits.waves c.accept.ensures.mode in
    let P = λ (s : Lining). Moves s left c.args.branch c.args.v c.args.w c.accept.result in
    subst P same (moves seen.case seen.lines seen.trios c.args.branch c.args.v c.args.w c.accept.result c.index_mut.result.now c.accept.new.self c.self.invariant within read moved out c.accept.ensures.same rings)
