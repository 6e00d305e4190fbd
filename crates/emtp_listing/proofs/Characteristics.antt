-- Branches and their points are known by their lines.
use Rattle.std.proofs.Common.{◌≡◌, ◌++◌, ◌∙◌, sym, ap, refl, arith, ◌^◌, ◌<◌, List, [], ℕ, get_or, drop, subst}
use Rattle.emtp_case.specs.Branch.{line_of, points_of}
use Rattle.emtp_case.specs.held.Branch.{IsBranch, IsPseudo}
use Rattle.emtp_case.specs.declared.branch.Branch.{Branch}
use Rattle.emtp_case.specs.declared.branch.Branch.TheVariants.{Line as OfLine, Lumped as OfLumped, Phase as OfPhase, Pseudo as OfPseudo}
use Rattle.emtp_case.specs.declared.branch.Pseudo.{Pseudo}
use Rattle.emtp_listing.specs.Law.{AllFree, AreApart, Around, HasNodeNames, characteristic_of}
use Rattle.emtp_listing.specs.Lines.{numbered}
use Rattle.emtp_listing.specs.NetworkLines.{branch_group, branch_points, segment_line}
use Rattle.emtp_listing.proofs.Branches.{branch-free, branch-same}
use Rattle.emtp_listing.proofs.Lists.{front-same, numbered-free, numbered-length, numbered-same}
use Rattle.emtp_listing.proofs.Marks.{line_end}
use Rattle.emtp_listing.proofs.Points.{IsSmallPoint, characteristic-small, points-count, segment-free, segment-same}

points-free : (w : Around) (x : Branch) → IsBranch w.run w.sizes w.points x → AllFree 10 (branch_points w.points x)
points-free w (OfLumped x) is = tt
points-free w (OfLine x) is = tt
points-free w (OfPseudo x) is =
    numbered-free 10 (2 ^ 32) (segment_line x.reactor) IsSmallPoint (λ n p less h. segment-free x.reactor n p less h) 1 (points_of w.points x.first x.count)
    (omega (arith, is.few, points-count w.points x.first x.count is.there)) (characteristic-small x.reactor w.run.dt (points_of w.points x.first x.count) is.characteristic)
points-free w (OfPhase x) is = tt

pub branch_group-free : (w : Around) (nodes : List (List ℕ)) (x : Branch) → HasNodeNames w nodes → IsBranch w.run w.sizes w.points x → line_of x < 2 ^ 32 → AllFree 10 (branch_group nodes w.points x)
branch_group-free w nodes x few is small = (branch-free 10 w nodes x (omega arith) line_end few is small, points-free w x is)

characteristic-same : (w v : Around) (x : Pseudo) → IsPseudo w.run w.sizes w.points x → IsPseudo v.run v.sizes v.points x
    → numbered (segment_line x.reactor) 1 (points_of w.points x.first x.count) ≡ numbered (segment_line x.reactor) 1 (points_of v.points x.first x.count) → points_of w.points x.first x.count ≡ points_of v.points x.first x.count
characteristic-same w v x is js e =
    numbered-same (2 ^ 32) (segment_line x.reactor) (segment_line x.reactor) IsSmallPoint IsSmallPoint (λ n p q less h k same. segment-same x.reactor n p q less h k same) 1 (points_of w.points x.first x.count) (points_of v.points x.first x.count)
    (omega (arith, is.few, points-count w.points x.first x.count is.there))
    (characteristic-small x.reactor w.run.dt (points_of w.points x.first x.count) is.characteristic) (characteristic-small x.reactor v.run.dt (points_of v.points x.first x.count) js.characteristic) e

-- the lines of a branch's points, and more behind them
points-same : (w v : Around) (x : Branch) (s t : List (List ℕ)) → IsBranch w.run w.sizes w.points x → IsBranch v.run v.sizes v.points x → branch_points w.points x ++ s ≡ branch_points v.points x ++ t
    → (characteristic_of w.points x ≡ characteristic_of v.points x) × (s ≡ t)
points-same w v (OfLumped x) s t is js e = (refl, e)
points-same w v (OfLine x) s t is js e = (refl, e)
points-same w v (OfPseudo x) s t is js e =
    let parts = front-same (branch_points w.points (OfPseudo x)) (branch_points v.points (OfPseudo x)) s t
    (numbered-length (segment_line x.reactor) 1 (points_of w.points x.first x.count) ∙ points-count w.points x.first x.count is.there
    ∙ sym (numbered-length (segment_line x.reactor) 1 (points_of v.points x.first x.count) ∙ points-count v.points x.first x.count js.there)) e in
    (characteristic-same w v x is js parts.0, parts.1)
points-same w v (OfPhase x) s t is js e = (refl, e)

pub branch_group-same : (w v : Around) (nodes : List (List ℕ)) (x y : Branch) (s t : List (List ℕ)) → HasNodeNames w nodes → HasNodeNames v nodes → AreApart nodes
    → IsBranch w.run w.sizes w.points x → IsBranch v.run v.sizes v.points y → line_of x < 2 ^ 32 → line_of y < 2 ^ 32 → branch_group nodes w.points x ++ s ≡ branch_group nodes v.points y ++ t
    → (x ≡ y) × ((characteristic_of w.points x ≡ characteristic_of v.points y) × (s ≡ t))
branch_group-same w v nodes x y s t few few2 apart is js small_x small_y e =
    let first = branch-same w v nodes x y few few2 apart is js small_x small_y (ap (λ (l : List (List ℕ)). get_or l 0 []) e) in
    let rest : branch_points w.points x ++ s ≡ branch_points v.points x ++ t =
    ap (λ (l : List (List ℕ)). drop 1 l) e ∙ ap (λ (z : Branch). branch_points v.points z ++ t) (sym first) in
    let parts = points-same w v x s t is (subst (IsBranch v.run v.sizes v.points) (sym first) js) rest in
    (first, (parts.0 ∙ ap (characteristic_of v.points) first, parts.1))
