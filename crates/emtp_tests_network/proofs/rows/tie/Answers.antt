use Rattle.std.proofs.Common.{arith, ℕ, zero, suc, ◌≡◌, ◌<◌, ◌∷◌, [], List, All, refl}
use Rattle.emtp_case.specs.declared.row_kind.RowKind.{RowKind}
use Rattle.emtp_case.specs.declared.row_kind.RowKind.TheVariants.{Kcl, Source, Tie}
use Rattle.emtp_rows.specs.Nodal.{kind_at}
use Rattle.emtp_case.specs.held.RowKinds.{AreKinds, TieIsThere}
use Rattle.emtp_tests_network.proofs.rows.tie.Goals as goal

tied : List RowKind
tied = Source ∷ Tie 0 ∷ Kcl ∷ []

first_is : (i : ℕ) → i < 1 → kind_at tied i ≡ Source
unfolding tied
first_is zero below = refl
first_is (suc i) below = absurd (omega arith)

are_there : All (TieIsThere 3) tied
unfolding tied
are_there zero d below = tt
are_there (suc zero) d below = omega arith
are_there (suc (suc zero)) d below = tt
are_there (suc (suc (suc i))) d below = absurd (omega arith)

are_kinds : AreKinds 3 1 tied
unfolding tied
are_kinds = record { count = refl; sources = first_is; ties = are_there }

pub set_kinds-requires : goal.set_kinds-requires
unfolding tied
set_kinds-requires c = rw (c.requires.fixed, c.requires.nodes) are_kinds
