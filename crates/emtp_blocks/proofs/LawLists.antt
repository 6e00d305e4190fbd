-- The laws of the blocks, one more.
use Rattle.std.proofs.Common.{◌≡◌, ◌∙◌, sym, ap, subst, ℕ, ◌+◌, ◌<◌, List, [], ◌∷◌, ◌++◌, length, get_or, slice_get, Some, inl, inr, arith}
use Rattle.std.proofs.lemmas.Bool.{cases_eq}
use Rattle.std.proofs.lemmas.List.{get_or_append_left}
use Rattle.std.proofs.Math.Seq.{get_or-append_seam}
use Rattle.emtp_case.specs.declared.case.Parts.{Parts}
use Rattle.emtp_case.specs.declared.control.Block.{Block}
use Rattle.emtp_blocks.specs.held.Block.{IsLawOf}
use Rattle.emtp_blocks.specs.held.BlockRows.{AreLaws, no_law}
use Rattle.emtp_blocks.specs.declared.law.BlockLaw.{BlockLaw}

pub laws_more : (case : Parts) (laws new : List BlockLaw) (at : ℕ) (l : BlockLaw) → length laws ≡ at → new ≡ laws ++ l ∷ [] → ((b : Block) → slice_get case.blocks at ≡ Some b → IsLawOf case.run.dt b l) → AreLaws case laws at → AreLaws case new (at + 1)
laws_more case laws new at l long is here before i b below there =
    let P : List BlockLaw → Type 0 = λ xs. IsLawOf case.run.dt b (get_or xs i no_law) in
    subst P (sym is) (elim (cases_eq i at) [
      | inl same ↦
          let last : get_or (laws ++ l ∷ []) i no_law ≡ l = ap (λ n. get_or (laws ++ l ∷ []) n no_law) (same ∙ sym long) ∙ get_or-append_seam laws l [] no_law in
          rw last (here b (ap (slice_get case.blocks) (sym same) ∙ there))
      | inr ne ↦
          let inside : i < length laws = omega (arith, below, ne, long) in
          rw (get_or_append_left laws (l ∷ []) no_law i inside) (before i b (omega (arith, below, ne)) there)
    ])
