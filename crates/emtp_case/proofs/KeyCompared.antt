-- The comparison of keys that the code derives is that of the definition.
use Rattle.std.specs.Prelude.{◌≡◌, ◌+◌, List, slice_index_or, refl}
use Rattle.std.specs.Ordering.{is_lt, nat_cmp, ordering_then}
use Rattle.std.specs.List.Sorted.{IsSorted}
use Rattle.std.proofs.Common.{◌∙◌, ap, sym}
use Rattle.emtp_case.specs.RowOrder.{class_rank, key_cmp}
use Rattle.emtp_case.specs.declared.row_order.Class.{Class}
use Rattle.emtp_case.specs.declared.row_order.Class.TheVariants.{Changing, Constant, Source as SourceClass}
use Rattle.emtp_case.specs.declared.row_order.Key.{Key}
use Rattle.emtp_case.specs.contracts.row_order.ClassOrd.TheImpl.{ghosts as class_ghosts}
use Rattle.emtp_case.specs.contracts.row_order.KeyOrd.TheImpl.{ghosts as key_ghosts}

class_cmp-is : (x y : Class) → class_ghosts.cmp x y ≡ nat_cmp (class_rank x) (class_rank y)
class_cmp-is SourceClass SourceClass = refl
class_cmp-is SourceClass Constant = refl
class_cmp-is SourceClass Changing = refl
class_cmp-is Constant SourceClass = refl
class_cmp-is Constant Constant = refl
class_cmp-is Constant Changing = refl
class_cmp-is Changing SourceClass = refl
class_cmp-is Changing Constant = refl
class_cmp-is Changing Changing = refl

key_cmp-is : (x y : Key) → key_ghosts.cmp x y ≡ key_cmp x y
key_cmp-is x y = ap (λ o. ordering_then o (ordering_then (nat_cmp x.ends y.ends) (nat_cmp x.node y.node))) (class_cmp-is x.class y.class)

pub sorted_by_key : (keys : List Key) → IsSorted key_ghosts.cmp keys → IsSorted key_cmp keys
sorted_by_key keys up = λ k d low high.
    ap is_lt (sym (key_cmp-is (slice_index_or keys (k + 1) d) (slice_index_or keys k d))) ∙ up k d low high
