-- What is known of the calls that a walk over cards makes.
use Rattle.std.specs.Borrow.{Bor}
use Rattle.std.specs.Fn.{FnReturnsAt, Shared}
use Rattle.std.specs.Prelude.{◌≡◌}

-- a call at a card answers what f says of it
abbrev pub AnswersBy : {F X R : Type 0} → Shared F (Bor X × Unit {0}) R → F → (X → R) → Type 0
AnswersBy calls closure f = (x : _) (answer : _) → FnReturnsAt calls closure x answer → answer ≡ f x
