use Rattle.std.proofs.Common.{rules, inl, inr, refl, subst, List, ℕ, Option, None, Some}
use Rattle.emtp_io.specs.Cabinet.{CabinetState}
use Rattle.emtp_inspect.specs.Showing.{Explains}
use Rattle.emtp_run.specs.declared.status.Status.TheVariants.{NoMemory}
use Rattle.emtp_inspect.proofs.showing.explain.Goals as goal

pub returns-in-Ok-None : goal.returns-in-Ok-None
returns-in-Ok-None g c = subst (λ (meaning : Option (List ℕ)). Explains meaning c.refuse_words.result (g.C.Cabinet.state c.args.cabinet.now) (g.C.Cabinet.state c.refuse_words.new.cabinet)) (rw c.in-Ok-None.field-0-is at c.in-Ok-None.ensures) (inl c.refuse_words.ensures)

-- where memory is wanting nothing was done, whatever the words mean
nothing_done : (meaning : Option (List ℕ)) → (state : CabinetState) → Explains meaning NoMemory state state
nothing_done None state = inr (refl, refl)
nothing_done (Some text) state = search rules

pub returns-in-Err : goal.returns-in-Err
returns-in-Err g c = nothing_done _ (g.C.Cabinet.state c.args.cabinet.now)
