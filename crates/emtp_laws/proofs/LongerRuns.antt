-- How many steps a case has doesn't matter for any of them.
use Rattle.std.proofs.Common.{◌≡◌, ◌≤◌, ℕ, refl, arith}
use Rattle.emtp_case.specs.declared.case.Parts.{Parts}
use Rattle.emtp_machine.specs.History.{history_upto}
use Rattle.emtp_laws.specs.Runs.{with_steps}
use Rattle.emtp_laws.proofs.AlikeRows.{Other}
use Rattle.emtp_laws.proofs.AlikeRuns.{history_alike}
use Rattle.emtp_laws.proofs.AlikeSteps.{next_same}

-- the same sources
abbrev pub same_sources : Parts → ℕ → Other
same_sources case m = record { dt = case.run.dt; steps = m; sources = case.sources; tacs_sources = case.tacs_sources }

pub history_same : (case : Parts) (m n : ℕ) → history_upto (with_steps m case) n ≡ history_upto case n
history_same case m n =
    let all : n ≤ n = omega arith in
    let o = same_sources case m in
    history_alike case o n (λ H some few. next_same case o H (record { dt = refl; known = refl; feed = refl; into = refl; held = refl; control = λ m s. refl })) n all
