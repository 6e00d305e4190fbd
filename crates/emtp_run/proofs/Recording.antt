-- The outputs of a run, made from its results.
use Rattle.std.proofs.Common.{◌≡◌, subst, ℕ, List, [], ◌∷◌, Result, Ok, Err, IsErr}
use Rattle.std.specs.Prelude.{ℤ}
use Rattle.emtp_case.specs.declared.case.Parts.{Parts}
use Rattle.emtp_io.specs.Cabinet.{CabinetState}
use Rattle.emtp_io.specs.held.Writes.{Makes}
use Rattle.emtp_io.proofs.Making.{makes-append, makes-front}
use Rattle.emtp_machine.specs.History.{History, samples}
use Rattle.emtp_run.specs.Outcome.{cfg, dat, note, record_writes}
use Rattle.emtp_run.specs.Texts.{run_note}
use Rattle.emtp_run.specs.Words.{RunFiles}

-- the configuration couldn't be made whole
pub stopped-in-cfg : {T E T' E' : Type 0} {old new : CabinetState} {fault : E} (files : RunFiles) (case : Parts) (h : History) (rows : List (List ℤ)) (result : Result T' E')
    → IsErr result → rows ≡ samples case h → Makes {T = T} {E = E} old new (cfg files.cfg case rows ∷ []) (Err fault) → Makes old new (record_writes files case h) result
stopped-in-cfg {T = T} {E = E} {old = old} {new = new} {fault = fault} files case h rows result err are first =
    makes-front (dat files.dat case (samples case h) ∷ note (run_note case h) ∷ []) result err
    (subst (λ (xs : List (List ℤ)). Makes {T = T} {E = E} old new (cfg files.cfg case xs ∷ []) (Err fault)) are first)

-- it is whole, and the data couldn't be made so
pub stopped-in-dat : {S F T E T' E' : Type 0} {old mid new : CabinetState} {value : S} {fault : E} (files : RunFiles) (case : Parts) (h : History) (rows : List (List ℤ)) (result : Result T' E')
    → IsErr result → rows ≡ samples case h → Makes {T = S} {E = F} old mid (cfg files.cfg case rows ∷ []) (Ok value)
    → Makes {T = T} {E = E} mid new (dat files.dat case rows ∷ []) (Err fault) → Makes old new (record_writes files case h) result
stopped-in-dat {old = old} {new = new} files case h rows result err are first second =
    subst (λ (xs : List (List ℤ)). Makes old new (cfg files.cfg case xs ∷ dat files.dat case xs ∷ note (run_note case h) ∷ []) result) are
    (makes-append (((λ same. cc), ((λ same. cc), tt)), tt) first (makes-front (note (run_note case h) ∷ []) result err second))

-- both are whole, and the note was written or not
pub record-made : {S F T E T' E' : Type 0} {old mid last new : CabinetState} {value : S} {other : T} {result : Result T' E'} (files : RunFiles) (case : Parts) (h : History) (rows : List (List ℤ)) (text : List ℕ)
    → rows ≡ samples case h → text ≡ run_note case h → Makes {T = S} {E = F} old mid (cfg files.cfg case rows ∷ []) (Ok value)
    → Makes {T = T} {E = E} mid last (dat files.dat case rows ∷ []) (Ok other) → Makes last new (note text ∷ []) result → Makes old new (record_writes files case h) result
record-made {old = old} {new = new} {result = result} files case h rows text are is first second third =
    subst (λ (xs : List (List ℤ)). Makes old new (cfg files.cfg case xs ∷ dat files.dat case xs ∷ note (run_note case h) ∷ []) result) are
    (subst (λ (t : List ℕ). Makes old new (cfg files.cfg case rows ∷ dat files.dat case rows ∷ note t ∷ []) result) is
    (makes-append (((λ same. cc), ((λ same. cc), tt)), tt) first (makes-append (((λ same. cc), tt), tt) second third)))
