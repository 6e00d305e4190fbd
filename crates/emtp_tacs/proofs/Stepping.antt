-- A step, from what its stages answer.
use Rattle.emtp_case.specs.declared.limit.TheConstants.{MOST_CONTROL_CARDS}
use Rattle.std.proofs.Common.{◌≡◌, ◌∙◌, sym, ap, subst, refl, ℕ, ◌+◌, ◌-◌, ◌==◌, ◌<◌, ◌≤◌, ◌++◌, if◌then◌else◌, List, length, Result, Ok, Err, IsErrAnd, OnOk, arith}
use Rattle.std.proofs.lemmas.Result.{err_from_is_err_and}
use Rattle.emtp_blocks.proofs.Matrices.{length-control_matrix}
use Rattle.emtp_blocks.specs.System.{limiters_of, matrix}
use Rattle.emtp_case.specs.StepRecord.{StepRecord}
use Rattle.emtp_case.specs.declared.case.Parts.{Parts}
use Rattle.emtp_tail.proofs.RedoneRows.{matrix_before_is, rows_counted, rows_ticked, rows_ticked_most}
use Rattle.emtp_tail.specs.Good.{first_change}
use Rattle.emtp_blocks.specs.held.BlockRows.{rows_of_blocks}
use Rattle.emtp_tacs.proofs.Systems.{rows_are}
use Rattle.emtp_tacs.specs.Part.{ControlPart}
use Rattle.emtp_tacs.specs.held.Stages.{Advances, HoldsSystem, VariablesStandFor, capacities_of_system, capacities_of_variables}
use Rattle.emtp_tacs.specs.held.Tacs.{AreFew, HasCounted, HasEliminated, HeldControl, MakesStep, StandsFor, StepsTo, TicksStep, capacities_of}
use Rattle.emtp_tacs.specs.declared.block_system.BlockSystem.{BlockSystem}
use Rattle.emtp_tacs.specs.declared.fault.TacsFault.{TacsFault}
use Rattle.emtp_tacs.specs.declared.variables.Variables.{Variables}
use Rattle.emtp_tacs.specs.Redone.{control_redone, control_step_redone}
use Rattle.emtp_tacs.specs.Step.{Measured, control_step}
use Rattle.emtp_tacs.specs.held.Redone.{control_step_ticks, last_control_matrix}

-- what a contract sees of these fields
abbrev pub held_of : Parts → Variables → BlockSystem → ℕ → HeldControl
held_of case v s made = record { case = case; blocks = s.blocks; devices = v.devices; kept = s.kept; values = v.values.items; made = made; redone = s.redone; capacities = capacities_of v s }

-- a control as it is seen before a step, and the first row of its next matrix that changed
pub record HasBegun (now : HeldControl) (case : Parts) (v : Variables) (s : BlockSystem) (made first : ℕ) : Type 0 where
  pub seen : held_of case v s made ≡ now
  pub case_is : s.blocks.case ≡ case
  pub first_is : first ≡ first_change s.kept.rows (rows_of_blocks s.blocks)

-- the rows redone are counted, but for those of the first step
abbrev pub AreCounted : Parts → ℕ → ℕ → ℕ → ℕ → Type 0
AreCounted case made first before after = after ≡ before + (if made == 0 then 0 else length case.blocks - first)

-- what is known of a begun step, for the records for which the control stands
record Begun (case : Parts) (v : Variables) (s : BlockSystem) (made first : ℕ) (H : List StepRecord) : Type 0 where
  pub stood : StandsFor (held_of case v s made) H
  pub first_is : first ≡ first_change (last_control_matrix case H) (matrix case H)

begun : {now : HeldControl} (case : Parts) (v : Variables) (s : BlockSystem) (made first : ℕ) (H : List StepRecord) → HasBegun now case v s made first → StandsFor now H → Begun case v s made first H
begun case v s made first H b stands =
    let stood = subst (λ (t : HeldControl). StandsFor t H) (sym b.seen) stands in
    record {
      stood = stood;
      first_is = b.first_is ∙ ap (λ m. first_change m (rows_of_blocks s.blocks)) stood.kept ∙ ap (first_change (last_control_matrix case H)) (rows_are case s.blocks H b.case_is stood.blocks);
    }

redone_is : (case : Parts) (v : Variables) (s : BlockSystem) (made first redone : ℕ) (H : List StepRecord) → Begun case v s made first H → AreCounted case made first s.redone redone → redone ≡ s.redone + control_step_redone case H
redone_is case v s made first redone H b count = rows_counted (length case.blocks) (matrix case) H first made s.redone redone b.first_is b.stood.steps count

-- the variables of a control that stands for the records
pub variables_stand : (case : Parts) (v : Variables) (s : BlockSystem) (made : ℕ) (H : List StepRecord) → StandsFor (held_of case v s made) H → VariablesStandFor case v H
variables_stand case v s made H stands = record { devices = stands.devices; devices_count = stands.devices_count; values = stands.values }

-- ---- a step that is made, or ends in its later pass

steps_to : (case : Parts) (v w : Variables) (s t : BlockSystem) (made first : ℕ) (H : List StepRecord) (result : Result (Unit {0}) TacsFault) (part : Result ControlPart TacsFault) → Begun case v s made first H → HoldsSystem case t
    → AreCounted case made first s.redone t.redone → Advances result case H w t part → StepsTo result (held_of case w t (made + 1)) H part
steps_to case v w s t made first H (Ok u) (Ok part) b holds count made_so =
    λ r next.
    let all = made_so.variables_stand r next in
    record {
      blocks = made_so.blocks_stand r next;
      devices = all.devices;
      devices_count = all.devices_count;
      values = all.values;
      kept = made_so.kept ∙ sym (matrix_before_is (matrix case) H made r b.stood.steps);
      kept_size = holds.kept_size;
      steps = omega (arith, b.stood.steps);
      redone = redone_is case v s made first t.redone H b count ∙ ap (λ n. n + control_step_redone case H) b.stood.redone;
    }
steps_to case v w s t made first H (Ok u) (Err fault) b holds count made_so = absurd made_so
steps_to case v w s t made first H (Err e) (Ok part) b holds count made_so = absurd made_so
steps_to case v w s t made first H (Err e) (Err fault) b holds count made_so = (made_so, redone_is case v s made first t.redone H b count ∙ ap (λ n. n + control_step_redone case H) b.stood.redone)

pub makes : {now : HeldControl} (case : Parts) (v w : Variables) (s t : BlockSystem) (made first : ℕ) (m : Measured) (result : Result (Unit {0}) TacsFault) → HasBegun now case v s made first → HoldsSystem case t → AreCounted case made first s.redone t.redone
    → ((H : List StepRecord) → StandsFor (held_of case v s made) H → Advances result case H w t (control_step case H m)) → MakesStep result now (held_of case w t (made + 1)) m
makes case v w s t made first m result has holds count advances = λ H stands.
    let b = begun case v s made first H has stands in
    subst (λ (n : HeldControl). StepsTo result (held_of case w t (made + 1)) H (control_step n.case H m)) has.seen (steps_to case v w s t made first H result (control_step case H m) b holds count (advances H b.stood))

-- ---- a step that ends before

-- the fault is returned as it came
pub refuses : {now : HeldControl} (left : HeldControl) (case : Parts) (v : Variables) (s : BlockSystem) (made first : ℕ) (m : Measured) (result : Result (Unit {0}) TacsFault) (e : TacsFault) → HasBegun now case v s made first → left.case ≡ case
    → AreCounted case made first s.redone left.redone → IsErrAnd result (λ y. y ≡ e) → ((H : List StepRecord) → StandsFor (held_of case v s made) H → control_step case H m ≡ Err e) → MakesStep result now left m
refuses {now = now} left case v s made first m result e has same count is ends = λ H stands.
    let b = begun case v s made first H has stands in
    let reached : control_step now.case H m ≡ Err e = ap (λ (n : HeldControl). control_step n.case H m) (sym has.seen) ∙ ends H b.stood in
    let redone : left.redone ≡ control_redone left.case H + control_step_redone left.case H = omega (arith, redone_is case v s made first left.redone H b count, b.stood.redone, ap (λ (p : Parts). control_redone p H) same, ap (λ (p : Parts). control_step_redone p H) same) in
    let returned = err_from_is_err_and result is in
    subst (λ r. StepsTo r left H (control_step now.case H m)) (sym (returned.1 ∙ ap Err returned.2)) (subst (StepsTo (Err e) left H) (sym reached) (refl, redone))

-- ---- what is counted

-- the lists of a step that keeps those of the variables and those of the system are as they were
pub capacities_stay : {now : HeldControl} (case : Parts) (v : Variables) (s : BlockSystem) (made : ℕ) (variables system : List ℕ) → held_of case v s made ≡ now → variables ≡ capacities_of_variables v → system ≡ capacities_of_system s → variables ++ system ≡ now.capacities
capacities_stay case v s made variables system same of_variables of_system =
    ap (λ (ns : List ℕ). ns ++ system) of_variables ∙ ap (λ (ns : List ℕ). capacities_of_variables v ++ ns) of_system ∙ ap (λ (n : HeldControl). n.capacities) same

-- a step is counted, whatever follows once its changed rows are counted
pub counted : (s now left : HeldControl) (before after : ℕ) → s ≡ now → left.case ≡ s.case → left.made ≡ s.made + 1 → left.redone ≤ s.redone + MOST_CONTROL_CARDS → after ≤ before + MOST_CONTROL_CARDS → HasCounted now left before after
counted s now left before after same case made few few_ticks =
    subst (λ (n : HeldControl). HasCounted n left before after) same (record { case = case; made = made; few = few; few_ticks = few_ticks })

pub few_next : (case : Parts) (made old new : ℕ) → AreFew case made old → made < case.run.steps → new ≤ old + MOST_CONTROL_CARDS → AreFew case (made + 1) new
few_next case made old new few below more = record { made_few = omega (arith, below); redone_few = omega (arith, few.redone_few, more) }

-- ---- ticks

ticked_ok : (s : HeldControl) (H : List StepRecord) (first before after : ℕ) (result : Result (Unit {0}) TacsFault) → first ≡ first_change (last_control_matrix s.case H) (matrix s.case H)
    → OnOk result (after + first ≡ before + length s.case.blocks) → OnOk result (after ≡ before + control_step_ticks s.case H)
ticked_ok s H first before after (Ok u) is made = rows_ticked (length s.case.blocks) (matrix s.case) H first before after (length-control_matrix s.case (limiters_of s.case H)) is made
ticked_ok s H first before after (Err e) is made = tt

-- what a step eliminated, once the blocks were solved or refused
pub ticks : {now : HeldControl} (case : Parts) (v : Variables) (s : BlockSystem) (made first before after : ℕ) (result : Result (Unit {0}) TacsFault) → HasBegun now case v s made first → after + first ≤ before + length case.blocks
    → OnOk result (after + first ≡ before + length case.blocks) → TicksStep result now before after
ticks case v s made first before after result has most made_so = λ H stands.
    let b = begun case v s made first H has stands in
    subst (λ (n : HeldControl). HasEliminated result n.case H before after) has.seen (record {
      made = ticked_ok (held_of case v s made) H first before after result b.first_is made_so;
      most = rows_ticked_most (length case.blocks) (matrix case) H first before after b.first_is (omega (arith, most));
    })

pub ok_claims : (P : Type 0) (result : Result (Unit {0}) TacsFault) → P → OnOk result P
ok_claims P (Ok u) holds = holds
ok_claims P (Err e) holds = tt
