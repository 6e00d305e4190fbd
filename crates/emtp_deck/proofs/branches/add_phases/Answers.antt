use Rattle.emtp_case.specs.declared.limit.TheConstants.{MOST_HISTORY_VALUES}
use Rattle.std.proofs.Common.{◌+◌, ◌∙◌, ◌≤◌, subst, sym}
use Rattle.emtp_case.specs.HistoryValues.{history_values_of, trio_history_values}
use Rattle.emtp_case.specs.held.Branch.{IsTrio}
use Rattle.emtp_deck.proofs.Modes.{some_none, some_same}
use Rattle.emtp_deck.proofs.branches.add_phases.Goals as goal

pub add_trio-requires : goal.add_trio-requires
add_trio-requires c =
    let p = c.args.draft.now.parts in
    let h = c.requires.numbers in
    let same = some_same _ h.modes c.in-Some.modes h.are (sym c.modes_for.ensures ∙ c.in-Some.is) in
    record {
      room = c.requires.room;
      a = c.requires.a;
      b = c.requires.b;
      c = c.requires.c;
      modes = subst (IsTrio p.run) same h.range;
      history = subst (λ t. history_values_of p + trio_history_values p.run.dt t ≤ MOST_HISTORY_VALUES) same h.history;
    }

pub returns-in-None : goal.returns-in-None
returns-in-None c = absurd (some_none _ c.requires.numbers.modes c.requires.numbers.are (sym c.modes_for.ensures ∙ c.in-None.is))
