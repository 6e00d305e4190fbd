use Rattle.emtp_case.specs.declared.limit.TheConstants.{MOST_STORED_VALUES}
use Rattle.std.proofs.Common.{◌+◌, ◌*◌, ◌≤◌, ◌++◌, arith, length, length-append, ℕ}
use Rattle.std.proofs.Math.Nat.{mul-le-mul_right}
use Rattle.emtp_case.specs.RunData.{samples_of}
use Rattle.emtp_deck.specs.Made.{count_asked}
use Rattle.emtp_deck.proofs.reading.add_asked.Goals as goal

-- a part of the values that are stored
part : (a b n s : ℕ) → a + b ≤ n → n * s ≤ MOST_STORED_VALUES → (a + b) * s ≤ MOST_STORED_VALUES
part a b n s l h = let less : (a + b) * s ≤ n * s = mul-le-mul_right s l in omega (arith, less, h)

pub add_channels-requires-clause-stored : goal.add_channels-requires-clause-stored
add_channels-requires-clause-stored c =
    let a = c.args.asked.now in
    rw (c.as_slice.ensures, c.requires.empty) (part 0 (length a.outputs) (count_asked a) (samples_of c.args.draft.now.parts.run) (omega arith) c.requires.stored)

pub add_channels-requires-2-clause-stored : goal.add_channels-requires-2-clause-stored
add_channels-requires-2-clause-stored c =
    let a = c.args.asked.now in
    rw (c.as_slice-2.ensures, c.in_ok-add_channels.ensures.ok, c.as_slice.ensures, c.requires.empty)
    (part (length a.outputs) (length a.branches) (count_asked a) (samples_of c.args.draft.now.parts.run) (omega arith) c.requires.stored)

pub add_channels-requires-3-clause-stored : goal.add_channels-requires-3-clause-stored
add_channels-requires-3-clause-stored c =
    let a = c.args.asked.now in
    rw (c.as_slice-3.ensures, c.in_ok-add_channels-2.ensures.ok, c.as_slice-2.ensures, c.in_ok-add_channels.ensures.ok, c.as_slice.ensures, c.requires.empty)
    (part (length (a.outputs ++ a.branches)) (length a.switches) (count_asked a) (samples_of c.args.draft.now.parts.run) (omega (arith, length-append a.outputs a.branches)) c.requires.stored)

pub add_channels-requires-4-clause-stored : goal.add_channels-requires-4-clause-stored
add_channels-requires-4-clause-stored c =
    let a = c.args.asked.now in
    rw (c.as_slice-4.ensures, c.in_ok-add_channels-3.ensures.ok, c.as_slice-3.ensures, c.in_ok-add_channels-2.ensures.ok, c.as_slice-2.ensures, c.in_ok-add_channels.ensures.ok, c.as_slice.ensures, c.requires.empty)
    (part (length ((a.outputs ++ a.branches) ++ a.switches)) (length a.variables) (count_asked a) (samples_of c.args.draft.now.parts.run) (omega (arith, length-append a.outputs a.branches, length-append (a.outputs ++ a.branches) a.switches))
    c.requires.stored)

pub add_channels-requires-5-clause-stored : goal.add_channels-requires-5-clause-stored
add_channels-requires-5-clause-stored c =
    let a = c.args.asked.now in
    rw (
      c.as_slice-5.ensures,
      c.in_ok-add_channels-4.ensures.ok,
      c.as_slice-4.ensures,
      c.in_ok-add_channels-3.ensures.ok,
      c.as_slice-3.ensures,
      c.in_ok-add_channels-2.ensures.ok,
      c.as_slice-2.ensures,
      c.in_ok-add_channels.ensures.ok,
      c.as_slice.ensures,
      c.requires.empty,
    )
    (part (length (((a.outputs ++ a.branches) ++ a.switches) ++ a.variables)) (length a.statuses) (count_asked a) (samples_of c.args.draft.now.parts.run)
    (omega (arith, length-append a.outputs a.branches, length-append (a.outputs ++ a.branches) a.switches, length-append ((a.outputs ++ a.branches) ++ a.switches) a.variables)) c.requires.stored)

pub add_channels-requires-3-clause-room : goal.add_channels-requires-3-clause-room
add_channels-requires-3-clause-room c =
    let a = c.args.asked.now in
    rw (c.as_slice-3.ensures, c.in_ok-add_channels-2.ensures.ok, c.as_slice-2.ensures, c.in_ok-add_channels.ensures.ok, c.as_slice.ensures, c.requires.empty)
    (omega (arith, c.requires.few, length-append a.outputs a.branches))

pub add_channels-requires-4-clause-room : goal.add_channels-requires-4-clause-room
add_channels-requires-4-clause-room c =
    let a = c.args.asked.now in
    rw (c.as_slice-4.ensures, c.in_ok-add_channels-3.ensures.ok, c.as_slice-3.ensures, c.in_ok-add_channels-2.ensures.ok, c.as_slice-2.ensures, c.in_ok-add_channels.ensures.ok, c.as_slice.ensures, c.requires.empty)
    (omega (arith, c.requires.few, length-append a.outputs a.branches, length-append (a.outputs ++ a.branches) a.switches))

pub add_channels-requires-4-clause-fits : goal.add_channels-requires-4-clause-fits
add_channels-requires-4-clause-fits c =
    rw (c.as_slice-4.ensures, c.in_ok-add_channels-3.ensures.ok, c.in_ok-add_channels-2.ensures.ok, c.in_ok-add_channels.ensures.ok)
    c.requires.there.variables

pub add_channels-requires-5-clause-room : goal.add_channels-requires-5-clause-room
add_channels-requires-5-clause-room c =
    let a = c.args.asked.now in
    rw (
      c.as_slice-5.ensures,
      c.in_ok-add_channels-4.ensures.ok,
      c.as_slice-4.ensures,
      c.in_ok-add_channels-3.ensures.ok,
      c.as_slice-3.ensures,
      c.in_ok-add_channels-2.ensures.ok,
      c.as_slice-2.ensures,
      c.in_ok-add_channels.ensures.ok,
      c.as_slice.ensures,
      c.requires.empty,
    )
    (omega (arith, c.requires.few, length-append a.outputs a.branches, length-append (a.outputs ++ a.branches) a.switches, length-append ((a.outputs ++ a.branches) ++ a.switches) a.variables))

pub add_channels-requires-5-clause-fits : goal.add_channels-requires-5-clause-fits
add_channels-requires-5-clause-fits c =
    rw (c.as_slice-5.ensures, c.in_ok-add_channels-4.ensures.ok, c.in_ok-add_channels-3.ensures.ok, c.in_ok-add_channels-2.ensures.ok, c.in_ok-add_channels.ensures.ok)
    c.requires.there.statuses
