use Rattle.std.proofs.Common.{◌≡◌, ◌+◌, ◌≤◌, ◌∙◌, ◌-◌, All, List, ap, arith, get_or, length, subst, sym, take, ℕ}
use Rattle.std.proofs.lemmas.List.{get_or_default, length-take-le, take_all}
use Rattle.std.proofs.lemmas.List.Elements.{All-get_or}
use Rattle.std.proofs.lemmas.List.Sums.{count_by-le-length}
use Rattle.emtp_case.specs.Channel.{is_status}
use Rattle.emtp_case.specs.declared.channel.Channel.{Channel}
use Rattle.emtp_case.specs.held.Channel.{IsChannel}
use Rattle.emtp_case.specs.held.Sizes.{sizes_of}
use Rattle.emtp_listing.specs.ChannelLines.{channel_line, states_upto}
use Rattle.emtp_listing.specs.Lines.{lines_text, numbered}
use Rattle.emtp_listing.proofs.Chains.{retext}
use Rattle.emtp_listing.proofs.Loops.{number-more, states-with, states-without}
use Rattle.emtp_listing.proofs.channel.put_channels.Goals.{then-is_status, else-is_status}
use Rattle.emtp_listing.proofs.channel.put_channels.Goals as goal

counted : (c : goal.After-put_channel-arg-1) → c.if-is_status.states ≡ states_upto c.args.case.now.parts.channels c.loop-channel.number
counted c =
    let channels = c.args.case.now.parts.channels in
    let items = c.as_slice-channel-items.result.now in
    let at = c.loop-channel.channel-index in
    let upto : c.if-is_status.states ≡ states_upto channels (at + 1) = elim c.if-is_status.branch [
      | then-is_status w ↦ states-with channels items at c.loop-channel.states c.if-is_status.states _ c.as_slice-channel-items.ensures c.loop-channel-test.true
          c.loop-channel.invariant.states (sym w.if-is_status.ensures) w.states-is
      | else-is_status w ↦ states-without channels items at c.loop-channel.states c.if-is_status.states _ c.as_slice-channel-items.ensures c.loop-channel-test.true
          c.loop-channel.invariant.states (sym w.if-is_status.ensures) w.states-is
    ] in
    upto ∙ ap (states_upto channels) (sym c.loop-channel.invariant.number)

pub put_channel-requires-clause-some : goal.put_channel-requires-clause-some
put_channel-requires-clause-some c = omega (arith, c.loop-channel.invariant.number)

pub put_channel-requires-clause-there : goal.put_channel-requires-clause-there
put_channel-requires-clause-there c = omega (arith, c.loop-channel.invariant.number, c.loop-channel-test.true, ap length c.as_slice-channel-items.ensures)

pub put_channel-requires-clause-is : goal.put_channel-requires-clause-is
put_channel-requires-clause-is c = λ d.
    let channels = c.args.case.now.parts.channels in
    let at = c.loop-channel.channel-index in
    let here : c.loop-channel.number - 1 ≡ at = omega (arith, c.loop-channel.invariant.number) in
    ap (λ (k : ℕ). get_or channels k d) here ∙ ap (λ (cs : List Channel). get_or cs at d) (sym c.as_slice-channel-items.ensures)
    ∙ get_or_default c.as_slice-channel-items.result.now at d _ c.loop-channel-test.true

pub put_channel-requires-clause-states : goal.put_channel-requires-clause-states
put_channel-requires-clause-states c = counted c

pub put_channel-requires-clause-few : goal.put_channel-requires-clause-few
put_channel-requires-clause-few c =
    let channels = c.args.case.now.parts.channels in
    let there = put_channel-requires-clause-there c in
    omega (arith, counted c, count_by-le-length is_status (take c.loop-channel.number channels), length-take-le c.loop-channel.number channels there)

pub put_channel-requires-clause-channel : goal.put_channel-requires-clause-channel
put_channel-requires-clause-channel c =
    let p = c.args.case.now.parts in
    All-get_or (IsChannel (sizes_of p)) c.as_slice-channel-items.result.now c.loop-channel.channel-index _ c.loop-channel-test.true
    (subst (All (IsChannel (sizes_of p))) (sym c.as_slice-channel-items.ensures) c.args.case.now.fits.draft.channels)

pub overflow_add-number : goal.overflow_add-number
overflow_add-number c = omega (arith, c.loop-channel.invariant.number, c.loop-channel-test.true, ap length c.as_slice-channel-items.ensures, c.args.case.now.fits.draft.counts.channels)

pub overflow_add-states : goal.overflow_add-states
overflow_add-states c =
    let channels = c.args.case.now.parts.channels in
    let at = c.loop-channel.channel-index in
    let within : at ≤ length channels = omega (arith, c.loop-channel-test.true, ap length c.as_slice-channel-items.ensures) in
    omega (arith, c.loop-channel.invariant.states, count_by-le-length is_status (take at channels), length-take-le at channels within, within, c.args.case.now.fits.draft.counts.channels)

pub loop-channel-preserved : goal.loop-channel-preserved
loop-channel-preserved c = record {
  number = omega (arith, c.loop-channel.invariant.number);
  states =
      let channels = c.args.case.now.parts.channels in
      let items = c.as_slice-channel-items.result.now in
      elim c.if-is_status.branch [
        | then-is_status w ↦ states-with channels items c.loop-channel.channel-index c.loop-channel.states c.if-is_status.states _ c.as_slice-channel-items.ensures c.loop-channel-test.true
            c.loop-channel.invariant.states (sym w.if-is_status.ensures) w.states-is
        | else-is_status w ↦ states-without channels items c.loop-channel.channel-index c.loop-channel.states c.if-is_status.states _ c.as_slice-channel-items.ensures c.loop-channel-test.true
            c.loop-channel.invariant.states (sym w.if-is_status.ensures) w.states-is
      ];
  text = number-more (channel_line c.args.case.now.parts) c.args.case.now.parts.channels c.as_slice-channel-items.result.now c.loop-channel.channel-index 1 c.loop-channel.number _
      c.as_slice-channel-items.ensures c.loop-channel-test.true c.loop-channel.invariant.number c.loop-channel.invariant.text c.in_ok-put_channel.ensures c.in_ok-put_end.ensures;
}

pub returns : goal.returns
returns c =
    let p = c.args.case.now.parts in
    let all = take_all c.loop-channel.channel-index p.channels (omega (arith, c.loop-channel-test.false, ap length c.as_slice-channel-items.ensures)) in
    retext (ap (λ (cs : List Channel). lines_text (numbered (channel_line p) 1 cs)) all) c.loop-channel.invariant.text
