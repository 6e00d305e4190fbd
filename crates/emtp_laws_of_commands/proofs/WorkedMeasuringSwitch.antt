-- `run measuring_switch.case measuring_switch.cfg measuring_switch.dat` over the bytes of cases/network/measuring_switch, from the words to each byte that
-- is written, by computation. cases/scripts/worked writes this file.
use Rattle.std.proofs.Common.{◌≡◌, ◌++◌, refl, ℕ, List, [], ◌∷◌, Option, Some, None, if◌then◌else◌}
use Rattle.std.specs.Fmt as fmt
use Rattle.std.specs.Prelude.{codes}
use Rattle.std.specs.Str.{bytes_eq}
use Rattle.emtp_io.specs.declared.cabinet.Output.TheVariants.{Cfg, Dat, Note}
use Rattle.emtp_run.specs.Command.{outcome}
use Rattle.emtp_run.specs.Outcome.{Outcome}
use Rattle.emtp_run.specs.declared.status.Status.TheVariants.{Done}
use Rattle.emtp_fix.specs.Decimal as fix_decimal
use Rattle.emtp_fix.specs.Root as fix_root
use Rattle.emtp_fix.specs.Rounding as fix_rounding
use Rattle.emtp_elim.specs.Elimination as elim_elimination
use Rattle.emtp_elim.specs.Fault as elim_fault
use Rattle.emtp_elim.specs.Outcome as elim_outcome
use Rattle.emtp_tail.specs.Good as tail_good
use Rattle.emtp_tail.specs.Redone as tail_redone
use Rattle.emtp_case.specs.Branch as case_branch
use Rattle.emtp_card.specs.Cards as card_cards
use Rattle.emtp_card.specs.Decimal as card_decimal
use Rattle.emtp_card.specs.Fault as card_fault
use Rattle.emtp_card.specs.Field as card_field
use Rattle.emtp_card.specs.Lines as card_lines
use Rattle.emtp_card.specs.Name as card_name
use Rattle.emtp_card.specs.Number as card_number
use Rattle.emtp_card.specs.Numeral as card_numeral
use Rattle.emtp_card.specs.Whole as card_whole
use Rattle.emtp_netcards.specs.BranchCard as netcards_branchcard
use Rattle.emtp_netcards.specs.Fields as netcards_fields
use Rattle.emtp_netcards.specs.LineValues as netcards_linevalues
use Rattle.emtp_netcards.specs.OutputCard as netcards_outputcard
use Rattle.emtp_netcards.specs.PointCard as netcards_pointcard
use Rattle.emtp_netcards.specs.RunCards as netcards_runcards
use Rattle.emtp_netcards.specs.SeriesValues as netcards_seriesvalues
use Rattle.emtp_netcards.specs.SourceCard as netcards_sourcecard
use Rattle.emtp_netcards.specs.SwitchCard as netcards_switchcard
use Rattle.emtp_expr.specs.Parsing as expr_parsing
use Rattle.emtp_expr.specs.Pending as expr_pending
use Rattle.emtp_expr.specs.Reading as expr_reading
use Rattle.emtp_expr.specs.Value as expr_value
use Rattle.emtp_expr.specs.Words as expr_words
use Rattle.emtp_taccards.specs.BlockCard as taccards_blockcard
use Rattle.emtp_taccards.specs.DeviceCard as taccards_devicecard
use Rattle.emtp_taccards.specs.ExtraCard as taccards_extracard
use Rattle.emtp_taccards.specs.FormulaCard as taccards_formulacard
use Rattle.emtp_taccards.specs.Group as taccards_group
use Rattle.emtp_taccards.specs.Inputs as taccards_inputs
use Rattle.emtp_taccards.specs.PolynomialCard as taccards_polynomialcard
use Rattle.emtp_taccards.specs.TacsOutputCard as taccards_tacsoutputcard
use Rattle.emtp_taccards.specs.TacsSourceCard as taccards_tacssourcecard
use Rattle.emtp_walk.specs.Coefficients as walk_coefficients
use Rattle.emtp_walk.specs.ControlSteps as walk_controlsteps
use Rattle.emtp_walk.specs.Walk as walk_walk
use Rattle.emtp_sense.specs.ControlSense as sense_controlsense
use Rattle.emtp_deck.specs.Branches as deck_branches
use Rattle.emtp_deck.specs.Deck as deck_deck
use Rattle.emtp_deck.specs.Outputs as deck_outputs
use Rattle.emtp_deck.specs.Sources as deck_sources
use Rattle.emtp_deck.specs.Switches as deck_switches
use Rattle.emtp_lumped.specs.Step as lumped_step
use Rattle.emtp_line.specs.Line as line_line
use Rattle.emtp_line.specs.Phases as line_phases
use Rattle.emtp_line.specs.Wave as line_wave
use Rattle.emtp_pseudo.specs.Segment as pseudo_segment
use Rattle.emtp_pseudo.specs.Step as pseudo_step
use Rattle.emtp_wave.specs.Cosine as wave_cosine
use Rattle.emtp_wave.specs.Wave as wave_wave
use Rattle.emtp_rows.specs.Nodal as rows_nodal
use Rattle.emtp_blocks.specs.Block as blocks_block
use Rattle.emtp_blocks.specs.System as blocks_system
use Rattle.emtp_devices.specs.Device as devices_device
use Rattle.emtp_net.specs.Part as net_part
use Rattle.emtp_net.specs.Step as net_step
use Rattle.emtp_net.specs.System as net_system
use Rattle.emtp_tacs.specs.Step as tacs_step
use Rattle.emtp_machine.specs.Channels as machine_channels
use Rattle.emtp_machine.specs.End as machine_end
use Rattle.emtp_machine.specs.History as machine_history
use Rattle.emtp_machine.specs.Next as machine_next
use Rattle.emtp_comtrade.specs.Multiplier as comtrade_multiplier
use Rattle.emtp_comtrade.specs.Record as comtrade_record
use Rattle.emtp_run.specs.Note as run_note
use Rattle.emtp_run.specs.Reading as run_reading
use Rattle.emtp_run.specs.Summary as run_summary
use Rattle.emtp_run.specs.TrialDeck as run_trialdeck

-- ---- the bytes of the files

case_bytes : List ℕ
case_bytes =
    codes "BEGIN NEW DATA CASE\n"
    ++ codes "   1.E-4   2.E-4\n"
    ++ codes "       1       1\n"
    ++ codes "  SRC   A                     1.\n"
    ++ codes "  B                           1.\n"
    ++ codes "BLANK\n"
    ++ codes "  A     B                                             MEASURING                3\n"
    ++ codes "BLANK\n"
    ++ codes "11SRC           100.\n"
    ++ codes "BLANK\n"
    ++ codes "BLANK\n"

end_line : List ℕ
end_line = 13 ∷ 10 ∷ []

cfg_bytes : List ℕ
cfg_bytes =
    codes "EMTP,CASE,1999" ++ end_line
    ++ codes "3,2A,1D" ++ end_line
    ++ codes "1,I A-B,,,A,0.002,0,0,-32767,32767,1,1,P" ++ end_line
    ++ codes "2,U A-B,,,V,0.000000001,0,0,-32767,32767,1,1,P" ++ end_line
    ++ codes "1,S A-B,,,0" ++ end_line
    ++ codes "60" ++ end_line
    ++ codes "0" ++ end_line
    ++ codes "0,3" ++ end_line
    ++ codes "01/01/2000,00:00:00.000000" ++ end_line
    ++ codes "01/01/2000,00:00:00.000000" ++ end_line
    ++ codes "ASCII" ++ end_line
    ++ codes "100" ++ end_line

dat_bytes : List ℕ
dat_bytes =
    codes "1,0,0,0,1" ++ end_line
    ++ codes "2,1,25000,0,1" ++ end_line
    ++ codes "3,2,25000,0,1" ++ end_line
    ++ 26 ∷ []

note_bytes : List ℕ
note_bytes =
    codes "DONE STEPS 2 SAMPLES 3 REDONE 0\n"

-- the one file that is there
files : List ℕ → Option (List ℕ)
files name = if bytes_eq name (codes "measuring_switch.case") then Some case_bytes else None

words : List (List ℕ)
words = codes "run" ∷ codes "measuring_switch.case" ∷ codes "measuring_switch.cfg" ∷ codes "measuring_switch.dat" ∷ []

made : Outcome
made = record {
  status = Done;
  writes =
      record { out = Cfg; name = codes "measuring_switch.cfg"; bytes = cfg_bytes }
      ∷ record { out = Dat; name = codes "measuring_switch.dat"; bytes = dat_bytes }
      ∷ record { out = Note; name = []; bytes = note_bytes }
      ∷ [];
}

whole : outcome words files ≡ Some made
unfolding fmt.digits case_bytes end_line cfg_bytes dat_bytes note_bytes files words made fix_decimal.fraction fix_decimal.fixed_text fix_root.root_upto fix_root.isqrt fix_rounding.near_abs fix_rounding.near elim_elimination.stage elim_elimination.stage_right elim_elimination.last_unknowns elim_fault.row_fault elim_fault.right_fault elim_fault.unknown_fault elim_outcome.outcome tail_good.first_change tail_redone.rows_next case_branch.capacitor_impedance card_cards.line_past_count card_cards.line_past_bytes card_cards.size_fault card_decimal.value_in card_fault.least card_field.columns card_field.trimmed card_lines.lines_of card_lines.is_comment card_lines.is_section_end card_lines.fault_of_line card_name.name_field card_number.number_in card_number.number_field card_number.held_field card_number.read_number_of card_number.held_number card_numeral.limited_whole card_numeral.exponent_of card_numeral.decimal_of card_whole.whole_in card_whole.whole_field netcards_branchcard.copies_of netcards_branchcard.resistor_values netcards_branchcard.fields_of netcards_branchcard.branch_card netcards_fields.ends_field netcards_linevalues.line_values netcards_outputcard.name_list netcards_outputcard.fields_of netcards_outputcard.output_card netcards_pointcard.enough netcards_pointcard.room_for netcards_pointcard.first_by netcards_pointcard.second_by netcards_pointcard.point_after netcards_pointcard.next_read netcards_pointcard.next_point netcards_runcards.tolerance_card netcards_runcards.steps_of netcards_runcards.first_fields netcards_runcards.first_card netcards_runcards.second_fields netcards_runcards.second_card netcards_seriesvalues.series_values netcards_sourcecard.phase_of netcards_sourcecard.ramp_of netcards_sourcecard.cosine_numbers netcards_sourcecard.cosine_of netcards_sourcecard.active_times netcards_sourcecard.fields_of netcards_sourcecard.source_card netcards_switchcard.times_of netcards_switchcard.valve_of netcards_switchcard.fields_of netcards_switchcard.switch_card expr_parsing.expression_of expr_pending.settle expr_reading.with_operator expr_reading.take_close expr_reading.take_next expr_value.unary expr_value.binary expr_value.value expr_words.dotted expr_words.fraction_length expr_words.mantissa_length expr_words.sign_length expr_words.power_length expr_words.exponent_length expr_words.number_length expr_words.name_length expr_words.name_word expr_words.mark expr_words.word_at expr_words.words_from expr_words.words_of taccards_blockcard.order_and_name taccards_blockcard.limits_of taccards_blockcard.fields_of taccards_blockcard.block_card taccards_devicecard.coded_by taccards_devicecard.plain_fields taccards_devicecard.variables_of taccards_devicecard.fields_of taccards_devicecard.device_card taccards_extracard.extra_card taccards_formulacard.fields_of taccards_formulacard.formula_card taccards_group.head_of taccards_inputs.input taccards_inputs.four_inputs taccards_inputs.inputs taccards_polynomialcard.taken_by taccards_polynomialcard.pair_of taccards_polynomialcard.four_of taccards_polynomialcard.coefficients taccards_polynomialcard.polynomial_card taccards_tacsoutputcard.fields_of taccards_tacsoutputcard.tacs_output_card taccards_tacssourcecard.level_of taccards_tacssourcecard.cosine_of taccards_tacssourcecard.pulse_of taccards_tacssourcecard.saw_of taccards_tacssourcecard.fields_of taccards_tacssourcecard.tacs_source_card walk_coefficients.divided_bad walk_controlsteps.block_step walk_controlsteps.numerator_step walk_controlsteps.denominator_step walk_controlsteps.tacs_source_step walk_controlsteps.extra_step walk_controlsteps.device_point_step walk_controlsteps.tacs_output_step walk_controlsteps.initial_place walk_walk.begin_place walk_walk.after_place walk_walk.tolerance_step walk_walk.times_step walk_walk.first_step walk_walk.second_step walk_walk.card_step walk_walk.branch_step walk_walk.waiting_step walk_walk.third_step walk_walk.point_step walk_walk.switch_step walk_walk.source_step walk_walk.output_step walk_walk.start_step sense_controlsense.block_sense sense_controlsense.tacs_source_sense sense_controlsense.device_sense sense_controlsense.formula_sense sense_controlsense.control_bad deck_branches.card_fault deck_branches.take_entry deck_deck.deck_case deck_deck.deck_of deck_outputs.take_known_name deck_outputs.take_all_nodes deck_sources.take_source deck_switches.take_switch lumped_step.next_state line_line.line_state line_phases.phase_state line_wave.end_of pseudo_segment.segment_of pseudo_step.next_state wave_cosine.direction wave_cosine.in_quarter wave_wave.active_value rows_nodal.nodal_matrix blocks_block.next_state blocks_system.control_matrix blocks_system.right blocks_system.outputs blocks_system.states_after devices_device.next_state net_part.voltages_of net_part.part_at net_step.network_part net_system.right tacs_step.control_step machine_channels.samples_in machine_end.cause_text machine_history.history_upto machine_next.next comtrade_multiplier.multiplier_from comtrade_multiplier.multiplier_of comtrade_record.analog_line comtrade_record.status_line comtrade_record.analog_line_at comtrade_record.status_line_at comtrade_record.cfg_head comtrade_record.cfg_tail comtrade_record.cfg_text comtrade_record.raw_at comtrade_record.state_at comtrade_record.dat_line comtrade_record.dat_text run_note.usage_note run_note.card_note run_note.row_note run_note.done_text run_note.ended_note run_reading.deck run_summary.sums_text run_summary.trial_head run_summary.trial_summary run_trialdeck.node_name run_trialdeck.head_cards run_trialdeck.section_cards run_trialdeck.tail_cards run_trialdeck.trial_cards
whole = refl
