-- `run resonance_at_20_steps_a_period.case resonance_at_20_steps_a_period.cfg resonance_at_20_steps_a_period.dat` over the bytes of examples/resonance_at_20_steps_a_period, from the words to each byte that
-- is written, by computation. cases/scripts/worked writes this file.
use Rattle.std.proofs.Common.{◌≡◌, ◌++◌, refl, ℕ, List, [], ◌∷◌, Option, Some, None, if◌then◌else◌}
use Rattle.std.specs.Fmt as fmt
use Rattle.std.specs.Prelude.{codes}
use Rattle.std.specs.Str.{bytes_eq}
use Rattle.emtp_io.specs.declared.cabinet.Output.TheVariants.{Cfg, Dat, Note}
use Rattle.emtp_run.specs.Command.{outcome}
use Rattle.emtp_run.specs.Outcome.{Outcome}
use Rattle.emtp_run.specs.declared.status.Status.TheVariants.{Done}
use Rattle.emtp_fix.specs.Decimal as fix_decimal
use Rattle.emtp_fix.specs.Root as fix_root
use Rattle.emtp_fix.specs.Rounding as fix_rounding
use Rattle.emtp_elim.specs.Elimination as elim_elimination
use Rattle.emtp_elim.specs.Fault as elim_fault
use Rattle.emtp_elim.specs.Outcome as elim_outcome
use Rattle.emtp_tail.specs.Good as tail_good
use Rattle.emtp_tail.specs.Redone as tail_redone
use Rattle.emtp_case.specs.Branch as case_branch
use Rattle.emtp_card.specs.Cards as card_cards
use Rattle.emtp_card.specs.Decimal as card_decimal
use Rattle.emtp_card.specs.Fault as card_fault
use Rattle.emtp_card.specs.Field as card_field
use Rattle.emtp_card.specs.Lines as card_lines
use Rattle.emtp_card.specs.Name as card_name
use Rattle.emtp_card.specs.Number as card_number
use Rattle.emtp_card.specs.Numeral as card_numeral
use Rattle.emtp_card.specs.Whole as card_whole
use Rattle.emtp_netcards.specs.BranchCard as netcards_branchcard
use Rattle.emtp_netcards.specs.Fields as netcards_fields
use Rattle.emtp_netcards.specs.LineValues as netcards_linevalues
use Rattle.emtp_netcards.specs.OutputCard as netcards_outputcard
use Rattle.emtp_netcards.specs.PointCard as netcards_pointcard
use Rattle.emtp_netcards.specs.RunCards as netcards_runcards
use Rattle.emtp_netcards.specs.SeriesValues as netcards_seriesvalues
use Rattle.emtp_netcards.specs.SourceCard as netcards_sourcecard
use Rattle.emtp_netcards.specs.SwitchCard as netcards_switchcard
use Rattle.emtp_expr.specs.Parsing as expr_parsing
use Rattle.emtp_expr.specs.Pending as expr_pending
use Rattle.emtp_expr.specs.Reading as expr_reading
use Rattle.emtp_expr.specs.Value as expr_value
use Rattle.emtp_expr.specs.Words as expr_words
use Rattle.emtp_taccards.specs.BlockCard as taccards_blockcard
use Rattle.emtp_taccards.specs.DeviceCard as taccards_devicecard
use Rattle.emtp_taccards.specs.ExtraCard as taccards_extracard
use Rattle.emtp_taccards.specs.FormulaCard as taccards_formulacard
use Rattle.emtp_taccards.specs.Group as taccards_group
use Rattle.emtp_taccards.specs.Inputs as taccards_inputs
use Rattle.emtp_taccards.specs.PolynomialCard as taccards_polynomialcard
use Rattle.emtp_taccards.specs.TacsOutputCard as taccards_tacsoutputcard
use Rattle.emtp_taccards.specs.TacsSourceCard as taccards_tacssourcecard
use Rattle.emtp_walk.specs.Coefficients as walk_coefficients
use Rattle.emtp_walk.specs.ControlSteps as walk_controlsteps
use Rattle.emtp_walk.specs.Walk as walk_walk
use Rattle.emtp_sense.specs.ControlSense as sense_controlsense
use Rattle.emtp_deck.specs.Branches as deck_branches
use Rattle.emtp_deck.specs.Deck as deck_deck
use Rattle.emtp_deck.specs.Outputs as deck_outputs
use Rattle.emtp_deck.specs.Sources as deck_sources
use Rattle.emtp_deck.specs.Switches as deck_switches
use Rattle.emtp_lumped.specs.Step as lumped_step
use Rattle.emtp_line.specs.Line as line_line
use Rattle.emtp_line.specs.Phases as line_phases
use Rattle.emtp_line.specs.Wave as line_wave
use Rattle.emtp_pseudo.specs.Segment as pseudo_segment
use Rattle.emtp_pseudo.specs.Step as pseudo_step
use Rattle.emtp_wave.specs.Cosine as wave_cosine
use Rattle.emtp_wave.specs.Wave as wave_wave
use Rattle.emtp_rows.specs.Nodal as rows_nodal
use Rattle.emtp_blocks.specs.Block as blocks_block
use Rattle.emtp_blocks.specs.System as blocks_system
use Rattle.emtp_devices.specs.Device as devices_device
use Rattle.emtp_net.specs.Part as net_part
use Rattle.emtp_net.specs.Step as net_step
use Rattle.emtp_net.specs.System as net_system
use Rattle.emtp_tacs.specs.Step as tacs_step
use Rattle.emtp_machine.specs.Channels as machine_channels
use Rattle.emtp_machine.specs.End as machine_end
use Rattle.emtp_machine.specs.History as machine_history
use Rattle.emtp_machine.specs.Next as machine_next
use Rattle.emtp_comtrade.specs.Multiplier as comtrade_multiplier
use Rattle.emtp_comtrade.specs.Record as comtrade_record
use Rattle.emtp_run.specs.Note as run_note
use Rattle.emtp_run.specs.Reading as run_reading
use Rattle.emtp_run.specs.Summary as run_summary
use Rattle.emtp_run.specs.TrialDeck as run_trialdeck

-- ---- the bytes of the files

case_bytes : List ℕ
case_bytes =
    codes "C A capacitance of 1 microfarad is charged through 1 mH by a step of 100 V: 5,033 Hz, a period of 198.7\n"
    ++ codes "C microseconds, which 20 steps make. The trapezoidal rule makes it longer by (pi/20)^2/3, 0.8 of 100.\n"
    ++ codes "BEGIN NEW DATA CASE\n"
    ++ codes "C DELTAT  TMAX\n"
    ++ codes "   1.E-5  2.1E-3\n"
    ++ codes "C   IOUT   IPLOT\n"
    ++ codes "       1       1\n"
    ++ codes "C BUS1  BUS2  BUS3  BUS4       R     L     C\n"
    ++ codes "  SRC   C                          1.0\n"
    ++ codes "  C                                      1.0\n"
    ++ codes "BLANK\n"
    ++ codes "BLANK\n"
    ++ codes "C NAME     AMPLITUDE FREQUENCY     PHASE        A1              TSTART\n"
    ++ codes "11SRC           100.\n"
    ++ codes "BLANK\n"
    ++ codes "C NAMES\n"
    ++ codes "  C\n"
    ++ codes "BLANK\n"

end_line : List ℕ
end_line = 13 ∷ 10 ∷ []

cfg_bytes : List ℕ
cfg_bytes =
    codes "EMTP,CASE,1999" ++ end_line
    ++ codes "1,1A,0D" ++ end_line
    ++ codes "1,V C,,,V,0.01,0,0,-32767,32767,1,1,P" ++ end_line
    ++ codes "60" ++ end_line
    ++ codes "0" ++ end_line
    ++ codes "0,211" ++ end_line
    ++ codes "01/01/2000,00:00:00.000000" ++ end_line
    ++ codes "01/01/2000,00:00:00.000000" ++ end_line
    ++ codes "ASCII" ++ end_line
    ++ codes "10" ++ end_line

dat_bytes : List ℕ
dat_bytes =
    codes "1,0,0" ++ end_line
    ++ codes "2,1,244" ++ end_line
    ++ codes "3,2,1196" ++ end_line
    ++ codes "4,3,3006" ++ end_line
    ++ codes "5,4,5500" ++ end_line
    ++ codes "6,5,8432" ++ end_line
    ++ codes "7,6,11517" ++ end_line
    ++ codes "8,7,14454" ++ end_line
    ++ codes "9,8,16957" ++ end_line
    ++ codes "10,9,18781" ++ end_line
    ++ codes "11,10,19748" ++ end_line
    ++ codes "12,11,19764" ++ end_line
    ++ codes "13,12,18828" ++ end_line
    ++ codes "14,13,17030" ++ end_line
    ++ codes "15,14,14547" ++ end_line
    ++ codes "16,15,11620" ++ end_line
    ++ codes "17,16,8535" ++ end_line
    ++ codes "18,17,5593" ++ end_line
    ++ codes "19,18,3081" ++ end_line
    ++ codes "20,19,1243" ++ end_line
    ++ codes "21,20,261" ++ end_line
    ++ codes "22,21,228" ++ end_line
    ++ codes "23,22,1149" ++ end_line
    ++ codes "24,23,2933" ++ end_line
    ++ codes "25,24,5407" ++ end_line
    ++ codes "26,25,8329" ++ end_line
    ++ codes "27,26,11414" ++ end_line
    ++ codes "28,27,14361" ++ end_line
    ++ codes "29,28,16882" ++ end_line
    ++ codes "30,29,18732" ++ end_line
    ++ codes "31,30,19730" ++ end_line
    ++ codes "32,31,19779" ++ end_line
    ++ codes "33,32,18874" ++ end_line
    ++ codes "34,33,17103" ++ end_line
    ++ codes "35,34,14639" ++ end_line
    ++ codes "36,35,11723" ++ end_line
    ++ codes "37,36,8638" ++ end_line
    ++ codes "38,37,5686" ++ end_line
    ++ codes "39,38,3155" ++ end_line
    ++ codes "40,39,1292" ++ end_line
    ++ codes "41,40,279" ++ end_line
    ++ codes "42,41,214" ++ end_line
    ++ codes "43,42,1103" ++ end_line
    ++ codes "44,43,2861" ++ end_line
    ++ codes "45,44,5315" ++ end_line
    ++ codes "46,45,8226" ++ end_line
    ++ codes "47,46,11310" ++ end_line
    ++ codes "48,47,14267" ++ end_line
    ++ codes "49,48,16807" ++ end_line
    ++ codes "50,49,18683" ++ end_line
    ++ codes "51,50,19712" ++ end_line
    ++ codes "52,51,19793" ++ end_line
    ++ codes "53,52,18919" ++ end_line
    ++ codes "54,53,17175" ++ end_line
    ++ codes "55,54,14731" ++ end_line
    ++ codes "56,55,11825" ++ end_line
    ++ codes "57,56,8741" ++ end_line
    ++ codes "58,57,5780" ++ end_line
    ++ codes "59,58,3231" ++ end_line
    ++ codes "60,59,1342" ++ end_line
    ++ codes "61,60,298" ++ end_line
    ++ codes "62,61,200" ++ end_line
    ++ codes "63,62,1058" ++ end_line
    ++ codes "64,63,2789" ++ end_line
    ++ codes "65,64,5223" ++ end_line
    ++ codes "66,65,8124" ++ end_line
    ++ codes "67,66,11207" ++ end_line
    ++ codes "68,67,14173" ++ end_line
    ++ codes "69,68,16731" ++ end_line
    ++ codes "70,69,18633" ++ end_line
    ++ codes "71,70,19692" ++ end_line
    ++ codes "72,71,19806" ++ end_line
    ++ codes "73,72,18964" ++ end_line
    ++ codes "74,73,17246" ++ end_line
    ++ codes "75,74,14822" ++ end_line
    ++ codes "76,75,11928" ++ end_line
    ++ codes "77,76,8845" ++ end_line
    ++ codes "78,77,5875" ++ end_line
    ++ codes "79,78,3307" ++ end_line
    ++ codes "80,79,1393" ++ end_line
    ++ codes "81,80,318" ++ end_line
    ++ codes "82,81,187" ++ end_line
    ++ codes "83,82,1015" ++ end_line
    ++ codes "84,83,2718" ++ end_line
    ++ codes "85,84,5132" ++ end_line
    ++ codes "86,85,8021" ++ end_line
    ++ codes "87,86,11103" ++ end_line
    ++ codes "88,87,14078" ++ end_line
    ++ codes "89,88,16654" ++ end_line
    ++ codes "90,89,18582" ++ end_line
    ++ codes "91,90,19672" ++ end_line
    ++ codes "92,91,19818" ++ end_line
    ++ codes "93,92,19007" ++ end_line
    ++ codes "94,93,17317" ++ end_line
    ++ codes "95,94,14913" ++ end_line
    ++ codes "96,95,12030" ++ end_line
    ++ codes "97,96,8948" ++ end_line
    ++ codes "98,97,5970" ++ end_line
    ++ codes "99,98,3384" ++ end_line
    ++ codes "100,99,1444" ++ end_line
    ++ codes "101,100,339" ++ end_line
    ++ codes "102,101,176" ++ end_line
    ++ codes "103,102,972" ++ end_line
    ++ codes "104,103,2648" ++ end_line
    ++ codes "105,104,5042" ++ end_line
    ++ codes "106,105,7919" ++ end_line
    ++ codes "107,106,11000" ++ end_line
    ++ codes "108,107,13983" ++ end_line
    ++ codes "109,108,16577" ++ end_line
    ++ codes "110,109,18530" ++ end_line
    ++ codes "111,110,19650" ++ end_line
    ++ codes "112,111,19829" ++ end_line
    ++ codes "113,112,19049" ++ end_line
    ++ codes "114,113,17387" ++ end_line
    ++ codes "115,114,15003" ++ end_line
    ++ codes "116,115,12132" ++ end_line
    ++ codes "117,116,9052" ++ end_line
    ++ codes "118,117,6065" ++ end_line
    ++ codes "119,118,3462" ++ end_line
    ++ codes "120,119,1497" ++ end_line
    ++ codes "121,120,361" ++ end_line
    ++ codes "122,121,166" ++ end_line
    ++ codes "123,122,930" ++ end_line
    ++ codes "124,123,2579" ++ end_line
    ++ codes "125,124,4952" ++ end_line
    ++ codes "126,125,7817" ++ end_line
    ++ codes "127,126,10896" ++ end_line
    ++ codes "128,127,13887" ++ end_line
    ++ codes "129,128,16499" ++ end_line
    ++ codes "130,129,18477" ++ end_line
    ++ codes "131,130,19627" ++ end_line
    ++ codes "132,131,19839" ++ end_line
    ++ codes "133,132,19091" ++ end_line
    ++ codes "134,133,17455" ++ end_line
    ++ codes "135,134,15093" ++ end_line
    ++ codes "136,135,12233" ++ end_line
    ++ codes "137,136,9156" ++ end_line
    ++ codes "138,137,6161" ++ end_line
    ++ codes "139,138,3541" ++ end_line
    ++ codes "140,139,1550" ++ end_line
    ++ codes "141,140,384" ++ end_line
    ++ codes "142,141,157" ++ end_line
    ++ codes "143,142,889" ++ end_line
    ++ codes "144,143,2511" ++ end_line
    ++ codes "145,144,4863" ++ end_line
    ++ codes "146,145,7716" ++ end_line
    ++ codes "147,146,10792" ++ end_line
    ++ codes "148,147,13791" ++ end_line
    ++ codes "149,148,16420" ++ end_line
    ++ codes "150,149,18423" ++ end_line
    ++ codes "151,150,19604" ++ end_line
    ++ codes "152,151,19848" ++ end_line
    ++ codes "153,152,19131" ++ end_line
    ++ codes "154,153,17523" ++ end_line
    ++ codes "155,154,15182" ++ end_line
    ++ codes "156,155,12335" ++ end_line
    ++ codes "157,156,9260" ++ end_line
    ++ codes "158,157,6257" ++ end_line
    ++ codes "159,158,3620" ++ end_line
    ++ codes "160,159,1605" ++ end_line
    ++ codes "161,160,409" ++ end_line
    ++ codes "162,161,149" ++ end_line
    ++ codes "163,162,849" ++ end_line
    ++ codes "164,163,2443" ++ end_line
    ++ codes "165,164,4774" ++ end_line
    ++ codes "166,165,7615" ++ end_line
    ++ codes "167,166,10688" ++ end_line
    ++ codes "168,167,13694" ++ end_line
    ++ codes "169,168,16340" ++ end_line
    ++ codes "170,169,18368" ++ end_line
    ++ codes "171,170,19579" ++ end_line
    ++ codes "172,171,19855" ++ end_line
    ++ codes "173,172,19170" ++ end_line
    ++ codes "174,173,17590" ++ end_line
    ++ codes "175,174,15270" ++ end_line
    ++ codes "176,175,12436" ++ end_line
    ++ codes "177,176,9364" ++ end_line
    ++ codes "178,177,6354" ++ end_line
    ++ codes "179,178,3700" ++ end_line
    ++ codes "180,179,1660" ++ end_line
    ++ codes "181,180,434" ++ end_line
    ++ codes "182,181,142" ++ end_line
    ++ codes "183,182,811" ++ end_line
    ++ codes "184,183,2376" ++ end_line
    ++ codes "185,184,4686" ++ end_line
    ++ codes "186,185,7514" ++ end_line
    ++ codes "187,186,10584" ++ end_line
    ++ codes "188,187,13597" ++ end_line
    ++ codes "189,188,16260" ++ end_line
    ++ codes "190,189,18312" ++ end_line
    ++ codes "191,190,19553" ++ end_line
    ++ codes "192,191,19862" ++ end_line
    ++ codes "193,192,19208" ++ end_line
    ++ codes "194,193,17657" ++ end_line
    ++ codes "195,194,15358" ++ end_line
    ++ codes "196,195,12537" ++ end_line
    ++ codes "197,196,9468" ++ end_line
    ++ codes "198,197,6451" ++ end_line
    ++ codes "199,198,3780" ++ end_line
    ++ codes "200,199,1717" ++ end_line
    ++ codes "201,200,461" ++ end_line
    ++ codes "202,201,136" ++ end_line
    ++ codes "203,202,773" ++ end_line
    ++ codes "204,203,2310" ++ end_line
    ++ codes "205,204,4598" ++ end_line
    ++ codes "206,205,7413" ++ end_line
    ++ codes "207,206,10480" ++ end_line
    ++ codes "208,207,13500" ++ end_line
    ++ codes "209,208,16179" ++ end_line
    ++ codes "210,209,18255" ++ end_line
    ++ codes "211,210,19526" ++ end_line
    ++ 26 ∷ []

note_bytes : List ℕ
note_bytes =
    codes "DONE STEPS 210 SAMPLES 211 REDONE 0\n"

-- the one file that is there
files : List ℕ → Option (List ℕ)
files name = if bytes_eq name (codes "resonance_at_20_steps_a_period.case") then Some case_bytes else None

words : List (List ℕ)
words = codes "run" ∷ codes "resonance_at_20_steps_a_period.case" ∷ codes "resonance_at_20_steps_a_period.cfg" ∷ codes "resonance_at_20_steps_a_period.dat" ∷ []

made : Outcome
made = record {
  status = Done;
  writes =
      record { out = Cfg; name = codes "resonance_at_20_steps_a_period.cfg"; bytes = cfg_bytes }
      ∷ record { out = Dat; name = codes "resonance_at_20_steps_a_period.dat"; bytes = dat_bytes }
      ∷ record { out = Note; name = []; bytes = note_bytes }
      ∷ [];
}

whole : outcome words files ≡ Some made
unfolding fmt.digits case_bytes end_line cfg_bytes dat_bytes note_bytes files words made fix_decimal.fraction fix_decimal.fixed_text fix_root.root_upto fix_root.isqrt fix_rounding.near_abs fix_rounding.near elim_elimination.stage elim_elimination.stage_right elim_elimination.last_unknowns elim_fault.row_fault elim_fault.right_fault elim_fault.unknown_fault elim_outcome.outcome tail_good.first_change tail_redone.rows_next case_branch.capacitor_impedance card_cards.line_past_count card_cards.line_past_bytes card_cards.size_fault card_decimal.value_in card_fault.least card_field.columns card_field.trimmed card_lines.lines_of card_lines.is_comment card_lines.is_section_end card_lines.fault_of_line card_name.name_field card_number.number_in card_number.number_field card_number.held_field card_number.read_number_of card_number.held_number card_numeral.limited_whole card_numeral.exponent_of card_numeral.decimal_of card_whole.whole_in card_whole.whole_field netcards_branchcard.copies_of netcards_branchcard.resistor_values netcards_branchcard.fields_of netcards_branchcard.branch_card netcards_fields.ends_field netcards_linevalues.line_values netcards_outputcard.name_list netcards_outputcard.fields_of netcards_outputcard.output_card netcards_pointcard.enough netcards_pointcard.room_for netcards_pointcard.first_by netcards_pointcard.second_by netcards_pointcard.point_after netcards_pointcard.next_read netcards_pointcard.next_point netcards_runcards.tolerance_card netcards_runcards.steps_of netcards_runcards.first_fields netcards_runcards.first_card netcards_runcards.second_fields netcards_runcards.second_card netcards_seriesvalues.series_values netcards_sourcecard.phase_of netcards_sourcecard.ramp_of netcards_sourcecard.cosine_numbers netcards_sourcecard.cosine_of netcards_sourcecard.active_times netcards_sourcecard.fields_of netcards_sourcecard.source_card netcards_switchcard.times_of netcards_switchcard.valve_of netcards_switchcard.fields_of netcards_switchcard.switch_card expr_parsing.expression_of expr_pending.settle expr_reading.with_operator expr_reading.take_close expr_reading.take_next expr_value.unary expr_value.binary expr_value.value expr_words.dotted expr_words.fraction_length expr_words.mantissa_length expr_words.sign_length expr_words.power_length expr_words.exponent_length expr_words.number_length expr_words.name_length expr_words.name_word expr_words.mark expr_words.word_at expr_words.words_from expr_words.words_of taccards_blockcard.order_and_name taccards_blockcard.limits_of taccards_blockcard.fields_of taccards_blockcard.block_card taccards_devicecard.coded_by taccards_devicecard.plain_fields taccards_devicecard.variables_of taccards_devicecard.fields_of taccards_devicecard.device_card taccards_extracard.extra_card taccards_formulacard.fields_of taccards_formulacard.formula_card taccards_group.head_of taccards_inputs.input taccards_inputs.four_inputs taccards_inputs.inputs taccards_polynomialcard.taken_by taccards_polynomialcard.pair_of taccards_polynomialcard.four_of taccards_polynomialcard.coefficients taccards_polynomialcard.polynomial_card taccards_tacsoutputcard.fields_of taccards_tacsoutputcard.tacs_output_card taccards_tacssourcecard.level_of taccards_tacssourcecard.cosine_of taccards_tacssourcecard.pulse_of taccards_tacssourcecard.saw_of taccards_tacssourcecard.fields_of taccards_tacssourcecard.tacs_source_card walk_coefficients.divided_bad walk_controlsteps.block_step walk_controlsteps.numerator_step walk_controlsteps.denominator_step walk_controlsteps.tacs_source_step walk_controlsteps.extra_step walk_controlsteps.device_point_step walk_controlsteps.tacs_output_step walk_controlsteps.initial_place walk_walk.begin_place walk_walk.after_place walk_walk.tolerance_step walk_walk.times_step walk_walk.first_step walk_walk.second_step walk_walk.card_step walk_walk.branch_step walk_walk.waiting_step walk_walk.third_step walk_walk.point_step walk_walk.switch_step walk_walk.source_step walk_walk.output_step walk_walk.start_step sense_controlsense.block_sense sense_controlsense.tacs_source_sense sense_controlsense.device_sense sense_controlsense.formula_sense sense_controlsense.control_bad deck_branches.card_fault deck_branches.take_entry deck_deck.deck_case deck_deck.deck_of deck_outputs.take_known_name deck_outputs.take_all_nodes deck_sources.take_source deck_switches.take_switch lumped_step.next_state line_line.line_state line_phases.phase_state line_wave.end_of pseudo_segment.segment_of pseudo_step.next_state wave_cosine.direction wave_cosine.in_quarter wave_wave.active_value rows_nodal.nodal_matrix blocks_block.next_state blocks_system.control_matrix blocks_system.right blocks_system.outputs blocks_system.states_after devices_device.next_state net_part.voltages_of net_part.part_at net_step.network_part net_system.right tacs_step.control_step machine_channels.samples_in machine_end.cause_text machine_history.history_upto machine_next.next comtrade_multiplier.multiplier_from comtrade_multiplier.multiplier_of comtrade_record.analog_line comtrade_record.status_line comtrade_record.analog_line_at comtrade_record.status_line_at comtrade_record.cfg_head comtrade_record.cfg_tail comtrade_record.cfg_text comtrade_record.raw_at comtrade_record.state_at comtrade_record.dat_line comtrade_record.dat_text run_note.usage_note run_note.card_note run_note.row_note run_note.done_text run_note.ended_note run_reading.deck run_summary.sums_text run_summary.trial_head run_summary.trial_summary run_trialdeck.node_name run_trialdeck.head_cards run_trialdeck.section_cards run_trialdeck.tail_cards run_trialdeck.trial_cards
whole = refl
