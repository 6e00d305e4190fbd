-- The configuration that the program writes is short.
use Rattle.emtp_case.specs.declared.limit.TheConstants.{MOST_CHANNELS}
use Rattle.std.proofs.Common.{◌≡◌, ◌++◌, ◌∙◌, ap, ℕ, zero, suc, ◌+◌, ◌^◌, ◌<◌, ◌≤◌, ℤ, pos, true, false, cond, List, [], ◌∷◌, map, length, get_or, refl, arith, decimal, codes, length-append}
use Rattle.std.proofs.lemmas.Fmt.{length-decimal-le}
use Rattle.emtp_fix.specs.Decimal.{fixed_text}
use Rattle.emtp_case.specs.held.Case.{IsCase}
use Rattle.emtp_case.specs.ChannelName.{name_of_channel}
use Rattle.emtp_case.specs.declared.case.Parts.{Parts}
use Rattle.emtp_case.specs.declared.channel.Channel.{Channel}
use Rattle.emtp_case.specs.declared.channel.Channel.TheVariants.{BranchCurrent, BranchVoltage, SwitchCurrent as CurrentChannel, NodeVoltage as NodeChannel, Tacs as OfTacs, Status, SwitchVoltage}
use Rattle.emtp_audit.specs.held.Pieces.{ended}
use Rattle.emtp_comtrade.specs.Record.{joined, is_status_at, is_analog_at, analog_before, status_before, unit_at, unit_of, multiplier_at, analog_line, status_line, analog_line_at, status_line_at, sample_time, cfg_head, cfg_tail, cfg_text}
use Rattle.emtp_audit.proofs.FieldsOfPieces.{with_commas}
use Rattle.emtp_audit.proofs.Names.{name-text}
use Rattle.emtp_audit.proofs.CfgFields.{length-fixed}
use Rattle.emtp_audit.proofs.CfgLines.{analog_line-ended, status_line-ended}
use Rattle.emtp_audit.proofs.CfgFile.{numbers_body, head-ended, date, tail-ended, AreSmall}
use Rattle.emtp_comtrade.proofs.Places.{count_below-le}
use Rattle.emtp_audit.proofs.DatFile.{length-joined-le}
use Rattle.emtp_audit.specs.declared.limit.TheConstants.{LARGEST_UNIT, MOST_BYTES}

unit-short : (cs : List Channel) (place : ℕ) → length (get_or (map unit_of cs) place []) ≤ 2
unit-short [] place = omega arith
unit-short (c ∷ cs) zero = of c
  where
    of : (c : Channel) → length (unit_of c) ≤ 2
    of (NodeChannel n) = omega arith
    of (BranchCurrent b) = omega arith
    of (BranchVoltage b) = omega arith
    of (CurrentChannel s) = omega arith
    of (SwitchVoltage s) = omega arith
    of (OfTacs v) = omega arith
    of (Status s) = omega arith
unit-short (c ∷ cs) (suc place) = unit-short cs place

analog-short : (p : Parts) (rows : List (List ℤ)) (place : ℕ) → IsCase p → AreSmall p rows → place < length p.channels → length (analog_line_at p rows place) ≤ 200
unfolding analog_line_at
analog-short p rows place is small there =
    let few = is.draft.counts.channels in
    let below = count_below-le (is_analog_at p) place in
    elim (is_status_at p place) as (λ t. is_status_at p place ≡ t → length (cond t [] (analog_line p (pos (multiplier_at rows place)) place)) ≤ 200) [
      | true ↦ λ e. omega arith
      | false ↦ λ e.
          let multiplier : multiplier_at rows place ≤ 10 ^ 15 = small place there e in
          let fixed = length-fixed (multiplier_at rows place) 9 (omega (arith, multiplier)) in
          let number = length-decimal-le 2 (analog_before p place + 1) (omega arith) (omega (arith, below)) (omega (arith, below)) in
          let name = (name-text p place is there).label.short in
          omega (arith, ap length (analog_line-ended p (multiplier_at rows place) place), parts (decimal (analog_before p place + 1)) (name_of_channel p place) (unit_at p place) (fixed_text (pos (multiplier_at rows place)) 9), fixed, number, name, unit-short p.channels place)
    ] refl
  where
    parts : (d n u f : List ℕ) → length (ended (with_commas d (n ∷ [] ∷ [] ∷ u ∷ f ∷ codes "0" ∷ codes "0" ∷ codes "-32767" ∷ codes "32767" ∷ codes "1" ∷ codes "1" ∷ codes "P" ∷ []))) ≡ length d + length n + length u + length f + 30
    parts d n u f =
        let last = length-append f (codes ",0,0,-32767,32767,1,1,P") in
        let units = length-append u (44 ∷ (f ++ codes ",0,0,-32767,32767,1,1,P")) in
        let names = length-append n (44 ∷ 44 ∷ 44 ∷ (u ++ 44 ∷ (f ++ codes ",0,0,-32767,32767,1,1,P"))) in
        let all = length-append d (44 ∷ (n ++ 44 ∷ 44 ∷ 44 ∷ (u ++ 44 ∷ (f ++ codes ",0,0,-32767,32767,1,1,P")))) in
        omega (arith, length-append (d ++ 44 ∷ (n ++ 44 ∷ 44 ∷ 44 ∷ (u ++ 44 ∷ (f ++ codes ",0,0,-32767,32767,1,1,P")))) (13 ∷ 10 ∷ []), all, names, units, last)

status-short : (p : Parts) (place : ℕ) → IsCase p → place < length p.channels → length (status_line_at p place) ≤ 200
unfolding status_line_at
status-short p place is there =
    let few = is.draft.counts.channels in
    let below = count_below-le (is_status_at p) place in
    elim (is_status_at p place) as (λ t. length (cond t (status_line p place) []) ≤ 200) [
      | true ↦
          let number = length-decimal-le 2 (status_before p place + 1) (omega arith) (omega (arith, below)) (omega (arith, below)) in
          let name = (name-text p place is there).label.short in
          omega (arith, ap length (status_line-ended p place), parts (decimal (status_before p place + 1)) (name_of_channel p place), number, name)
      | false ↦ omega arith
    ]
  where
    parts : (d n : List ℕ) → length (ended (with_commas d (n ∷ [] ∷ [] ∷ codes "0" ∷ []))) ≡ length d + length n + 7
    parts d n = omega (arith, length-append (d ++ 44 ∷ (n ++ codes ",,,0")) (13 ∷ 10 ∷ []), length-append d (44 ∷ (n ++ codes ",,,0")), length-append n (codes ",,,0"))

head-short : (p : Parts) → length p.channels ≤ MOST_CHANNELS → length (cfg_head p) ≤ 100
head-short p few =
    let analog = count_below-le (is_analog_at p) (length p.channels) in
    let status = count_below-le (is_status_at p) (length p.channels) in
    let whole : length (cfg_head p) ≡ 16 + (length (numbers_body p) + 2) = ap length (head-ended p) ∙ two (numbers_body p) in
    omega (
      arith,
      whole,
      parts (decimal (length p.channels)) (decimal (analog_before p (length p.channels))) (decimal (status_before p (length p.channels))),
      length-decimal-le 2 (length p.channels) (omega arith) (omega arith) (omega arith),
      length-decimal-le 2 (analog_before p (length p.channels)) (omega arith) (omega arith) (omega arith),
      length-decimal-le 2 (status_before p (length p.channels)) (omega arith) (omega arith) (omega arith),
    )
  where
    two : (xs : List ℕ) → length (ended (codes "EMTP,CASE,1999") ++ ended xs) ≡ 16 + (length xs + 2)
    two xs = omega (arith, length-append xs (13 ∷ 10 ∷ []))

    parts : (n a s : List ℕ) → length (with_commas n ((a ++ codes "A") ∷ (s ++ codes "D") ∷ [])) ≡ length n + length a + length s + 4
    parts n a s = omega (arith, length-append n (44 ∷ ((a ++ codes "A") ++ 44 ∷ (s ++ codes "D"))), length-append (a ++ codes "A") (44 ∷ (s ++ codes "D")), length-append a (codes "A"), length-append s (codes "D"))

tail-short : (p : Parts) (count unit : ℕ) → sample_time p ≡ pos unit → count ≤ 1000001 → unit ≤ LARGEST_UNIT → length (cfg_tail p count) ≤ 200
tail-short p count unit step few small =
    omega (arith, ap length (tail-ended p count unit step), parts (decimal count) (fixed_text (pos unit) 6), length-decimal-le 7 count (omega arith) (omega arith) (omega arith), length-fixed unit 6 (omega arith))
  where
    parts : (c f : List ℕ) → length (ended (codes "60") ++ (ended (codes "0") ++ (ended (codes "0," ++ c) ++ (ended date ++ (ended date ++ (ended (codes "ASCII") ++ ended f)))))) ≡ length c + length f + 76
    parts c f = omega (arith, length-append (c ++ 13 ∷ 10 ∷ []) (ended date ++ (ended date ++ (ended (codes "ASCII") ++ ended f))), length-append c (13 ∷ 10 ∷ []), length-append f (13 ∷ 10 ∷ []))

pub cfg_text-short : (p : Parts) (rows : List (List ℤ)) (unit : ℕ) → IsCase p → AreSmall p rows → sample_time p ≡ pos unit → length rows ≤ 1000001 → unit ≤ LARGEST_UNIT
    → length (cfg_text p rows) ≤ MOST_BYTES
unfolding cfg_text
cfg_text-short p rows unit is small step few most =
    let n = length p.channels in
    let analog = length-joined-le n 200 (analog_line_at p rows) (λ place there. analog-short p rows place is small there) in
    let status = length-joined-le n 200 (status_line_at p) (λ place there. status-short p place is there) in
    omega (
      arith,
      length-append ((cfg_head p ++ joined n (analog_line_at p rows)) ++ joined n (status_line_at p)) (cfg_tail p (length rows)),
      length-append (cfg_head p ++ joined n (analog_line_at p rows)) (joined n (status_line_at p)),
      length-append (cfg_head p) (joined n (analog_line_at p rows)),
      analog,
      status,
      head-short p is.draft.counts.channels,
      tail-short p (length rows) unit step few most,
      is.draft.counts.channels,
    )
