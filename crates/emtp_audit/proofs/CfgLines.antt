-- The lines of the configuration that the program writes meet their rules.
use Rattle.emtp_case.specs.declared.limit.TheConstants.{MOST_CHANNELS}
use Rattle.std.proofs.Common.{◌≡◌, ◌++◌, ap, ℕ, zero, suc, ◌+◌, ◌^◌, ◌<◌, ◌≤◌, pos, List, [], ◌∷◌, map, length, get_or, None, refl, arith, decimal, codes, append_assoc}
use Rattle.std.specs.Fmt.{digits}
use Rattle.std.proofs.lemmas.Fmt.{decimal_nonempty}
use Rattle.emtp_fix.specs.Decimal.{fixed_text}
use Rattle.emtp_card.specs.Field.{trimmed}
use Rattle.emtp_case.specs.held.Case.{IsCase}
use Rattle.emtp_case.specs.ChannelName.{name_of_channel}
use Rattle.emtp_case.specs.declared.case.Parts.{Parts}
use Rattle.emtp_case.specs.declared.channel.Channel.{Channel}
use Rattle.emtp_case.specs.declared.channel.Channel.TheVariants.{BranchCurrent, BranchVoltage, SwitchCurrent as CurrentChannel, NodeVoltage as NodeChannel, Tacs as OfTacs, Status, SwitchVoltage}
use Rattle.emtp_audit.specs.held.Pieces.{ended}
use Rattle.emtp_comtrade.specs.Record.{analog_before, status_before, unit_at, unit_of, analog_line, status_line, end_of_line}
use Rattle.emtp_audit.specs.Cfg.{is_read, scale_number, analog_rule, status_rule}
use Rattle.emtp_audit.proofs.FieldsOfPieces.{IsPiece, ArePieces, with_commas}
use Rattle.emtp_audit.proofs.Plain.{ArePlain, trimmed-plain, trimmed-same, plain-digits, plain-no_comma, plain-one_line}
use Rattle.emtp_audit.proofs.Whole.{decimal-digits}
use Rattle.emtp_audit.proofs.Names.{name-text, name-ends}
use Rattle.emtp_audit.proofs.CfgFields.{text_is-same, scale_number-fixed, plain-fixed}
use Rattle.emtp_audit.proofs.Matches.{MeetsLine, meets-pieces}
use Rattle.emtp_audit.proofs.DatLines.{number_is-decimal, padding-digits}

pub piece-plain : (xs : List ℕ) → ArePlain xs → IsPiece xs
piece-plain xs are = record { no_comma = plain-no_comma xs are; one_line = plain-one_line xs are }

pub plain-decimal : (n : ℕ) → n < 2 ^ 64 → ArePlain (decimal n)
plain-decimal n small = plain-digits (decimal n) (decimal-digits n small)

-- ---- units

plain-unit_of : (c : Channel) → ArePlain (unit_of c)
plain-unit_of (NodeChannel n) = refl
plain-unit_of (BranchCurrent b) = refl
plain-unit_of (BranchVoltage b) = refl
plain-unit_of (CurrentChannel s) = refl
plain-unit_of (SwitchVoltage s) = refl
plain-unit_of (OfTacs v) = refl
plain-unit_of (Status s) = refl

plain-unit : (cs : List Channel) (place : ℕ) → ArePlain (get_or (map unit_of cs) place [])
plain-unit [] place = refl
plain-unit (c ∷ cs) zero = plain-unit_of c
plain-unit (c ∷ cs) (suc place) = plain-unit cs place

-- ---- the line of an analog channel

abbrev pub analog_pieces : Parts → ℕ → ℕ → List (List ℕ)
analog_pieces p multiplier place =
    name_of_channel p place ∷ [] ∷ [] ∷ unit_at p place ∷ fixed_text (pos multiplier) 9 ∷ codes "0" ∷ codes "0" ∷ codes "-32767" ∷ codes "32767"
    ∷ codes "1" ∷ codes "1" ∷ codes "P" ∷ []

abbrev pub analog_body : Parts → ℕ → ℕ → List ℕ
analog_body p multiplier place = with_commas (decimal (analog_before p place + 1)) (analog_pieces p multiplier place)

pub analog_line-ended : (p : Parts) (multiplier place : ℕ) → analog_line p (pos multiplier) place ≡ ended (analog_body p multiplier place)
unfolding analog_line
analog_line-ended p multiplier place =
    ap (λ (xs : List ℕ). xs ++ end_of_line)
    (regroup (decimal (analog_before p place + 1)) (codes ",") (name_of_channel p place) (codes ",,,") (unit_at p place) (fixed_text (pos multiplier) 9) (codes ",0,0,-32767,32767,1,1,P"))
  where
    regroup : (a c b t u f l : List ℕ) → ((((((a ++ c) ++ b) ++ t) ++ u) ++ c) ++ f) ++ l ≡ a ++ (c ++ (b ++ (t ++ (u ++ (c ++ (f ++ l))))))
    regroup a c b t u f l = simp append_assoc refl

no_shift : is_read (scale_number (trimmed (codes "0"))) ≡ None
unfolding fixed_text digits
no_shift = ap is_read (scale_number-fixed 0 (omega arith))

pub pieces-analog : (p : Parts) (multiplier place : ℕ) → IsCase p → place < length p.channels → multiplier ≤ 10 ^ 15 → analog_before p place < MOST_CHANNELS
    → ArePieces (decimal (analog_before p place + 1) ∷ analog_pieces p multiplier place)
pieces-analog p multiplier place is there small few = (
  piece-plain (decimal (analog_before p place + 1)) (plain-decimal (analog_before p place + 1) (omega arith)),
  (
    (name-text p place is there).label.piece,
    (
      piece-plain [] refl,
      (
        piece-plain [] refl,
        (
          piece-plain (unit_at p place) (plain-unit p.channels place),
          (
            piece-plain (fixed_text (pos multiplier) 9) (plain-fixed multiplier 9 (omega arith)),
            (
              piece-plain (codes "0") refl,
              (
                piece-plain (codes "0") refl,
                (
                  piece-plain (codes "-32767") refl,
                  (
                    piece-plain (codes "32767") refl,
                    (
                      piece-plain (codes "1") refl,
                      (
                        piece-plain (codes "1") refl,
                        (piece-plain (codes "P") refl, tt),
                      ),
                    ),
                  ),
                ),
              ),
            ),
          ),
        ),
      ),
    ),
  ),
)

pub meets-analog : (p : Parts) (multiplier place : ℕ) → IsCase p → place < length p.channels → multiplier ≤ 10 ^ 15 → analog_before p place < MOST_CHANNELS
    → MeetsLine (analog_body p multiplier place) (analog_rule p place)
meets-analog p multiplier place is there small few =
    meets-pieces (decimal (analog_before p place + 1)) (analog_pieces p multiplier place) _ (pieces-analog p multiplier place is there small few) (
      number_is-decimal (analog_before p place + 1) (omega arith),
      (
        text_is-same (name_of_channel p place) (trimmed-same (name_of_channel p place) (name-ends (name_of_channel p place) (name-text p place is there))),
        (
          refl,
          (
            refl,
            (
              text_is-same (unit_at p place) (trimmed-plain (unit_at p place) (plain-unit p.channels place)),
              (
                ap is_read (scale_number-fixed multiplier small),
                (no_shift, (refl, (refl, (refl, (refl, (refl, (refl, tt))))))),
              ),
            ),
          ),
        ),
      ),
    )
    (padding-digits (decimal (analog_before p place + 1)) _ (decimal-digits (analog_before p place + 1) (omega arith)) (decimal_nonempty (analog_before p place + 1) (omega arith)))

-- ---- the line of a status channel

abbrev pub status_pieces : Parts → ℕ → List (List ℕ)
status_pieces p place = name_of_channel p place ∷ [] ∷ [] ∷ codes "0" ∷ []

abbrev pub status_body : Parts → ℕ → List ℕ
status_body p place = with_commas (decimal (status_before p place + 1)) (status_pieces p place)

pub status_line-ended : (p : Parts) (place : ℕ) → status_line p place ≡ ended (status_body p place)
unfolding status_line
status_line-ended p place =
    ap (λ (xs : List ℕ). xs ++ end_of_line) (regroup (decimal (status_before p place + 1)) (codes ",") (name_of_channel p place) (codes ",,,0"))
  where
    regroup : (a c b l : List ℕ) → ((a ++ c) ++ b) ++ l ≡ a ++ (c ++ (b ++ l))
    regroup a c b l = simp append_assoc refl

pub meets-status : (p : Parts) (place : ℕ) → IsCase p → place < length p.channels → status_before p place < MOST_CHANNELS → MeetsLine (status_body p place) (status_rule p place)
meets-status p place is there few =
    meets-pieces (decimal (status_before p place + 1)) (status_pieces p place) _ (
      piece-plain (decimal (status_before p place + 1)) (plain-decimal (status_before p place + 1) (omega arith)),
      (
        (name-text p place is there).label.piece,
        (piece-plain [] refl, (piece-plain [] refl, (piece-plain (codes "0") refl, tt))),
      ),
    ) (
      number_is-decimal (status_before p place + 1) (omega arith),
      (
        text_is-same (name_of_channel p place) (trimmed-same (name_of_channel p place) (name-ends (name_of_channel p place) (name-text p place is there))),
        (refl, (refl, (refl, tt))),
      ),
    )
    (padding-digits (decimal (status_before p place + 1)) _ (decimal-digits (status_before p place + 1) (omega arith)) (decimal_nonempty (status_before p place + 1) (omega arith)))
