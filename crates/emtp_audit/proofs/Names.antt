-- The names of channels hold no comma and no end of line, and have no outer blanks.
use Rattle.std.proofs.Common.{◌≡◌, ◌≢◌, ◌++◌, ◌∙◌, sym, ap, ℕ, zero, suc, ◌+◌, ◌-◌, ◌<◌, ◌≤◌, false, List, [], ◌∷◌, map, length, get_or, refl, arith, codes, length-append}
use Rattle.std.specs.Prelude.{All}
use Rattle.std.proofs.lemmas.Bool.Decides.{nat_tests}
use Rattle.std.proofs.lemmas.List.{get_or-append-add}
use Rattle.std.proofs.lemmas.List.Elements.{All-append, All-cons, All-nil, All-head, All-tail, All-get_or, All-weaker}
use Rattle.emtp_card.specs.Lines.{is_newline}
use Rattle.emtp_card.specs.Name.{is_comma}
use Rattle.emtp_case.specs.Branch.{from_of, to_of}
use Rattle.emtp_case.specs.held.Branch.{IsBranch}
use Rattle.emtp_case.specs.held.Case.{IsCase}
use Rattle.emtp_case.specs.held.Channel.{IsChannel}
use Rattle.emtp_case.specs.ChannelName.{name_of_node, name_of_var, name_of_ends, name_of_branch, name_of_switch, text_of, name_of_channel}
use Rattle.emtp_case.specs.held.Name.{IsName, IsNameByte}
use Rattle.emtp_case.specs.held.Sizes.{Sizes, sizes_of}
use Rattle.emtp_case.specs.held.Switch.{IsSwitch}
use Rattle.emtp_case.specs.declared.branch.Branch.{Branch}
use Rattle.emtp_case.specs.declared.branch.Branch.TheVariants.{Lumped as OfLumped, Line as OfLine, Pseudo as OfPseudo, Phase as OfPhase}
use Rattle.emtp_case.specs.declared.branch.Point.{Point}
use Rattle.emtp_case.specs.declared.run_data.RunData.{RunData}
use Rattle.emtp_case.specs.declared.case.Parts.{Parts}
use Rattle.emtp_case.specs.declared.channel.Channel.{Channel}
use Rattle.emtp_case.specs.declared.channel.Channel.TheVariants.{BranchCurrent, BranchVoltage, SwitchCurrent as CurrentChannel, NodeVoltage as NodeChannel, Tacs as OfTacs, Status, SwitchVoltage}
use Rattle.emtp_case.specs.declared.switch.Switch.{Switch}
use Rattle.emtp_audit.proofs.FieldsOfPieces.{IsPiece}
use Rattle.emtp_audit.proofs.Plain.{HasSolidEnds}

-- a piece that ends with no blank
pub record IsLabel (text : List ℕ) (most : ℕ) : Type 0 where
  pub piece : IsPiece text
  pub last : get_or text (length text - 1) 32 ≢ 32
  pub short : length text ≤ most

label-both : (a b : List ℕ) (m n : ℕ) → IsPiece a → length a ≤ m → IsLabel b n → IsLabel (a ++ b) (m + n)
label-both a b m n first short second = record {
  piece = record {
    no_comma = All-append (λ byte. is_comma byte ≡ false) a b first.no_comma second.piece.no_comma;
    one_line = All-append (λ byte. is_newline byte ≡ false) a b first.one_line second.piece.one_line;
  };
  last = last_of a b second.last;
  short = omega (arith, length-append a b, short, second.short);
}
  where
    last_of : (a b : List ℕ) → get_or b (length b - 1) 32 ≢ 32 → get_or (a ++ b) (length (a ++ b) - 1) 32 ≢ 32
    last_of a [] other = absurd (other refl)
    last_of a (y ∷ ys) other =
        let place : length (a ++ y ∷ ys) - 1 ≡ length a + (length (y ∷ ys) - 1) = omega (arith, length-append a (y ∷ ys)) in
        λ e. other (sym (ap (λ (k : ℕ). get_or (a ++ y ∷ ys) k 32) place ∙ get_or-append-add a (y ∷ ys) (length (y ∷ ys) - 1) 32) ∙ e)

label-name : (name : List ℕ) → IsName name → IsLabel name 6
label-name name is = record {
  piece = record {
    no_comma = All-weaker IsNameByte (λ b. is_comma b ≡ false) no_comma name is.bytes;
    one_line = All-weaker IsNameByte (λ b. is_newline b ≡ false) one_line name is.bytes;
  };
  last = is.last;
  short = is.short;
}
  where
    no_comma : (b : ℕ) → IsNameByte b → is_comma b ≡ false
    no_comma b h = grind (arith, nat_tests)

    one_line : (b : ℕ) → IsNameByte b → is_newline b ≡ false
    one_line b h = grind (arith, nat_tests)

byte-piece : (b : ℕ) → is_comma b ≡ false → is_newline b ≡ false → IsPiece (b ∷ [])
byte-piece b h k = record {
  no_comma = All-cons (λ byte. is_comma byte ≡ false) b [] h (All-nil (λ byte. is_comma byte ≡ false));
  one_line = All-cons (λ byte. is_newline byte ≡ false) b [] k (All-nil (λ byte. is_newline byte ≡ false));
}

-- ---- nodes and ends

label-node : (p : Parts) (k : ℕ) → All IsName p.nodes → k ≤ length p.nodes → IsLabel (name_of_node p k) 6
label-node p zero names there = record { piece = byte-piece 48 refl refl; last = λ e. omega (arith, e); short = omega arith }
label-node p (suc at) names there = label-name (get_or p.nodes at []) (All-get_or IsName p.nodes at [] (omega arith) names)

label-ends : (p : Parts) (k to : ℕ) → All IsName p.nodes → k ≤ length p.nodes → to ≤ length p.nodes → IsLabel (name_of_ends p k to) 13
label-ends p k to names there there_to =
    let first = label-node p k names there in
    let dash = byte-piece 45 refl refl in
    label-both (name_of_node p k ++ codes "-") (name_of_node p to) 7 6
    (record {
      no_comma = All-append (λ byte. is_comma byte ≡ false) (name_of_node p k) (codes "-") first.piece.no_comma dash.no_comma;
      one_line = All-append (λ byte. is_newline byte ≡ false) (name_of_node p k) (codes "-") first.piece.one_line dash.one_line;
    })
    (omega (arith, length-append (name_of_node p k) (codes "-"), first.short))
    (label-node p to names there_to)

-- what holds of each, holds of what is made of it
all-map : {A B : Type 0} (f : A → B) (Q : A → Type 0) (P : B → Type 0) → ((x : A) → Q x → P (f x)) → (xs : List A) → All Q xs → All P (map f xs)
all-map f Q P each [] all = All-nil P
all-map f Q P each (x ∷ xs) all = All-cons P (f x) (map f xs) (each x (All-head Q x xs all)) (all-map f Q P each xs (All-tail Q x xs all))

length-map' : {A B : Type 0} (f : A → B) (xs : List A) → length (map f xs) ≡ length xs
length-map' f [] = refl
length-map' f (x ∷ xs) = ap suc (length-map' f xs)

at-map : {A : Type 0} (f : A → ℕ) (Q : A → Type 0) (most : ℕ) → ((x : A) → Q x → f x ≤ most) → (xs : List A) (k : ℕ) → k < length xs → All Q xs → get_or (map f xs) k 0 ≤ most
at-map f Q most each xs k less all = All-get_or (λ v. v ≤ most) (map f xs) k 0 (omega (arith, length-map' f xs)) (all-map f Q (λ v. v ≤ most) each xs all)

branch-ends : (run : RunData) (n : Sizes) (points : List Point) (b : Branch) → IsBranch run n points b → (from_of b ≤ n.nodes) × (to_of b ≤ n.nodes)
branch-ends run n points (OfLumped b) is = (is.ends.from_there, is.ends.to_there)
branch-ends run n points (OfLine b) is = (is.ends.from_there, is.ends.to_there)
branch-ends run n points (OfPseudo b) is = (is.ends.from_there, is.ends.to_there)
branch-ends run n points (OfPhase b) is = (is.ends.from_there, is.ends.to_there)

label-branch : (p : Parts) (b : ℕ) → IsCase p → b < length p.branches → IsLabel (name_of_branch p b) 13
label-branch p b is less =
    let network = is.draft.network in
    label-ends p (get_or (map from_of p.branches) b 0) (get_or (map to_of p.branches) b 0) network.names
    (at-map from_of (IsBranch p.run (sizes_of p) p.points) (length p.nodes) (λ x h. (branch-ends p.run (sizes_of p) p.points x h).0) p.branches b less network.branches)
    (at-map to_of (IsBranch p.run (sizes_of p) p.points) (length p.nodes) (λ x h. (branch-ends p.run (sizes_of p) p.points x h).1) p.branches b less network.branches)

label-switch : (p : Parts) (s : ℕ) → IsCase p → s < length p.switches → IsLabel (name_of_switch p s) 13
label-switch p s is less =
    let network = is.draft.network in
    label-ends p (get_or (map (λ (x : Switch). x.from) p.switches) s 0) (get_or (map (λ (x : Switch). x.to) p.switches) s 0) network.names
    (at-map (λ (x : Switch). x.from) (IsSwitch (sizes_of p)) (length p.nodes) (λ x h. h.ends.from_there) p.switches s less network.switches)
    (at-map (λ (x : Switch). x.to) (IsSwitch (sizes_of p)) (length p.nodes) (λ x h. h.ends.to_there) p.switches s less network.switches)

-- ---- channels

-- a name of a channel
pub record IsChannelText (text : List ℕ) : Type 0 where
  pub label : IsLabel text 15
  pub first : get_or text 0 32 ≢ 32

led : (letter : ℕ) (name : List ℕ) (most : ℕ) → most ≤ 13 → is_comma letter ≡ false → is_newline letter ≡ false → letter ≢ 32 → IsLabel name most → IsChannelText (letter ∷ 32 ∷ name)
led letter name most few h k other label =
    let first = byte-piece letter h k in
    let blank = byte-piece 32 refl refl in
    let whole = label-both (letter ∷ 32 ∷ []) name 2 most
    (record {
      no_comma = All-append (λ byte. is_comma byte ≡ false) (letter ∷ []) (32 ∷ []) first.no_comma blank.no_comma;
      one_line = All-append (λ byte. is_newline byte ≡ false) (letter ∷ []) (32 ∷ []) first.one_line blank.one_line;
    }) (omega arith) label in
    record { label = record { piece = whole.piece; last = whole.last; short = omega (arith, whole.short) }; first = other }

channel-text : (p : Parts) → IsCase p → (c : Channel) → IsChannel (sizes_of p) c → IsChannelText (text_of p c)
channel-text p is (NodeChannel n) there = led 86 (name_of_node p n) 6 (omega arith) refl refl (λ e. omega (arith, e)) (label-node p n is.draft.network.names there.1)
channel-text p is (BranchCurrent b) there = led 73 (name_of_branch p b) 13 (omega arith) refl refl (λ e. omega (arith, e)) (label-branch p b is there)
channel-text p is (BranchVoltage b) there = led 85 (name_of_branch p b) 13 (omega arith) refl refl (λ e. omega (arith, e)) (label-branch p b is there)
channel-text p is (CurrentChannel s) there = led 73 (name_of_switch p s) 13 (omega arith) refl refl (λ e. omega (arith, e)) (label-switch p s is there)
channel-text p is (SwitchVoltage s) there = led 85 (name_of_switch p s) 13 (omega arith) refl refl (λ e. omega (arith, e)) (label-switch p s is there)
channel-text p is (OfTacs v) there = led 84 (name_of_var p v) 6 (omega arith) refl refl (λ e. omega (arith, e)) (label-name (name_of_var p v) (All-get_or IsName p.vars v [] there is.draft.control.names))
channel-text p is (Status s) there = led 83 (name_of_switch p s) 13 (omega arith) refl refl (λ e. omega (arith, e)) (label-switch p s is there)

pub name-text : (p : Parts) (place : ℕ) → IsCase p → place < length p.channels → IsChannelText (name_of_channel p place)
name-text p place is less =
    All-get_or IsChannelText (map (text_of p) p.channels) place [] (omega (arith, length-map' (text_of p) p.channels))
    (all-map (text_of p) (IsChannel (sizes_of p)) IsChannelText (channel-text p is) p.channels is.draft.channels)

pub name-ends : (text : List ℕ) → IsChannelText text → HasSolidEnds text
name-ends text is = record { first = is.first; last = is.label.last }
