-- Channels are known by their lines.
use Rattle.std.proofs.Common.{◌≡◌, ◌++◌, ◌∙◌, sym, ap, subst, refl, arith, ◌-◌, ◌^◌, ◌<◌, ◌≤◌, Bool, false, true, List, [], ◌∷◌, ℕ, zero, suc, map, take, get_or, codes, decimal}
use Rattle.std.specs.Prelude.{All}
use Rattle.std.proofs.lemmas.List.{length-take}
use Rattle.std.proofs.lemmas.List.Sums.{count_by-le-length}
use Rattle.emtp_case.specs.Branch.{from_of, to_of}
use Rattle.emtp_case.specs.Channel.{is_status}
use Rattle.emtp_case.specs.held.Channel.{IsChannel}
use Rattle.emtp_case.specs.ChannelName.{name_of_branch, name_of_ends, name_of_node, name_of_switch, text_of}
use Rattle.emtp_case.specs.held.Name.{IsName}
use Rattle.emtp_case.specs.declared.case.Parts.{Parts}
use Rattle.emtp_case.specs.declared.channel.Channel.{Channel}
use Rattle.emtp_case.specs.declared.channel.Channel.TheVariants.{BranchCurrent, BranchVoltage, SwitchCurrent as CurrentChannel, NodeVoltage as NodeChannel, Tacs as OfTacs, Status, SwitchVoltage}
use Rattle.emtp_case.specs.declared.switch.Switch.{Switch}
use Rattle.emtp_listing.specs.ChannelLines.{channel_line, measured_entry, measured_word, record_entry, states_upto}
use Rattle.emtp_listing.specs.Entry.{word_entry}
use Rattle.emtp_listing.specs.Law.{IsFree, AllFree, AreApart, Around, HasNodeNames, HasVarNames}
use Rattle.emtp_listing.specs.Lines.{all_separated, head_text}
use Rattle.emtp_listing.proofs.Cut.{free-both, free-entries, fronts-same}
use Rattle.emtp_listing.proofs.Entries.{count-marked, place-marked}
use Rattle.emtp_listing.proofs.Marks.{IsMark, IsText, comma, line_end, name_at-text, node-free, node-same, text-both, word-free}
use Rattle.emtp_listing.proofs.Numbers.{decimal-free, place-same}
use Rattle.emtp_listing.proofs.Words.{variable-free, variable-same}

-- ---- names of channels

node_name-text : (p : Parts) (n : ℕ) → All IsName p.nodes → IsText (name_of_node p n)
node_name-text p zero names = refl
node_name-text p (suc at) names = name_at-text p.nodes at names

ends-text : (p : Parts) (a b : ℕ) → All IsName p.nodes → IsText (name_of_ends p a b)
ends-text p a b names = text-both (name_of_node p a ++ codes "-") (name_of_node p b) (text-both (name_of_node p a) (codes "-") (node_name-text p a names) refl) (node_name-text p b names)

branch-text : (p : Parts) (b : ℕ) → All IsName p.nodes → IsText (name_of_branch p b)
branch-text p b names = ends-text p (get_or (map from_of p.branches) b 0) (get_or (map to_of p.branches) b 0) names

switch-text : (p : Parts) (s : ℕ) → All IsName p.nodes → IsText (name_of_switch p s)
switch-text p s names = ends-text p (get_or (map (λ (x : Switch). x.from) p.switches) s 0) (get_or (map (λ (x : Switch). x.to) p.switches) s 0) names

text-text : (p : Parts) (c : Channel) → All IsName p.nodes → All IsName p.vars → IsText (text_of p c)
text-text p (NodeChannel n) names vars = text-both (codes "V ") (name_of_node p n) refl (node_name-text p n names)
text-text p (BranchCurrent b) names vars = text-both (codes "I ") (name_of_branch p b) refl (branch-text p b names)
text-text p (BranchVoltage b) names vars = text-both (codes "U ") (name_of_branch p b) refl (branch-text p b names)
text-text p (CurrentChannel s) names vars = text-both (codes "I ") (name_of_switch p s) refl (switch-text p s names)
text-text p (SwitchVoltage s) names vars = text-both (codes "U ") (name_of_switch p s) refl (switch-text p s names)
text-text p (OfTacs v) names vars = text-both (codes "T ") (get_or p.vars v []) refl (name_at-text p.vars v vars)
text-text p (Status s) names vars = text-both (codes "S ") (name_of_switch p s) refl (switch-text p s names)

-- ---- what is measured

word-text : (c : Channel) → IsText (measured_word c)
word-text (NodeChannel n) = refl
word-text (BranchCurrent n) = refl
word-text (BranchVoltage n) = refl
word-text (CurrentChannel n) = refl
word-text (SwitchVoltage n) = refl
word-text (OfTacs n) = refl
word-text (Status n) = refl

measured-free : (b : ℕ) (w : Around) (nodes vars : List (List ℕ)) (c : Channel) → IsMark b → HasNodeNames w nodes → HasVarNames w vars → IsChannel w.sizes c → IsFree b (measured_entry nodes vars c)
measured-free b w nodes vars (NodeChannel n) mark few named is = node-free b (codes "node") nodes n mark refl few.names (omega (arith, few.count, is.1))
measured-free b w nodes vars (BranchCurrent n) mark few named is = place-marked b (codes "branch") n mark refl (omega (arith, few.branches, is))
measured-free b w nodes vars (BranchVoltage n) mark few named is = place-marked b (codes "branch") n mark refl (omega (arith, few.branches, is))
measured-free b w nodes vars (CurrentChannel n) mark few named is = place-marked b (codes "switch") n mark refl (omega (arith, few.switches, is))
measured-free b w nodes vars (SwitchVoltage n) mark few named is = place-marked b (codes "switch") n mark refl (omega (arith, few.switches, is))
measured-free b w nodes vars (OfTacs n) mark few named is = variable-free b (codes "variable") vars n mark refl named.names (omega (arith, named.count, is))
measured-free b w nodes vars (Status n) mark few named is = place-marked b (codes "switch") n mark refl (omega (arith, few.switches, is))

measured-same : (w v : Around) (nodes vars : List (List ℕ)) (c d : Channel) → HasNodeNames w nodes → HasNodeNames v nodes → AreApart nodes → HasVarNames w vars → HasVarNames v vars → AreApart vars
    → IsChannel w.sizes c → IsChannel v.sizes d → measured_word c ≡ measured_word d → measured_entry nodes vars c ≡ measured_entry nodes vars d → c ≡ d
measured-same w v nodes vars (NodeChannel m) (NodeChannel n) few few2 apart named named2 apart_vars is js word e = ap (λ (z : ℕ). NodeChannel z) (node-same (codes "node") nodes m n few.names apart (omega (arith, few.count, is.1)) (omega (arith, few2.count, js.1)) e)
measured-same w v nodes vars (NodeChannel m) (BranchCurrent n) few few2 apart named named2 apart_vars is js word e = let l : 110 ≡ 98 = ap (λ (l : List ℕ). get_or l 0 0) word in absurd (omega (arith, l))
measured-same w v nodes vars (NodeChannel m) (BranchVoltage n) few few2 apart named named2 apart_vars is js word e = let l : 110 ≡ 98 = ap (λ (l : List ℕ). get_or l 0 0) word in absurd (omega (arith, l))
measured-same w v nodes vars (NodeChannel m) (CurrentChannel n) few few2 apart named named2 apart_vars is js word e = let l : 110 ≡ 115 = ap (λ (l : List ℕ). get_or l 0 0) word in absurd (omega (arith, l))
measured-same w v nodes vars (NodeChannel m) (SwitchVoltage n) few few2 apart named named2 apart_vars is js word e = let l : 110 ≡ 115 = ap (λ (l : List ℕ). get_or l 0 0) word in absurd (omega (arith, l))
measured-same w v nodes vars (NodeChannel m) (OfTacs n) few few2 apart named named2 apart_vars is js word e = let l : 110 ≡ 118 = ap (λ (l : List ℕ). get_or l 0 0) word in absurd (omega (arith, l))
measured-same w v nodes vars (NodeChannel m) (Status n) few few2 apart named named2 apart_vars is js word e = let l : 110 ≡ 115 = ap (λ (l : List ℕ). get_or l 0 0) word in absurd (omega (arith, l))
measured-same w v nodes vars (BranchCurrent m) (NodeChannel n) few few2 apart named named2 apart_vars is js word e = let l : 98 ≡ 110 = ap (λ (l : List ℕ). get_or l 0 0) word in absurd (omega (arith, l))
measured-same w v nodes vars (BranchCurrent m) (BranchCurrent n) few few2 apart named named2 apart_vars is js word e = ap (λ (z : ℕ). BranchCurrent z) (place-same (codes "branch") m n (omega (arith, few.branches, is)) (omega (arith, few2.branches, js)) e)
measured-same w v nodes vars (BranchCurrent m) (BranchVoltage n) few few2 apart named named2 apart_vars is js word e = let l : 99 ≡ 118 = ap (λ (l : List ℕ). get_or l 7 0) word in absurd (omega (arith, l))
measured-same w v nodes vars (BranchCurrent m) (CurrentChannel n) few few2 apart named named2 apart_vars is js word e = let l : 98 ≡ 115 = ap (λ (l : List ℕ). get_or l 0 0) word in absurd (omega (arith, l))
measured-same w v nodes vars (BranchCurrent m) (SwitchVoltage n) few few2 apart named named2 apart_vars is js word e = let l : 98 ≡ 115 = ap (λ (l : List ℕ). get_or l 0 0) word in absurd (omega (arith, l))
measured-same w v nodes vars (BranchCurrent m) (OfTacs n) few few2 apart named named2 apart_vars is js word e = let l : 98 ≡ 118 = ap (λ (l : List ℕ). get_or l 0 0) word in absurd (omega (arith, l))
measured-same w v nodes vars (BranchCurrent m) (Status n) few few2 apart named named2 apart_vars is js word e = let l : 98 ≡ 115 = ap (λ (l : List ℕ). get_or l 0 0) word in absurd (omega (arith, l))
measured-same w v nodes vars (BranchVoltage m) (NodeChannel n) few few2 apart named named2 apart_vars is js word e = let l : 98 ≡ 110 = ap (λ (l : List ℕ). get_or l 0 0) word in absurd (omega (arith, l))
measured-same w v nodes vars (BranchVoltage m) (BranchCurrent n) few few2 apart named named2 apart_vars is js word e = let l : 118 ≡ 99 = ap (λ (l : List ℕ). get_or l 7 0) word in absurd (omega (arith, l))
measured-same w v nodes vars (BranchVoltage m) (BranchVoltage n) few few2 apart named named2 apart_vars is js word e = ap (λ (z : ℕ). BranchVoltage z) (place-same (codes "branch") m n (omega (arith, few.branches, is)) (omega (arith, few2.branches, js)) e)
measured-same w v nodes vars (BranchVoltage m) (CurrentChannel n) few few2 apart named named2 apart_vars is js word e = let l : 98 ≡ 115 = ap (λ (l : List ℕ). get_or l 0 0) word in absurd (omega (arith, l))
measured-same w v nodes vars (BranchVoltage m) (SwitchVoltage n) few few2 apart named named2 apart_vars is js word e = let l : 98 ≡ 115 = ap (λ (l : List ℕ). get_or l 0 0) word in absurd (omega (arith, l))
measured-same w v nodes vars (BranchVoltage m) (OfTacs n) few few2 apart named named2 apart_vars is js word e = let l : 98 ≡ 118 = ap (λ (l : List ℕ). get_or l 0 0) word in absurd (omega (arith, l))
measured-same w v nodes vars (BranchVoltage m) (Status n) few few2 apart named named2 apart_vars is js word e = let l : 98 ≡ 115 = ap (λ (l : List ℕ). get_or l 0 0) word in absurd (omega (arith, l))
measured-same w v nodes vars (CurrentChannel m) (NodeChannel n) few few2 apart named named2 apart_vars is js word e = let l : 115 ≡ 110 = ap (λ (l : List ℕ). get_or l 0 0) word in absurd (omega (arith, l))
measured-same w v nodes vars (CurrentChannel m) (BranchCurrent n) few few2 apart named named2 apart_vars is js word e = let l : 115 ≡ 98 = ap (λ (l : List ℕ). get_or l 0 0) word in absurd (omega (arith, l))
measured-same w v nodes vars (CurrentChannel m) (BranchVoltage n) few few2 apart named named2 apart_vars is js word e = let l : 115 ≡ 98 = ap (λ (l : List ℕ). get_or l 0 0) word in absurd (omega (arith, l))
measured-same w v nodes vars (CurrentChannel m) (CurrentChannel n) few few2 apart named named2 apart_vars is js word e = ap (λ (z : ℕ). CurrentChannel z) (place-same (codes "switch") m n (omega (arith, few.switches, is)) (omega (arith, few2.switches, js)) e)
measured-same w v nodes vars (CurrentChannel m) (SwitchVoltage n) few few2 apart named named2 apart_vars is js word e = let l : 99 ≡ 118 = ap (λ (l : List ℕ). get_or l 7 0) word in absurd (omega (arith, l))
measured-same w v nodes vars (CurrentChannel m) (OfTacs n) few few2 apart named named2 apart_vars is js word e = let l : 115 ≡ 118 = ap (λ (l : List ℕ). get_or l 0 0) word in absurd (omega (arith, l))
measured-same w v nodes vars (CurrentChannel m) (Status n) few few2 apart named named2 apart_vars is js word e = let l : 99 ≡ 115 = ap (λ (l : List ℕ). get_or l 7 0) word in absurd (omega (arith, l))
measured-same w v nodes vars (SwitchVoltage m) (NodeChannel n) few few2 apart named named2 apart_vars is js word e = let l : 115 ≡ 110 = ap (λ (l : List ℕ). get_or l 0 0) word in absurd (omega (arith, l))
measured-same w v nodes vars (SwitchVoltage m) (BranchCurrent n) few few2 apart named named2 apart_vars is js word e = let l : 115 ≡ 98 = ap (λ (l : List ℕ). get_or l 0 0) word in absurd (omega (arith, l))
measured-same w v nodes vars (SwitchVoltage m) (BranchVoltage n) few few2 apart named named2 apart_vars is js word e = let l : 115 ≡ 98 = ap (λ (l : List ℕ). get_or l 0 0) word in absurd (omega (arith, l))
measured-same w v nodes vars (SwitchVoltage m) (CurrentChannel n) few few2 apart named named2 apart_vars is js word e = let l : 118 ≡ 99 = ap (λ (l : List ℕ). get_or l 7 0) word in absurd (omega (arith, l))
measured-same w v nodes vars (SwitchVoltage m) (SwitchVoltage n) few few2 apart named named2 apart_vars is js word e = ap (λ (z : ℕ). SwitchVoltage z) (place-same (codes "switch") m n (omega (arith, few.switches, is)) (omega (arith, few2.switches, js)) e)
measured-same w v nodes vars (SwitchVoltage m) (OfTacs n) few few2 apart named named2 apart_vars is js word e = let l : 115 ≡ 118 = ap (λ (l : List ℕ). get_or l 0 0) word in absurd (omega (arith, l))
measured-same w v nodes vars (SwitchVoltage m) (Status n) few few2 apart named named2 apart_vars is js word e = let l : 118 ≡ 115 = ap (λ (l : List ℕ). get_or l 7 0) word in absurd (omega (arith, l))
measured-same w v nodes vars (OfTacs m) (NodeChannel n) few few2 apart named named2 apart_vars is js word e = let l : 118 ≡ 110 = ap (λ (l : List ℕ). get_or l 0 0) word in absurd (omega (arith, l))
measured-same w v nodes vars (OfTacs m) (BranchCurrent n) few few2 apart named named2 apart_vars is js word e = let l : 118 ≡ 98 = ap (λ (l : List ℕ). get_or l 0 0) word in absurd (omega (arith, l))
measured-same w v nodes vars (OfTacs m) (BranchVoltage n) few few2 apart named named2 apart_vars is js word e = let l : 118 ≡ 98 = ap (λ (l : List ℕ). get_or l 0 0) word in absurd (omega (arith, l))
measured-same w v nodes vars (OfTacs m) (CurrentChannel n) few few2 apart named named2 apart_vars is js word e = let l : 118 ≡ 115 = ap (λ (l : List ℕ). get_or l 0 0) word in absurd (omega (arith, l))
measured-same w v nodes vars (OfTacs m) (SwitchVoltage n) few few2 apart named named2 apart_vars is js word e = let l : 118 ≡ 115 = ap (λ (l : List ℕ). get_or l 0 0) word in absurd (omega (arith, l))
measured-same w v nodes vars (OfTacs m) (OfTacs n) few few2 apart named named2 apart_vars is js word e = ap (λ (z : ℕ). OfTacs z) (variable-same (codes "variable") vars m n apart_vars (omega (arith, named.count, is)) (omega (arith, named2.count, js)) e)
measured-same w v nodes vars (OfTacs m) (Status n) few few2 apart named named2 apart_vars is js word e = let l : 118 ≡ 115 = ap (λ (l : List ℕ). get_or l 0 0) word in absurd (omega (arith, l))
measured-same w v nodes vars (Status m) (NodeChannel n) few few2 apart named named2 apart_vars is js word e = let l : 115 ≡ 110 = ap (λ (l : List ℕ). get_or l 0 0) word in absurd (omega (arith, l))
measured-same w v nodes vars (Status m) (BranchCurrent n) few few2 apart named named2 apart_vars is js word e = let l : 115 ≡ 98 = ap (λ (l : List ℕ). get_or l 0 0) word in absurd (omega (arith, l))
measured-same w v nodes vars (Status m) (BranchVoltage n) few few2 apart named named2 apart_vars is js word e = let l : 115 ≡ 98 = ap (λ (l : List ℕ). get_or l 0 0) word in absurd (omega (arith, l))
measured-same w v nodes vars (Status m) (CurrentChannel n) few few2 apart named named2 apart_vars is js word e = let l : 115 ≡ 99 = ap (λ (l : List ℕ). get_or l 7 0) word in absurd (omega (arith, l))
measured-same w v nodes vars (Status m) (SwitchVoltage n) few few2 apart named named2 apart_vars is js word e = let l : 115 ≡ 118 = ap (λ (l : List ℕ). get_or l 7 0) word in absurd (omega (arith, l))
measured-same w v nodes vars (Status m) (OfTacs n) few few2 apart named named2 apart_vars is js word e = let l : 115 ≡ 118 = ap (λ (l : List ℕ). get_or l 0 0) word in absurd (omega (arith, l))
measured-same w v nodes vars (Status m) (Status n) few few2 apart named named2 apart_vars is js word e = ap (λ (z : ℕ). Status z) (place-same (codes "switch") m n (omega (arith, few.switches, is)) (omega (arith, few2.switches, js)) e)

-- ---- lines

states_upto-few : (channels : List Channel) (number : ℕ) → states_upto channels number ≤ number
states_upto-few channels number =
    let most = count_by-le-length is_status (take number channels) in
    let few = length-take number channels in
    omega (arith, most, few)

record-entry-free : (b : ℕ) (state : Bool) (number states : ℕ) → IsMark b → number < 2 ^ 32 → states ≤ number → IsFree b (record_entry state number states)
record-entry-free b false number states mark small few = count-marked b (codes "analog channel") (number - states) mark refl (omega (arith, small))
record-entry-free b true number states mark small few = count-marked b (codes "status channel") states mark refl (omega (arith, small, few))

abbrev channel_entries : Parts → ℕ → Channel → List (List ℕ)
channel_entries p number c =
    measured_word c ∷ measured_entry p.nodes p.vars c ∷ word_entry (codes "name") (text_of p c)
    ∷ record_entry (is_status c) number (states_upto p.channels number) ∷ []

channel-entries-free : (b : ℕ) (w : Around) (p : Parts) (number : ℕ) (c : Channel) → IsMark b → number < 2 ^ 32 → HasNodeNames w p.nodes → HasVarNames w p.vars → IsChannel w.sizes c → AllFree b (channel_entries p number c)
channel-entries-free b w p number c mark small few named is = (
  mark.texts (measured_word c) (word-text c),
  (
    measured-free b w p.nodes p.vars c mark few named is,
    (
      word-free b (codes "name") (text_of p c) mark refl (text-text p c few.names named.names),
      (record-entry-free b (is_status c) number (states_upto p.channels number) mark small (states_upto-few p.channels number), tt),
    ),
  ),
)

head-free : (b number : ℕ) → IsMark b → number < 2 ^ 32 → IsFree b (head_text (codes "channel") number)
head-free b number mark small = free-both b (codes "channel ") (decimal number) (mark.texts (codes "channel ") refl) (decimal-free b number (omega (arith, mark.low)) (omega arith))

pub channel-free : (w : Around) (p : Parts) (number : ℕ) (c : Channel) → number < 2 ^ 32 → HasNodeNames w p.nodes → HasVarNames w p.vars → IsChannel w.sizes c → IsFree 10 (channel_line p number c)
channel-free w p number c small few named is =
    free-both 10 (head_text (codes "channel") number) (all_separated (channel_entries p number c)) (head-free 10 number line_end small) (free-entries 10 (channel_entries p number c) (omega arith) (channel-entries-free 10 w p number c line_end small few named is))

-- the nodes and variables of both cases have the same names
pub channel-same : (w v : Around) (p q : Parts) (number : ℕ) (c d : Channel) → number < 2 ^ 32 → p.nodes ≡ q.nodes → p.vars ≡ q.vars → HasNodeNames w p.nodes → HasNodeNames v q.nodes → AreApart p.nodes → HasVarNames w p.vars → HasVarNames v q.vars → AreApart p.vars
    → IsChannel w.sizes c → IsChannel v.sizes d → channel_line p number c ≡ channel_line q number d → c ≡ d
channel-same w v p q number c d small nodes vars few few2 apart named named2 apart_vars is js e =
    let head = head-free 44 number comma small in
    let parts = fronts-same (head_text (codes "channel") number) (head_text (codes "channel") number) (channel_entries p number c) (channel_entries q number d) head head
    (channel-entries-free 44 w p number c comma small few named is) (channel-entries-free 44 v q number d comma small few2 named2 js) e in
    measured-same w v p.nodes p.vars c d few (subst (HasNodeNames v) (sym nodes) few2) apart named (subst (HasVarNames v) (sym vars) named2) apart_vars is js
    (ap (λ (l : List (List ℕ)). get_or l 0 []) parts.1)
    (ap (λ (l : List (List ℕ)). get_or l 1 []) parts.1 ∙ ap (λ (ns : List (List ℕ)). measured_entry ns q.vars d) (sym nodes) ∙ ap (λ (vs : List (List ℕ)). measured_entry p.nodes vs d) (sym vars))
