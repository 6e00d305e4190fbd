-- The switches get their times one after another; those set before leave no trace, and the cards' own leave the switches as they are.
use Rattle.emtp_case.specs.declared.limit.TheConstants.{MOST_SWITCHES}
use Rattle.emtp_case.proofs.Growth.{Extends-refl, IsSwitch-grows, grown}
use Rattle.emtp_case.specs.held.Case.{HasCounts, IsDraft}
use Rattle.emtp_case.specs.held.Sizes.{Grows, Sizes, sizes_of}
use Rattle.emtp_case.specs.Switch.{card_times, is_time_kind, is_time_switch, kind_with, switch_with, times_of_kind, with_times}
use Rattle.emtp_case.specs.held.Switch.{HasTimes, IsSwitch, IsSwitchKind}
use Rattle.emtp_case.specs.declared.case.Parts.{Parts}
use Rattle.emtp_case.specs.declared.switch.Switch.{Switch}
use Rattle.emtp_case.specs.declared.switch.SwitchKind.{SwitchKind}
use Rattle.emtp_case.specs.declared.switch.SwitchKind.TheVariants.{Control, Measuring, Time, Valve}
use Rattle.emtp_case.specs.declared.switch.Times.{Times}
use Rattle.std.proofs.Common.{◌∙◌, add-one, ap, arith, rules, subst, sym}
use Rattle.std.proofs.Math.ListN.{drop_of_length-le, length-set}
use Rattle.std.proofs.Math.Seq.{drop-cons, take-suc, take-suc-set}
use Rattle.std.proofs.lemmas.List.{append-nil, append_assoc, drop-set-lt}
use Rattle.std.proofs.lemmas.List.Elements.{All-cons, All-head, All-nil, All-tail, All-weaker}
use Rattle.std.proofs.lemmas.List.Sums.{sum_by-cons}
use Rattle.std.specs.List.{cons_option}
use Rattle.std.specs.Prelude.{◌≡◌, ◌+◌, ◌<◌, ◌≤◌, ◌∷◌, ◌++◌, if◌then◌else◌, [], All, Bool, List, count_by, drop, false, length, refl, slice_index_or, slice_set, suc, take, true, zero, ℕ}

other_stays : (s : Switch) (t : Times) → is_time_switch s ≡ false → switch_with s t ≡ s
other_stays s t h = ap (λ k. let made : Switch = record s { kind = k } in made) (kind_stays s.kind h)
  where
    kind_stays : (k : SwitchKind) → is_time_kind k ≡ false → kind_with k t ≡ k
    kind_stays (Time close open_at margin) h = absurd (cc)
    kind_stays Measuring h = refl
    kind_stays (Valve ignition holding control) h = refl
    kind_stays (Control control) h = refl

with_times-other : (s : Switch) (ss : List Switch) (ts : List Times) → is_time_switch s ≡ false → with_times (s ∷ ss) ts ≡ s ∷ with_times ss ts
with_times-other s ss [] h = refl
with_times-other s ss (t ∷ ts) h = ap (λ b. switch_with s t ∷ with_times ss (if b then ts else t ∷ ts)) h ∙ ap (λ u. u ∷ with_times ss (t ∷ ts)) (other_stays s t h)

with_times-time : (s : Switch) (ss : List Switch) (t : Times) (ts : List Times) → is_time_switch s ≡ true → with_times (s ∷ ss) (t ∷ ts) ≡ switch_with s t ∷ with_times ss ts
with_times-time s ss t ts h = ap (λ b. switch_with s t ∷ with_times ss (if b then ts else t ∷ ts)) h

counted : (s : Switch) (ss : List Switch) (b : Bool) → is_time_switch s ≡ b → count_by is_time_switch (s ∷ ss) ≡ (if b then 1 else 0) + count_by is_time_switch ss
counted s ss b h = sum_by-cons (λ x. if is_time_switch x then 1 else 0) s ss ∙ ap (λ (a : Bool). (if a then 1 else 0) + count_by is_time_switch ss) h

-- the switches before a place have their times, and so many times are used up
pub record AreSetUpTo (at next : ℕ) (old ss : List Switch) (times : List Times) : Type 0 where
  pub same_len : length ss ≡ length old
  pub left : length times ≡ next + count_by is_time_switch (drop at ss)
  pub is_set : with_times old times ≡ take at ss ++ with_times (drop at ss) (drop next times)

pub set_none : (ss : List Switch) (times : List Times) → length times ≡ count_by is_time_switch ss → AreSetUpTo 0 0 ss ss times
set_none ss times h = record { same_len = refl; left = omega (arith, h); is_set = refl }

take_all : {X : Type 0} (n : ℕ) (xs : List X) → length xs ≤ n → take n xs ≡ xs
take_all zero [] h = refl
take_all (suc n) [] h = refl
take_all zero (x ∷ xs) h = absurd (omega arith)
take_all (suc n) (x ∷ xs) h = ap (λ ys. x ∷ ys) (take_all n xs (omega arith))

pub set_all : (at next : ℕ) (old ss : List Switch) (times : List Times) → AreSetUpTo at next old ss times → length old ≤ at → ss ≡ with_times old times
set_all at next old ss times h past =
    let nothing : drop at ss ≡ [] = drop_of_length-le ss (omega (arith, h.same_len)) in
    let whole : take at ss ≡ ss = take_all at ss (omega (arith, h.same_len)) in
    sym (h.is_set ∙ ap (λ xs. take at ss ++ with_times xs (drop next times)) nothing ∙ append-nil (take at ss) ∙ whole)

-- a switch that is passed
pub pass_one : (at next : ℕ) (old ss : List Switch) (times : List Times) (d : Switch) → AreSetUpTo at next old ss times → at < length ss → is_time_switch (slice_index_or ss at d) ≡ false → AreSetUpTo (at + 1) next old ss times
pass_one at next old ss times d h within other =
    let s = slice_index_or ss at d in
    let rest : drop at ss ≡ s ∷ drop (suc at) ss = drop-cons ss at d within in
    let front : take (suc at) ss ≡ take at ss ++ s ∷ [] = take-suc ss at d within in
    rw add-one (record {
      same_len = h.same_len;
      left = omega (arith, h.left, ap (λ xs. count_by is_time_switch xs) rest, counted s (drop (suc at) ss) false other);
      is_set =
          h.is_set ∙ ap (λ xs. take at ss ++ with_times xs (drop next times)) rest ∙ ap (λ xs. take at ss ++ xs) (with_times-other s (drop (suc at) ss) (drop next times) other)
          ∙ sym (append_assoc (take at ss) (s ∷ []) (with_times (drop (suc at) ss) (drop next times))) ∙ ap (λ xs. xs ++ with_times (drop (suc at) ss) (drop next times)) (sym front);
    })

-- there is an entry for the next time switch
pub entry_there : (at next : ℕ) (old ss : List Switch) (times : List Times) (d : Switch) → AreSetUpTo at next old ss times → at < length ss → is_time_switch (slice_index_or ss at d) ≡ true → next < length times
entry_there at next old ss times d h within time =
    let s = slice_index_or ss at d in
    let count : count_by is_time_switch (drop at ss) ≡ 1 + count_by is_time_switch (drop (suc at) ss) =
    ap (λ xs. count_by is_time_switch xs) (drop-cons ss at d within) ∙ counted s (drop (suc at) ss) true time in
    omega (arith, h.left, count)

-- a time switch that gets its entry
pub set_one : (at next : ℕ) (old ss : List Switch) (times : List Times) (d : Switch) (e : Times) → AreSetUpTo at next old ss times → at < length ss → is_time_switch (slice_index_or ss at d) ≡ true
    → AreSetUpTo (at + 1) (next + 1) old (slice_set ss at (switch_with (slice_index_or ss at d) (slice_index_or times next e))) times
set_one at next old ss times d e h within time =
    let s = slice_index_or ss at d in
    let t = slice_index_or times next e in
    let new = switch_with s t in
    let rest : drop at ss ≡ s ∷ drop (suc at) ss = drop-cons ss at d within in
    let entries : drop next times ≡ t ∷ drop (suc next) times = drop-cons times next e (entry_there at next old ss times d h within time) in
    let front : take (suc at) (slice_set ss at new) ≡ take at ss ++ new ∷ [] = take-suc-set ss at new within in
    let behind : drop (suc at) (slice_set ss at new) ≡ drop (suc at) ss = drop-set-lt (suc at) ss at new (omega arith) in
    rw (add-one, add-one) (record {
      same_len = length-set ss at new ∙ h.same_len;
      left = omega (arith, h.left, ap (λ xs. count_by is_time_switch xs) rest, counted s (drop (suc at) ss) true time, ap (λ xs. count_by is_time_switch xs) behind);
      is_set =
          h.is_set ∙ ap (λ xs. take at ss ++ with_times xs (drop next times)) rest ∙ ap (λ ts. take at ss ++ with_times (s ∷ drop (suc at) ss) ts) entries
          ∙ ap (λ xs. take at ss ++ xs) (with_times-time s (drop (suc at) ss) t (drop (suc next) times) time)
          ∙ sym (append_assoc (take at ss) (new ∷ []) (with_times (drop (suc at) ss) (drop (suc next) times)))
          ∙ ap (λ xs. xs ++ with_times (drop (suc at) ss) (drop (suc next) times)) (sym front)
          ∙ ap (λ xs. take (suc at) (slice_set ss at new) ++ with_times xs (drop (suc next) times)) (sym behind);
    })

-- the same for the values that a turn of the loop leaves
pub set_turn : (at next : ℕ) (old ss : List Switch) (times : List Times) (d : Switch) (e : Times) (new : Switch) (rs : List Switch) (m : ℕ) → AreSetUpTo at next old ss times → at < length ss → is_time_switch (slice_index_or ss at d) ≡ true → new ≡ switch_with (slice_index_or ss at d) (slice_index_or times next e) → rs ≡ slice_set ss at new → m ≡ next + 1
    → AreSetUpTo (at + 1) m old rs times
set_turn at next old ss times d e new rs m h within time new_is rs_is m_is =
    subst (λ n. AreSetUpTo (at + 1) n old rs times) (sym m_is)
    (subst (λ xs. AreSetUpTo (at + 1) (next + 1) old xs times) (sym (rs_is ∙ ap (slice_set ss at) new_is)) (set_one at next old ss times d e h within time))

pub pass_turn : (at next : ℕ) (old ss : List Switch) (times : List Times) (d : Switch) (rs : List Switch) (m : ℕ) → AreSetUpTo at next old ss times → at < length ss → is_time_switch (slice_index_or ss at d) ≡ false → rs ≡ ss → m ≡ next
    → AreSetUpTo (at + 1) m old rs times
pass_turn at next old ss times d rs m h within other rs_is m_is =
    subst (λ n. AreSetUpTo (at + 1) n old rs times) (sym m_is) (subst (λ xs. AreSetUpTo (at + 1) next old xs times) (sym rs_is) (pass_one at next old ss times d h within other))

-- the switches with other times still fit
pub with_times-fits : (n : Sizes) (ss : List Switch) (times : List Times) → All (IsSwitch n) ss → All (λ (t : Times). HasTimes t.close t.open_at) times → All (IsSwitch n) (with_times ss times)
with_times-fits n [] times h small = All-nil (IsSwitch n)
with_times-fits n (s ∷ ss) [] h small = All-cons (IsSwitch n) s (with_times ss []) (All-head (IsSwitch n) s ss h) (with_times-fits n ss [] (All-tail (IsSwitch n) s ss h) small)
with_times-fits n (s ∷ ss) (t ∷ times) h small =
    let here = All-head (IsSwitch n) s ss h in
    let rest = All-tail (IsSwitch n) s ss h in
    let fits : IsSwitch n (switch_with s t) = record { ends = here.ends; kind = kind_fits s.kind t here.kind (All-head (λ (t : Times). HasTimes t.close t.open_at) t times small) } in
    All-cons (IsSwitch n) (switch_with s t) _ fits (behind (is_time_switch s) (with_times-fits n ss times rest (All-tail (λ (t : Times). HasTimes t.close t.open_at) t times small)) (with_times-fits n ss (t ∷ times) rest small))
  where
    kind_fits : (k : SwitchKind) (t : Times) → IsSwitchKind n k → HasTimes t.close t.open_at → IsSwitchKind n (kind_with k t)
    kind_fits (Time close open_at margin) t h small = (small, h.1)
    kind_fits Measuring t h small = h
    kind_fits (Valve ignition holding control) t h small = h
    kind_fits (Control control) t h small = h

    behind : (b : Bool) → All (IsSwitch n) (with_times ss times) → All (IsSwitch n) (with_times ss (t ∷ times)) → All (IsSwitch n) (with_times ss (if b then times else t ∷ times))
    behind true used left = used
    behind false used left = left

pub length-with_times : (ss : List Switch) (times : List Times) → length (with_times ss times) ≡ length ss
length-with_times [] times = refl
length-with_times (s ∷ ss) [] = ap suc (length-with_times ss [])
length-with_times (s ∷ ss) (t ∷ times) = ap suc (behind (is_time_switch s) (length-with_times ss times) (length-with_times ss (t ∷ times)))
  where
    behind : (b : Bool) → length (with_times ss times) ≡ length ss → length (with_times ss (t ∷ times)) ≡ length ss → length (with_times ss (if b then times else t ∷ times)) ≡ length ss
    behind true used left = used
    behind false used left = left

-- the draft with other switches, of the same number
pub with_switches : (p : Parts) (ss : List Switch) → IsDraft p → length ss ≡ length p.switches → All (IsSwitch (sizes_of p)) ss → IsDraft (record p { switches = ss })
with_switches p ss h same fits =
    let few : length ss ≤ MOST_SWITCHES = omega (arith, same, h.counts.switches) in
    let q : Parts = record p { switches = ss } in
    let counts : HasCounts q = search rules in
    let g : Grows (sizes_of p) (sizes_of q) = record { nodes = omega arith; branches = omega arith; trios = omega arith; switches = omega (arith, same); vars = omega arith } in
    let old = grown p (sizes_of q) p.points h g (Extends-refl p.points) in
    record {
      run = h.run;
      counts = counts;
      network = record {
        names = h.network.names;
        branches = old.branches;
        trios = h.network.trios;
        in_threes = h.network.in_threes;
        switches = All-weaker (IsSwitch (sizes_of p)) (IsSwitch (sizes_of q)) (IsSwitch-grows (sizes_of p) (sizes_of q) g) ss fits;
        sources = old.sources;
        one_voltage = h.network.one_voltage;
      };
      control = record {
        standing = h.control.standing;
        names = h.control.names;
        tacs_sources = old.tacs_sources;
        blocks = old.blocks;
        extras = old.extras;
      };
      channels = old.channels;
    }

-- ---- times that are set twice

kind_of_time : (k : SwitchKind) (t : Times) → is_time_kind (kind_with k t) ≡ is_time_kind k
kind_of_time (Time close open_at margin) t = refl
kind_of_time Measuring t = refl
kind_of_time (Valve ignition holding control) t = refl
kind_of_time (Control control) t = refl

kind_twice : (k : SwitchKind) (t u : Times) → kind_with (kind_with k t) u ≡ kind_with k u
kind_twice (Time close open_at margin) t u = refl
kind_twice Measuring t u = refl
kind_twice (Valve ignition holding control) t u = refl
kind_twice (Control control) t u = refl

switch_twice : (s : Switch) (t u : Times) → switch_with (switch_with s t) u ≡ switch_with s u
switch_twice s t u = ap (λ k. let made : Switch = record s { kind = k } in made) (kind_twice s.kind t u)

-- there are as many time switches as before
pub count_stays : (ss : List Switch) (ts : List Times) → length ts ≡ count_by is_time_switch ss → count_by is_time_switch (with_times ss ts) ≡ count_by is_time_switch ss
count_stays [] ts h = refl
count_stays (s ∷ ss) ts h = by (is_time_switch s) refl ts h (count_stays ss)
  where
    by : (b : Bool) → is_time_switch s ≡ b → (ts : List Times) → length ts ≡ count_by is_time_switch (s ∷ ss)
        → ((ts : List Times) → length ts ≡ count_by is_time_switch ss → count_by is_time_switch (with_times ss ts) ≡ count_by is_time_switch ss)
        → count_by is_time_switch (with_times (s ∷ ss) ts) ≡ count_by is_time_switch (s ∷ ss)
    by true time [] h later = absurd (omega (arith, h, counted s ss true time))
    by true time (t ∷ ts) h later =
        let rest = later ts (omega (arith, h, counted s ss true time)) in
        let kept : is_time_switch (switch_with s t) ≡ true = kind_of_time s.kind t ∙ time in
        ap (count_by is_time_switch) (with_times-time s ss t ts time) ∙ counted (switch_with s t) (with_times ss ts) true kept ∙ ap (λ n. 1 + n) rest ∙ sym (counted s ss true time)
    by false other ts h later =
        let rest = later ts (omega (arith, h, counted s ss false other)) in
        ap (count_by is_time_switch) (with_times-other s ss ts other) ∙ counted s (with_times ss ts) false other ∙ ap (λ n. 0 + n) rest ∙ sym (counted s ss false other)

-- the times that are set last alone count
pub times_twice : (ss : List Switch) (ts us : List Times) → length ts ≡ count_by is_time_switch ss → length us ≡ count_by is_time_switch ss → with_times (with_times ss ts) us ≡ with_times ss us
times_twice [] ts us h g = refl
times_twice (s ∷ ss) ts us h g = by (is_time_switch s) refl ts us h g (times_twice ss)
  where
    by : (b : Bool) → is_time_switch s ≡ b → (ts us : List Times) → length ts ≡ count_by is_time_switch (s ∷ ss) → length us ≡ count_by is_time_switch (s ∷ ss)
        → ((ts us : List Times) → length ts ≡ count_by is_time_switch ss → length us ≡ count_by is_time_switch ss → with_times (with_times ss ts) us ≡ with_times ss us)
        → with_times (with_times (s ∷ ss) ts) us ≡ with_times (s ∷ ss) us
    by true time [] us h g later = absurd (omega (arith, h, counted s ss true time))
    by true time (t ∷ ts) [] h g later = absurd (omega (arith, g, counted s ss true time))
    by true time (t ∷ ts) (u ∷ us) h g later =
        let rest = later ts us (omega (arith, h, counted s ss true time)) (omega (arith, g, counted s ss true time)) in
        let kept : is_time_switch (switch_with s t) ≡ true = kind_of_time s.kind t ∙ time in
        ap (λ xs. with_times xs (u ∷ us)) (with_times-time s ss t ts time) ∙ with_times-time (switch_with s t) (with_times ss ts) u us kept
        ∙ ap (λ x. x ∷ with_times (with_times ss ts) us) (switch_twice s t u) ∙ ap (λ xs. switch_with s u ∷ xs) rest ∙ sym (with_times-time s ss u us time)
    by false other ts us h g later =
        let rest = later ts us (omega (arith, h, counted s ss false other)) (omega (arith, g, counted s ss false other)) in
        ap (λ xs. with_times xs us) (with_times-other s ss ts other) ∙ with_times-other s (with_times ss ts) us other ∙ ap (λ xs. s ∷ xs) rest ∙ sym (with_times-other s ss us other)

-- the cards' own times leave the switches as they are
pub own_times_stay : (ss : List Switch) → with_times ss (card_times ss) ≡ ss
own_times_stay [] = refl
own_times_stay (s ∷ ss) = by s.kind refl (own_times_stay ss)
  where
    other : (k : SwitchKind) → s.kind ≡ k → is_time_kind k ≡ false → cons_option (times_of_kind k) (card_times ss) ≡ card_times ss → with_times ss (card_times ss) ≡ ss → with_times (s ∷ ss) (card_times (s ∷ ss)) ≡ s ∷ ss
    other k is no_time none later =
        ap (with_times (s ∷ ss)) (ap (λ k. cons_option (times_of_kind k) (card_times ss)) is ∙ none) ∙ with_times-other s ss (card_times ss) (ap is_time_kind is ∙ no_time) ∙ ap (λ xs. s ∷ xs) later

    by : (k : SwitchKind) → s.kind ≡ k → with_times ss (card_times ss) ≡ ss → with_times (s ∷ ss) (card_times (s ∷ ss)) ≡ s ∷ ss
    by (Time close open_at margin) is later =
        let t : Times = record { close = close; open_at = open_at } in
        let first : card_times (s ∷ ss) ≡ t ∷ card_times ss = ap (λ k. cons_option (times_of_kind k) (card_times ss)) is in
        let stays : switch_with s t ≡ s = ap (λ k. let made : Switch = record s { kind = k } in made) (ap (λ k. kind_with k t) is ∙ sym is) in
        ap (with_times (s ∷ ss)) first ∙ with_times-time s ss t (card_times ss) (ap is_time_kind is) ∙ ap (λ x. x ∷ with_times ss (card_times ss)) stays ∙ ap (λ xs. s ∷ xs) later
    by Measuring is later = other Measuring is refl refl later
    by (Valve ignition holding control) is later = other (Valve ignition holding control) is refl refl later
    by (Control control) is later = other (Control control) is refl refl later
