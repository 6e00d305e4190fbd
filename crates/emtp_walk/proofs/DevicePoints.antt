-- The points of a table and the times of a window.
use Rattle.emtp_case.specs.declared.limit.TheConstants.{MOST_POINTS}
use Rattle.std.proofs.Common.{◌≡◌, ◌≢◌, ◌∙◌, sym, ap, subst, refl, ℕ, zero, suc, ◌+◌, ◌≤◌, ◌<◌, ℤ, ◌≤ℤ◌, ◌<ℤ◌, true, false, List, [], ◌∷◌, ◌++◌, length, drop, get_or, Option, Some, None, All, inl, inr, add-one, arith, length-append, length-drop}
use Rattle.std.proofs.lemmas.Bool.{cases_lt}
use Rattle.std.proofs.lemmas.Int.{ints}
use Rattle.std.proofs.lemmas.List.{drop_all, take_all}
use Rattle.std.proofs.lemmas.List.Elements.{All-nil}
use Rattle.std.proofs.lemmas.Option.{slice_get-get_or}
use Rattle.std.specs.Prelude.{slice_get, int_lt, int_le}
use Rattle.emtp_case.specs.Branch.{origin, points_of}
use Rattle.emtp_case.specs.held.Control.{AreTimes, HasDevicePoints, IsTable}
use Rattle.emtp_case.specs.declared.branch.Point.{Point}
use Rattle.emtp_case.specs.declared.control.DeviceCode.{DeviceCode}
use Rattle.emtp_case.specs.declared.control.DeviceCode.TheVariants.{Counter, Delay, DelayedPulse, Derivative, EffectiveValue, Extreme, Gate, GateAbove, Integral, PeakHold, SampleHold, Selector, Table, Window}
use Rattle.emtp_walk.specs.ControlSteps.{device_scale, points_follow}
use Rattle.emtp_walk.specs.held.Sound.{AreInTurn, IsDeviceDue, IsDeviceEntry, IsDeviceGroup, before_at}
use Rattle.emtp_walk.specs.declared.control_cards.DeviceGroup.{DeviceGroup}
use Rattle.emtp_walk.specs.declared.deck.Deck.{Deck}
use Rattle.emtp_netcards.specs.PointCard.{fewest_of}
use Rattle.emtp_netcards.specs.held.PointCard.{Follows, IsPointOf}
use Rattle.emtp_netcards.specs.declared.point_card.PointScale.{PointScale}
use Rattle.emtp_netcards.specs.declared.point_card.PointScale.TheVariants.{Table as TableScale, Times as TimesScale}
use Rattle.emtp_taccards.specs.declared.device_card.DeviceCard.{DeviceCard}
use Rattle.emtp_walk.proofs.Sounding.{at_end, at_front, drop_push, pushed}

-- ---- one more point

get_front : {A : Type 0} (xs : List A) (y : A) (k : ℕ) → k < length xs → slice_get (xs ++ y ∷ []) k ≡ slice_get xs k
get_front [] y k l = absurd (omega (arith, l))
get_front (x ∷ xs) y zero l = refl
get_front (x ∷ xs) y (suc k) l = get_front xs y k (omega (arith, l))

get_end : {A : Type 0} (xs : List A) (y : A) → slice_get (xs ++ y ∷ []) (length xs) ≡ Some y
get_end [] y = refl
get_end (x ∷ xs) y = get_end xs y

before_front : (ps : List Point) (p : Point) (k : ℕ) → k ≤ length ps → before_at (ps ++ p ∷ []) k ≡ before_at ps k
before_front ps p zero l = refl
before_front ps p (suc k) l = get_front ps p k (omega (arith, l))

before_end : (ps : List Point) (p : Point) (k : ℕ) → k ≡ length ps → before_at (ps ++ p ∷ []) (k + 1) ≡ Some p
before_end ps p k e = ap (before_at (ps ++ p ∷ [])) (add-one k) ∙ ap (slice_get (ps ++ p ∷ [])) e ∙ get_end ps p

turn_more : (scale : PointScale) (dt : ℤ) (ps : List Point) (p : Point) → Follows scale dt (before_at ps (length ps)) p → AreInTurn scale dt ps → AreInTurn scale dt (ps ++ p ∷ [])
turn_more scale dt ps p here all k l = elim (cases_lt k (length ps)) [
  | inl front ↦
      subst (λ (b : Option Point). Follows scale dt b (get_or (ps ++ p ∷ []) k origin)) (sym (before_front ps p k (omega (arith, front))))
      (subst (λ (q : Point). Follows scale dt (before_at ps k) q) (sym (at_front ps k p origin front)) (all k front))
  | inr past ↦
      let same : k ≡ length ps = omega (arith, past, l, length-append ps (p ∷ [])) in
      subst (λ (n : ℕ). Follows scale dt (before_at (ps ++ p ∷ []) n) (get_or (ps ++ p ∷ []) n origin)) (sym same)
      (subst (λ (b : Option Point). Follows scale dt b (get_or (ps ++ p ∷ []) (length ps) origin)) (sym (before_front ps p (length ps) (omega arith)))
      (subst (λ (q : Point). Follows scale dt (before_at ps (length ps)) q) (sym (at_end ps p origin)) here))
]

pub device_group : (deck : Deck) (group : DeviceGroup) (point : Point) → IsDeviceGroup deck group → group.count < MOST_POINTS → IsPointOf (device_scale group.card.code) point → Follows (device_scale group.card.code) deck.run.dt group.before point
    → IsDeviceGroup (record deck { points = deck.points ++ point ∷ [] }) (record group { count = group.count + 1; before = Some point })
device_group deck group point of room range follows =
    let scale = device_scale group.card.code in
    let ps = drop group.first deck.points in
    let within : group.first ≤ length deck.points = omega (arith, of.there) in
    let size : group.count ≡ length ps = omega (arith, length-drop group.first deck.points, of.there) in
    let more : drop group.first (deck.points ++ point ∷ []) ≡ ps ++ point ∷ [] = drop_push group.first deck.points point within in
    let last : Follows scale deck.run.dt (before_at ps (length ps)) point = subst (λ (b : Option Point). Follows scale deck.run.dt b point) (of.before ∙ ap (before_at ps) size) follows in
    record {
      card = of.card;
      follow = of.follow;
      few = omega (arith, room);
      there = omega (arith, of.there, length-append deck.points (point ∷ []));
      before = sym (ap (λ xs. before_at xs (group.count + 1)) more ∙ before_end ps point group.count size);
      points = subst (All (IsPointOf scale)) (sym more) (pushed (IsPointOf scale) ps point of.points range);
      turn = subst (AreInTurn scale deck.run.dt) (sym more) (turn_more scale deck.run.dt ps point last of.turn);
    }

-- ---- the whole group

lt_is : (a b : ℤ) → int_lt a b ≡ true → a <ℤ b
lt_is a b h = grind (arith, ints)

le_is : (a b : ℤ) → int_le a b ≡ true → a ≤ℤ b
le_is a b h = grind (arith, ints)

-- what each point has against the one before it
turn_at : (scale : PointScale) (dt : ℤ) (ps : List Point) (k : ℕ) → AreInTurn scale dt ps → k + 1 < length ps → Follows scale dt (Some (get_or ps k origin)) (get_or ps (k + 1) origin)
turn_at scale dt ps k all l =
    let step = all (k + 1) l in
    subst (λ (b : Option Point). Follows scale dt b (get_or ps (k + 1) origin)) (ap (before_at ps) (add-one k) ∙ slice_get-get_or ps k origin (omega (arith, l))) step

table_of : (dt : ℤ) (ps : List Point) → 2 ≤ length ps → length ps ≤ MOST_POINTS → All (IsPointOf TableScale) ps → AreInTurn TableScale dt ps → IsTable ps
table_of dt ps some few range turn = record {
  some = some;
  few = few;
  inputs = λ k d l. let r = range k d l in let c = r.current in omega (arith, ints, c.least, c.most);
  outputs = λ k d l. let r = range k d l in let c = r.other in omega (arith, ints, c.least, c.most);
  rising = λ k l. lt_is _ _ (turn_at TableScale dt ps k turn l);
}

times_first : (dt : ℤ) (before : Option Point) (p : Point) → Follows TimesScale dt before p → p.current <ℤ p.other
times_first dt before p h = lt_is p.current p.other h.1

times_of : (dt : ℤ) (ps : List Point) → 1 ≤ length ps → length ps ≤ MOST_POINTS → All (IsPointOf TimesScale) ps → AreInTurn TimesScale dt ps → AreTimes ps
times_of dt ps some few range turn = record {
  some = some;
  few = few;
  close = λ k d l. let r = range k d l in let c = r.current in c.least;
  «open» = λ k d l. let r = range k d l in let c = r.other in c.most;
  closes_first = λ k d l. subst (λ (p : Point). p.current <ℤ p.other) (same_item ps k origin d l) (times_first dt (before_at ps k) (get_or ps k origin) (turn k l));
  in_turn = λ k l. le_is _ _ (turn_at TimesScale dt ps k turn l).0;
}
  where
    same_item : (ps : List Point) (k : ℕ) (d e : Point) → k < length ps → get_or ps k d ≡ get_or ps k e
    same_item [] k d e l = absurd (omega (arith, l))
    same_item (p ∷ ps) zero d e l = refl
    same_item (p ∷ ps) (suc k) d e l = same_item ps k d e (omega (arith, l))

no_device : {A : Type 0} (code : DeviceCode) → points_follow code ≡ true → code ≢ Table → code ≢ Window → A
no_device Table h t w = absurd (t refl)
no_device Window h t w = absurd (w refl)
no_device Gate h t w = absurd (cc)
no_device GateAbove h t w = absurd (cc)
no_device Delay h t w = absurd (cc)
no_device DelayedPulse h t w = absurd (cc)
no_device Integral h t w = absurd (cc)
no_device Derivative h t w = absurd (cc)
no_device Selector h t w = absurd (cc)
no_device SampleHold h t w = absurd (cc)
no_device Extreme h t w = absurd (cc)
no_device PeakHold h t w = absurd (cc)
no_device Counter h t w = absurd (cc)
no_device EffectiveValue h t w = absurd (cc)

fit_of : (dt : ℤ) (code : DeviceCode) (ps : List Point) → points_follow code ≡ true → fewest_of (device_scale code) ≤ length ps → length ps ≤ MOST_POINTS → All (IsPointOf (device_scale code)) ps → AreInTurn (device_scale code) dt ps → HasDevicePoints code ps
fit_of dt code ps follow some few range turn = record {
  table = λ is. table_by is;
  times = λ is. times_by is;
  none = λ t w. no_device code follow t w;
}
  where
    table_by : code ≡ Table → IsTable ps
    table_by is = table_of dt ps (subst (λ c. fewest_of (device_scale c) ≤ length ps) is some) few (subst (λ c. All (IsPointOf (device_scale c)) ps) is range) (subst (λ c. AreInTurn (device_scale c) dt ps) is turn)

    times_by : code ≡ Window → AreTimes ps
    times_by is = times_of dt ps (subst (λ c. fewest_of (device_scale c) ≤ length ps) is some) few (subst (λ c. All (IsPointOf (device_scale c)) ps) is range) (subst (λ c. AreInTurn (device_scale c) dt ps) is turn)

pub device_ended : (deck : Deck) (group : DeviceGroup) → IsDeviceGroup deck group → fewest_of (device_scale group.card.code) ≤ group.count → IsDeviceEntry deck.points group.card group.first group.count
device_ended deck group of some =
    let ps = drop group.first deck.points in
    let size : length ps ≡ group.count = omega (arith, length-drop group.first deck.points, of.there) in
    let all : points_of deck.points group.first group.count ≡ ps = take_all group.count ps (omega (arith, size)) in
    record {
      due = of.card;
      there = omega (arith, of.there);
      few = of.few;
      fit = subst (HasDevicePoints group.card.code) (sym all) (fit_of deck.run.dt group.card.code ps of.follow (subst (λ n. fewest_of (device_scale group.card.code) ≤ n) (sym size) some) (omega (arith, size, of.few)) of.points of.turn);
    }

-- a device that no points follow
pub device_alone : (points : List Point) (card : DeviceCard) → IsDeviceDue card → points_follow card.code ≡ false → IsDeviceEntry points card 0 0
device_alone points card due alone = record {
  due = due;
  there = omega arith;
  few = omega arith;
  fit = record {
    table = λ is. let t : points_follow card.code ≡ true = ap points_follow is in absurd (cc);
    times = λ is. let t : points_follow card.code ≡ true = ap points_follow is in absurd (cc);
    none = λ t w. refl;
  };
}

-- the first point is still to come
pub device_begins : (deck : Deck) (card : DeviceCard) → IsDeviceDue card → points_follow card.code ≡ true → IsDeviceGroup deck (record { card = card; first = length deck.points; count = 0; before = None })
device_begins deck card due follow =
    let nothing : drop (length deck.points) deck.points ≡ [] = drop_all (length deck.points) deck.points (omega arith) in
    record {
      card = due;
      follow = follow;
      few = omega arith;
      there = omega arith;
      before = refl;
      points = subst (All (IsPointOf (device_scale card.code))) (sym nothing) (All-nil (IsPointOf (device_scale card.code)));
      turn = subst (AreInTurn (device_scale card.code) deck.run.dt) (sym nothing) (λ k l. absurd (omega (arith, l)));
    }
