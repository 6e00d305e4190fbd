-- What the deck keeps when a card is added.
use Rattle.emtp_case.specs.declared.limit.TheConstants.{MOST_POINTS}
use Rattle.std.proofs.Common.{◌≡◌, ◌∙◌, sym, ap, subst, ℕ, zero, suc, ◌+◌, ◌≤◌, ◌<◌, ℤ, Bool, true, List, [], ◌∷◌, ◌++◌, length, take, drop, get_or, Option, Some, refl, inl, inr, arith, add-one, length-append, length-drop}
use Rattle.std.specs.Prelude.{All}
use Rattle.std.proofs.lemmas.Bool.{cases_lt}
use Rattle.std.proofs.lemmas.List.Elements.{All-append, All-cons, All-nil}
use Rattle.std.proofs.lemmas.List.{take-append-le}
use Rattle.emtp_case.specs.Branch.{origin, points_of}
use Rattle.emtp_case.specs.held.Branch.{IsCharacteristic, IsSegment}
use Rattle.emtp_case.specs.declared.branch.Point.{Point}
use Rattle.emtp_case.specs.declared.run_data.RunData.{RunData}
use Rattle.emtp_case.specs.held.Control.{HasDevicePoints}
use Rattle.emtp_walk.specs.held.Coefficients.{IsBlockEntry}
use Rattle.emtp_walk.specs.ControlSteps.{no_control}
use Rattle.emtp_walk.specs.held.Sound.{IsControlWhole, IsEntry, IsExtraEntry, IsGroupOf, IsHead, IsTacsSourceCard, IsWhole, is_pseudo, is_reactor}
use Rattle.emtp_walk.specs.declared.control_cards.ExtraEntry.{ExtraEntry}
use Rattle.emtp_walk.specs.declared.control_cards.ExtraEntry.TheVariants.{Device as DeviceEntry, Formula as FormulaEntry}
use Rattle.emtp_walk.specs.Walk.{scale_by, scale_of}
use Rattle.emtp_walk.specs.declared.deck.BranchEntry.{BranchEntry}
use Rattle.emtp_walk.specs.declared.deck.BranchEntry.TheVariants.{Single, Trio}
use Rattle.emtp_walk.specs.declared.deck.Deck.{Deck}
use Rattle.emtp_walk.specs.declared.deck.Group.{Group}
use Rattle.emtp_netcards.specs.PointCard.{origin_or}
use Rattle.emtp_netcards.specs.held.PointCard.{Follows, IsPointOf}
use Rattle.emtp_netcards.specs.held.SourceCard.{HasSourceCardNumbers}
use Rattle.emtp_netcards.specs.held.SwitchCard.{HasSwitchNumbers}
use Rattle.emtp_netcards.specs.declared.branch_card.BranchValues.{BranchValues}
use Rattle.emtp_netcards.specs.declared.branch_card.BranchValues.TheVariants.{Copied as CopiedCard, Line as LineCard, Lumped as LumpedCard, Reactor as ReactorCard, Resistor as ResistorCard, Second as SecondCard, Third as ThirdCard}

-- ---- lists

pub drop_push : {A : Type 0} (n : ℕ) (xs : List A) (y : A) → n ≤ length xs → drop n (xs ++ y ∷ []) ≡ drop n xs ++ y ∷ []
drop_push zero xs y l = refl
drop_push (suc n) [] y l = absurd (omega arith)
drop_push (suc n) (x ∷ xs) y l = drop_push n xs y (omega arith)

pub at_end : {A : Type 0} (xs : List A) (y d : A) → get_or (xs ++ y ∷ []) (length xs) d ≡ y
at_end [] y d = refl
at_end (x ∷ xs) y d = at_end xs y d

pub at_front : {A : Type 0} (xs : List A) (k : ℕ) (y d : A) → k < length xs → get_or (xs ++ y ∷ []) k d ≡ get_or xs k d
at_front [] k y d l = absurd (omega arith)
at_front (x ∷ xs) zero y d l = refl
at_front (x ∷ xs) (suc k) y d l = at_front xs k y d (omega arith)

pub pushed : {A : Type 0} (P : A → Type 0) (xs : List A) (y : A) → All P xs → P y → All P (xs ++ y ∷ [])
pushed P xs y all here = All-append P xs (y ∷ []) all (All-cons P y [] here (All-nil P))

-- ---- points

one_more : (reactor : Bool) (dt : ℤ) (ps : List Point) (before p : Point) → before ≡ get_or (origin ∷ ps) (length ps) origin → IsSegment reactor dt before p → IsCharacteristic reactor dt ps → IsCharacteristic reactor dt (ps ++ p ∷ [])
one_more reactor dt ps before p is segment all k l =
    elim (cases_lt k (length ps)) [
      | inl front ↦ subst (λ (b : Point). IsSegment reactor dt (get_or (origin ∷ (ps ++ p ∷ [])) k origin) b) (sym (at_front ps k p origin front))
          (subst (λ (a : Point). IsSegment reactor dt a (get_or ps k origin)) (sym (at_front (origin ∷ ps) k p origin (omega arith))) (all k front))
      | inr past ↦
          let same : k ≡ length ps = omega (arith, length-append ps (p ∷ [])) in
          subst (λ (n : ℕ). IsSegment reactor dt (get_or (origin ∷ (ps ++ p ∷ [])) n origin) (get_or (ps ++ p ∷ []) n origin)) (sym same)
          (subst (λ (b : Point). IsSegment reactor dt (get_or (origin ∷ (ps ++ p ∷ [])) (length ps) origin) b) (sym (at_end ps p origin))
          (subst (λ (a : Point). IsSegment reactor dt a p) (is ∙ sym (at_front (origin ∷ ps) (length ps) p origin (omega arith))) segment))
    ]

-- the points of an entry stay where one more comes
points_stay : (points : List Point) (p : Point) (first count : ℕ) → first + count ≤ length points → points_of (points ++ p ∷ []) first count ≡ points_of points first count
points_stay points p first count l =
    ap (take count) (drop_push first points p (omega arith)) ∙ take-append-le count (drop first points) (p ∷ []) (omega (arith, length-drop first points))

entry_stays : (run : RunData) (points : List Point) (p : Point) (e : BranchEntry) → IsEntry run points e → IsEntry run (points ++ p ∷ []) e
entry_stays run points p (Single card first count) h = record {
  numbers = h.numbers;
  kind = h.kind;
  there = omega (arith, h.there, length-append points (p ∷ []));
  group = λ has. let g = h.group has in record {
    some = g.some;
    few = g.few;
    there = omega (arith, g.there, length-append points (p ∷ []));
    characteristic = subst (IsCharacteristic (is_reactor card.values) run.dt) (sym (points_stay points p first count g.there)) g.characteristic;
  };
}
entry_stays run points p (Trio zero' positive third) h = h

-- the segment that a point adds is one of its branch
segment_of : (values : BranchValues) (dt : ℤ) (before : Option Point) (p : Point) → is_pseudo values ≡ true → Follows (scale_by values) dt before p → IsSegment (is_reactor values) dt (origin_or before) p
segment_of (LumpedCard r l c) dt before p is h = absurd (cc)
segment_of (LineCard zc r delay) dt before p is h = absurd (cc)
segment_of (SecondCard zc r delay) dt before p is h = absurd (cc)
segment_of ThirdCard dt before p is h = absurd (cc)
segment_of ReactorCard dt before p is h = h
segment_of ResistorCard dt before p is h = h
segment_of (CopiedCard kind a b) dt before p is h = absurd (cc)

extra_stays : (points : List Point) (p : Point) (e : ExtraEntry) → IsExtraEntry points e → IsExtraEntry (points ++ p ∷ []) e
extra_stays points p (DeviceEntry card first count) h = record {
  due = h.due;
  there = omega (arith, h.there, length-append points (p ∷ []));
  few = h.few;
  fit = subst (HasDevicePoints card.code) (sym (points_stay points p first count h.there)) h.fit;
}
extra_stays points p (FormulaEntry card) h = h

pub point_whole : (deck : Deck) (point : Point) → IsWhole deck → IsWhole (record deck { points = deck.points ++ point ∷ [] })
point_whole deck point whole = record {
  run = whole.run;
  control = record {
    blocks = whole.control.blocks;
    sources = whole.control.sources;
    extras = λ k d l. extra_stays deck.points point _ (whole.control.extras k d l);
  };
  branches = λ k d l. entry_stays deck.run deck.points point _ (whole.branches k d l);
  switches = whole.switches;
  sources = whole.sources;
}

pub point_group : (deck : Deck) (group : Group) (point : Point) → IsGroupOf deck group → group.count < MOST_POINTS → IsPointOf (scale_of group) point → Follows (scale_of group) deck.run.dt group.before point
    → IsGroupOf (record deck { points = deck.points ++ point ∷ [] }) (record group { count = group.count + 1; before = Some point })
point_group deck group point of room range follows =
    let ps = drop group.first deck.points in
    let within : group.first ≤ length deck.points = omega (arith, of.there) in
    let size : group.count ≡ length ps = omega (arith, length-drop group.first deck.points, of.there) in
    let more : drop group.first (deck.points ++ point ∷ []) ≡ ps ++ point ∷ [] = drop_push group.first deck.points point within in
    let last : point ≡ get_or (origin ∷ drop group.first (deck.points ++ point ∷ [])) (group.count + 1) origin =
    sym (ap (λ n. get_or (origin ∷ drop group.first (deck.points ++ point ∷ [])) n origin) (add-one group.count ∙ ap suc size) ∙ ap (λ xs. get_or xs (length ps) origin) more ∙ at_end ps point origin) in
    record {
      numbers = of.numbers;
      pseudo = of.pseudo;
      few = omega (arith, room);
      there = omega (arith, of.there, length-append deck.points (point ∷ []));
      before = last;
      point = λ p is. let same : point ≡ p = cc in subst (IsPointOf (scale_of group)) same range;
      characteristic = subst (IsCharacteristic (is_reactor group.card.values) deck.run.dt) (sym more)
          (one_more (is_reactor group.card.values) deck.run.dt ps (origin_or group.before) point (of.before ∙ ap (λ n. get_or (origin ∷ ps) n origin) size)
          (segment_of group.card.values deck.run.dt group.before point of.pseudo follows) of.characteristic);
    }

no_control_whole : (dt : ℤ) (points : List Point) → IsControlWhole dt points no_control
no_control_whole dt points = record {
  blocks = All-nil (IsBlockEntry dt);
  sources = All-nil IsTacsSourceCard;
  extras = All-nil (IsExtraEntry points);
}

-- before the branches
pub head_whole : (deck : Deck) → IsHead deck → IsWhole deck
head_whole deck head = record {
  run = head.run;
  control = rw head.control (no_control_whole deck.run.dt deck.points);
  branches = rw head.branches (All-nil (IsEntry deck.run deck.points));
  switches = rw head.switches (All-nil HasSwitchNumbers);
  sources = rw head.sources (All-nil HasSourceCardNumbers);
}
