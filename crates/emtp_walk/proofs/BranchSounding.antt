-- What the deck keeps when a branch is added.
use Rattle.std.proofs.Common.{◌≡◌, ◌+◌, ◌≤◌, ◌++◌, ◌∷◌, [], Ok, arith, drop, false, length, length-drop, refl, subst, sym, true}
use Rattle.std.proofs.lemmas.List.{take_all}
use Rattle.emtp_case.specs.held.Branch.{IsCharacteristic}
use Rattle.emtp_walk.specs.held.Sound.{IsEntry, IsGroupOf, IsWhole, has_points, is_pseudo, is_reactor}
use Rattle.emtp_walk.specs.Walk.{end_group, is_phase, with_card}
use Rattle.emtp_walk.specs.declared.deck.BranchEntry.{BranchEntry}
use Rattle.emtp_walk.specs.declared.deck.BranchEntry.TheVariants.{Single}
use Rattle.emtp_walk.specs.declared.deck.Deck.{Deck}
use Rattle.emtp_walk.specs.declared.deck.Group.{Group}
use Rattle.emtp_netcards.specs.held.BranchCard.{HasNumbers, kind_of_values}
use Rattle.emtp_netcards.specs.declared.branch_card.BranchCard.{BranchCard}
use Rattle.emtp_netcards.specs.declared.branch_card.BranchValues.{BranchValues}
use Rattle.emtp_netcards.specs.declared.branch_card.BranchValues.TheVariants.{Copied as CopiedCard, Line as LineCard, Lumped as LumpedCard, Reactor as ReactorCard, Resistor as ResistorCard, Second as SecondCard, Third as ThirdCard}
use Rattle.emtp_walk.proofs.Sounding.{pushed}

pub one_more_branch : (deck : Deck) (entry : BranchEntry) → IsWhole deck → IsEntry deck.run deck.points entry → IsWhole (record deck { branches = deck.branches ++ entry ∷ [] })
one_more_branch deck entry whole here = record {
  run = whole.run;
  control = whole.control;
  branches = pushed (IsEntry deck.run deck.points) deck.branches entry whole.branches here;
  switches = whole.switches;
  sources = whole.sources;
}

pub card_alone : (deck : Deck) (card : BranchCard) → IsWhole deck → HasNumbers deck.run.dt card → is_phase (Ok (kind_of_values card.values)) ≡ false → has_points card ≡ false → IsWhole (with_card deck card)
card_alone deck card whole numbers kind none =
    one_more_branch deck (Single card 0 0) whole (record { numbers = numbers; kind = kind; there = omega arith; group = λ has. absurd (cc (has, none)) })

no_phase : (values : BranchValues) → is_pseudo values ≡ true → is_phase (Ok (kind_of_values values)) ≡ false
no_phase (LumpedCard r l c) h = absurd (cc)
no_phase (LineCard zc r delay) h = absurd (cc)
no_phase (SecondCard zc r delay) h = absurd (cc)
no_phase ThirdCard h = absurd (cc)
no_phase ReactorCard h = refl
no_phase ResistorCard h = refl
no_phase (CopiedCard kind a b) h = absurd (cc)

pub group_ended : (deck : Deck) (group : Group) → IsWhole deck → IsGroupOf deck group → 1 ≤ group.count → IsWhole (end_group deck group).0
group_ended deck group whole of some =
    let ps = drop group.first deck.points in
    let there : group.first + group.count ≤ length deck.points = omega (arith, of.there) in
    let size : length ps ≤ group.count = omega (arith, of.there, length-drop group.first deck.points) in
    one_more_branch deck (Single group.card group.first group.count) whole (record {
      numbers = of.numbers;
      kind = no_phase group.card.values of.pseudo;
      there = there;
      group = λ has. record {
        some = some;
        few = of.few;
        there = there;
        characteristic = subst (IsCharacteristic (is_reactor group.card.values) deck.run.dt) (sym (take_all group.count ps size)) of.characteristic;
      };
    })
