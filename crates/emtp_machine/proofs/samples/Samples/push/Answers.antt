use Rattle.std.proofs.Common.{◌≡◌, ◌+◌, ◌*◌, ◌<◌, ◌++◌, ◌∷◌, [], List, ℕ, ℤ, ap, arith, length, length-append, sym, ◌∙◌}
use Rattle.emtp_machine.specs.held.Samples.{Sampled, rows_of}
use Rattle.emtp_machine.proofs.SampleRows.{length-rows_of, rows_of-pushed, room-more}
use Rattle.emtp_machine.proofs.samples.Samples.push.Goals as goal

pub put_behind-requires : goal.put_behind-requires
put_behind-requires c =
    let rows = ap (λ (s : Sampled). length s.rows) c.self.view_is in
    let channels = ap (λ (s : Sampled). s.channels) c.self.view_is in
    let room = ap (λ (s : Sampled). s.room) c.self.view_is in
    let count = length-rows_of c.self.inside.channels c.self.inside.count c.self.inside.values.items in
    let less : c.self.inside.count < c.self.inside.room = omega (arith, rows, room, count) in
    let width : length c.args.values.now ≡ c.self.inside.channels = omega (arith, channels, c.requires.width) in
    let more = room-more c.self.inside.channels c.self.inside.count c.self.inside.room (length c.args.values.now) less width in
    omega (arith, more)

pub overflow_add-self : goal.overflow_add-self
overflow_add-self c =
    let rows = ap (λ (s : Sampled). length s.rows) c.self.view_is in
    let channels = ap (λ (s : Sampled). s.channels) c.self.view_is in
    let room = ap (λ (s : Sampled). s.room) c.self.view_is in
    let count = length-rows_of c.self.inside.channels c.self.inside.count c.self.inside.values.items in
    let less : c.self.inside.count < c.self.inside.room = omega (arith, rows, room, count) in
    let width : length c.args.values.now ≡ c.self.inside.channels = omega (arith, channels, c.requires.width) in
    omega arith

pub invariant_of-self : goal.invariant_of-self
invariant_of-self c =
    let rows = ap (λ (s : Sampled). length s.rows) c.self.view_is in
    let channels = ap (λ (s : Sampled). s.channels) c.self.view_is in
    let room = ap (λ (s : Sampled). s.room) c.self.view_is in
    let count = length-rows_of c.self.inside.channels c.self.inside.count c.self.inside.values.items in
    let less : c.self.inside.count < c.self.inside.room = omega (arith, rows, room, count) in
    let width : length c.args.values.now ≡ c.self.inside.channels = omega (arith, channels, c.requires.width) in
    let items = ap length c.put_behind.ensures.items in
    record {
      taken = omega (arith, items, length-append c.self.inside.values.items c.args.values.now);
      within = omega arith;
      reserved = c.self.invariant.reserved ∙ sym c.put_behind.ensures.block.1.0;
      few = c.self.invariant.few;
      small = c.self.invariant.small;
    }

pub returns : goal.returns
returns c =
    let channels : c.self.inside.channels ≡ c.args.self.now.channels = ap (λ (s : Sampled). s.channels) c.self.view_is in
    let room : c.self.inside.room ≡ c.args.self.now.room = ap (λ (s : Sampled). s.room) c.self.view_is in
    let taken : length c.self.inside.values.items ≡ c.self.inside.count * c.self.inside.channels = omega arith in
    let row : length c.args.values.now ≡ c.self.inside.channels = omega (arith, channels, c.requires.width) in
    let rows : rows_of c.self.inside.channels c.self.inside.count c.self.inside.values.items ≡ c.args.self.now.rows = ap (λ (s : Sampled). s.rows) c.self.view_is in
    let pushed : rows_of c.self.inside.channels (c.self.inside.count + 1) c.put_behind.new.all.items ≡ rows_of c.self.inside.channels c.self.inside.count c.self.inside.values.items ++ c.args.values.now ∷ [] =
    rows_of-pushed c.self.inside.channels c.self.inside.count c.self.inside.values.items c.args.values.now c.put_behind.new.all.items taken row c.put_behind.ensures.items in
    let capacity : c.put_behind.new.all.cap ≡ c.args.self.now.capacity = c.put_behind.ensures.block.1.0 ∙ ap (λ (s : Sampled). s.capacity) c.self.view_is in
    same _ _ _ _ _ _ _ _ (pushed ∙ ap (λ rs. rs ++ c.args.values.now ∷ []) rows) channels room capacity
  where
    same : (r s : List (List ℤ)) (a b d e f g : ℕ) → r ≡ s → a ≡ b → d ≡ e → f ≡ g → (let x : Sampled = record { rows = r; channels = a; room = d; capacity = f } in x) ≡ record { rows = s; channels = b; room = e; capacity = g }
    same r s a b d e f g p q t u = cc
