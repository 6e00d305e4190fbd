use Rattle.std.proofs.Common.{rules, ◌≡◌, ◌+◌, ◌*◌, ◌<◌, List, ℤ, pos, slice_index_or, ap, arith, length, sym, ◌∙◌}
use Rattle.std.proofs.Math.Nat.{mul-le-mul_right}
use Rattle.emtp_machine.specs.Samples.{value_at}
use Rattle.emtp_machine.specs.held.Samples.{Sampled}
use Rattle.emtp_machine.proofs.SampleRows.{length-rows_of, place-within, value_at-rows_of}
use Rattle.emtp_machine.proofs.samples.Samples.value.Goals as goal

pub overflow_mul-sample : goal.overflow_mul-sample
overflow_mul-sample c =
    let rows = ap (λ (s : Sampled). length s.rows) c.self.view_is in
    let channels = ap (λ (s : Sampled). s.channels) c.self.view_is in
    let count = length-rows_of c.self.inside.channels c.self.inside.count c.self.inside.values.items in
    let sample : c.args.sample < c.self.inside.count = omega (arith, rows, count) in
    let channel : c.args.channel < c.self.inside.channels = omega (arith, channels) in
    let within = place-within c.self.inside.count c.self.inside.channels c.args.sample c.args.channel sample channel in
    let most = mul-le-mul_right c.self.inside.channels c.self.invariant.within in
    omega (arith, within, most)

pub overflow_add-sample : goal.overflow_add-sample
overflow_add-sample c =
    let rows = ap (λ (s : Sampled). length s.rows) c.self.view_is in
    let channels = ap (λ (s : Sampled). s.channels) c.self.view_is in
    let count = length-rows_of c.self.inside.channels c.self.inside.count c.self.inside.values.items in
    let sample : c.args.sample < c.self.inside.count = omega (arith, rows, count) in
    let channel : c.args.channel < c.self.inside.channels = omega (arith, channels) in
    let within = place-within c.self.inside.count c.self.inside.channels c.args.sample c.args.channel sample channel in
    let most = mul-le-mul_right c.self.inside.channels c.self.invariant.within in
    omega (arith, within, most)

pub value_in-requires : goal.value_in-requires
value_in-requires c =
    let rows = ap (λ (s : Sampled). length s.rows) c.self.view_is in
    let channels = ap (λ (s : Sampled). s.channels) c.self.view_is in
    let count = length-rows_of c.self.inside.channels c.self.inside.count c.self.inside.values.items in
    let sample : c.args.sample < c.self.inside.count = omega (arith, rows, count) in
    let channel : c.args.channel < c.self.inside.channels = omega (arith, channels) in
    let within = place-within c.self.inside.count c.self.inside.channels c.args.sample c.args.channel sample channel in
    let most = mul-le-mul_right c.self.inside.channels c.self.invariant.within in
    omega (arith, within)

pub returns : goal.returns
returns c =
    let rows : Sampled → List (List ℤ) = λ s. s.rows in
    let count = ap length (ap rows c.self.view_is) in
    let channels = ap (λ (s : Sampled). s.channels) c.self.view_is in
    let taken = length-rows_of c.self.inside.channels c.self.inside.count c.self.inside.values.items in
    let sample : c.args.sample < c.self.inside.count = omega (arith, count, taken) in
    let channel : c.args.channel < c.self.inside.channels = omega (arith, channels) in
    let value = value_at-rows_of c.self.inside.channels c.self.inside.count c.self.inside.values.items c.args.sample c.args.channel sample channel in
    let whole : c.value_in.result ≡ value_at c.args.self.now.rows c.args.sample c.args.channel =
    c.value_in.ensures
    ∙ ap (λ (xs : List ℤ). slice_index_or xs (c.args.sample * c.self.inside.channels + c.args.channel) (pos 0)) c.as_slice.ensures.value
    ∙ sym value
    ∙ ap (λ (xs : List (List ℤ)). value_at xs c.args.sample c.args.channel) (ap rows c.self.view_is) in
    search (rules, whole)
