use Rattle.std.proofs.Common.{arith, ap, ◌∙◌}
use Rattle.codec.specs.Part.{size, part_bytes}
use Rattle.codec.proofs.PartRoundTrip.{size-written}
use Rattle.encoder.proofs.part_size.Goals as goal

pub returns : goal.returns
unfolding part_bytes
returns g c =
    let fs = c.args.fields.now.list in
    let e = c.measure-extent.ensures.0 ∙ ap (λ m. size m fs) (c.from.ensures ∙ c.part_map.ensures) ∙ size-written fs c.args.values.now in
    (omega arith, omega (arith, c.measure-extent.ensures.2))
