-- The switch is tried once the listing is read, what is read is a sound plant, and each part of its plan is what the next asks for.
use Rattle.std.proofs.Common.{◌∙◌, sym, ap, arith}
use Rattle.answers.specs.Answers.{given}
use Rattle.answers.proofs.Results.{exit}
use Rattle.codec.proofs.FieldLaws.{bytes_known}
use Rattle.listing.proofs.RoundTrip.{decode_sound}
use Rattle.planning.specs.declared.Plan.{Plan}
use Rattle.planning.proofs.Plans.{at_refused, at_outside, at_inside}
use Rattle.planning.proofs.Drawing.{roots-are, chains_asked, distances-asked, network_is, tables, legs-asked, hops_by, charted, legs_by}
use Rattle.planning.proofs.plan_at.Goals as goal

pub returns-in_err-p-clause-plant_value : goal.returns-in_err-p-clause-plant_value
returns-in_err-p-clause-plant_value c = exit (λ (x : Plan). x.layout.chart.ends.plant) _ _ c.from_residual.ensures.1 ∙ sym (at_refused _ _ _ c.read.ensures _ c.in_err-p.was)

pub returns-in_err-judge-clause-plant_value : goal.returns-in_err-judge-clause-plant_value
returns-in_err-judge-clause-plant_value c =
    exit (λ (x : Plan). x.layout.chart.ends.plant) _ _ c.from_residual-in_err-judge.ensures.1
    ∙ sym (at_outside _ _ _ c.read.ensures _ c.in_ok-p.was _ c.judge.ensures _ c.in_err-judge.was)

pub ends_of-ends-requires : goal.ends_of-ends-requires
ends_of-ends-requires c = decode_sound _ _ (bytes_known c.args.listing.now (λ i. (c.type_inv.listing i).fits)) (sym c.in_ok-p.ensures)

pub returns-clause-plant_value : goal.returns-clause-plant_value
returns-clause-plant_value c = ap given c.ends_of-ends.ensures ∙ sym (at_inside _ _ _ c.read.ensures _ c.in_ok-p.was _ c.judge.ensures _ c.in_ok-judge.was)

pub chains_of-chains-requires-clause-tails_in : goal.chains_of-chains-requires-clause-tails_in
chains_of-chains-requires-clause-tails_in c = (chains_asked c.ends_of-ends.result _ c.find-f.ensures _ c.net_of-net.ensures).1

pub distances-distances-requires : goal.distances-distances-requires
distances-distances-requires c = distances-asked c.ends_of-ends.result _ c.find-f.ensures _ c.net_of-net.ensures

pub legs_of-legs-requires : goal.legs_of-legs-requires
legs_of-legs-requires c =
    let e = c.ends_of-ends.result in
    let all = roots-are e _ c.find-f.ensures _ c.from.ensures (omega arith) in
    legs-asked e _ c.find-f.ensures _ c.net_of-net.ensures _ c.chains_of-chains.ensures _ c.distances-distances.ensures _ all

pub measured-hops-requires-clause-hops_by : goal.measured-hops-requires-clause-hops_by
measured-hops-requires-clause-hops_by c =
    let e = c.ends_of-ends.result in
    let all = roots-are e _ c.find-f.ensures _ c.from.ensures (omega arith) in
    hops_by e _ c.find-f.ensures _ c.net_of-net.ensures _ c.chains_of-chains.ensures _ c.distances-distances.ensures _ all _ c.legs_of-legs.ensures

pub invariant_of-chart : goal.invariant_of-chart
invariant_of-chart c = record { charted = charted c.ends_of-ends.result _ c.find-f.ensures }

pub returns-clause-network_is : goal.returns-clause-network_is
returns-clause-network_is c = network_is c.ends_of-ends.result _ c.find-f.ensures _ c.net_of-net.ensures _ c.chains_of-chains.ensures _ c.distances-distances.ensures

pub invariant_of-result-clause-tables : goal.invariant_of-result-clause-tables
invariant_of-result-clause-tables c = tables c.ends_of-ends.result _ c.find-f.ensures _ c.net_of-net.ensures _ c.chains_of-chains.ensures _ c.distances-distances.ensures

pub invariant_of-result-clause-legs_are : goal.invariant_of-result-clause-legs_are
invariant_of-result-clause-legs_are c =
    let e = c.ends_of-ends.result in
    let all = roots-are e _ c.find-f.ensures _ c.from.ensures (omega arith) in
    legs_by e _ c.find-f.ensures _ c.net_of-net.ensures _ c.chains_of-chains.ensures _ c.distances-distances.ensures _ all _ c.legs_of-legs.ensures
