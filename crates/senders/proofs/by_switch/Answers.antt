-- The sending switch of the next rule has a place, and its count stays small; the sum of the places is the total over switches.
use Rattle.std.proofs.Common.{rules, refl, ◌≡◌, ℕ, List, ◌<◌, ◌^◌, ap₂, arith}
use Rattle.std.proofs.iter.runs.Sources.{sums}
use Rattle.limits.specs.Limits.{max_switches}
use Rattle.senders.specs.Senders.{by_switch}
use Rattle.senders.proofs.Senders.{total, counts_none, counts-after, counts_all, count_fits, sender_in, places-total, total-fits}
use Rattle.senders.proofs.by_switch.Goals as goal
use Rattle.senders.proofs.by_switch.Goals.{After-sender_of}

pub loop-rule-init : goal.loop-rule-init
loop-rule-init c = rw c.none-b.ensures (record { counts = counts_none; total = refl })

place : (c : After-sender_of) → c.sender_of.result < max_switches
place c = sender_in c.args.t c.requires c.from.ensures c.loop-rule.rule-index c.loop-rule-test.true _ c.sender_of.ensures

pub offset_bounds-b-sender_of : goal.offset_bounds-b-sender_of
offset_bounds-b-sender_of c = let h = place (goal.at.offset_bounds-b-sender_of c).After-sender_of in omega (arith, h)

pub bounds-b-sender_of : goal.bounds-b-sender_of
bounds-b-sender_of c = place (goal.at.bounds-b-sender_of c).After-sender_of

pub bounds-b-sender_of-in-loop-rule : goal.bounds-b-sender_of-in-loop-rule
bounds-b-sender_of-in-loop-rule c = place (goal.at.bounds-b-sender_of-in-loop-rule c).After-sender_of

pub overflow_add-b : goal.overflow_add-b
overflow_add-b c =
    let k = c.loop-rule in
    let small = count_fits c.args.t c.requires c.from.ensures k.rule-index c.loop-rule-test.true k.b.counts k.invariant.counts _ c.sender_of.ensures in
    omega (arith, small)

pub loop-rule-preserved : goal.loop-rule-preserved
loop-rule-preserved c =
    let k = c.loop-rule in
    record {
      counts = counts-after c.args.t c.requires c.from.ensures k.rule-index c.loop-rule-test.true k.b.counts k.invariant.counts _ c.sender_of.ensures;
      total = k.invariant.total;
    }

pub sum-requires-clause-fits : goal.sum-requires-clause-fits
sum-requires-clause-fits c =
    let k = c.loop-rule in
    let counts = counts_all c.args.t c.requires c.from.ensures k.rule-index k.b.counts c.loop-rule-test.false k.invariant.counts in
    let few : total k.b.counts < 2 ^ 16 = omega (arith, places-total c.args.t c.requires _ counts, total-fits c.args.t c.requires) in
    search (rules, sums)

pub returns : goal.returns
unfolding by_switch
returns c =
    let k = c.loop-rule in
    let counts = counts_all c.args.t c.requires c.from.ensures k.rule-index k.b.counts c.loop-rule-test.false k.invariant.counts in
    let adds : c.sum.result ≡ total k.b.counts = search (rules, sums) in
    ap₂ (λ (l : List ℕ) (n : ℕ). record { counts = l; total = n }) counts (omega (arith, k.invariant.total, adds, places-total c.args.t c.requires _ counts))
