-- The order of links: refusal 12, then the order.
use Rattle.std.proofs.Common.{sym, ◌∙◌}
use Rattle.answers.proofs.Checks.{holds}
use Rattle.judging.proofs.Lent.{trail-same}
use Rattle.probing.specs.Calls.{order_in}
use Rattle.probing.proofs.Lent.{own-arcs}
use Rattle.probing.proofs.Results.{ordered}
use Rattle.probing.proofs.order_in.Goals as goal

pub returns-then-differs : goal.returns-then-differs
unfolding order_in
returns-then-differs c = holds 12 _ _ (sym c.differs.ensures ∙ c.if-differs.true)

pub own_trail-own-requires-clause-trail_value : goal.own_trail-own-requires-clause-trail_value
own_trail-own-requires-clause-trail_value c = trail-same _ _ (sym c.differs.ensures ∙ c.if-differs.false)

pub invariant_of-ring : goal.invariant_of-ring
invariant_of-ring c = record { sound = c.args.plan.now.layout.chart.ends.sound; over_arcs = own-arcs c.args.plan.now.layout.chart.ends.plant c.args.plan.now.layout.chart.ends.sound c.args.switch c.requires _ c.own_trail-own.ensures }

pub returns : goal.returns
returns c = ordered _ _ _ _ _ (sym c.differs.ensures ∙ c.if-differs.false) c.own_trail-own.ensures c.order_of.ensures
