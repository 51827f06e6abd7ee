-- The link named: refusals 12 and 14, then what the search names.
use Rattle.std.proofs.Common.{ℕ, sym, ap, ◌∙◌}
use Rattle.answers.specs.Answers.{given}
use Rattle.answers.proofs.Checks.{holds, fails}
use Rattle.judging.specs.Conditions.{search_unsound}
use Rattle.judging.proofs.Lent.{trail-same}
use Rattle.probing.specs.Calls.{name_in}
use Rattle.probing.proofs.Lent.{own-arcs, says-few}
use Rattle.probing.proofs.name_in.Goals as goal

pub returns-then-differs : goal.returns-then-differs
unfolding name_in
returns-then-differs c = holds 12 _ _ (sym c.differs.ensures ∙ c.if-differs.true)

-- the search is looked at over the links of the component
pub returns-then-unsound : goal.returns-then-unsound
unfolding name_in
returns-then-unsound c =
    fails 12 _ _ _ (sym c.differs.ensures ∙ c.if-differs.false)
    (holds 14 _ _ (ap (λ (e : ℕ). search_unsound e c.args.search) (sym c.links_with-links.ensures) ∙ sym c.unsound.ensures ∙ c.if-unsound.true))

pub own_trail-own-requires-clause-trail_value : goal.own_trail-own-requires-clause-trail_value
own_trail-own-requires-clause-trail_value c = trail-same _ _ (sym c.differs.ensures ∙ c.if-differs.false)

pub name_of-requires-clause-own_value : goal.name_of-requires-clause-own_value
name_of-requires-clause-own_value c = c.own_trail-own.ensures

pub invariant_of-ring : goal.invariant_of-ring
invariant_of-ring c = record { sound = c.args.plan.now.layout.chart.ends.sound; over_arcs = own-arcs c.args.plan.now.layout.chart.ends.plant c.args.plan.now.layout.chart.ends.sound c.args.switch c.requires _ c.own_trail-own.ensures }

pub name_of-requires-clause-says_in : goal.name_of-requires-clause-says_in
name_of-requires-clause-says_in c =
    rw c.says.ensures
    (says-few c.args.plan.now.layout.chart.ends.plant c.args.plan.now.layout.chart.ends.sound c.args.switch c.requires c.args.search
    (ap (λ (e : ℕ). search_unsound e c.args.search) (sym c.links_with-links.ensures) ∙ sym c.unsound.ensures ∙ c.if-unsound.false))

pub returns : goal.returns
unfolding name_in
returns c =
    fails 12 _ _ _ (sym c.differs.ensures ∙ c.if-differs.false)
    (fails 14 _ _ _ (ap (λ (e : ℕ). search_unsound e c.args.search) (sym c.links_with-links.ensures) ∙ sym c.unsound.ensures ∙ c.if-unsound.false)
    (ap given (rw c.says.ensures at c.name_of.ensures)))
