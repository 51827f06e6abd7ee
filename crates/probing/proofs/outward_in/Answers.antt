-- The outward labels: refusal 12, then 14 and 15 or the probe wanted.
use Rattle.std.proofs.Common.{sym, ◌∙◌}
use Rattle.answers.proofs.Checks.{holds, fails}
use Rattle.answers.proofs.Results.{exit}
use Rattle.judging.proofs.Lent.{trail-same}
use Rattle.judging.proofs.Searching.{probe-given, probe_among, probe-refused}
use Rattle.probing.specs.Calls.{out_span, outward_in}
use Rattle.probing.proofs.outward_in.Goals as goal

pub returns-then-differs : goal.returns-then-differs
unfolding outward_in
returns-then-differs c = holds 12 _ _ (sym c.differs.ensures ∙ c.if-differs.true)

pub span_of-requires-clause-trail_value : goal.span_of-requires-clause-trail_value
span_of-requires-clause-trail_value c = trail-same _ _ (sym c.differs.ensures ∙ c.if-differs.false)

pub span_of-requires-clause-le_m : goal.span_of-requires-clause-le_m
span_of-requires-clause-le_m c = (probe_among _ _ _ c.probe_wanted.ensures _ c.in_ok-m.was).0

pub span_of-requires-clause-m_le_links : goal.span_of-requires-clause-m_le_links
span_of-requires-clause-m_le_links c = (probe_among _ _ _ c.probe_wanted.ensures _ c.in_ok-m.was).1

pub returns : goal.returns
unfolding outward_in
returns c =
    fails 12 _ _ _ (sym c.differs.ensures ∙ c.if-differs.false)
    (rw c.links_with-links.ensures at (probe-given _ _ _ c.probe_wanted.ensures (out_span c.args.plan.now.layout.chart.ends.plant c.args.switch) _ _ c.in_ok-m.was c.span_of.ensures))

pub returns-in_err-m : goal.returns-in_err-m
unfolding outward_in
returns-in_err-m c =
    exit _ _ _ c.from_residual.ensures.1
    ∙ fails 12 _ _ _ (sym c.differs.ensures ∙ c.if-differs.false)
    (rw c.links_with-links.ensures at (probe-refused _ _ _ c.probe_wanted.ensures (out_span c.args.plan.now.layout.chart.ends.plant c.args.switch) _ c.in_err-m.was))
