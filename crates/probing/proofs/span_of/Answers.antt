-- Where the outward labels stand in the lent trails of all components.
use Rattle.std.proofs.Common.{ℕ, length, ap, ap₂, ◌∙◌, arith}
use Rattle.order.specs.declared.Span.{Span}
use Rattle.order.specs.Span.{shifted_by}
use Rattle.planning.specs.declared.Component.{Component}
use Rattle.probing.specs.Calls.{out_span}
use Rattle.probing.proofs.Injection.{links-few}
use Rattle.probing.proofs.Lent.{begin_is, own-arcs}
use Rattle.probing.proofs.OutwardLabels.{span_fits}
use Rattle.probing.proofs.span_of.Goals as goal

pub invariant_of-ring : goal.invariant_of-ring
invariant_of-ring c = record { sound = c.args.layout.now.chart.ends.sound; over_arcs = own-arcs c.args.layout.now.chart.ends.plant c.args.layout.now.chart.ends.sound c.args.switch c.requires.switch_lt_switches _ c.own_trail-own.ensures }

pub span_in-span-requires-clause-m_le_max_links : goal.span_in-span-requires-clause-m_le_max_links
span_in-span-requires-clause-m_le_max_links c =
    omega (
      arith,
      c.requires.links_value,
      c.requires.m_le_links,
      links-few c.args.layout.now.chart.ends.plant c.args.layout.now.chart.ends.sound c.args.switch c.requires.switch_lt_switches,
    )

pub shifted-requires-clause-by_bound : goal.shifted-requires-clause-by_bound
shifted-requires-clause-by_bound c =
    let fits = span_fits c.args.layout.now.chart.ends.plant c.args.switch c.args.m c.args.layout.now.chart.ends.sound c.requires.switch_lt_switches in
    let begin = ap (λ (d : Component). d.begin) c.component_with-c.ensures ∙ begin_is c.args.layout.now.chart.ends.plant c.args.layout.now.chart.ends.sound c.args.switch c.requires.switch_lt_switches in
    omega (arith, fits.0, begin, ap (length {A = ℕ}) c.requires.trail_value, ap (λ (b : Span). b.from) c.span_in-span.ensures)

pub shifted-requires-clause-by_bound_2 : goal.shifted-requires-clause-by_bound_2
shifted-requires-clause-by_bound_2 c =
    let fits = span_fits c.args.layout.now.chart.ends.plant c.args.switch c.args.m c.args.layout.now.chart.ends.sound c.requires.switch_lt_switches in
    let begin = ap (λ (d : Component). d.begin) c.component_with-c.ensures ∙ begin_is c.args.layout.now.chart.ends.plant c.args.layout.now.chart.ends.sound c.args.switch c.requires.switch_lt_switches in
    omega (arith, fits.1, begin, ap (length {A = ℕ}) c.requires.trail_value, ap (λ (b : Span). b.begin) c.span_in-span.ensures)

pub returns : goal.returns
unfolding out_span
returns c =
    c.shifted.ensures
    ∙ ap₂ shifted_by c.span_in-span.ensures
    (ap (λ (d : Component). d.begin) c.component_with-c.ensures ∙ begin_is c.args.layout.now.chart.ends.plant c.args.layout.now.chart.ends.sound c.args.switch c.requires.switch_lt_switches)
