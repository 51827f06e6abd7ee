-- Where the outward labels stand in the trail of a component: the ring, or a part of it.
use Rattle.std.proofs.Common.{sym, ◌∙◌}
use Rattle.probing.proofs.Results.{out-ring, out-part}
use Rattle.probing.proofs.span_in.Goals as goal

pub returns-then-m-links : goal.returns-then-m-links
returns-then-m-links c = out-ring _ _ _ c.requires.own_value _ _ (c.if-m-links.true ∙ c.requires.links_value) c.ring_span.ensures

pub returns : goal.returns
returns c = out-part _ _ _ c.requires.own_value _ _ (λ e. c.if-m-links.false (e ∙ sym c.requires.links_value)) c.span_of.ensures
