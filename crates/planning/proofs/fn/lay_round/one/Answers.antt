-- By the round trail of component i.
use Rattle.std.proofs.Common.{List, ℕ, subst, arith}
use Rattle.trail.specs.Ways.{Laid}
use Rattle.planning.proofs.OneAfterAnother.{round-labels, round-hops}
use Rattle.planning.proofs.fn.lay_round.one.Goals as goal

pub lay-requires : goal.lay-requires
lay-requires c =
    record {
      labels = round-labels c.captures.x.now.ends.sound c.requires.0 _ c.round_at.ensures;
      hops_in_bounds = omega (arith, round-hops c.captures.x.now.ends.sound c.requires.0 _ c.round_at.ensures);
    }

pub returns : goal.returns
returns c = subst (λ (w : List ℕ). Laid w c.args.b.now c.args.from c.lay.new.buf c.lay.result) c.round_at.ensures c.lay.ensures
