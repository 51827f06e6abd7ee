-- The legs of one trail after another.
use Rattle.std.proofs.Common.{◌∙◌, length-set}
use Rattle.legs.proofs.Several.{asked, listed_next, listed_all}
use Rattle.legs.proofs.legs_of.Goals as goal

pub legs_from-legs-requires-clause-some_parts : goal.legs_from-legs-requires-clause-some_parts
legs_from-legs-requires-clause-some_parts c =
    let k = c.loop-i in
    asked c.requires c.loop-i-test.true (k.invariant.2 c.requires) c.net_from.ensures

pub loop-i-preserved : goal.loop-i-preserved
loop-i-preserved c =
    let k = c.loop-i in
    let w = c.requires in (
      (c.legs_from-legs.ensures (asked w c.loop-i-test.true (k.invariant.2 w) c.net_from.ensures)).long,
      length-set k.list k.i c.legs_from-legs.result ∙ k.invariant.1,
      λ v. listed_next v c.loop-i-test.true (k.invariant.2 v) c.net_from.ensures k.invariant.1 c.legs_from-legs.ensures,
    )

pub returns : goal.returns
returns c w = listed_all w _ c.loop-i-test.false _ _ _ (c.loop-i.invariant.2 w)
