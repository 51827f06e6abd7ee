use Rattle.std.proofs.Common.{◌∙◌}
use lib.ListN.{length-set}
use Rattle.encoder.proofs.PutLaws.{bytes_next}
use Rattle.encoder.proofs.put_number.Goals as goal

pub loop-i-preserved : goal.loop-i-preserved
loop-i-preserved c = record {
  same = length-set _ _ _ ∙ c.loop-i.invariant.same;
  laid = bytes_next _ _ _ _ _ c.loop-i-test.true ∙ c.loop-i.invariant.laid;
}
