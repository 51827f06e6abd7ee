-- The word stands where it was copied to.
use Rattle.std.proofs.Common.{arith}
use Rattle.text.proofs.LaidLaws.{laid-put}
use Rattle.text.proofs.put_word.Goals as goal

pub returns : goal.returns
returns c = laid-put c.args.buf.now c.args.at _ c.args.word.now _ (omega arith) c.copy_from_slice.ensures.after c.requires
