-- The word, and then spaces.
use Rattle.text.proofs.LaidLaws.{laid_then}
use Rattle.columns.proofs.put_left.Goals as goal

pub returns : goal.returns
returns c = laid_then c.put_word-next.ensures c.put_spaces.ensures
