-- A number of 8 bits has at most three digits.
use Rattle.std.proofs.Common.{[], ◌∷◌, arith}
use Rattle.text.specs.Lines.{refused_word}
use Rattle.text.specs.Sizes.{digits_short}
use Rattle.text.proofs.SizeLaws.{line-most}
use Rattle.text.proofs.put_refusal.Goals as goal

pub put_line-requires : goal.put_line-requires
put_line-requires c = rw c.from.ensures (omega (arith, line-most digits_short (omega arith) refused_word (c.args.n ∷ []) (omega arith, tt)))
