-- The digits have room in the columns, and are laid over the last of the spaces.
use Rattle.std.proofs.Common.{arith}
use Rattle.text.specs.Decimal.{decimal}
use Rattle.columns.proofs.Fields.{short-decimal, spaces-size}
use Rattle.columns.proofs.Right.{right-laid}
use Rattle.columns.proofs.put_right.Goals as goal

pub overflow_sub-end : goal.overflow_sub-end
overflow_sub-end c =
    omega (arith, c.digits_of-digits.ensures, short-decimal c.args.n c.requires.n_bound, c.put_spaces-end.ensures.place, spaces-size c.args.columns)

pub returns : goal.returns
returns c =
    right-laid c.args.buf.now c.args.at c.args.columns (decimal c.args.n) (omega (arith, short-decimal c.args.n c.requires.n_bound)) c.put_spaces-end.ensures _ c.digits_of-digits.ensures c.put_short.ensures
