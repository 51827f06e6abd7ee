-- By cases one, two or three.
use Rattle.std.proofs.Common.{length, sym, ap, arith}
use Rattle.text.proofs.DecimalLaws.{decimal-last, decimal-two, decimal-three}
use Rattle.columns.proofs.digits_of.Goals as goal

pub returns-then-n-lt10 : goal.returns-then-n-lt10
returns-then-n-lt10 c = sym (ap length (decimal-last c.args.n (omega arith)))

pub returns-then-n-lt100 : goal.returns-then-n-lt100
returns-then-n-lt100 c = sym (ap length (decimal-two c.args.n (omega arith) (omega arith)))

pub returns : goal.returns
returns c = sym (ap length (decimal-three c.args.n (omega arith) c.requires))
