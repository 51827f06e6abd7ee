-- What was read is a front of what the reader had, which decides what is printed.
use Rattle.std.proofs.Common.{arith, length, refl}
use Rattle.std.specs.Io.KnownBytes.{Appends}
use Rattle.std.proofs.lemmas.Result.{on_ok_weaker, on_err_weaker}
use Rattle.streams.specs.Streams.{AppendsFront}
use Rattle.streams.proofs.Filled.{of_all}
use Rattle.buying.specs.Output.{printed}
use Rattle.buying.proofs.Output.{printed-front}
use Rattle.buying.proofs.print_file.Goals as goal

pub returns-clause-ok : goal.returns-clause-ok
returns-clause-ok g c =
    let places = length c.fill.new.buf in
    let argument = c.args.spare.now.argument.now in
    on_ok_weaker c.print_page.result
    (of_all (printed argument) places (λ s. printed-front places argument s (omega arith)) (Appends _ _) _ _ c.in_ok-n.n c.fill.new.buf refl c.in_ok-n.ensures.front.0 c.in_ok-n.ensures.bytes c.in_ok-n.ensures.all)
    c.print_page.ensures.ok

pub returns-clause-err : goal.returns-clause-err
returns-clause-err g c =
    let places = length c.fill.new.buf in
    let argument = c.args.spare.now.argument.now in
    on_err_weaker c.print_page.result
    (of_all (printed argument) places (λ s. printed-front places argument s (omega arith)) (AppendsFront _ _) _ _ c.in_ok-n.n c.fill.new.buf refl c.in_ok-n.ensures.front.0 c.in_ok-n.ensures.bytes c.in_ok-n.ensures.all)
    c.print_page.ensures.err
