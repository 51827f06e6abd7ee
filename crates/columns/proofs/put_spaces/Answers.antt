-- The spaces stand where they were filled in.
use Rattle.std.proofs.Common.{◌≡◌, ◌+◌, ◌-◌, length, take, drop, replicate, arith, ap, ◌∙◌, length-take-le, length-drop}
use Rattle.text.specs.Lines.{space}
use Rattle.text.proofs.LaidLaws.{laid-put}
use Rattle.columns.specs.Fields.{spaces}
use Rattle.columns.proofs.Fields.{spaces-size}
use Rattle.columns.proofs.put_spaces.Goals as goal

pub returns : goal.returns
returns c =
    let n = c.args.n in
    let e = spaces-size n in
    let k : c.args.at + n - c.args.at ≡ n = omega arith in
    let size : length (take (c.args.at + n - c.args.at) (drop c.args.at c.args.buf.now)) ≡ n = rw k (length-take-le n (drop c.args.at c.args.buf.now) (omega (arith, length-drop c.args.at c.args.buf.now))) in
    let f : c.fill.new.self ≡ spaces n = c.fill.ensures.after (λ y h. h) ∙ ap (λ m. replicate m space) size in
    rw e at (laid-put c.args.buf.now c.args.at (c.args.at + n - c.args.at) (spaces n) c.fill.new.self (omega (arith, e)) f c.requires)
