use Rattle.std.proofs.Common.{◌+◌, arith}
use Rattle.encoder.proofs.PutLaws.{body_from, bytes_at, laid_one, body_next}
use Rattle.encoder.proofs.put_fields.Goals as goal

pub loop-i-preserved : goal.loop-i-preserved
loop-i-preserved g c =
    let fs = c.args.fields.now in
    let vs = c.args.values.now in
    let i = c.loop-i.i in
    let next = body_next fs vs i (omega (arith, c.loop-i-test.true)) (omega (arith, c.loop-i-test.true)) in
    laid_one _ _ _ _ (bytes_at fs vs i) (body_from fs vs (i + 1)) _ _ c.loop-i.invariant next _ _ c.put_field-at.ensures.value c.put_field-at.ensures.buf_after
