use Rattle.std.proofs.Common.{Ok, Err, refl}
use Rattle.answers.proofs.Results.{exit}
use Rattle.reading.proofs.InRow.{in_row}
use Rattle.reading.proofs.read.Goals as goal

pub returns-in_err-h : goal.returns-in_err-h
returns-in_err-h c =
    in_row c.args.listing _ c.begin-r.ensures (Err _) c.in_err-h.ensures c.begin-r.result tt (Err _) refl c.begin-r.result tt _ (exit _ _ _ c.from_residual.ensures.1)

pub returns-in_err-l : goal.returns-in_err-l
returns-in_err-l c =
    in_row c.args.listing _ c.begin-r.ensures (Ok c.in_ok-h.h) c.in_ok-h.ensures _ c.moved-q.ensures (Err _) c.in_err-l.ensures c.begin-r.result tt _
    (exit _ _ _ c.from_residual-in_err-l.ensures.1)

pub returns : goal.returns
returns c =
    in_row c.args.listing _ c.begin-r.ensures (Ok c.in_ok-h.h) c.in_ok-h.ensures _ c.moved-q.ensures (Ok c.in_ok-l.l) c.in_ok-l.ensures _ c.moved-p.ensures _ c.end.ensures
