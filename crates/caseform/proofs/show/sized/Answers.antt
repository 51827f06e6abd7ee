use Rattle.std.proofs.Common.{rules, ◌∷◌, [], subst}
use Rattle.std.specs.Prelude.{OnErr, OnOk, decimal}
use Rattle.std.specs.Io.KnownBytes.{Appends}
use Rattle.streams.specs.Streams.{AppendsFront}
use Rattle.streams.proofs.Growing.{grows_twice}
use Rattle.caseform.specs.Shown.{sized}
use Rattle.caseform.proofs.Texts.{err_after, fails, front_after, front_more, ok_after}
use Rattle.caseform.proofs.show.sized.Goals as goal

pub returns-in_err-number-clause-err : goal.returns-in_err-number-clause-err
returns-in_err-number-clause-err g c =
    fails _ (front_more _ _ (decimal c.args.count) (58 ∷ decimal c.args.checksum) c.in_err-number.ensures.err)

pub returns-in_err-word-clause-err : goal.returns-in_err-word-clause-err
returns-in_err-word-clause-err g c =
    fails _ (front_after _ _ _ (decimal c.args.count) (58 ∷ decimal c.args.checksum) c.in_ok-number.ensures.ok
    (front_more _ _ (58 ∷ []) (decimal c.args.checksum) c.in_err-word.ensures.err))

pub returns-in_err-word-clause-grows : goal.returns-in_err-word-clause-grows
returns-in_err-word-clause-grows g c = search (rules, grows_twice)

pub returns-clause-ok : goal.returns-clause-ok
returns-clause-ok g c =
    subst (λ h. OnOk c.number-2.result (Appends (g.W.Write.contents c.args.out.now) (g.W.Write.contents c.number-2.new.out) (sized c.args.count h))) c.from.ensures
    (ok_after _ _ _ _ (decimal c.args.count) (58 ∷ decimal c.from.result) c.in_ok-number.ensures.ok
    (ok_after _ _ _ _ (58 ∷ []) (decimal c.from.result) c.in_ok-word.ensures.ok c.number-2.ensures.ok))

pub returns-clause-err : goal.returns-clause-err
returns-clause-err g c =
    subst (λ h. OnErr c.number-2.result (AppendsFront (g.W.Write.contents c.args.out.now) (g.W.Write.contents c.number-2.new.out) (sized c.args.count h))) c.from.ensures
    (err_after _ _ _ _ (decimal c.args.count) (58 ∷ decimal c.from.result) c.in_ok-number.ensures.ok
    (err_after _ _ _ _ (58 ∷ []) (decimal c.from.result) c.in_ok-word.ensures.ok c.number-2.ensures.err))

pub returns-clause-grows : goal.returns-clause-grows
returns-clause-grows g c = search (rules, grows_twice)
