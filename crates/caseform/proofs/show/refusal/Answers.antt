use Rattle.std.proofs.Common.{rules, ◌∷◌, [], ◌∙◌, subst}
use Rattle.std.specs.Prelude.{OnErr, OnOk}
use Rattle.std.specs.Io.KnownBytes.{Appends}
use Rattle.streams.specs.Streams.{AppendsFront}
use Rattle.streams.proofs.Growing.{grows_twice}
use Rattle.caseform.specs.Shown.{refusal_word, spaced}
use Rattle.caseform.proofs.Texts.{err_after, fails, front_more, ok_after}
use Rattle.answers.specs.Answers.{number_of}
use Rattle.caseform.proofs.show.refusal.Goals as goal

pub returns-in_err-word-clause-err : goal.returns-in_err-word-clause-err
returns-in_err-word-clause-err g c = fails _ (front_more _ _ refusal_word (spaced (number_of c.args.k ∷ [])) c.in_err-word.ensures.err)

pub returns-clause-ok : goal.returns-clause-ok
returns-clause-ok g c =
    ok_after _ _ _ _ refusal_word (spaced (number_of c.args.k ∷ [])) c.in_ok-word.ensures.ok
    (subst (λ n. OnOk c.spaced.result (Appends (g.W.Write.contents c.word.new.out) (g.W.Write.contents c.spaced.new.out) (spaced (n ∷ [])))) (c.from.ensures ∙ c.number.ensures) c.spaced.ensures.ok)

pub returns-clause-err : goal.returns-clause-err
returns-clause-err g c =
    err_after _ _ _ _ refusal_word (spaced (number_of c.args.k ∷ [])) c.in_ok-word.ensures.ok
    (subst (λ n. OnErr c.spaced.result (AppendsFront (g.W.Write.contents c.word.new.out) (g.W.Write.contents c.spaced.new.out) (spaced (n ∷ [])))) (c.from.ensures ∙ c.number.ensures) c.spaced.ensures.err)

pub returns-clause-grows : goal.returns-clause-grows
returns-clause-grows g c = search (rules, grows_twice)
