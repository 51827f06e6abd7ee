use Rattle.std.proofs.Common.{rules, refl, subst}
use Rattle.std.proofs.lemmas.Fn.{fold_over, slice_gives, fronts, FoldsTo-push}
use Rattle.caseform.specs.Checksum.{ChecksumOf}
use Rattle.caseform.proofs.checksum.with_all.Goals as goal

pub returns : goal.returns
returns g c = subst (λ l. ChecksumOf g.T.Into.converts c.args.h l c.fold.result) c.iter.ensures.rest
    (fold_over fronts (λ y. y.now) _ (λ xs r. ChecksumOf g.T.Into.converts c.args.h xs r) _
    (λ xs a x b f' j k. (FoldsTo-push _ _ _ _ _ _ j (search rules), search rules))
    _ _ _ _ (slice_gives c.iter.result) refl c.fold.ensures.ran)
