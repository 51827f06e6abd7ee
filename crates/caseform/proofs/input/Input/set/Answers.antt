use Rattle.std.proofs.Common.{rules, ◌≡◌, ◌∙◌, get_or, ap, arith}
use Rattle.std.proofs.lemmas.List.{get_or-drop}
use Rattle.std.proofs.lemmas.Grind.{common_steps}
use Rattle.caseform.proofs.Bytes.{same_number}
use Rattle.caseform.proofs.Filled.{filled_more}
use Rattle.caseform.proofs.input.Input.set.Goals as goal

pub loop-byte-init : goal.loop-byte-init
loop-byte-init c = (search rules, λ k d h. absurd (omega arith))

pub loop-byte-preserved : goal.loop-byte-preserved
loop-byte-preserved c = (
  grind (arith, common_steps),
  filled_more (λ k x. x ≡ get_or c.args.self.now.rest.now k 0) c.loop-byte.byte-items c.loop-byte.byte-index c.byte.result (search rules)
      (c.byte.ensures.byte ∙ ap (λ l. get_or l 0 0) c.loop-byte.invariant.0 ∙ get_or-drop c.loop-byte.byte-index c.args.self.now.rest.now 0 0
      ∙ ap (λ j. get_or c.args.self.now.rest.now j 0) (omega arith)) c.loop-byte.invariant.1,
)

pub returns-clause-number : goal.returns-clause-number
returns-clause-number c = c.from_le_bytes.ensures ∙ same_number _ _ (λ k d h. c.loop-byte.invariant.1 k d (search rules))
