-- Each byte is a space, or one is not.
use Rattle.std.proofs.Common.{rules, tests, eqb, ◌∙◌}
use Rattle.std.proofs.lemmas.Iterator.{YieldsList-from_slice}
use Rattle.std.proofs.lemmas.Iterator.Search.{all_from_yields_List}
use Rattle.text.specs.Lines.{space}
use Rattle.columns.proofs.Fields.{all_same}
use Rattle.readback.proofs.Lines.{eqb-swap}
use Rattle.readback.proofs.are_spaces.Goals as goal

pub returns : goal.returns
returns c =
    all_from_yields_List (λ b. eqb b space) _ _ _ c.all.ensures.ran (YieldsList-from_slice c.args.bytes.now cc) (λ x b q k. search (rules, tests))
    ∙ all_same (λ b. eqb b space) (eqb space) (λ b. eqb-swap b space) c.args.bytes.now
