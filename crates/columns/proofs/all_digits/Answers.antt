-- Each byte is a digit, or one is not.
use Rattle.std.proofs.Common.{rules, tests, refl, ◌∙◌}
use Rattle.std.specs.Char.{is_ascii_digit}
use Rattle.std.proofs.lemmas.Iterator.{YieldsList-from_slice}
use Rattle.std.proofs.lemmas.Iterator.Search.{all_from_yields_List}
use Rattle.text.specs.Decimal.{is_digit}
use Rattle.columns.proofs.Fields.{all_same}
use Rattle.columns.proofs.all_digits.Goals as goal

pub returns : goal.returns
returns c =
    all_from_yields_List is_ascii_digit _ _ _ c.all.ensures.ran (YieldsList-from_slice c.args.bytes.now cc) (λ x b q k. search (rules, tests))
    ∙ all_same is_ascii_digit is_digit (λ b. refl) c.args.bytes.now
