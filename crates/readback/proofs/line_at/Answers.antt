-- The line of a place has its columns.
use Rattle.std.proofs.Common.{length, ap, ◌∙◌}
use Rattle.sheet.proofs.Form.{line-length}
use Rattle.readback.proofs.Lines.{line-part}
use Rattle.readback.proofs.line_at.Goals as goal

pub returns-clause-columns : goal.returns-clause-columns
returns-clause-columns c = ap length (line-part c.args.page.now c.args.x) ∙ line-length c.args.page.now c.args.x c.requires
