-- There is room, and what is laid at the front of the buffer is what it hands on to be written.
use Rattle.std.proofs.Common.{◌∙◌}
use Rattle.text.proofs.LaidLaws.{laid-front}
use Rattle.printing.proofs.print_plan.Goals as goal

pub write_output-requires : goal.write_output-requires
write_output-requires g c = laid-front _ _ _ _ c.put_plan-n.ensures ∙ c.requires.output
