-- What is laid at the front of the line is the refusal.
use Rattle.std.proofs.Common.{ap, ◌∙◌}
use Rattle.text.specs.Lines.{refusal_of}
use Rattle.text.proofs.LaidLaws.{laid-front}
use Rattle.buying.proofs.print_refusal.Goals as goal

pub write_output-requires : goal.write_output-requires
write_output-requires g c = laid-front _ _ _ _ c.put_refusal-n.ensures ∙ ap refusal_of c.number.ensures ∙ c.requires
