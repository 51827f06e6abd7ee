-- The links from place i on are judged as all of them are.
use Rattle.std.proofs.Common.{◌≡◌, drop}
use Rattle.answers.specs.Checks.{answer}
use Rattle.listing.specs.Writing.{sound_links}
use Rattle.writing.proofs.judge_links.Given as goal

abbrev pub invariant-loop-l : goal.invariant-loop-l
invariant-loop-l l = answer (sound_links l.p.switches (drop l.l-index l.l-items)) ≡ answer (sound_links l.p.switches l.l-items)
