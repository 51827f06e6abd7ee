-- The two-way outcome (document 01: a fate, home or lost), read out of how a run comes out. No other place says what returned and lost are.
-- Assumes nothing.
use Rattle.lists.specs.Tests.{choose}
use Rattle.rings.specs.Packet.{End}
use Rattle.search.specs.declared.Outcome.{Outcome}
use Rattle.search.specs.declared.Outcome.TheVariants.{Returned, Lost}

-- a packet that has ended has returned, as a probe that has ended "is home"; any other is lost
abbrev pub outcome_of : End → Outcome
outcome_of e = choose e.ended Returned Lost
