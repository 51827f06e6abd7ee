-- Runs of the code's values: how a run comes out, and a run under rules that are flags, one for each label that a plant can have.
use Rattle.std.specs.Prelude.{Bool, true, false, List, ℕ, ◌+◌, ◌/◌}
use Rattle.lists.specs.Tests.{choose}
use Rattle.lists.specs.Arrays.{flag}
use Rattle.plant.specs.declared.Plant.{Plant}
use Rattle.walks.specs.Arcs.{tail, head}
use Rattle.rings.specs.Packet.{run_on, rules_for}
use Rattle.rings.specs.Packet as ring
use Rattle.rings.specs.Rules.{up_by}
use Rattle.packet.specs.declared.End.{End}

-- how a run comes out, as the definitions have it
abbrev pub end_of : End → ring.End
end_of e = record { ended = e.ended; hops = e.hops; last = e.last }

-- a packet that is injected at switch s
abbrev pub injected_at : ℕ → ring.End
injected_at s = record { ended = true; hops = 0; last = s }

-- a packet after the next label: it crosses, and is where the label leads, after one hop more; or it is lost where it is
abbrev pub after_label : ring.End → Bool → ℕ → ring.End
after_label e crosses to = choose crosses (record { ended = true; hops = e.hops + 1; last = to }) (record { ended = false; hops = e.hops; last = e.last })

-- a rule for each arc that is flagged, at the switch that it leaves
unfoldable pub flagged : Plant → List Bool → ℕ → ℕ → Bool
flagged p rules = rules_for (flag rules) (tail p)

-- where the state byte of label a stands, where n labels share a byte: the two of a link, or one alone
abbrev pub byte_of : ℕ → ℕ → ℕ
byte_of n a = a / n

-- the labels that are up, by such bytes
abbrev pub up_of : ℕ → List ℕ → ℕ → Bool
up_of n states a = up_by states (byte_of n a)

-- a packet that came so far goes on under the rules that are flagged, by such bytes
abbrev pub goes_by : ℕ → Plant → List Bool → List ℕ → ring.End → List ℕ → ring.End
goes_by n p rules states e w = run_on (flagged p rules) (up_of n states) (head p) e w

-- the same, by a state byte for each link
abbrev pub goes_on : Plant → List Bool → List ℕ → ring.End → List ℕ → ring.End
goes_on p rules states e w = goes_by 2 p rules states e w
