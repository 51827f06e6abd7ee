-- How a packet runs (document 01, "Rules, packets, ring"), and where it got to (document 02, order 1).
use Rattle.std.specs.Prelude.{Bool, true, ◌&&◌, List, [], ◌∷◌, ℕ, ◌+◌, ◌/◌, eqb, length}
use Rattle.lists.specs.Tests.{choose}

-- how a run comes out: has the packet ended (else it is lost), the hops made, and the switch last reached
pub record End : Type 0 where
  pub ended : Bool
  pub hops : ℕ
  pub last : ℕ

-- a test on links as one on labels: that of a label's link
abbrev pub by_link : (ℕ → Bool) → ℕ → Bool
by_link t a = t (a / 2)

-- the switch that labels lead to from a switch, by the switch that each label's arc leads to
abbrev pub leads_to : (ℕ → ℕ) → ℕ → List ℕ → ℕ
leads_to hd at [] = at
leads_to hd at (a ∷ w) = leads_to hd (hd a) w

-- rules as a test on switch and label, and what is up as a test on labels: a label is up if its link can be crossed that way. A packet
-- crosses "at a switch with a rule for the next label, and that label's link up". The rule is looked for before the state
abbrev pub crosses : (ℕ → ℕ → Bool) → (ℕ → Bool) → ℕ → ℕ → Bool
crosses rule up at a = rule at a && up a

module _ (rule : ℕ → ℕ → Bool) (up : ℕ → Bool) (hd : ℕ → ℕ) where
  -- of the labels that a packet carries at a switch, those "before the first one that has no rule at the switch then reached or whose link
  -- is down"
  abbrev pub crossed : ℕ → List ℕ → List ℕ
  crossed at [] = []
  crossed at (a ∷ w) = choose (crosses rule up at a) (a ∷ crossed (hd a) w) []

  -- "with the list empty it has ended there; otherwise it is lost"
  abbrev pub ends : ℕ → List ℕ → Bool
  ends at [] = true
  ends at (a ∷ w) = crosses rule up at a && ends (hd a) w

  -- a packet at a switch, after n hops, with the labels that it carries: the hops made are the labels crossed, and the switch last reached
  -- is where they lead
  unfoldable pub run : ℕ → ℕ → List ℕ → End
  run at n w = record { ended = ends at w; hops = n + length (crossed at w); last = leads_to hd at (crossed at w) }

  -- a packet that came so far goes on with these labels, unless it is lost: its hops count on
  unfoldable pub run_on : End → List ℕ → End
  run_on e w = choose e.ended (run e.last e.hops w) e

-- a rule for each arc of a kind, at the switch that the arc leaves
unfoldable pub rules_for : (ℕ → Bool) → (ℕ → ℕ) → ℕ → ℕ → Bool
rules_for kind tl at a = kind a && eqb (tl a) at
