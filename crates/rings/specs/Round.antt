-- The round run, and a state byte for each label (document 02, order 6).
use Rattle.std.specs.Prelude.{◌≡◌, ◌↔◌, Bool, true, List, map, ℕ, ◌+◌, ◌*◌, ◌/◌, ◌≤◌, T, length, get_or}
use Rattle.lists.specs.Numbers.{range}
use Rattle.plant.specs.declared.Plant.{Plant}
use Rattle.walks.specs.Arcs.{head}
use Rattle.rings.specs.Packet.{End, ends, run}
use Rattle.rings.specs.Rules.{up_by, in_all}
use Rattle.rings.specs.Injection.{ring_of}

-- "with a state byte for each label": a label is up if its byte is not 0, whatever that of the opposite one is
abbrev pub up_by_label : List ℕ → ℕ → Bool
up_by_label states a = up_by states a

-- "links whose two directions are up or down together": each of these links
abbrev pub Together : (ℕ → Bool) → List ℕ → Type 0
Together links states = (l : ℕ) → T (links l) → up_by_label states (2 * l) ≡ up_by_label states (2 * l + 1)

module _ (p : Plant) where
  -- every direction of these links is up
  abbrev pub EveryUp : (ℕ → Bool) → List ℕ → Type 0
  EveryUp links states = (a : ℕ) → T (links (a / 2)) → up_by_label states a ≡ true

  -- the packet over the labels w, injected at switch s, "comes home exactly if every direction is up" of these links, whichever those are,
  -- by a byte for each label. "All 2×E arcs have rules here"
  abbrev pub Vouches : (ℕ → Bool) → ℕ → List ℕ → Type 0
  Vouches links s w = (states : List ℕ) → 2 * p.count ≤ length states
      → (ends (in_all p) (up_by_label states) (head p) s w ≡ true) ↔ EveryUp links states

  -- the run over the round trail w from the place of switch s: its ring
  unfoldable pub round_run : List ℕ → ℕ → List ℕ → End
  round_run w s states = run (in_all p) (up_by_label states) (head p) s 0 (ring_of p w s)

  -- one byte for each link, that of its first label
  unfoldable pub link_bytes : List ℕ → List ℕ
  link_bytes states = map (λ l. get_or states (2 * l) 0) (range 0 p.count)
