-- The place of an injection switch in a trail, and its ring (document 01, "Rules, packets, ring"). The trail is any list of labels.
use Rattle.std.specs.Prelude.{◌≡◌, List, ◌++◌, ℕ, ◌<◌, eqb, length, get_or, take, drop}
use Rattle.lists.specs.Least.{least}

-- a trail read from place k to its end, then from its front
unfoldable pub read_from : ℕ → List ℕ → List ℕ
read_from k w = drop k w ++ take k w

-- the switch that a label's arc leaves
module _ (tl : ℕ → ℕ) where
  -- the place of s: the number of the first hop that leaves it, from 0; as many as there are hops if none does, so 0 if the trail is empty
  unfoldable pub place : ℕ → List ℕ → ℕ
  place s w = least (length w) (λ i. eqb (tl (get_or w i 0)) s)

  -- hop k leaves s, and none before it does
  pub record FirstHop (s : ℕ) (w : List ℕ) (k : ℕ) : Type 0 where
    pub inside : k < length w
    pub leaves : tl (get_or w k 0) ≡ s
    pub before : (i : ℕ) → i < k → tl (get_or w i 0) ≡ s → ⊥

  -- the ring of s
  unfoldable pub ring : ℕ → List ℕ → List ℕ
  ring s w = read_from (place s w) w
