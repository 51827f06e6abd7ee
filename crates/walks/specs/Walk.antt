-- Walks over labelled arcs: as lists of labels, and as a relation that proofs go by. The laws are in proofs/.
use Rattle.std.specs.Prelude.{◌≡◌, List, [], ◌∷◌, ℕ}

-- w is a walk from u to v: each arc leaves where the one before arrived
module _ (tl hd : ℕ → ℕ) where
  abbrev pub Walk : List ℕ → ℕ → ℕ → Type 0
  Walk [] u v = u ≡ v
  Walk (a ∷ w) u v = (tl a ≡ u) × Walk w (hd a) v

-- v is reached from u by a walk whose arcs are all of the kind `ok`
pub data Reach (tl hd : ℕ → ℕ) (ok : ℕ → Type 0) (v : ℕ) : ℕ → Type 0 where
  here : {u : ℕ} → u ≡ v → Reach tl hd ok v u
  step : {u : ℕ} (a : ℕ) → ok a → tl a ≡ u → Reach tl hd ok v (hd a) → Reach tl hd ok v u
