-- Document 01's rule for the trail, as a relation on lists of labels: what the trail is, and not how it is made. A list with other ties is
-- not of it. Assumes nothing: d is any distance, and `Fewest` of Meaning says elsewhere that it is the fewest hops.
use Rattle.std.specs.Prelude.{◌≡◌, Bool, List, [], ◌∷◌, ◌++◌, ℕ, ◌≤◌, ◌<◌}
use Rattle.lists.specs.Members.{In}
use Rattle.routes.specs.Meaning.{InUse}

-- the labels below n, their tails and heads, which of them are in use, and the distance from one switch to another
module _ (n : ℕ) (tl hd : ℕ → ℕ) (ok : ℕ → Bool) (d : ℕ → ℕ → ℕ) where
  -- a leaves u, and is "an arc in use that lessens the distance left" to v
  pub record Lessens (u v a : ℕ) : Type 0 where
    pub in_use : InUse n ok a
    pub leaves : tl a ≡ u
    pub nearer : d (hd a) v < d u v

  -- "each hop takes the lowest label of an arc in use that lessens the distance left": so from u to v
  pub data Hops (v : ℕ) : ℕ → List ℕ → Type 0 where
    there : {u : ℕ} → u ≡ v → Hops v u []
    hop : {u a : ℕ} {w : List ℕ} → Lessens u v a → ((b : ℕ) → Lessens u v b → a ≤ b) → Hops v (hd a) w → Hops v u (a ∷ w)

  -- arc a is in use, and is not among those crossed
  abbrev pub Uncrossed : List ℕ → ℕ → Type 0
  Uncrossed crossed a = InUse n ok a × (In a crossed → ⊥)

  -- from u, arc a leaves "the nearest switch with an uncrossed outgoing arc in use"; "ties go to the lowest label of such an arc"
  pub record Nearest (crossed : List ℕ) (u a : ℕ) : Type 0 where
    pub uncrossed : Uncrossed crossed a
    pub closest : (b : ℕ) → Uncrossed crossed b → d u (tl a) ≤ d u (tl b)
    pub lowest : (b : ℕ) → Uncrossed crossed b → d u (tl b) ≡ d u (tl a) → a ≤ b

  -- the trail from u on. "While an arc in use is uncrossed, it goes to the nearest switch with an uncrossed outgoing arc in use and crosses
  -- that arc"; the arcs of the way are crossed too. "At the end it returns to the start by the same hop rule"
  pub data Legs (start : ℕ) : List ℕ → ℕ → List ℕ → Type 0 where
    leg : {crossed way rest : List ℕ} {u a : ℕ}
        → Nearest crossed u a → Hops (tl a) u way → Legs start (a ∷ (way ++ crossed)) (hd a) rest → Legs start crossed u (way ++ (a ∷ rest))
    home : {crossed w : List ℕ} {u : ℕ} → ((a : ℕ) → Uncrossed crossed a → ⊥) → Hops start u w → Legs start crossed u w

  -- "the trail begins at the start", with no arc crossed
  abbrev pub ByRule : ℕ → List ℕ → Type 0
  ByRule start w = Legs start [] start w
