-- What distance means in terms of walks. Assumes nothing.
use Rattle.std.specs.Prelude.{◌≡◌, Bool, List, ℕ, ◌≤◌, ◌<◌, T, length}
use Rattle.lists.specs.Members.{In}
use Rattle.walks.specs.Walk.{Walk, Reach}

-- a is the label of an arc in use
abbrev pub InUse : ℕ → (ℕ → Bool) → ℕ → Type 0
InUse n ok a = (a < n) × T (ok a)

-- S switches, the labels below n, their tails and heads, and which of them are in use
module _ (S n : ℕ) (tl hd : ℕ → ℕ) (ok : ℕ → Bool) where
  -- v is reached from u over arcs in use
  abbrev pub Reached : ℕ → ℕ → Type 0
  Reached u v = Reach tl hd (InUse n ok) v u

  -- w is a walk from u to v over arcs in use
  pub record Way (u v : ℕ) (w : List ℕ) : Type 0 where
    pub is_walk : Walk tl hd w u v
    pub in_use : (a : ℕ) → In a w → InUse n ok a

  -- the arcs in use join switches of a part, the root among them, and each switch of that part leads to each other over them
  pub record Strong (root : ℕ) (part : ℕ → Bool) : Type 0 where
    pub inside : (x : ℕ) → T (part x) → x < S
    pub tails : (a : ℕ) → a < n → T (ok a) → T (part (tl a))
    pub heads : (a : ℕ) → a < n → T (ok a) → T (part (hd a))
    pub starts : T (part root)
    pub joined : (x y : ℕ) → T (part x) → T (part y) → Reached x y

  -- d is the fewest hops from u to v over arcs in use, or S if there is no walk
  pub record Fewest (u v d : ℕ) : Type 0 where
    -- some walk has so many hops
    pub attained : d < S → (w : List ℕ) × Way u v w × (length w ≡ d)
    -- no walk has fewer
    pub shortest : (w : List ℕ) → Way u v w → d ≤ length w
    -- where there is a walk, it is at most S - 1
    pub below : Reached u v → d < S
    -- where there is none, it is S
    pub none : (Reached u v → ⊥) → d ≡ S
