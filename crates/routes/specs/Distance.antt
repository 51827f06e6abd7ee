-- Distance, hop and route over arcs in use: document 01, "A table holds the fewest hops over arcs in use between every two switches" and
-- "each hop takes the lowest label of an arc in use that lessens the distance left". Each definition computes; `Meaning` says what distance
-- means in terms of walks.
use Rattle.std.specs.Prelude.{Bool, ◌&&◌, List, [], ◌∷◌, ◌++◌, map, ℕ, zero, suc, eqb, ltb}
use Rattle.lists.specs.Members.{memb}
use Rattle.lists.specs.Numbers.{range, keep}
use Rattle.lists.specs.Least.{least}

-- S switches, the labels below n, their tails and heads, and which of them are in use
module _ (S n : ℕ) (tl hd : ℕ → ℕ) (ok : ℕ → Bool) where
  -- the tails of the arcs in use that arrive in l
  unfoldable pub sources : List ℕ → List ℕ
  sources l = map tl (keep (λ a. ok a && memb (hd a) l) (range 0 n))

  -- the switches from which v is at most k hops away: v, and each time those one hop before
  unfoldable pub within : ℕ → ℕ → List ℕ
  within zero v = v ∷ []
  within (suc k) v = sources (within k v) ++ within k v

  -- the fewest hops from u to v; S if there is no walk
  unfoldable pub dist : ℕ → ℕ → ℕ
  dist u v = least S (λ k. memb u (within k v))

  -- arc a is in use, leaves u and lessens the distance to v
  abbrev pub lessens : ℕ → ℕ → ℕ → Bool
  lessens u v a = ok a && (eqb (tl a) u && ltb (dist (hd a) v) (dist u v))

  -- the lowest label of an arc in use that lessens the distance left; n if there is none
  unfoldable pub hop : ℕ → ℕ → ℕ
  hop u v = least n (lessens u v)

  -- k hops towards v
  unfoldable pub hops : ℕ → ℕ → ℕ → List ℕ
  hops zero u v = []
  hops (suc k) u v = hop u v ∷ hops k (hd (hop u v)) v

  -- all hops from u to v
  unfoldable pub route : ℕ → ℕ → List ℕ
  route u v = hops (dist u v) u v
