-- Inner: the depth-first visit as a relation that proofs go by, and the tree that it leaves. No promise of a call needs it.
use Rattle.std.specs.Prelude.{◌≡◌, Bool, false, ◌&&◌, ◌||◌, List, [], ◌∷◌, ℕ, suc, ◌-◌, ◌*◌, ◌/◌, T, eqb, ltb}
use Rattle.lists.specs.Tests.{choose}
use Rattle.lists.specs.Members.{In}
use Rattle.lists.specs.Least.{least_from}
use Rattle.plant.specs.declared.Plant.{Plant}
use Rattle.plant.specs.Links.{live}
use Rattle.walks.specs.Visit.{St, push}
use Rattle.walks.specs.Arcs.{opposite, tail, head}
use Rattle.walks.specs.Graph.{To, visited_from, reached_from, entered_from, earlier_from}

module _ (tl hd : ℕ → ℕ) (arcs : List ℕ) where
  -- the visit as a relation: from state s, trying the arcs `bs` at v leads to state t
  pub data Scan : ℕ → List ℕ → St → St → Type 0 where
    done : {v : ℕ} {s : St} → Scan v [] s s
    skip : {v a : ℕ} {bs : List ℕ} {s t : St} → (tl a ≡ v → In (hd a) s.ord) → Scan v bs s t → Scan v (a ∷ bs) s t
    enter : {v a : ℕ} {bs : List ℕ} {s m t : St} → tl a ≡ v → (In (hd a) s.ord → ⊥) → Scan (hd a) arcs (push tl hd a s) m → Scan v bs m t → Scan v (a ∷ bs) s t

-- ---- the tree that the visit from r leaves, by its entered arcs

module _ (p : Plant) (r : ℕ) where
  -- x is reached from the head of arc a by entered arcs
  abbrev pub Below : ℕ → ℕ → Type 0
  Below a x = To p (λ b. In b (visited_from p r).ent) (head p a) x

  -- x and y are both below arc a, or neither is
  pub record Level (a x y : ℕ) : Type 0 where
    pub there : Below a x → Below a y
    pub back : Below a y → Below a x

-- ---- which arcs a visit from r tells to take, and the round trail hop by hop

module _ (p : Plant) (r : ℕ) where
  -- of the links that `two` tells both arcs; of another entered link the arc from earlier to later visited, of every other the arc from later to earlier. With the bridges for
  -- `two` these are the arcs in use
  unfoldable pub taken_from : (ℕ → Bool) → ℕ → Bool
  taken_from two a =
      reached_from p r (tail p a)
      && (live p (a / 2) && (two (a / 2) || choose (entered_from p r (a / 2)) (earlier_from p r (tail p a) (head p a)) (earlier_from p r (head p a) (tail p a))))

  -- one arc of each link: that by which the round trail crosses it first
  abbrev pub leading_from : ℕ → Bool
  leading_from = taken_from (λ l. false)

  -- at x, with the labels from k on to be tried: the first leading arc that leaves x; where there is none, the arc `up x` by which the round trail goes back from x
  unfoldable pub next_at : (ℕ → ℕ) → ℕ → ℕ → ℕ
  next_at up x k =
      let f = least_from (2 * p.count - k) k (λ a. leading_from a && eqb (tail p a) x) in
      choose (ltb f (2 * p.count)) f (up x)

  -- `next` tells the hop after each hop
  pub record Turns (up next : ℕ → ℕ) : Type 0 where
    pub ups : (a : ℕ) → T (leading_from a) → T (entered_from p r (a / 2)) → up (head p a) ≡ opposite a
    pub enters : (a : ℕ) → T (leading_from a) → T (entered_from p r (a / 2)) → next a ≡ next_at up (head p a) 0
    pub turns : (a : ℕ) → T (leading_from a) → (T (entered_from p r (a / 2)) → ⊥) → next a ≡ opposite a
    pub resumes : (a : ℕ) → T (leading_from a) → next (opposite a) ≡ next_at up (tail p a) (suc a)
