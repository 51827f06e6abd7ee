-- Bridges by the cycles that a link closes with the tree of the visit. From the two ends of a link that was not entered, the one of higher rank goes to the
-- tail of the arc by which it was entered, until the two meet. A link that is passed so is no bridge; an entered link that is passed from no link is one.
-- Assumes a valid plant and a root that is a switch of it.
use mathlib.Core.Path.{◌≡◌, refl, sym, ap, ◌∙◌, subst}
use mathlib.Core.Logic.{◌⊎◌, inl, inr, ⊎_elim}
use mathlib.Core.Bool.{false}
use mathlib.Core.List.{[]}
use Prim.Native.Nat.{ℕ, zero, suc, ◌*◌, ◌/◌, ◌≤◌, ◌<◌}
use native.Mathlib.Omega.{arith}
use lib.Dec.{T}
use Rattle.lists.proofs.Tests.{T-or, true_T, not_true_false}
use Rattle.lists.specs.Members.{In}
use Rattle.lists.proofs.Members.{in?}
use Rattle.plant.specs.declared.Plant.{Plant}
use Rattle.plant.specs.Links.{first, second, live}
use Rattle.walks.specs.Walk.{here, step}
use Rattle.walks.proofs.Walk.{trans, one, keeps}
use Rattle.walks.specs.Visit.{rank}
use Rattle.walks.proofs.Visit.{rank_eq, ext, born, Good}
use Rattle.walks.specs.Arcs.{opposite, tail, head, Avoid, Valid}
use Rattle.walks.specs.Graph.{To, arcs, visited_from, entered_from, bridge}
use Rattle.walks.specs.Inner.{Below, Level}
use Rattle.walks.proofs.Labels.{even_half, same-link, opposite_half, crosses, crossed-is, crosses_arc, tail_even, head_even, tail-opposite, head-opposite, ends, even_arc, opposite_avoid}
use Rattle.walks.proofs.Visited.{visited_run, visited_good, visited_keeps, entered_arc}
use Rattle.walks.proofs.Tests.{walk-back, bridge_arc, no_bridge_arc}

module _ (p : Plant) (r : ℕ) where
  -- the number of a switch in the order of the visit
  abbrev pub rk : ℕ → ℕ
  rk x = rank x (visited_from p r).ord

  -- arc a was entered
  abbrev pub Ent : ℕ → Type 0
  Ent a = In a (visited_from p r).ent

  -- switch x was visited
  abbrev pub Seen : ℕ → Type 0
  Seen x = In x (visited_from p r).ord

  -- x and y are joined without the link of any entered arc whose head was visited no later than one of them
  abbrev pub Round : ℕ → ℕ → Type 0
  Round x y = (a : ℕ) → Ent a → (rk (head p a) ≤ rk x) ⊎ (rk (head p a) ≤ rk y) → To p (Avoid p (a / 2)) x y

  module _ (ok : Valid p) (r_in : r < p.switches) where
    good : Good (tail p) (head p) (arcs p) (visited_from p r)
    good = visited_good p ok r r_in

    -- a link was entered one way alone
    pub one_way : (a b : ℕ) → Ent a → Ent b → a / 2 ≡ b / 2 → a ≡ b
    one_way a b h i e =
        ⊎_elim (λ q. q) (λ q. absurd (omega (arith, good.up a h, good.up b i, ap rk (ap (tail p) q ∙ tail-opposite p b), ap rk (ap (head p) q ∙ head-opposite p b)))) (same-link a b e)

    -- the root, or the head of an entered arc
    origin : (x : ℕ) → Seen x → (x ≡ r) ⊎ ((a : ℕ) × Ent a × (head p a ≡ x))
    origin x h = ⊎_elim (⊎_elim (λ e. inl e) (λ z. absurd z)) (λ w. inr (w.arc, w.inside, w.to)) (born (tail p) (head p) (arcs p) (visited_run p ok r r_in) x h)

    -- a switch that was visited after another was entered by an arc
    pub entry : (x y : ℕ) → Seen x → rk y < rk x → (a : ℕ) × Ent a × (head p a ≡ x)
    entry x y h l = ⊎_elim (λ e. absurd (omega (arith, (ext (tail p) (head p) (arcs p) (visited_run p ok r r_in)).ranks x (inl e), rank_eq x r [] e))) (λ w. w) (origin x h)

    -- ---- a link that is passed is no bridge

    -- an entered arc avoids the link of another
    avoids : (a b : ℕ) → Ent a → Ent b → (a ≡ b → ⊥) → Avoid p (a / 2) b
    avoids a b h i n = (entered_arc p ok r r_in b i, λ e. n (sym (one_way b a i h e)))

    -- a switch that was visited before the head of a is joined to the root without a's link
    rooted : (a : ℕ) → Ent a → (n x : ℕ) → rk x < n → rk x < rk (head p a) → Seen x → To p (Avoid p (a / 2)) x r
    rooted a h zero x k l i = absurd (omega arith)
    rooted a h (suc n) x k l i = go (rooted a h n) (origin x i)
      where
        go : ((y : ℕ) → rk y < n → rk y < rk (head p a) → Seen y → To p (Avoid p (a / 2)) y r) → (x ≡ r) ⊎ ((b : ℕ) × Ent b × (head p b ≡ x))
            → To p (Avoid p (a / 2)) x r
        go rec (inl e) = here e
        go rec (inr w) =
            let b = w.0 in
            let e : rk (head p b) ≡ rk x = ap rk w.2 in
            let u : rk (tail p b) < rk (head p b) = good.up b w.1 in
            trans (one (opposite b) (opposite_avoid p (a / 2) b (avoids a b h w.1 (λ q. omega (arith, ap (λ (c : ℕ). rk (head p c)) q)))) (tail-opposite p b ∙ w.2) (head-opposite p b))
            (rec (tail p b) (omega arith) (omega arith) (good.low b w.1))

    -- ---- the climb from a link's two ends

    pub round_flip : (x y : ℕ) → Round x y → Round y x
    round_flip x y w a h i = walk-back p (opposite_avoid p (a / 2)) (w a h (elim i [ inl k ↦ inr k | inr k ↦ inl k ]))

    -- the ends of a link that was not entered
    pub round-begin : (k : ℕ) → T (live p k) → (T (entered_from p r k) → ⊥) → Round (first p k) (second p k)
    round-begin k part n a h i =
        one (2 * k) (even_arc p k part, λ e. n ((crossed-is k (visited_from p r).ent).1 (crosses a k (visited_from p r).ent h (sym e ∙ even_half k)))) (tail_even p k) (head_even p k)

    module _ (b y : ℕ) (h : Ent b) (lower : rk y < rk (head p b)) (w : Round (head p b) y) where
      -- the one that was visited later goes back
      pub round-step : Round (tail p b) y
      round-step a i c = trans (one b (avoids a b i h (λ q. differ q c)) refl refl) (w a i (nearer c))
        where
          u : rk (tail p b) < rk (head p b)
          u = good.up b h

          differ : a ≡ b → (rk (head p a) ≤ rk (tail p b)) ⊎ (rk (head p a) ≤ rk y) → ⊥
          differ q (inl k) = omega (arith, u, ap (λ (c : ℕ). rk (head p c)) q)
          differ q (inr k) = omega (arith, ap (λ (c : ℕ). rk (head p c)) q)

          nearer : (rk (head p a) ≤ rk (tail p b)) ⊎ (rk (head p a) ≤ rk y) → (rk (head p a) ≤ rk (head p b)) ⊎ (rk (head p a) ≤ rk y)
          nearer (inl k) = inl (omega (arith, u))
          nearer (inr k) = inr k

      -- the link that it goes back over is no bridge
      pub passed : Seen y → bridge p (b / 2) ≡ false
      passed i = not_true_false (bridge p (b / 2)) (λ t. bridge_arc p ok b (entered_arc p ok r r_in b h) (true_T (bridge p (b / 2)) t)
          (trans (w b h (inl (omega arith))) (trans (rooted b h (suc (rk y)) y (omega arith) lower i)
          (walk-back p (opposite_avoid p (b / 2)) (rooted b h (suc (rk (tail p b))) (tail p b) (omega arith) (good.up b h) (good.low b h))))))

    -- ---- an entered link that is passed from no link is a bridge

    -- the last of the entered arcs that lead to the head of b is b
    last : (b : ℕ) → Ent b → {u : ℕ} → To p Ent u (head p b) → (u ≡ head p b) ⊎ To p Ent u (tail p b)
    last b h (here e) = inl e
    last b h {u} (step a i e w) = ⊎_elim (λ q. inr (here (sym e ∙ ap (tail p) (good.once a b i h q)))) (λ s. inr (step a i e s)) (last b h w)

    module _ (a : ℕ) (h : Ent a) where
      -- the tail of another entered arc is below a if its head is, and the other way round
      below_up : (b : ℕ) → Ent b → (a ≡ b → ⊥) → Below p r a (head p b) → Below p r a (tail p b)
      below_up b i n w = ⊎_elim (λ q. absurd (n (good.once a b h i q))) (λ s. s) (last b i w)

      below-down : (b : ℕ) → Ent b → Below p r a (tail p b) → Below p r a (head p b)
      below-down b i w = trans w (one b i refl refl)

      -- the switches below a are visited, and no earlier than a's head
      below-seen : (x : ℕ) → Below p r a x → Seen x
      below-seen x w = keeps Seen (λ b i z. good.high b i) (good.high a h) w

      below_later : (x : ℕ) → Below p r a x → rk (head p a) ≤ rk x
      below_later x w = keeps (λ y. rk (head p a) ≤ rk y) (λ b i z. omega (arith, good.up b i)) (omega arith) w

      -- a step over another link
      pub level_step : (b y : ℕ) → Ent b → (a ≡ b → ⊥) → Level p r a (tail p b) y → Level p r a (head p b) y
      level_step b y i n e = record { there = λ w. e.there (below_up b i n w); back = λ w. below-down b i (e.back w) }

      -- every link that was not entered has both ends below a, or neither
      module _ (all : (k : ℕ) → T (live p k) → (T (entered_from p r k) → ⊥) → Seen (first p k) → Level p r a (first p k) (second p k)) where
        stays : (b : ℕ) → Avoid p (a / 2) b → Below p r a (tail p b) → Below p r a (head p b)
        stays b v w = go (in? b (visited_from p r).ent) (in? (opposite b) (visited_from p r).ent)
          where
            new : (Ent b → ⊥) → (Ent (opposite b) → ⊥) → T (entered_from p r (b / 2)) → ⊥
            new n m t = elim (crosses_arc b (visited_from p r).ent ((crossed-is (b / 2) (visited_from p r).ent).0 t)) [ inl i ↦ n i | inr i ↦ m i ]

            over : (T (entered_from p r (b / 2)) → ⊥) → ((tail p b ≡ first p (b / 2)) × (head p b ≡ second p (b / 2))) ⊎ ((tail p b ≡ second p (b / 2)) × (head p b ≡ first p (b / 2)))
                → Below p r a (head p b)
            over n (inl e) = rw e.1 ((all (b / 2) v.0 n (rw e.0 at (below-seen (tail p b) w))).there (rw e.0 at w))
            over n (inr e) = rw e.1 ((all (b / 2) v.0 n (rw e.1 at (visited_keeps p ok r r_in b v.0 (below-seen (tail p b) w)))).back (rw e.0 at w))

            go : Ent b ⊎ (Ent b → ⊥) → Ent (opposite b) ⊎ (Ent (opposite b) → ⊥) → Below p r a (head p b)
            go (inl i) _ = below-down b i w
            go (inr n) (inl i) =
                subst (Below p r a) (tail-opposite p b)
                (below_up (opposite b) i (λ q. v.1 (sym (opposite_half b) ∙ ap (λ (c : ℕ). c / 2) (sym q))) (subst (Below p r a) (sym (head-opposite p b)) w))
            go (inr n) (inr m) = over (new n m) (ends p b)

        pub not-passed : T (bridge p (a / 2))
        not-passed =
            ⊎_elim (λ t. t)
            (λ n. absurd (omega (arith, good.up a h, below_later (tail p a) (keeps (Below p r a) stays (here refl) (no_bridge_arc p ok a (entered_arc p ok r r_in a h) n))))) (T-or (bridge p (a / 2)))
