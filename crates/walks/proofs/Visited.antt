-- The depth-first visit of a plant. From any switch over any list of arcs: it is complete, at most S deep, and finds just the switches that are reached.
-- From a root over all arcs: it visits each switch that is reached once. Assumes a valid plant and a root that is a switch of it.
use mathlib.Core.Path.{◌≡◌, refl, sym}
use mathlib.Core.Logic.{◌⊎◌, inl, inr, ⊎_elim, ◌↔◌}
use mathlib.Core.List.{List, [], ◌∷◌}
use Prim.Native.Nat.{ℕ, suc, ◌≤◌, ◌<◌}
use native.Mathlib.Omega.{arith}
use lib.Dec.{T}
use lib.ListN.{length}
use Rattle.lists.specs.Members.{In, memb, Distinct}
use Rattle.lists.proofs.Members.{memb→in, in→memb}
use Rattle.lists.proofs.Count.{distinct_count}
use Rattle.plant.specs.declared.Plant.{Plant}
use Rattle.walks.specs.Walk.{here}
use Rattle.walks.proofs.Walk.{weaken, keeps}
use Rattle.walks.specs.Visit.{St, visit}
use Rattle.walks.specs.Inner.{Scan}
use Rattle.walks.proofs.Visit.{ext, Closed, closed, born, Good, good}
use Rattle.walks.specs.Arcs.{tail, head, Arc, Valid}
use Rattle.walks.specs.Graph.{To, AllFrom, arcs, visit_from, visited_from, reached_from, switches_from}
use Rattle.walks.proofs.Labels.{arcs-are, head_in}
use Rattle.walks.proofs.Fuel.{unseen_first, distinct, inside, depth, deep, visits, any_fuel}

-- v is visited, and nothing else yet
abbrev pub begin : ℕ → St
begin v = record { ord = v ∷ []; ent = [] }

module _ (p : Plant) (ok : Valid p) where
  -- ---- from a switch, over a list of arcs
  module _ (bs : List ℕ) (real : (b : ℕ) → In b bs → Arc p b) (v : ℕ) (v_in : v < p.switches) where
    below : (b : ℕ) → In b bs → head p b < p.switches
    below b h = head_in p ok b (real b h)

    -- any fuel from S on gives the same
    pub enough : (f : ℕ) → p.switches ≤ f → visit (tail p) (head p) bs f v (begin v) ≡ visit_from p v bs
    unfolding visit_from
    enough f h =
        any_fuel (tail p) (head p) bs p.switches below f p.switches v (begin v) (omega (arith, unseen_first p.switches v v_in))
        (omega (arith, unseen_first p.switches v v_in))

    pub run : Scan (tail p) (head p) bs v bs (begin v) (visit_from p v bs)
    unfolding visit_from
    run = visits (tail p) (head p) bs p.switches below p.switches v (begin v) (omega (arith, unseen_first p.switches v v_in))

    -- with its first call the visit calls itself at most S deep
    pub run_deep : suc (depth (tail p) (head p) bs run) ≤ p.switches
    run_deep = omega (arith, deep (tail p) (head p) bs p.switches below run (λ b h. h), unseen_first p.switches v v_in)

    run-closed : Closed (tail p) (head p) bs v (begin v) (visit_from p v bs)
    run-closed = closed (tail p) (head p) bs run (λ b i e. inl i)

    pub run-start : In v (visit_from p v bs).ord
    run-start = (ext (tail p) (head p) bs run).ords v (inl refl)

    -- each arc of the list leads from a visited switch to a visited switch
    pub run_keeps : (b : ℕ) → In b bs → In (tail p b) (visit_from p v bs).ord → In (head p b) (visit_from p v bs).ord
    run_keeps b h i = ⊎_elim (⊎_elim (λ e. run-closed.this b h e) (λ z. absurd z)) (λ f. f b h refl) (run-closed.rest (tail p b) i)

    pub run_good : Good (tail p) (head p) bs (visit_from p v bs)
    run_good = good (tail p) (head p) bs run (λ b h. h) (inl refl) none
      where
        none : Good (tail p) (head p) bs (begin v)
        none = record {
          real = λ b h. absurd h;
          low = λ b h. absurd h;
          high = λ b h. absurd h;
          up = λ b h. absurd h;
          once = λ b c h. absurd h;
          size = refl;
        }

    -- a visited switch is reached by entered arcs
    pub run_reach : (x : ℕ) → In x (visit_from p v bs).ord → To p (λ b. In b (visit_from p v bs).ent) v x
    run_reach x i = ⊎_elim (⊎_elim (λ e. here (sym e)) (λ z. absurd z)) (λ w. w.path) (born (tail p) (head p) bs run x i)

    -- the visited switches are those that the arcs of the list reach
    pub finds : (x : ℕ) → T (memb x (visit_from p v bs).ord) ↔ To p (λ b. In b bs) v x
    finds x = (
      λ t. weaken (λ b i. run_good.real b i) (run_reach x (memb→in x (visit_from p v bs).ord t)),
      λ r. in→memb x (visit_from p v bs).ord (keeps (λ y. In y (visit_from p v bs).ord) run_keeps run-start r),
    )

    pub run_inside : (x : ℕ) → In x (visit_from p v bs).ord → x < p.switches
    run_inside = inside (tail p) (head p) bs p.switches below run (λ b h. h) first
      where
        first : (x : ℕ) → (x ≡ v) ⊎ ⊥ → x < p.switches
        first x (inl e) = omega (arith, e)
        first x (inr z) = absurd z

    pub run_distinct : Distinct (visit_from p v bs).ord
    run_distinct = distinct (tail p) (head p) bs run ((λ z. z), tt)

  -- ---- from a root r, over all arcs

  arcs_real : (b : ℕ) → In b (arcs p) → Arc p b
  arcs_real b h = (arcs-are p b).0 h

  module _ (r : ℕ) (r_in : r < p.switches) where
    pub visited_run : Scan (tail p) (head p) (arcs p) r (arcs p) (begin r) (visited_from p r)
    visited_run = run (arcs p) arcs_real r r_in

    pub visited_good : Good (tail p) (head p) (arcs p) (visited_from p r)
    visited_good = run_good (arcs p) arcs_real r r_in

    -- an entered arc is an arc
    pub entered_arc : (a : ℕ) → In a (visited_from p r).ent → Arc p a
    entered_arc a h = arcs_real a (visited_good.real a h)

    pub visited_root : In r (visited_from p r).ord
    visited_root = run-start (arcs p) arcs_real r r_in

    pub visited_reach : (x : ℕ) → In x (visited_from p r).ord → To p (λ b. In b (visited_from p r).ent) r x
    visited_reach = run_reach (arcs p) arcs_real r r_in

    pub visited_keeps : (a : ℕ) → Arc p a → In (tail p a) (visited_from p r).ord → In (head p a) (visited_from p r).ord
    visited_keeps a h i = run_keeps (arcs p) arcs_real r r_in a ((arcs-are p a).1 h) i

    pub visited_finds : (x : ℕ) → T (reached_from p r x) ↔ To p (Arc p) r x
    visited_finds x = let f = finds (arcs p) arcs_real r r_in x in (λ t. weaken arcs_real (f.0 t), λ w. f.1 (weaken (λ b h. (arcs-are p b).1 h) w))

    pub visited_inside : (x : ℕ) → In x (visited_from p r).ord → x < p.switches
    visited_inside = run_inside (arcs p) arcs_real r r_in

    pub visited_distinct : Distinct (visited_from p r).ord
    visited_distinct = run_distinct (arcs p) arcs_real r r_in

    -- each reached switch is visited once
    pub visited_number : length (visited_from p r).ord ≡ switches_from p r
    unfolding switches_from
    visited_number = distinct_count p.switches (visited_from p r).ord visited_distinct visited_inside

    -- ---- where every switch is reached
    module _ (all : AllFrom p r) where
      pub visited_all : (x : ℕ) → x < p.switches → In x (visited_from p r).ord
      visited_all x h = memb→in x (visited_from p r).ord ((visited_finds x).1 (all x h))
