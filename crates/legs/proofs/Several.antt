-- The legs of the trails from several roots, one trail after another: what stands before a place stays, so the legs of the trails before it do. Assumes the parts of a plan from
-- each of these roots.
use mathlib.Core.Path.{◌≡◌, sym, ap, ◌∙◌, subst}
use mathlib.Core.Bool.{Bool}
use mathlib.Core.List.{List}
use Prim.Native.Nat.{ℕ, ◌+◌, ◌≤◌, ◌<◌}
use native.Mathlib.Omega.{arith}
use lib.ListN.{length, get_or, set, take, drop}
use lib.Seq.{slice, take-take}
use Rattle.lists.specs.Arrays.{at}
use Rattle.lists.specs.Sum.{sum}
use Rattle.lists.proofs.Sum.{sum-next, sum_more}
use Rattle.limits.specs.Limits.{max_switches, max_rules}
use Rattle.arcs.specs.declared.Net.{Net}
use Rattle.arcs.specs.declared.Legs.{Legs}
use Rattle.arcs.specs.Net.{rooted}
use Rattle.arcs.specs.Parts.{Parts}
use Rattle.arcs.specs.Legs.{no_legs, LegsOf, LegsIn}
use Rattle.arcs.proofs.Tables.{set_cases}
use Rattle.legs.specs.Several.{in_use, SomeParts, Added, Several, LegsOfAll}

legs-kept : {net : Net} {tails heads : List ℕ} {used : List Bool} {a b : List ℕ} {legs : Legs} {from : ℕ} → take from b ≡ take from a → legs.to ≤ from → LegsIn net tails heads used a legs
    → LegsIn net tails heads used b legs
legs-kept {net} {tails} {heads} {used} {a} {b} {legs} {from} e h l = record {
  order = l.order;
  within = l.within;
  are = subst (LegsOf net tails heads used) same l.are;
  hops_are = l.hops_are;
}
  where
    same : slice legs.from legs.to a ≡ slice legs.from legs.to b
    same = ap (drop legs.from) (sym (take-take legs.to from a h) ∙ ap (take legs.to) (sym e) ∙ take-take legs.to from b h)

module _ {net : Net} {tails heads first after : List ℕ} {t : List (List ℕ)} {roots : List ℕ} (w : Several net tails heads first after t roots) where
  -- the arcs in use from root i
  abbrev size : ℕ → ℕ
  size i = in_use net (w.used i)

  -- the legs of the first i trails are found, and the next are to stand from place `from` on
  pub record Listed (i : ℕ) (aims : List ℕ) (list : List Legs) (from : ℕ) : Type 0 where
    pub room : from ≤ sum i size
    pub done : (j : ℕ) → j < i → LegsIn (rooted net (at roots j)) tails heads (w.used j) aims (get_or list j no_legs) × ((get_or list j no_legs).to ≤ from)

  pub listed_none : (aims : List ℕ) (list : List Legs) → Listed 0 aims list 0
  listed_none aims list = record { room = omega arith; done = λ j h. absurd (omega arith) }

  module _ {i : ℕ} (i_in : i < length roots) {aims : List ℕ} {list : List Legs} {from : ℕ} (so_far : Listed i aims list from) {one : Net} (is : one ≡ rooted net (at roots i)) where
    pub own : Parts one tails heads (w.used i) first after t
    own = subst (λ (m : Net). Parts m tails heads (w.used i) first after t) (sym is) (w.parts i i_in)

    pub enough : from + size i ≤ max_rules
    enough = omega (arith, so_far.room, sum-next size i, sum_more size (i + 1) (length roots) (omega arith), w.room)

    -- what the search for the legs of the next asks
    abbrev pub asked : SomeParts one tails heads first after t from
    asked = record { used = w.used i; parts = own; room = subst (λ (m : Net). from + in_use m (w.used i) ≤ max_rules) (sym is) enough }

    -- and what it makes
    pub listed_next : length list ≡ max_switches → {legs : Legs} {b : List ℕ} → ((v : SomeParts one tails heads first after t from) → Added one tails heads v.used aims from legs b)
        → Listed (i + 1) b (set list i legs) legs.to
    listed_next long {legs} {b} adds = record {
      room = omega (arith, added.few, so_far.room, sum-next size i, ap (λ (m : Net). in_use m (w.used i)) is);
      done = set_cases list i legs no_legs (omega (arith, long, w.few))
          (λ j l. j < i + 1 → LegsIn (rooted net (at roots j)) tails heads (w.used j) b l × (l.to ≤ legs.to))
          (λ _. (subst (λ (m : Net). LegsIn m tails heads (w.used i) b legs) is added.legs_are, omega arith))
          (λ j ne h. let q = so_far.done j (omega (arith, ne)) in (legs-kept added.kept q.1 q.0, omega (arith, q.1, added.begin, added.legs_are.order)));
    }
      where
        added : Added one tails heads (w.used i) aims from legs b
        added = adds asked

  -- those of all
  pub listed_all : (i : ℕ) → length roots ≤ i → (aims : List ℕ) (list : List Legs) (from : ℕ) → Listed i aims list from → LegsOfAll net tails heads roots w.used aims list
  listed_all i h aims list from l j k = (l.done j (omega arith)).0
