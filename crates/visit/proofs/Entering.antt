-- How many switches are not visited, and what entering a link does to what a value shows and to its room. The last assumes that the switch is not visited yet.
use mathlib.Core.Path.{◌≡◌, sym, ap, ap₂, ◌∙◌}
use mathlib.Core.Logic.{◌⊎◌, inl, inr}
use mathlib.Core.Bool.{Bool, true, false, not, ◌||◌}
use mathlib.Core.List.{List, ◌∷◌}
use Prim.Native.Nat.{ℕ, suc, ◌+◌, ◌*◌, ◌/◌, ◌≤◌, ◌<◌}
use native.Mathlib.Omega.{arith}
use native.Mathlib.Numerals.{add-one}
use lib.Dec.{eqb, T_not, not_T}
use lib.ListN.{length, get_or, set, length-set}
use lib.Seq.{get_or-set_same, get_or-set_other}
use borrow.Author.Tests.{eq-eqb, ne_eqb}
use Rattle.lists.proofs.Tests.{eq?, or_swap, T_true, true_T, false_T}
use Rattle.lists.proofs.Count.{count_le, count_lt}
use Rattle.lists.proofs.Arrays.{flag_set, set_keeps}
use Rattle.lists.specs.Members.{memb}
use Rattle.limits.specs.Limits.{max_switches, max_links}
use Rattle.walks.specs.Visit.{St, rank}
use Rattle.walks.proofs.Visit.{rank_eq, rank_ne}
use Rattle.walks.proofs.Labels.{even_or_odd}
use Rattle.arcs.specs.declared.Visited.{Visited}
use Rattle.arcs.specs.Shows.{Shows}
use Rattle.visit.specs.Inner.{Room, unvisited, enter_of, At}

-- fewer, the more flags are set
pub unvisited-kept : (l m : List Bool) → ((x : ℕ) → get_or l x false ≡ true → get_or m x false ≡ true) → unvisited m ≤ unvisited l
unfolding unvisited
unvisited-kept l m f =
    count_le max_switches (λ x. not (get_or m x false)) (λ x. not (get_or l x false))
    (λ x h t. not_T (get_or l x false) (λ u. T_not (get_or m x false) t (true_T (get_or m x false) (f x (T_true (get_or l x false) u)))))

pub unvisited-set : (l : List Bool) (i : ℕ) → i < max_switches → i < length l → get_or l i false ≡ false → suc (unvisited (set l i true)) ≤ unvisited l
unfolding unvisited
unvisited-set l i h k e =
    count_lt max_switches (λ x. not (get_or l x false)) (λ x. not (get_or (set l i true) x false)) i h (not_T (get_or l i false) (false_T (get_or l i false) e))
    (λ t. T_not (get_or (set l i true) i false) t (true_T _ (get_or-set_same l i true false k)))
    (λ x j t. not_T (get_or l x false) (λ u. T_not (get_or (set l i true) x false) t (true_T _ (set_keeps l i x k (T_true (get_or l x false) u)))))

-- label a is one of the two labels of link j, or of neither
own_label : (j a : ℕ) → eqb j (a / 2) ≡ eqb (2 * j) a || eqb (2 * j + 1) a
own_label j a = go (eq? j (a / 2)) (even_or_odd a)
  where
    go : (j ≡ a / 2) ⊎ (j ≡ a / 2 → ⊥) → (a ≡ 2 * (a / 2)) ⊎ (a ≡ 2 * (a / 2) + 1) → eqb j (a / 2) ≡ eqb (2 * j) a || eqb (2 * j + 1) a
    go (inl e) (inl f) = rw (eq-eqb j (a / 2) e, eq-eqb (2 * j) a (omega arith))
    go (inl e) (inr f) = rw (eq-eqb j (a / 2) e, ne_eqb (2 * j) a (λ g. omega arith), eq-eqb (2 * j + 1) a (omega arith))
    go (inr n) _ = rw (ne_eqb j (a / 2) n, ne_eqb (2 * j) a (λ g. n (omega arith)), ne_eqb (2 * j + 1) a (λ g. n (omega arith)))

module _ (v : Visited) (to : ℕ) (room : Room v) (to_in : to < max_switches) (new : get_or v.seen to false ≡ false) where
  -- one fewer is unvisited
  pub enter_falls : suc (unvisited (set v.seen to true)) ≤ unvisited v.seen
  enter_falls = unvisited-set v.seen to to_in (omega (arith, room.seen_places)) new

  -- there was a number left for it
  pub enter-numbers : v.next < max_switches
  enter-numbers = omega (arith, enter_falls, room.numbers)

  enter-room : (l : ℕ) → Room (enter_of v to l)
  enter-room l = record {
    seen_places = length-set v.seen to true ∙ room.seen_places;
    rank_places = length-set v.rank to v.next ∙ room.rank_places;
    entered_places = length-set v.entered l true ∙ room.entered_places;
    numbers = omega (arith, enter_falls, room.numbers);
  }

  pub enter-at : (l : ℕ) → At (enter_of v to l) to
  enter-at l = record { room = enter-room l; within = to_in }

  pub enter-shows : (s : St) (a : ℕ) → a / 2 < max_links → Shows v s → Shows (enter_of v to (a / 2)) (record { ord = to ∷ s.ord; ent = a ∷ s.ent })
  enter-shows s a a_in h = record { sees = sees; ranks = λ x. ranks x (eq? x to); enters = enters; counts = ap (λ (n : ℕ). n + 1) h.counts ∙ add-one (length s.ord) }
    where
      sees : (x : ℕ) → get_or (set v.seen to true) x false ≡ eqb x to || memb x s.ord
      sees x = flag_set v.seen to x (omega (arith, room.seen_places)) ∙ ap (λ (b : Bool). eqb x to || b) (h.sees x)

      ranks : (x : ℕ) → (x ≡ to) ⊎ (x ≡ to → ⊥) → get_or (set v.rank to v.next) x 0 ≡ rank x (to ∷ s.ord)
      ranks x (inl e) =
          ap (λ (k : ℕ). get_or (set v.rank to v.next) k 0) e
          ∙ get_or-set_same v.rank to v.next 0 (omega (arith, room.rank_places)) ∙ h.counts ∙ sym (rank_eq x to s.ord e)
      ranks x (inr n) = get_or-set_other v.rank to x v.next 0 n ∙ h.ranks x ∙ sym (rank_ne x to s.ord n)

      enters : (j : ℕ) → get_or (set v.entered (a / 2) true) j false ≡ memb (2 * j) (a ∷ s.ent) || memb (2 * j + 1) (a ∷ s.ent)
      enters j =
          flag_set v.entered (a / 2) j (omega (arith, room.entered_places))
          ∙ ap₂ (λ (b c : Bool). b || c) (own_label j a) (h.enters j)
          ∙ or_swap (eqb (2 * j) a) (eqb (2 * j + 1) a) (memb (2 * j) s.ent) (memb (2 * j + 1) s.ent)
