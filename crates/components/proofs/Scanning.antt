-- The roots below a switch, as the switches are gone through: which switch begins a component, that it is apart from those before it, and that all roots tell the components of
-- the plant. Assumes a sound plant.
use mathlib.Core.Path.{◌≡◌, refl, sym, ap, ◌∙◌, subst}
use mathlib.Core.Logic.{inl, inr}
use mathlib.Core.Bool.{Bool, true, false, not}
use mathlib.Core.List.{List, [], ◌∷◌, ◌++◌}
use Prim.Native.Nat.{ℕ, ◌+◌, ◌*◌, ◌≤◌, ◌<◌}
use native.Mathlib.Omega.{arith}
use Rattle.std.specs.Option.{unwrap_or, is_some}
use Rattle.std.proofs.Common.{Option, Some, None}
use lib.Dec.{T}
use lib.ListN.{length, get_or, replicate, get_or-replicate}
use Rattle.lists.specs.Arrays.{at}
use Rattle.lists.specs.Members.{In}
use Rattle.lists.specs.Numbers.{range, keep}
use Rattle.lists.proofs.Tests.{not_both}
use Rattle.lists.proofs.Members.{in_get_d}
use Rattle.lists.proofs.Kept.{kept_yes, kept_no, kept-length, kept-room}
use Rattle.lists.proofs.Numbers.{range_in, keep_in, in_keep, in_range}
use Rattle.plant.specs.declared.Plant.{Plant}
use Rattle.limits.specs.Limits.{max_switches, max_links}
use Rattle.limits.specs.Sound.{Sound}
use Rattle.walks.specs.Arcs.{Valid}
use Rattle.walks.specs.Graph.{reached_from, bridge}
use Rattle.walks.specs.Components.{begun_at, roots, used}
use Rattle.walks.proofs.Components.{joined_in, joined_back, joined_on, roots_few, begun-new, component_in, component-is}
use Rattle.walks.proofs.Valid.{sound_valid}
use Rattle.arcs.specs.Flags.{Flags}
use Rattle.arcs.specs.Shows.{TellsAll}
use Rattle.components.specs.declared.Forest.{Forest}
use Rattle.components.specs.Found.{Finds}
use Rattle.components.specs.Inner.{Apart, Covers}

none_some : {x : ℕ} → None ≡ Some x → ⊥
none_some e = cc

-- by what the code asks of a component's number
pub is_free : (o : Option ℕ) (b : Bool) → is_some o ≡ not b → b ≡ true → o ≡ None
is_free None b e h = refl
is_free (Some x) b e h = absurd (not_both true refl (e ∙ ap not h))

pub not_free : (o : Option ℕ) (b : Bool) → is_some o ≡ not b → b ≡ false → o ≡ None → ⊥
not_free o b e h q = not_both (is_some o) (e ∙ ap not h) (ap is_some q)

module _ (p : Plant) (sound : Sound p) where
  ok : Valid p
  ok = sound_valid p sound

  -- the start, and the roots of other components below x
  abbrev pub roots_to : ℕ → List ℕ
  roots_to x = p.start ∷ keep (begun_at p) (range 0 x)

  pub roots_to_lem : roots_to p.switches ≡ roots p
  unfolding roots
  roots_to_lem = refl

  pub to_begun : (x : ℕ) → T (begun_at p x) → roots_to (x + 1) ≡ roots_to x ++ (x ∷ [])
  to_begun x t = ap (λ (l : List ℕ). p.start ∷ l) (kept_yes (begun_at p) x t)

  pub to_other : (x : ℕ) → (T (begun_at p x) → ⊥) → roots_to (x + 1) ≡ roots_to x
  to_other x n = ap (λ (l : List ℕ). p.start ∷ l) (kept_no (begun_at p) x n)

  few-roots : length (roots_to p.switches) ≤ p.switches
  few-roots = omega (arith, ap length roots_to_lem, roots_few p ok sound.start_in)

  -- there is a place for one more
  pub room : (x : ℕ) → x < p.switches → T (begun_at p x) → length (roots_to x) < max_switches
  room x h t =
      omega (arith, kept-room (begun_at p) x p.switches h t, kept-length (begun_at p) p.switches, few-roots, sound.few_switches)

  module _ (x : ℕ) (x_in : x < p.switches) where
    -- the roots below x do not reach the root x
    away : T (begun_at p x) → (s : ℕ) → In s (roots_to x) → T (reached_from p s x) → ⊥
    away t s (inl e) u = ((begun-new p ok sound.start_in x x_in).0 t).0 (subst (λ (r : ℕ). T (reached_from p r x)) e u)
    away t s (inr i) u =
        let k = keep_in (begun_at p) s (range 0 x) i in
        ((begun-new p ok sound.start_in x x_in).0 t).1 s (omega (arith, range_in s 0 x k.0)) k.1 u

    inside : (s : ℕ) → In s (roots_to x) → s < p.switches
    inside s (inl e) = omega (arith, e, sound.start_in)
    inside s (inr i) = omega (arith, range_in s 0 x (keep_in (begun_at p) s (range 0 x) i).0, x_in)

    pub apart : T (begun_at p x) → Apart p (roots_to x) x
    apart t s z i u v =
        away t s i (joined_on p ok sound.start_in s z x (inside s i) u (joined_back p ok sound.start_in x z x_in v))

    module _ (f : Forest) (covers : Covers p (roots_to x) f) where
      -- a switch without a number begins a component, and no other does
      pub begins : get_or f.home x None ≡ None → T (begun_at p x)
      begins e = (begun-new p ok sound.start_in x x_in).1 (
        reached p.start (inl refl),
        λ y l t. reached y (inr (in_keep (begun_at p) y (range 0 x) (in_range y 0 x (omega arith) (omega arith)) t)),
      )
        where
          reached : (s : ℕ) → In s (roots_to x) → T (reached_from p s x) → ⊥
          reached s i t =
              let k = in_get_d (roots_to x) s i in
              none_some (sym e ∙ covers.homes k.0 x k.1 (subst (λ (r : ℕ). T (reached_from p r x)) (sym k.2) t))

      pub begins-not : (get_or f.home x None ≡ None → ⊥) → T (begun_at p x) → ⊥
      begins-not n t = n (covers.homeless x (omega (arith, x_in, sound.few_switches)) (away t))

  module _ (f : Forest) (covers : Covers p (roots p) f) where
    -- all roots tell the components of the plant, whichever number stands for none
    pub finds : (none : ℕ) (home : List ℕ) (bridges arcs : List Bool) → ((x : ℕ) → x < max_switches → at home x ≡ unwrap_or (get_or f.home x None) none) → Flags max_links (bridge p) bridges
        → Flags (2 * max_links) (used p) arcs → Finds p (record { count = f.count; roots = f.roots; home = home; bridges = bridges; used = arcs })
    finds none home bridges arcs numbered b u = record {
      count_is = covers.count_is;
      roots_are = covers.roots_are;
      homes = λ x h.
          numbered x (omega (arith, h, sound.few_switches))
          ∙ ap (λ (o : Option ℕ). unwrap_or o none)
          (covers.homes _ x (component_in p ok sound.start_in x h) ((component-is p ok sound.start_in _ x (component_in p ok sound.start_in x h) h).1 refl));
      bridges_are = b;
      used_are = u;
    }

    -- and their visits, where every switch is seen
    pub tells_all : (root next : ℕ) → TellsAll p (record { root = root; next = next; seen = replicate max_switches true; rank = f.rank; entered = f.entered })
    tells_all root next r i = record {
      sees = λ x t. get_or-replicate max_switches x true false (omega (arith, joined_in p ok sound.start_in r x (covers.inside r i) t, sound.few_switches));
      ranks = λ x. covers.ranks r x i;
      enters = λ l. covers.enters r l i;
    }
