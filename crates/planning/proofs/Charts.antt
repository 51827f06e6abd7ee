-- What is known of the components of a plant by their numbers, and what a layout tells of them: the root of each, the links in service of each, and the component of a switch.
-- Assumes a sound plant.
use mathlib.Core.Path.{◌≡◌, sym, ap, ◌∙◌}
use mathlib.Core.Logic.{◌↔◌}
use mathlib.Core.Bool.{Bool, ◌&&◌}
use mathlib.Core.List.{List, map}
use Prim.Native.Nat.{ℕ, ◌/◌, ◌≤◌, ◌<◌}
use native.Mathlib.Omega.{arith}
use lib.Dec.{T, eqb, eqb→eq}
use lib.ListN.{length, get_or}
use Rattle.lists.specs.Arrays.{at}
use Rattle.lists.specs.Members.{In}
use Rattle.lists.specs.Numbers.{range}
use Rattle.lists.specs.Count.{count}
use Rattle.lists.proofs.Members.{get_d_in}
use Rattle.lists.proofs.Count.{count_both}
use Rattle.lists.proofs.Numbers.{values-at}
use Rattle.lists.proofs.Padded.{padded-at}
use Rattle.lists.proofs.Tests.{and_left, and_right, and_both, eq→eqb}
use Rattle.plant.specs.declared.Plant.{Plant}
use Rattle.plant.specs.Links.{first, live}
use Rattle.limits.specs.Limits.{max_switches}
use Rattle.limits.specs.Sound.{Sound}
use Rattle.walks.specs.Arcs.{Valid}
use Rattle.walks.specs.Graph.{reached_from, links_from}
use Rattle.walks.specs.Components.{root_of, roots, component_of, links_with}
use Rattle.walks.specs.Round.{round_from}
use Rattle.walks.proofs.Components.{root_in, roots_few, listed_in, component_in, component-root, component-is, links-none}
use Rattle.walks.proofs.Round.{round-length}
use Rattle.walks.proofs.Valid.{sound_valid}
use Rattle.planning.specs.declared.Components.{Components}
use Rattle.planning.specs.declared.Layout.{Layout}
use Rattle.planning.specs.Components.{zero_component, components_with, component_at, component_with, components_of}
use Rattle.planning.specs.Plans.{HomesAre, LinksBy}

-- link l is in service, and of component i
abbrev pub of_component : Plant → ℕ → ℕ → Bool
of_component p i l = live p l && eqb (component_of p (first p l)) i

module _ (p : Plant) (sound : Sound p) where
  ok : Valid p
  ok = sound_valid p sound

  -- ---- roots

  pub few_components : length (roots p) ≤ max_switches
  few_components = omega (arith, roots_few p ok sound.start_in, sound.few_switches)

  module _ (i : ℕ) (i_in : i < length (roots p)) where
    pub listed : In (get_or (roots p) i 0) (roots p)
    listed = get_d_in (roots p) i i_in

    pub root_below : get_or (roots p) i 0 < p.switches
    root_below = listed_in p ok sound.start_in (get_or (roots p) i 0) listed

  -- ---- the links of each component

  pub links-are : (links : List ℕ) → ((i : ℕ) → at links i ≡ count p.count (of_component p i)) → LinksBy p links
  unfolding links_from
  links-are links e i h =
      e i ∙ count_both p.count (of_component p i) (λ l. reached_from p (get_or (roots p) i 0) (first p l) && live p l) (λ l k. same l)
    where
      same : (l : ℕ) → T (of_component p i l) ↔ T (reached_from p (get_or (roots p) i 0) (first p l) && live p l)
      same l = (
        λ t. let a = and_left (live p l) (eqb (component_of p (first p l)) i) t in
            and_both (reached_from p (get_or (roots p) i 0) (first p l)) (live p l)
            ((component-is p ok sound.start_in i (first p l) h (ok.first_in_is l a)).1 (eqb→eq (component_of p (first p l)) i (and_right (live p l) (eqb (component_of p (first p l)) i) t))) a,
        λ t. let a = and_right (reached_from p (get_or (roots p) i 0) (first p l)) (live p l) t in
            and_both (live p l) (eqb (component_of p (first p l)) i) a
            (eq→eqb ((component-is p ok sound.start_in i (first p l) h (ok.first_in_is l a)).0 (and_left (reached_from p (get_or (roots p) i 0) (first p l)) (live p l) t))),
      )

  -- the component of a switch has a place
  pub home-place : (home : List ℕ) → HomesAre p home → (y : ℕ) → y < p.switches → at home y < max_switches
  home-place home homes y h = omega (arith, homes y h, component_in p ok sound.start_in y h, few_components)

module _ (x : Layout) where
  abbrev p : Plant
  p = x.chart.ends.plant

  sure : Valid p
  sure = sound_valid p x.chart.ends.sound

  -- ---- the component of a switch

  listed-component : (i : ℕ) → i < length (roots p) → get_or (components_of p).list i zero_component ≡ component_at p i
  unfolding components_of components_with
  listed-component i h =
      padded-at max_switches zero_component (map (component_at p) (range 0 (length (roots p)))) i ∙ values-at (component_at p) zero_component (length (roots p)) i h

  module _ (y : ℕ) (y_in : y < p.switches) where
    pub component-told : get_or x.components.list (at x.chart.home y) zero_component ≡ component_with p y
    component-told =
        ap (λ (cs : Components). get_or cs.list (at x.chart.home y) zero_component) x.measured.components_are
        ∙ ap (λ (i : ℕ). get_or (components_of p).list i zero_component) (x.chart.charted.homes y y_in)
        ∙ listed-component (component_of p y) (component_in p sure x.chart.ends.sound.start_in y y_in)

    -- its round trail has two hops to each link
    pub links-told : (component_with p y).round_hops / 2 ≡ links_with p y
    unfolding component_at links_with
    links-told =
        let e = component-root p sure x.chart.ends.sound.start_in y y_in in
        omega (arith, ap (λ (r : ℕ). length (round_from p r)) e, round-length p sure (root_of p y) (root_of_in))
      where
        root_of_in : root_of p y < p.switches
        root_of_in = root_in p sure x.chart.ends.sound.start_in y y_in

  pub none_told : (y : ℕ) → p.switches ≤ y → 0 ≡ links_with p y
  none_told y h = sym (links-none p sure x.chart.ends.sound.start_in y h)
