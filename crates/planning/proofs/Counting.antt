-- The links of each component, counted one after another. Assumes a sound plant, and the component of each switch.
use mathlib.Core.Path.{◌≡◌, refl, sym, ap, ◌∙◌}
use mathlib.Core.Bool.{Bool, true, false, not}
use mathlib.Core.List.{List}
use Prim.Native.Nat.{ℕ, ◌+◌, ◌≤◌, ◌<◌}
use native.Mathlib.Omega.{arith}
use lib.ListN.{length, get_or, set, take, length-take}
use Rattle.std.proofs.Common.{get_or-take}
use Rattle.lists.specs.Arrays.{at}
use Rattle.lists.specs.Count.{count}
use Rattle.lists.proofs.Arrays.{at_more}
use Rattle.lists.proofs.Count.{count-all}
use Rattle.lists.proofs.Stepwise.{count_next, count_no}
use Rattle.lists.proofs.Tests.{true_T}
use Rattle.plant.specs.declared.Link.{Link}
use Rattle.plant.specs.declared.Plant.{Plant}
use Rattle.plant.specs.Links.{zero_link, link_at, first, live}
use Rattle.limits.specs.Limits.{max_switches, max_links}
use Rattle.limits.specs.Sound.{Sound}
use Rattle.walks.specs.Components.{component_of}
use Rattle.walks.proofs.Live.{live-listed}
use Rattle.walks.proofs.Valid.{sound_valid}
use Rattle.planning.specs.Plans.{HomesAre}
use Rattle.planning.proofs.Charts.{of_component, home-place}

-- of each component the links below l in service are counted
pub record Counted (p : Plant) (l : ℕ) (links : List ℕ) : Type 0 where
  pub long : length links ≡ max_switches
  pub counts : (i : ℕ) → at links i ≡ count l (of_component p i)

module _ (p : Plant) (sound : Sound p) (n : ℕ) (all : n ≡ p.count) where
  pub links_all : length (take n p.links) ≡ p.count
  links_all = omega (arith, length-take n p.links, sound.places, sound.few_links)

  -- link l among those of the plant
  module _ (l : ℕ) (l_in : l < length (take n p.links)) where
    abbrev link : Link
    link = get_or (take n p.links) l zero_link

    link_is : link ≡ link_at p l
    link_is = get_or-take n p.links l zero_link (omega (arith, links_all))

    -- by its mark
    pub told : (b : Bool) → b ≡ not link.out_of_service → live p l ≡ b
    told b e = live-listed p l (omega (arith, links_all)) ∙ sym (e ∙ ap (λ (k : Link). not k.out_of_service) link_is)

    -- one link more, of component i
    module _ (home : List ℕ) (homes : HomesAre p home) (alive : live p l ≡ true) (y i : ℕ) (y_is : y ≡ link.first) (i_is : i ≡ at home y) where
      first_is : y ≡ first p l
      first_is = y_is ∙ ap (λ (k : Link). k.first) link_is

      y_in : y < p.switches
      y_in = omega (arith, first_is, (sound_valid p sound).first_in_is l (true_T (live p l) alive))

      home-is : i ≡ component_of p (first p l)
      home-is = i_is ∙ homes y y_in ∙ ap (component_of p) first_is

      pub component-place : i < max_switches
      component-place = omega (arith, i_is, home-place p sound home homes y y_in)

      module _ (links : List ℕ) (so_far : Counted p l links) where
        pub few : at links i + 1 ≤ max_links
        few = omega (arith, so_far.counts i, count-all l (of_component p i), links_all, sound.few_links)

        pub counted_yes : (j : ℕ) → at (set links i (at links i + 1)) j ≡ count (l + 1) (of_component p j)
        counted_yes j =
            at_more links i j (omega (arith, component-place, so_far.long))
            ∙ rw (so_far.counts j, home-is) (sym (count_next (of_component p j) l ∙ rw alive (omega arith)))

  -- or none
  pub counted_no : (l : ℕ) → live p l ≡ false → (links : List ℕ) → Counted p l links → (i : ℕ) → at links i ≡ count (l + 1) (of_component p i)
  counted_no l dead links so_far i = so_far.counts i ∙ sym (count_no (of_component p i) l (rw dead refl))
