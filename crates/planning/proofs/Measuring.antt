-- The components measured one after another: where the trail and the round trail of each begins, and their hops. Assumes a sound plant, and its components as they were found.
use mathlib.Core.Path.{◌≡◌, refl, sym, ap, ◌∙◌}
use mathlib.Core.Logic.{◌⊎◌, inl, inr}
use mathlib.Core.List.{List, [], map}
use Prim.Native.Nat.{ℕ, suc, ◌+◌, ◌*◌, ◌≤◌, ◌<◌}
use native.Mathlib.Omega.{arith}
use lib.ListN.{length, get_or, set, get_or-eq_default}
use Rattle.std.proofs.lemmas.List.{ext_get_or}
use Rattle.lists.specs.Arrays.{at}
use Rattle.lists.specs.Numbers.{range}
use Rattle.lists.specs.Padded.{padded}
use Rattle.lists.proofs.Laid.{Laid, laid_none, laid_put}
use Rattle.lists.proofs.Numbers.{values-at, values_length}
use Rattle.lists.proofs.Padded.{padded-at, padded-length}
use Rattle.lists.proofs.Tests.{below?}
use Rattle.plant.specs.declared.Plant.{Plant}
use Rattle.limits.specs.Limits.{max_switches, max_links, max_hops}
use Rattle.limits.specs.Sound.{Sound}
use Rattle.walks.specs.Components.{roots}
use Rattle.walks.specs.Round.{round_from}
use Rattle.walks.proofs.Round.{round-length}
use Rattle.walks.proofs.Valid.{sound_valid}
use Rattle.arcs.specs.declared.Legs.{Legs}
use Rattle.arcs.specs.Legs.{no_legs}
use Rattle.components.specs.declared.Found.{Found}
use Rattle.components.specs.Found.{Finds}
use Rattle.plan.specs.Plan.{trail_of, trail_begin, round_begin_of}
use Rattle.plan.proofs.Trails as trails
use Rattle.plan.proofs.Rounds as rounds
use Rattle.planning.specs.declared.Component.{Component}
use Rattle.planning.specs.declared.Components.{Components}
use Rattle.planning.specs.Components.{zero_component, components_with, component_at, components_of}
use Rattle.planning.specs.Plans.{LinksBy, HopsBy}
use Rattle.planning.proofs.Charts.{few_components, root_below}

-- i components are measured, the trails of which have `begin` hops, and the round trails `round`
pub record Measuring (p : Plant) (i : ℕ) (cs : Components) (begin round : ℕ) : Type 0 where
  pub list : Laid zero_component max_switches (component_at p) i cs.list
  pub begin_is : begin ≡ trail_begin p i
  pub round_is : round ≡ round_begin_of p i

pub measuring_none : (p : Plant) → Measuring p 0 (components_with []) 0 0
unfolding components_with
measuring_none p = record { list = laid_none zero_component max_switches (component_at p); begin_is = sym (trails.begin_first p); round_is = sym (rounds.begin_first p) }

module _ (p : Plant) (sound : Sound p) (f : Found) (finds : Finds p f) where
  -- ---- one more

  module _ (i : ℕ) (i_in : i < length (roots p)) (cs : Components) (begin round : ℕ) (so_far : Measuring p i cs begin round) (legs : List Legs) (hops_by : HopsBy p legs)
      (links : List ℕ) (by : LinksBy p links)
    where
      abbrev hops : ℕ
      hops = (get_or legs i no_legs).hops

      both_are : 2 * at links i ≡ length (round_from p (get_or (roots p) i 0))
      both_are = omega (arith, by i i_in, round-length p (sound_valid p sound) (get_or (roots p) i 0) (root_below p sound i i_in))

      begin_next : begin + hops ≡ trail_begin p (suc i)
      begin_next = omega (arith, so_far.begin_is, hops_by i i_in, trails.begin_next p i i_in)

      round_next : round + 2 * at links i ≡ round_begin_of p (suc i)
      round_next = omega (arith, so_far.round_is, both_are, rounds.begin_next p i i_in)

      -- within the limits
      pub few_hops : (begin + hops ≤ max_hops) × (round + 2 * at links i ≤ 2 * max_links)
      few_hops = (
        omega (arith, so_far.begin_is, hops_by i i_in, trails.begin-within p i i_in, trails.hops-limit p sound),
        omega (arith, so_far.round_is, both_are, rounds.begin-within p i i_in, (rounds.rounds-are p sound).short),
      )

      pub measuring_next : (count : ℕ) → Measuring p (i + 1) (record {
        count = count;
        list = set cs.list i (record { first = at f.roots i; begin = begin; hops = hops; round_begin = round; round_hops = 2 * at links i });
      }) (begin + hops) (round + 2 * at links i)
      unfolding component_at
      measuring_next count =
          let e : i + 1 ≡ suc i = omega arith in
          record {
            list = laid_put zero_component max_switches (component_at p) i cs.list so_far.list _ (omega (arith, few_components p sound))
                (rw (finds.roots_are i i_in, so_far.begin_is, hops_by i i_in, so_far.round_is, both_are) refl);
            begin_is = begin_next ∙ ap (trail_begin p) (sym e);
            round_is = round_next ∙ ap (round_begin_of p) (sym e);
          }

  -- ---- all

  module _ (cs : Components) (begin round : ℕ) (all : Measuring p (length (roots p)) cs begin round) where
    abbrev listed : List Component
    listed = map (component_at p) (range 0 (length (roots p)))

    places : length (padded max_switches zero_component listed) ≡ max_switches
    places = padded-length max_switches zero_component listed ∙ omega (arith, values_length (component_at p) 0 (length (roots p)), few_components p sound)

    list_is : cs.list ≡ padded max_switches zero_component listed
    list_is = ext_get_or zero_component cs.list (padded max_switches zero_component listed) (all.list.places ∙ sym places) (λ i h. go i (below? i (length (roots p))))
      where
        go : (i : ℕ) → (i < length (roots p)) ⊎ (length (roots p) ≤ i) → get_or cs.list i zero_component ≡ get_or (padded max_switches zero_component listed) i zero_component
        go i (inl h) = all.list.tells i h ∙ sym (padded-at max_switches zero_component listed i ∙ values-at (component_at p) zero_component (length (roots p)) i h)
        go i (inr h) =
            all.list.clear i h
            ∙ sym (padded-at max_switches zero_component listed i ∙ get_or-eq_default listed zero_component {n = i} (omega (arith, values_length (component_at p) 0 (length (roots p)))))

    pub components_are : record { count = f.count; list = cs.list } ≡ components_of p
    unfolding components_of components_with
    components_are = rw (finds.count_is, list_is, values_length (component_at p) 0 (length (roots p))) refl

    pub hops_all : begin ≡ length (trail_of p)
    hops_all = all.begin_is ∙ trails.begin-last p
