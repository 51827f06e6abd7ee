-- Theorem B within the limits: a sound plant has at most `max_rules` arcs in use, over all its components and from any root. Assumes of a root that it is a switch of it.
use mathlib.Core.Bool.{◌&&◌}
use Prim.Native.Nat.{ℕ, ◌+◌, ◌≤◌, ◌<◌}
use native.Mathlib.Omega.{arith}
use lib.ListN.{length}
use Rattle.lists.proofs.Count.{count-all}
use Rattle.limits.specs.Limits.{max_rules}
use Rattle.limits.specs.Sound.{Sound}
use Rattle.plant.specs.declared.Plant.{Plant}
use Rattle.plant.specs.Links.{first, live}
use Rattle.walks.specs.Graph.{reached_from, live_links, links_from, arcs_used_from, switches_from}
use Rattle.walks.specs.Components.{roots, arcs_used}
use Rattle.walks.proofs.Valid.{sound_valid}
use Rattle.walks.proofs.Counting.{arcs-from, bridges-few}
use Rattle.walks.proofs.Components.{arcs-in_use, few_roots_bridges}

pub few_arcs : (p : Plant) → Sound p → (r : ℕ) → r < p.switches → arcs_used_from p r ≤ max_rules
unfolding links_from switches_from
few_arcs p ok r r_in =
    let valid = sound_valid p ok in
    omega (
      arith,
      arcs-from p valid r r_in,
      bridges-few p valid r r_in,
      count-all p.count (λ l. reached_from p r (first p l) && live p l),
      count-all p.switches (reached_from p r),
      ok.few_links,
      ok.few_switches,
    )

-- over all components: each has fewer bridges than switches
pub few_arcs_roots : (p : Plant) → Sound p → arcs_used p + length (roots p) ≤ p.count + p.switches
unfolding live_links
few_arcs_roots p ok =
    let valid = sound_valid p ok in
    omega (arith, arcs-in_use p valid ok.start_in, few_roots_bridges p valid ok.start_in, count-all p.count (live p))

pub few-used : (p : Plant) → Sound p → arcs_used p ≤ max_rules
unfolding roots
few-used p ok = omega (arith, few_arcs_roots p ok, ok.few_links, ok.few_switches)
