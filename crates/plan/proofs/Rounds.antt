-- The round trail of each component of a plant is what document 02's order 6 says; together they cross each arc once; and where each stands among them. Assumes a sound plant.
use mathlib.Core.Path.{◌≡◌, refl, sym, ap, ◌∙◌}
use mathlib.Core.Logic.{◌↔◌}
use mathlib.Core.List.{List, map, flatten}
use Prim.Native.Nat.{ℕ, suc, ◌+◌, ◌*◌, ◌≤◌, ◌<◌}
use native.Mathlib.Omega.{arith}
use lib.ListN.{length, get_or, take, drop}
use lib.Seq.{take-length}
use Rattle.lists.specs.Members.{In, Distinct}
use Rattle.lists.proofs.Count.{count-all}
use Rattle.lists.proofs.SumOf.{sums_same, sums_times}
use Rattle.lists.proofs.Chained.{in_chained, chained_in, chained_distinct, chained-length, chained-begin, chained-within}
use Rattle.plant.specs.declared.Plant.{Plant}
use Rattle.plant.specs.Links.{live}
use Rattle.limits.specs.Sound.{Sound}
use Rattle.walks.specs.Arcs.{tail, Arc, Valid}
use Rattle.walks.specs.Graph.{links_from, live_links}
use Rattle.walks.specs.Components.{root_of, roots, component_of}
use Rattle.walks.specs.Round.{round_from}
use Rattle.walks.proofs.Components.{listed_in, root-listed, root_reaches, reaches_root, roots_distinct, links-sum, component-part, component-within}
use Rattle.walks.proofs.Labels.{tail_in}
use Rattle.walks.proofs.Round.{round-closed, round-arcs, round-once, round-length}
use Rattle.walks.proofs.Valid.{sound_valid}
use Rattle.plan.specs.Plan.{rounds_of, round_of, round_with, round_begin_of}
use Rattle.plan.specs.Rounds.{IsRound, AreRounds}

module _ (p : Plant) where
  -- ---- where the round trail of each component begins

  pub begin_first : round_begin_of p 0 ≡ 0
  unfolding rounds_of flatten
  begin_first = refl

  pub begin_next : (i : ℕ) → i < length (roots p) → round_begin_of p (suc i) ≡ round_begin_of p i + length (round_from p (get_or (roots p) i 0))
  unfolding rounds_of
  begin_next i h = chained-begin (round_from p) (roots p) i h

  pub begin-within : (i : ℕ) → i < length (roots p) → round_begin_of p i + length (round_from p (get_or (roots p) i 0)) ≤ length (round_of p)
  unfolding rounds_of
  begin-within i h = chained-within (round_from p) (roots p) i h

  pub begin-last : round_begin_of p (length (roots p)) ≡ length (round_of p)
  begin-last = ap (λ (rs : List ℕ). length (rounds_of p rs)) (take-length (roots p))

module _ (p : Plant) (sound : Sound p) where
  abbrev ok : Valid p
  ok = sound_valid p sound

  -- ---- the round trail of a component

  within : (r : ℕ) → In r (roots p) → r < p.switches
  within = listed_in p ok sound.start_in

  pub round-from : (r : ℕ) → In r (roots p) → IsRound p r (round_from p r)
  round-from r i = record {
    closed = round-closed p ok r (within r i);
    each = λ a. let q = round-arcs p ok r (within r i) a in (λ h. ((q.0 h).1, (q.0 h).0), λ h. q.1 (h.1, h.0));
    once = round-once p ok r (within r i);
    number = round-length p ok r (within r i);
  }

  -- ---- the round trails together

  -- they cross the arcs of the plant and no other
  each : (a : ℕ) → In a (round_of p) ↔ Arc p a
  unfolding rounds_of
  each a = (λ h. let q = chained_in (round_from p) a (roots p) h in (((round-from q.0 q.1).each a).0 q.2).1, from)
    where
      from : Arc p a → In a (flatten (map (round_from p) (roots p)))
      from h =
          let t = tail_in p ok a h in
          let i = root-listed p ok sound.start_in (tail p a) t in
          in_chained (round_from p) a (root_of p (tail p a)) (roots p) i (((round-from (root_of p (tail p a)) i).each a).1 (root_reaches p ok sound.start_in (tail p a) t, h))

  -- an arc is in the round trail of one component
  own : (r s a : ℕ) → In r (roots p) → In s (roots p) → In a (round_from p r) → In a (round_from p s) → r ≡ s
  own r s a i j h k =
      sym (reaches_root p ok sound.start_in r (tail p a) i (((round-from r i).each a).0 h).0)
      ∙ reaches_root p ok sound.start_in s (tail p a) j (((round-from s j).each a).0 k).0

  -- so none is crossed twice
  once : Distinct (round_of p)
  unfolding rounds_of
  once = chained_distinct (round_from p) (roots p) (roots_distinct p ok sound.start_in) (λ r i. (round-from r i).once) own

  -- two hops to a link
  number : length (round_of p) ≡ 2 * live_links p
  unfolding rounds_of
  number =
      chained-length (round_from p) (roots p) ∙ sums_same (λ r. length (round_from p r)) (λ r. 2 * links_from p r) (roots p) (λ r i. (round-from r i).number)
      ∙ sums_times 2 (links_from p) (roots p) ∙ ap (λ (n : ℕ). 2 * n) (links-sum p ok sound.start_in)

  pub rounds-are : AreRounds p
  unfolding live_links
  rounds-are = record {
    rounds = round-from;
    each = each;
    once = once;
    number = number;
    short = omega (arith, number, count-all p.count (live p), sound.few_links);
  }

  -- ---- the round trail of the component of a switch is a stretch of them

  module _ (x : ℕ) (h : x < p.switches) where
    pub stretch : take (length (round_with p x)) (drop (round_begin_of p (component_of p x)) (round_of p)) ≡ round_with p x
    unfolding rounds_of
    stretch = component-part p ok sound.start_in (round_from p) x h

    pub stretch_in : round_begin_of p (component_of p x) + length (round_with p x) ≤ length (round_of p)
    unfolding rounds_of
    stretch_in = component-within p ok sound.start_in (round_from p) x h
