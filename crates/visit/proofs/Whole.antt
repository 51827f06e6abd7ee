-- A whole visit from a root: where it begins, and what it ends with, over chains of all arcs of a plant. Assumes a sound plant and a root that is a switch of it.
use mathlib.Core.Path.{◌≡◌, refl, sym, ap, ◌∙◌, subst}
use mathlib.Core.Logic.{⊎_elim}
use mathlib.Core.Bool.{Bool, true, false, not, ◌||◌}
use mathlib.Core.List.{List, []}
use Prim.Native.Nat.{ℕ, ◌+◌, ◌*◌, ◌/◌, ◌≤◌, ◌<◌}
use native.Mathlib.Omega.{arith}
use lib.Dec.{T, eqb}
use lib.ListN.{length, get_or, set, replicate, length-set, length-replicate}
use Rattle.lists.specs.Arrays.{flag, at}
use Rattle.lists.proofs.Arrays.{flag_set}
use Rattle.lists.specs.Numbers.{range, keep}
use Rattle.lists.proofs.Tests.{eq?}
use Rattle.lists.proofs.Count.{count-all}
use Rattle.lists.proofs.Members.{get_d_same}
use Rattle.plant.specs.declared.Plant.{Plant}
use Rattle.plant.specs.Links.{live}
use Rattle.limits.specs.Limits.{max_switches, max_links}
use Rattle.limits.specs.Sound.{Sound}
use Rattle.walks.specs.Arcs.{tail, head}
use Rattle.walks.specs.Visit.{St}
use Rattle.walks.specs.Inner.{Scan}
use Rattle.walks.specs.Graph.{arcs}
use Rattle.walks.proofs.Visit.{rank_eq, rank_ne}
use Rattle.walks.proofs.Labels.{tail_in, head_in}
use Rattle.walks.proofs.Rising.{rising}
use Rattle.walks.proofs.Fuel.{unique}
use Rattle.walks.proofs.Visited.{begin, visited_run}
use Rattle.walks.proofs.Valid.{sound_valid}
use Rattle.arcs.specs.Net.{AllArcs}
use Rattle.arcs.specs.Chains.{Chained, TailsIn}
use Rattle.arcs.specs.declared.Visited.{Visited}
use Rattle.arcs.specs.Shows.{Shows, Visits}
use Rattle.visit.specs.Inner.{SomeArcs, AllChained, unvisited, begin_of, At, Tries, Went}
use Rattle.visit.proofs.Entering.{unvisited-set}

-- ---- the beginning

module _ (root : ℕ) (root_in : root < max_switches) where
  fits : root < length (replicate max_switches false)
  fits = omega (arith, length-replicate max_switches false)

  begin-numbers : 1 + unvisited (set (replicate max_switches false) root true) ≤ max_switches
  unfolding unvisited
  begin-numbers =
      omega (
        arith,
        unvisited-set (replicate max_switches false) root root_in fits (get_d_same max_switches root false),
        count-all max_switches (λ x. not (get_or (replicate max_switches false) x false)),
      )

  pub begin-at : At (begin_of root) root
  unfolding begin_of
  begin-at = record {
    room = record {
      seen_places = length-set (replicate max_switches false) root true ∙ length-replicate max_switches false;
      rank_places = length-replicate {A = ℕ} max_switches 0;
      entered_places = length-replicate max_links false;
      numbers = begin-numbers;
    };
    within = root_in;
  }

  begin-shows : Shows (begin_of root) (begin root)
  unfolding begin_of
  begin-shows = record {
    sees = λ x. flag_set (replicate max_switches false) root x fits ∙ ap (λ (b : Bool). eqb x root || b) (get_d_same max_switches x false);
    ranks = λ x. get_d_same max_switches x 0 ∙ ⊎_elim (λ e. sym (rank_eq x root [] e)) (λ e. sym (rank_ne x root [] e)) (eq? x root);
    enters = λ l. get_d_same max_links l false;
    counts = refl;
  }

  pub begin-root : (begin_of root).root ≡ root
  unfolding begin_of
  begin-root = refl

-- ---- over all arcs of a plant

module _ (p : Plant) (sound : Sound p) (tails : List ℕ) (tails_are : at tails ≡ tail p) {flags : List Bool} (all : AllArcs p flags) where
  -- the tail of a flagged arc is a switch
  pub tails_in : TailsIn (2 * p.count) tails flags
  tails_in a h t = omega (arith, sound.few_switches, ap (λ (f : ℕ → ℕ). f a) tails_are, tail_in p (sound_valid p sound) a (rw (all.tells a) at t))

  -- the flagged arcs are the arcs of the plant
  pub all-chained : {first after : List ℕ} → Chained (2 * p.count) (at tails) (flag flags) first after → AllChained p first after
  all-chained {first} {after} c =
      let same : flag flags ≡ (λ a. live p (a / 2)) = λ j a. all.tells a j in
      subst (λ (f : ℕ → ℕ). Chained (2 * p.count) f (λ a. live p (a / 2)) first after) tails_are
      (subst (λ (o : ℕ → Bool). Chained (2 * p.count) (at tails) o first after) same c)

module _ (p : Plant) (sound : Sound p) (heads : List ℕ) (heads_are : at heads ≡ head p) where
  pub heads_in : (a : ℕ) → a < 2 * p.count → T (live p (a / 2)) → at heads a < max_switches
  heads_in a h t = omega (arith, sound.few_switches, ap (λ (f : ℕ → ℕ). f a) heads_are, head_in p (sound_valid p sound) a t)

  -- the arcs that the visit tries
  abbrev pub tried : {first after : List ℕ} → AllChained p first after → SomeArcs (2 * p.count) heads first after
  tried c = record { tl = tail p; ok = λ a. live p (a / 2); heads_in = heads_in; chained = c }

  module _ (root : ℕ) (root_in : root < p.switches) (r : Visited) where
    of_plant : Went (2 * p.count) (tail p) (at heads) (λ a. live p (a / 2)) (begin_of root) root r → Went (2 * p.count) (tail p) (head p) (λ a. live p (a / 2)) (begin_of root) root r
    of_plant w = subst (λ (f : ℕ → ℕ). Went (2 * p.count) (tail p) f (λ a. live p (a / 2)) (begin_of root) root r) heads_are w

    pub whole : Went (2 * p.count) (tail p) (at heads) (λ a. live p (a / 2)) (begin_of root) root r → Visits p root r
    whole w = record {
      root_is = w.root_kept ∙ begin-root root place;
      root_in = root_in;
      shows = subst (λ (t : St). Shows r t) (unique (tail p) (head p) (arcs p)
          (subst (λ (bs : List ℕ). Scan (tail p) (head p) bs root bs (begin root) e.0) (rising p) e.2) (visited_run p (sound_valid p sound) root root_in)) e.1;
    }
      where
        place : root < max_switches
        place = omega (arith, sound.few_switches)

        e : (t : St) × Shows r t × Tries (2 * p.count) (tail p) (head p) (λ a. live p (a / 2)) root (keep (λ a. live p (a / 2)) (range 0 (2 * p.count))) (begin root) t
        e = (of_plant w).went (begin root) (begin-shows root place)
