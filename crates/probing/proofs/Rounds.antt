-- The shorter of the trail and the round trail of the component of a switch, in two lent trails. Assumes a listing of bytes.
use mathlib.Core.Path.{◌≡◌, refl, sym, ap, ◌∙◌}
use mathlib.Core.Bool.{Bool, true, false}
use mathlib.Core.List.{List}
use Prim.Native.Nat.{ℕ, ◌<◌}
use lib.Dec.{ltb}
use lib.ListN.{length, take, drop}
use Rattle.lists.specs.Tests.{choose}
use Rattle.plant.specs.declared.Plant.{Plant}
use Rattle.limits.specs.Sound.{Sound}
use Rattle.answers.specs.Answers.{Answer, given}
use Rattle.answers.specs.Checks.{answer}
use Rattle.answers.proofs.Checks.{refuse-given, given-given, result-given}
use Rattle.codec.specs.Field.{Bytes}
use Rattle.walks.specs.Components.{component_of}
use Rattle.plan.specs.Plan.{trail_of, trail_with, trail_begin, round_of, round_with, round_begin_of}
use Rattle.planning.specs.declared.Component.{Component}
use Rattle.planning.specs.Components.{component_with}
use Rattle.planning.specs.Planning.{planning_at}
use Rattle.planning.proofs.Plans.{at-result}
use Rattle.choosing.specs.declared.Choice.{Choice}
use Rattle.choosing.specs.declared.Choice.TheVariants as choice
use Rattle.choosing.specs.Choice.{shorter_of, choice_of, hops_in}
use Rattle.judging.specs.Conditions.{hops_differ}
use Rattle.probing.specs.Calls.{choice_at, choice_from, choice_in, choosing}
use Rattle.probing.specs.Answers.{ChosenHops}
use Rattle.probing.proofs.Lent.{hops-is, begin_is, round_hops_is, round_begin-is, trail-stands, round-stands}

-- the choice by what the code knows of the component
pub chosen_at : (p : Plant) (ok : Sound p) (x : ℕ) (x_in : x < p.switches) (c : Component) → c ≡ component_with p x
    → choice_of c.begin c.hops c.round_begin c.round_hops ≡ choice_at p x
chosen_at p ok x x_in c e = rw (e, hops-is p ok x x_in, begin_is p ok x x_in, round_hops_is p ok x x_in, round_begin-is p ok x x_in) refl

-- two lent trails that have w from place i on and v from place j on have whichever of these has fewer hops at the choice by their hops
shorter_hops : (w v lent round : List ℕ) (i j : ℕ) → take (length w) (drop i lent) ≡ w → take (length v) (drop j round) ≡ v
    → hops_in lent round (choice_of i (length w) j (length v)) ≡ shorter_of w v
unfolding choice_of
shorter_hops w v lent round i j e f = go (ltb (length v) (length w))
  where
    go : (b : Bool) → hops_in lent round (choose b (choice.Round j (length v)) (choice.Trail i (length w))) ≡ choose b v w
    go true = f
    go false = e

pub chosen-hops : (s : List ℕ) → Bytes s → (x : ℕ) (w v : List ℕ) (a : Answer Choice) → a ≡ answer (choosing s x w v) → ChosenHops s x w v a
unfolding choosing choice_in
chosen-hops s bytes x w v a f k c h e =
    ap (hops_in w v) (sym (given-given (choice_at p x) c g.1))
    ∙ shorter_hops (trail_with p x) (round_with p x) w v (trail_begin p (component_of p x)) (round_begin_of p (component_of p x)) (trail-stands p u.0 x u.1 w d.0) (round-stands p u.0 x u.1 v g.0)
    ∙ ap (λ (r : Plant). shorter_of (trail_with r x) (round_with r x)) (result-given (planning_at s x) k h)
  where
    p : Plant
    p = (planning_at s x).result

    u : Sound p × (x < p.switches) × (answer (choice_in x w v p) ≡ given c)
    u = at-result s x (choice_in x w v) c bytes (sym f ∙ e)

    d : (hops_differ (trail_of p) w ≡ false) × (answer (choice_from x v p) ≡ given c)
    d = refuse-given 12 (hops_differ (trail_of p) w) (answer (choice_from x v p)) c u.2

    g : (hops_differ (round_of p) v ≡ false) × (given (choice_at p x) ≡ given c)
    g = refuse-given 12 (hops_differ (round_of p) v) (given (choice_at p x)) c d.1
