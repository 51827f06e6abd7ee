-- What the answers of the calls stand for, and what is so of some of them.
use Rattle.std.specs.Prelude.{List, ◌++◌, ◌≡◌, ℕ}
use Rattle.answers.specs.Answers.{Answer, given}
use Rattle.choosing.specs.declared.Choice.{Choice}
use Rattle.order.specs.declared.Span.{Span}
use Rattle.search.specs.declared.Search.{Search}
use Rattle.search.specs.declared.Progress.{Progress}
use Rattle.plant.specs.declared.Plant.{Plant}
use Rattle.answers.specs.Checks.{answer}
use Rattle.plan.specs.Plan.{trail_with, round_with}
use Rattle.choosing.specs.Choice.{shorter_of, hops_in}
use Rattle.order.specs.Span.{stretch_of, front_of}
use Rattle.search.specs.Search.{wanted}
use Rattle.search.specs.Calls.{Call}
use Rattle.planning.specs.Planning.{planning_at}
use Rattle.probing.specs.declared.Named.{Named}
use Rattle.probing.specs.declared.Named.TheVariants as named_is
use Rattle.probing.specs.Calls.{Name, link, none, unknown, out_labels}
use Rattle.probing.specs.Searches.{Searches}

-- what is named
abbrev pub name_as : Named → Name
name_as (named_is.Link l) = link l
name_as named_is.AllUp = none
name_as named_is.Open = unknown

-- of the plant that was read: the part of the lent trails w and v at the choice that is answered is the trail or the round trail of the
-- component, whichever has fewer hops, and no spare place
abbrev pub ChosenHops : List ℕ → ℕ → List ℕ → List ℕ → Answer Choice → Type 0
ChosenHops s x w v a =
    (p : Plant) (c : Choice) → answer (planning_at s x) ≡ given p → a ≡ given c → hops_in w v c ≡ shorter_of (trail_with p x) (round_with p x)

-- of the plant that was read: the two parts of the lent trail w at the bounds that are answered, one after the other, are the outward
-- labels of the probe wanted
abbrev pub OutwardParts : List ℕ → ℕ → List ℕ → Search → Answer Span → Type 0
OutwardParts s x w q a =
    (p : Plant) (b : Span) → answer (planning_at s x) ≡ given p → a ≡ given b → stretch_of w b ++ front_of w b ≡ out_labels p x (wanted q)

-- so it is of what `perform` answers, for a listing s that is read as a plant p with the switch x
abbrev pub Performs : List ℕ → ℕ → List Call → Answer Progress → Type 0
Performs s x cs a = (p : Plant) (r : Progress) → answer (planning_at s x) ≡ given p → a ≡ given r → Searches p x cs r
