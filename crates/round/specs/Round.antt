-- Inner: the labels of a round trail that is told hop by hop. No promise of a call needs it. Assumes nothing.
use Rattle.std.specs.Prelude.{List, [], ◌∷◌, ℕ, zero, suc, ◌*◌, ◌<◌}
use Rattle.lists.specs.Arrays.{at}
use Rattle.lists.specs.Members.{In}
use Rattle.limits.specs.Limits.{max_links}
use Rattle.round.specs.declared.Round.{Round}

-- so many hops from a on, by the hop after each
abbrev pub follow : (ℕ → ℕ) → ℕ → ℕ → List ℕ
follow next a zero = []
follow next a (suc n) = a ∷ follow next (next a) n

unfoldable pub labels_of : Round → List ℕ
labels_of x = follow (at x.next) x.begin x.hops

-- each of them is a label that there can be
abbrev pub Labels : Round → Type 0
Labels x = (a : ℕ) → In a (labels_of x) → a < 2 * max_links
