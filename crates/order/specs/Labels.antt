-- Inner: what the functions of this crate ask of a lent trail. No promise of a call needs it.
use Rattle.std.specs.Prelude.{List, ℕ}
use Rattle.lists.specs.Members.{In}
use Rattle.plant.specs.declared.Plant.{Plant}
use Rattle.walks.specs.Arcs.{Arc}

-- each label is that of an arc of the plant; so it is with a trail of the plant, which has arcs in use alone
abbrev pub OverArcs : Plant → List ℕ → Type 0
OverArcs p w = (a : ℕ) → In a w → Arc p a
