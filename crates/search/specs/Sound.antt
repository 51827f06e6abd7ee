-- A state that is sound for a listing of e links, as a fact: not refusal 14; and what it can say. Assumes nothing.
use Rattle.std.specs.Prelude.{◌≡◌, ℕ, ◌≤◌, ◌<◌}
use Rattle.search.specs.declared.Search.{Search}
use Rattle.search.specs.declared.Search.TheVariants.{Checking, Halving, AllUp, Down}
use Rattle.search.specs.Search.{tries}

abbrev pub Good : ℕ → Search → Type 0
Good e (Checking count lost) = (count ≡ e) × (1 ≤ e) × (lost < tries)
Good e (Halving low high lost) = (1 ≤ low) × (low < high) × (high ≤ e) × (lost < tries)
Good e AllUp = Unit
Good e (Down place) = (1 ≤ place) × (place ≤ e)
