-- From no root nothing is found.
use Rattle.std.proofs.Common.{ℕ, Option, None, false, refl, arith}
use lib.ListN.{length-replicate, get_or-replicate}
use Rattle.lists.proofs.Members.{get_d_same}
use Rattle.limits.specs.Limits.{max_switches, max_links}
use Rattle.components.proofs.nothing.Goals as goal

pub returns : goal.returns
returns c p = record {
  inside = λ r z. absurd z;
  count_is = refl;
  roots_places = length-replicate {A = ℕ} max_switches 0;
  roots_are = λ i h. absurd (omega arith);
  homes = λ i x h. absurd (omega arith);
  homeless = λ x h n. get_or-replicate {A = Option ℕ} max_switches x None None h;
  ranks = λ r x z. absurd z;
  enters = λ r l z. absurd z;
  unentered = λ l n. get_d_same max_links l false;
}
