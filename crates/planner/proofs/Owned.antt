-- What owning an array tells of each element. Assumes nothing.
use mathlib.Core.Path.{◌≡◌}
use mathlib.Core.List.{List, [], ◌∷◌}
use Prim.Native.Nat.{ℕ, zero, suc, ◌^◌, ◌<◌}
use native.Mathlib.Nat.{not-suc-le-zero, le_of_suc-le-suc}
use native.Mathlib.Omega.{arith}
use lib.ListN.{length, get_or}
use mir.Val.{Val}
use base.Fml.{Fml}
use denote.Shadow.{shadow}
use denote.Array.{each}
use denote.Builtin.{Array}
use denote.Struct.Field.{row_field}
use Rattle.plant.specs.contracts.Link
use Rattle.plant.specs.declared.Link.{Link}
use Rattle.plant.specs.declared.Plant.{Plant}
use Rattle.plant.specs.Links.{zero_link}
use Rattle.limits.specs.Limits.{max_links}
use Rattle.listing.specs.Steps.{Typed}

pub each_good : {d : Type 0} (f : d → List Val → Fml) (P : d → Type 0) → ((x : d) (vs : List Val) → shadow (f x vs) → P x)
    → (xs : List d) (us : List Val) → shadow (each d f xs us) → (i : ℕ) (z : d) → i < length xs → P (get_or xs i z)
each_good f P one [] us s i z h = absurd (not-suc-le-zero h)
each_good f P one (x ∷ xs) [] s i z h = absurd s
each_good f P one (x ∷ xs) (u ∷ us) s zero z h = one x (u ∷ []) s.0
each_good f P one (x ∷ xs) (u ∷ us) s (suc i) z h = each_good f P one xs us s.1 i z (le_of_suc-le-suc h)

-- the tag of a link that is owned is a number of 16 bits
tag_owned : (x : Link) (vs : List Val) → shadow ((Link.the_row).own_val x vs) → x.tag < 2 ^ 16
tag_owned x vs s = s.1.1.1.1.0.1

-- a plant that is owned has a place for each link, and tags of 16 bits
pub typed_owned : (p : Plant) (vs : List Val) → shadow ((row_field (Array Link.the_row tt max_links)).row.own_val p.links vs) → Typed p
typed_owned p vs s =
    let places : length p.links ≡ max_links = s.1.0.1 in
    record {
      places = places;
      tags = λ l h. each_good (Link.the_row).own_val (λ x. x.tag < 2 ^ 16) tag_owned p.links s.0 s.1.1 l zero_link (omega arith);
    }
