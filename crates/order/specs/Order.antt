-- The order of links as a value.
use Rattle.std.specs.Prelude.{List, ℕ, length}
use Rattle.lists.specs.Padded.{padded}
use Rattle.limits.specs.Limits.{max_links}
use Rattle.order.specs.declared.Order.{Order}

-- these links with their count, in the places of all links that a plant can have; the places past them are zero
unfoldable pub listed : List ℕ → Order
listed ls = record { count = length ls; links = padded max_links 0 ls }
