-- Ways, hop by hop. Assumes the parts of a plan.
use mathlib.Core.Path.{◌≡◌, ap}
use mathlib.Core.Bool.{Bool}
use mathlib.Core.List.{List, [], ◌∷◌}
use Prim.Native.Nat.{ℕ, suc, ◌*◌, ◌<◌}
use native.Mathlib.Omega.{arith}
use lib.ListN.{length}
use Rattle.std.specs.Prelude.{Some, None}
use Rattle.lists.specs.Arrays.{flag, at}
use Rattle.limits.specs.Limits.{max_links}
use Rattle.routes.proofs.Distances.{route_hop, route_none}
use Rattle.arcs.specs.declared.Net.{Net}
use Rattle.arcs.specs.Table.{cell}
use Rattle.arcs.specs.Parts.{Parts}
use Rattle.arcs.specs.Legs.{route_in, hop_in, Joined}
use Rattle.arcs.proofs.Ways.{way_size}
use Rattle.trail.specs.Ways.{Way, NextHop}

module _ {net : Net} {heads first after : List ℕ} {t : List (List ℕ)} where
  module _ {tails : List ℕ} {used : List Bool} (p : Parts net tails heads used first after t) where
    abbrev pub way_of : {u v : ℕ} → Joined net tails heads used p.part u v → Way net heads first after t u v
    way_of j = record { tails = tails; used = used; parts = p; joined = j }

    abbrev way : ℕ → ℕ → List ℕ
    way u v = route_in net tails heads used u v

    -- it goes on over arc a
    pub record Over (u v a : ℕ) : Type 0 where
      pub is_arc : a < net.labels
      pub label_low : a < 2 * max_links
      pub joined : Joined net tails heads used p.part (at heads a) v
      pub goes : way u v ≡ a ∷ way (at heads a) v
      pub shorter : cell t u v ≡ suc (cell t (at heads a) v)

    pub over : (u v a : ℕ) → Joined net tails heads used p.part u v → (u ≡ v → ⊥) → a ≡ hop_in net tails heads used u v → Over u v a
    over u v a j f e =
        let r = route_hop net.switches net.labels (at tails) (at heads) (flag used) u v a j.reached f e in
        let on : Joined net tails heads used p.part (at heads a) v =
        record { from_part = p.strong.heads a r.0.is_arc r.0.in_use; to_part = j.to_part; from_in = p.within.head_in a r.0.is_arc r.0.in_use; to_in = j.to_in; reached = omega (arith, r.0.nearer, j.reached) } in
        record {
          is_arc = r.0.is_arc;
          label_low = omega (arith, r.0.is_arc, p.within.few_labels);
          joined = on;
          goes = r.1;
          shorter = omega (arith, way_size p j, way_size p on, ap length r.1);
        }

    pub way_none : (u v : ℕ) → u ≡ v → way u v ≡ []
    way_none u v e = route_none net.switches net.labels (at tails) (at heads) (flag used) u v e

  -- as the next hop is told, from a switch on the way to its end
  module _ {u v : ℕ} (w : Way net heads first after t u v) {y : ℕ} (j : Joined net w.tails heads w.used w.parts.part y v) where
    pub next : (a : ℕ) → ((o : Way net heads first after t y v) → NextHop o (Some a)) → Over w.parts y v a
    next a told = let q = told (way_of w.parts j) in over w.parts y v a j q.0 q.1

    pub at_end : ((o : Way net heads first after t y v) → NextHop o None) → route_in net w.tails heads w.used y v ≡ []
    at_end told = way_none w.parts y v (told (way_of w.parts j))
