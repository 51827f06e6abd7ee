-- Along the legs of a trail, one after the other: what is left of the trail after k of them. Assumes the parts of a plan and its legs.
use mathlib.Core.Path.{sym, ap, ◌∙◌}
use mathlib.Core.Bool.{Bool}
use mathlib.Core.List.{List, [], ◌∷◌, ◌++◌, append-nil}
use Prim.Native.Nat.{ℕ, ◌+◌, ◌*◌, ◌≤◌, ◌<◌}
use native.Mathlib.Numerals.{add-one}
use native.Mathlib.Omega.{arith}
use lib.Dec.{T}
use lib.ListN.{length, drop, drop_of_length-le}
use lib.Seq.{drop-cons}
use Rattle.lists.specs.Arrays.{flag, at}
use Rattle.lists.proofs.Members.{get_d_in}
use Rattle.limits.specs.Limits.{max_links}
use Rattle.routes.specs.Meaning.{InUse}
use Rattle.arcs.specs.declared.Net.{Net}
use Rattle.arcs.specs.Parts.{Parts}
use Rattle.arcs.specs.Legs.{route_in, Joined, along}
use Rattle.arcs.proofs.Ways.{part-joined}
use Rattle.trail.specs.Ways.{Trailing}
use Rattle.trail.proofs.Filled.{Splits}

-- what is left of the trail at u, after k legs
abbrev pub left_of : {net : Net} {tails heads first after : List ℕ} {t : List (List ℕ)} {legs : List ℕ} → Trailing net tails heads first after t legs → ℕ → ℕ → List ℕ
left_of {net} {tails} {heads} {legs = legs} w k u = along net tails heads w.used (drop k legs) u

module _ {net : Net} {tails heads first after : List ℕ} {t : List (List ℕ)} {legs : List ℕ} (w : Trailing net tails heads first after t legs) (u k : ℕ) (inside : T (w.parts.part u))
  where
    abbrev used : List Bool
    used = w.used

    abbrev p : Parts net tails heads used first after t
    p = w.parts

    abbrev left : ℕ → ℕ → List ℕ
    left j v = left_of w j v

    abbrev way : ℕ → List ℕ
    way v = route_in net tails heads used u v

    -- the next leg, over arc a
    pub record Leg (a : ℕ) : Type 0 where
      pub label_low : a < 2 * max_links
      pub joined : Joined net tails heads used p.part u (at tails a)
      pub goes : Splits (left k u) (way (at tails a)) (a ∷ left (k + 1) (at heads a))
      pub head_inside : T (p.part (at heads a))

    pub leg : k < length legs → Leg (at legs k)
    leg h = record {
      label_low = omega (arith, live.0, p.within.few_labels);
      joined = part-joined p u (at tails a) inside (p.strong.tails a live.0 live.1);
      goes = record {
        is = ap (λ (l : List ℕ). along net tails heads used l u) (drop-cons legs k 0 h) ∙ ap (λ (j : ℕ). way (at tails a) ++ a ∷ left j (at heads a)) (sym (add-one k));
      };
      head_inside = p.strong.heads a live.0 live.1;
    }
      where
        a : ℕ
        a = at legs k

        live : InUse net.labels (flag used) a
        live = w.legs_are.in_use a (get_d_in legs k h)

    -- the way back
    pub record Back : Type 0 where
      pub joined : Joined net tails heads used p.part u net.root
      pub goes : Splits (left k u) (way net.root) []

    pub back : length legs ≤ k → Back
    back h = record {
      joined = part-joined p u net.root inside p.strong.starts;
      goes = record { is = ap (λ (l : List ℕ). along net tails heads used l u) (drop_of_length-le legs h) ∙ sym (append-nil (way net.root)) };
    }
