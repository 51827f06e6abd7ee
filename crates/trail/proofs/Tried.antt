-- The search for the hop from u towards v, along the chain of u: no arc of u before label a lessens the distance. Assumes the parts of a plan and a way from u to v.
use mathlib.Core.Path.{◌≡◌, sym, subst}
use mathlib.Core.Logic.{⊎_elim}
use mathlib.Core.Bool.{Bool}
use mathlib.Core.List.{List}
use Prim.Native.Nat.{ℕ, ◌≤◌, ◌<◌}
use native.Mathlib.Omega.{arith}
use lib.Dec.{T}
use Rattle.lists.specs.Arrays.{flag, at}
use Rattle.lists.proofs.Tests.{eq?, below?}
use Rattle.routes.proofs.Distances.{hop_is, hop_none}
use Rattle.arcs.specs.declared.Net.{Net}
use Rattle.arcs.specs.Table.{cell, distance_in}
use Rattle.arcs.specs.Parts.{Parts}
use Rattle.arcs.proofs.Following.{follows_first, follows_after}
use Rattle.arcs.specs.Legs.{hop_in, Joined}

-- a is a label of the chain of u, or its end, and those before it do not lessen the distance to v
pub record Tried (n : ℕ) (tails heads : List ℕ) (used : List Bool) (t : List (List ℕ)) (u v a : ℕ) : Type 0 where
  pub top : a ≤ n
  pub in_use : a < n → T (flag used a)
  pub leaves : a < n → at tails a ≡ u
  pub none : (b : ℕ) → b < a → T (flag used b) → at tails b ≡ u → cell t u v ≤ cell t (at heads b) v

module _ {net : Net} {tails heads : List ℕ} {used : List Bool} {first after : List ℕ} {t : List (List ℕ)} (p : Parts net tails heads used first after t) {u v : ℕ}
    (j : Joined net tails heads used p.part u v)
  where
    abbrev Q : ℕ → Type 0
    Q a = Tried net.labels tails heads used t u v a

    pub tried-first : Q (at first u)
    tried-first =
        let f = follows_first p u j.from_part in
        record { top = f.top; in_use = f.flagged; leaves = f.leaves; none = λ b h l e. absurd (omega (arith, f.top, h, f.lowest b (omega arith) (omega (arith, f.top)) l e)) }

    here : cell t u v ≡ distance_in net tails heads used u v
    here = p.cells u v j.from_part j.to_part

    there : (b : ℕ) → b < net.labels → T (flag used b) → cell t (at heads b) v ≡ distance_in net tails heads used (at heads b) v
    there b h l = p.cells (at heads b) v (p.strong.heads b h l) j.to_part

    module _ (a : ℕ) (q : Q a) where
      pub tried_next : a < net.labels → cell t u v ≤ cell t (at heads a) v → (a < at after a) × Q (at after a)
      tried_next i l =
          let f = follows_after p u a i (q.in_use i) (q.leaves i) in (
            f.bottom,
            record {
              top = f.top;
              in_use = f.flagged;
              leaves = f.leaves;
              none = λ b h k e. ⊎_elim (λ z. q.none b z k e) (λ z. ⊎_elim (λ y. subst (λ (c : ℕ). cell t u v ≤ cell t (at heads c) v) (sym y) l)
                  (λ y. absurd (omega (arith, h, f.lowest b (omega (arith, z, y)) (omega (arith, f.top)) k e))) (eq? b a)) (below? b a);
            },
          )

      pub tried_found : a < net.labels → cell t (at heads a) v < cell t u v → a ≡ hop_in net tails heads used u v
      tried_found h l =
          hop_is _ _ _ _ _ u v a h (q.in_use h) (q.leaves h) (omega (arith, here, there a h (q.in_use h)))
          (λ b i o. omega (arith, q.none b i o.in_use o.leaves, o.nearer, here, there b (omega arith) o.in_use))

      pub tried_all : net.labels ≤ a → a ≡ hop_in net tails heads used u v
      tried_all h =
          omega (
            arith,
            q.top,
            hop_none net.switches net.labels (at tails) (at heads) (flag used) u v
                (λ b i o. omega (arith, q.none b (omega arith) o.in_use o.leaves, o.nearer, here, there b i o.in_use)),
          )
