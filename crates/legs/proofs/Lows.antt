-- The lowest uncrossed labels of the switches: at first those of the chains, and after a leg the next label in the chain of the arc that it crossed.
-- Assumes nothing.
use mathlib.Core.Path.{◌≡◌, refl, sym, ap, ◌∙◌, subst}
use mathlib.Core.Logic.{◌↔◌, ⊎_elim}
use mathlib.Core.Bool.{Bool, true, false, not}
use mathlib.Core.List.{List}
use Prim.Native.Nat.{ℕ, suc, ◌≤◌, ◌<◌}
use native.Mathlib.Omega.{arith}
use borrow.Author.Tests.{lt-ltb, le-ltb}
use lib.Dec.{T, ltb}
use lib.ListN.{length, set}
use Rattle.lists.specs.Arrays.{flag, at}
use Rattle.lists.proofs.Tests.{T-or, eq?, and_left, and_both}
use Rattle.limits.specs.Limits.{max_switches}
use Rattle.routes.specs.Distance.{dist}
use Rattle.routes.specs.Trail.{unmarked, uncrossed}
use Rattle.routes.specs.Meaning.{InUse}
use Rattle.routes.proofs.Nearest.{Nearest}
use Rattle.arcs.specs.declared.Net.{Net}
use Rattle.arcs.specs.Table.{cell}
use Rattle.arcs.specs.Parts.{Parts}
use Rattle.arcs.proofs.Following.{Follows, follows_first}
use Rattle.arcs.proofs.Tables.{set_cases}
use Rattle.arcs.proofs.Ways.{part-joined}
use Rattle.legs.specs.Firsts.{first_of, Firsts}
use Rattle.legs.specs.Nearest.{Lows}

-- at first, in the parts of a plan
module _ {net : Net} {tails heads : List ℕ} {used : List Bool} {first after : List ℕ} {t : List (List ℕ)} (p : Parts net tails heads used first after t) (low : List ℕ)
    (firsts : Firsts net.switches net.labels net.root first t max_switches low)
  where
    -- a switch of the part has its first arc, and any other none
    first_in_is : (x : ℕ) → T (p.part x) → at low x ≡ at first x
    unfolding first_of
    first_in_is x h =
        let j = part-joined p net.root x p.strong.starts h in
        let e : ltb (cell t net.root x) net.switches ≡ true = lt-ltb (cell t net.root x) net.switches (omega (arith, j.reached, p.cells net.root x p.strong.starts h)) in
        firsts.done x (omega (arith, p.strong.inside x h, p.within.few_switches)) ∙ rw e refl

    first_out : (x : ℕ) → x < net.switches → (T (p.part x) → ⊥) → at low x ≡ net.labels
    unfolding first_of
    first_out x h f =
        let e : ltb (cell t net.root x) net.switches ≡ false = le-ltb (cell t net.root x) net.switches (p.apart x h f) in
        firsts.done x (omega (arith, h, p.within.few_switches)) ∙ rw e refl

    pub lows_first : Lows net.switches net.labels (at tails) (flag used) (at low) unmarked
    lows_first = record {
      labels = λ x h i. ⊎_elim
          (λ q. let f = follows_first p x q in subst (λ (a : ℕ). a < net.labels → T (flag used a) × (at tails a ≡ x)) (sym (first_in_is x q)) (λ k. (f.flagged k, f.leaves k)) i)
          (λ q. absurd (omega (arith, i, first_out x h q))) (T-or (p.part x));
      left = λ b i.
          let q = p.strong.tails b i.0 i.1 in (
            λ _. omega (arith, first_in_is (at tails b) q, (follows_first p (at tails b) q).lowest b (omega arith) i.0 i.1 refl),
            λ _. and_both (flag used b) true i.1 tt,
          );
    }

module _ {S n : ℕ} {tl : ℕ → ℕ} {ok : ℕ → Bool} where
  module _ {low : ℕ → ℕ} {m : ℕ → Bool} (lows : Lows S n tl ok low m) where
    -- the lowest of a switch is uncrossed, and no uncrossed arc of the switch is below it
    pub low_left : (y : ℕ) → y < S → low y < n → T (uncrossed ok m (low y))
    low_left y h i = let l = lows.labels y h i in (lows.left (low y) (i, l.0)).1 (omega (arith, ap low l.1))

    pub low_le : (y b : ℕ) → b < n → T (uncrossed ok m b) → tl b ≡ y → low y ≤ b
    low_le y b h t e = omega (arith, ap low e, (lows.left b (h, and_left (ok b) (not (m b)) t)).0 t)

    -- the nearest arc is the lowest of its switch
    pub nearest_low : (hd : ℕ → ℕ) (u a : ℕ) → Nearest S n tl hd ok m u a → tl a < S → low (tl a) ≡ a
    nearest_low hd u a p h =
        let i : low (tl a) ≤ a = low_le (tl a) a p.is_arc p.is_left refl in
        let j : low (tl a) < n = omega (arith, p.is_arc) in
        ⊎_elim (λ e. e) (λ f. absurd (p.lowest (low (tl a)) (omega (arith, f)) (low_left (tl a) h j) (ap (dist S n tl hd ok u) (lows.labels (tl a) h j).1))) (eq? (low (tl a)) a)

  -- after the lowest label a of its switch, and no other, the next one in the chain is the lowest
  pub lows_next : (low : List ℕ) (m m' : ℕ → Bool) → Lows S n tl ok (at low) m → (a r : ℕ) → at low (tl a) ≡ a → tl a < length low → Follows n tl ok (tl a) (suc a) r
      → ((b : ℕ) → T (uncrossed ok m' b) ↔ (T (uncrossed ok m b) × (b ≡ a → ⊥))) → Lows S n tl ok (at (set low (tl a) r)) m'
  lows_next low m m' lows a r e h f then = record {
    labels = set_cases low (tl a) r 0 h (λ x v. x < S → v < n → T (ok v) × (tl v ≡ x)) (λ _ i. (f.flagged i, f.leaves i)) (λ x _. lows.labels x);
    left = λ b i. set_cases low (tl a) r 0 h (λ x v. tl b ≡ x → T (uncrossed ok m' b) ↔ (v ≤ b)) (same b i) (other b i) (tl b) refl;
  }
    where
      same : (b : ℕ) → InUse n ok b → tl b ≡ tl a → T (uncrossed ok m' b) ↔ (r ≤ b)
      same b i q = (
        λ t. f.lowest b (let u = (then b).0 t in omega (arith, (lows.left b i).0 u.0, ap (at low) q, e, u.1)) i.0 i.1 q,
        λ k. (then b).1 ((lows.left b i).1 (omega (arith, k, f.bottom, ap (at low) q, e)), λ z. omega (arith, k, f.bottom, z)),
      )

      other : (b : ℕ) → InUse n ok b → (x : ℕ) → (x ≡ tl a → ⊥) → tl b ≡ x → T (uncrossed ok m' b) ↔ (at low x ≤ b)
      other b i x g q = (
        λ t. omega (arith, (lows.left b i).0 ((then b).0 t).0, ap (at low) q),
        λ k. (then b).1 ((lows.left b i).1 (omega (arith, k, ap (at low) q)), λ z. g (sym q ∙ ap tl z)),
      )
