-- The links of a ring gathered label by label: what the loop's values hold after i labels. Assumes that each link has a place.
use mathlib.Core.Path.{◌≡◌, refl, sym, ap, ◌∙◌, subst}
use mathlib.Core.Logic.{inl, inr}
use mathlib.Core.Bool.{Bool, true, false, ◌||◌}
use mathlib.Core.List.{List, [], ◌∷◌, ◌++◌, append_assoc, append-nil}
use Prim.Native.Nat.{ℕ, ◌+◌, ◌-◌, ◌/◌, ◌≤◌, ◌<◌}
use native.Mathlib.Omega.{arith}
use lib.Dec.{eqb}
use lib.ListN.{length, get_or, take, set, replicate, length-append, length-set, length-replicate}
use lib.Seq.{take-append_seam}
use Rattle.lists.specs.Members.{In, memb}
use Rattle.lists.proofs.Members.{get_d_same}
use Rattle.lists.specs.Padded.{padded}
use Rattle.lists.proofs.Padded.{padded_put, padded-at}
use Rattle.lists.proofs.Arrays.{flag_set}
use Rattle.lists.proofs.Count.{count-all, distinct_count}
use Rattle.limits.specs.Limits.{max_links}
use Rattle.rings.specs.Ring.{read_from}
use Rattle.rings.proofs.Ring.{read-labels}
use Rattle.rings.specs.Order.{firsts, order, nth}
use Rattle.rings.proofs.Order.{order_distinct, order_label, firsts_old, firsts-new}
use Rattle.order.specs.Order.{listed}

-- the links listed are the places up to the count
pub listed-links : (ls : List ℕ) → take (listed ls).count (listed ls).links ≡ ls
unfolding listed
listed-links ls = take-append_seam ls (replicate (max_links - length ls) 0)

-- and the m-th of them is where the code looks for it
pub listed_nth : (ls : List ℕ) (m : ℕ) → get_or (listed ls).links (m - 1) 0 ≡ nth ls m
unfolding listed
listed_nth ls m = padded-at max_links 0 ls (m - 1)

-- ---- the loop

-- before these labels of the ring: the links so far, those met with the newest first, and those to come
pub record Gathered (ring left : List ℕ) (links : List ℕ) (seen : List Bool) (n : ℕ) : Type 0 where
  pub so_far : List ℕ
  pub met : List ℕ
  pub placed : links ≡ padded max_links 0 so_far
  pub counted : n ≡ length so_far
  pub flags : length seen ≡ max_links
  pub told : (l : ℕ) → get_or seen l false ≡ memb l met
  pub rest : so_far ++ firsts met left ≡ order ring
  pub within : (b : ℕ) → In b left → In b ring

pub gathered_none : (ring : List ℕ) → Gathered ring ring (replicate max_links 0) (replicate max_links false) 0
unfolding order
gathered_none ring = record {
  so_far = [];
  met = [];
  placed = refl;
  counted = refl;
  flags = length-replicate max_links false;
  told = λ l. get_d_same max_links l false;
  rest = refl;
  within = λ b h. h;
}

module _ (w : List ℕ) (k : ℕ) (few : (b : ℕ) → In b w → b / 2 < max_links) where
  abbrev r : List ℕ
  r = read_from k w

  pub gathered_all : {left : List ℕ} {links : List ℕ} {seen : List Bool} {n : ℕ} → left ≡ [] → Gathered r left links seen n → record { count = n; links = links } ≡ listed (order r)
  unfolding listed
  gathered_all {left} e g =
      let all : g.so_far ≡ order r = sym (ap (λ (v : List ℕ). g.so_far ++ firsts g.met v) e ∙ append-nil g.so_far) ∙ g.rest in
      rw (g.placed, g.counted, all)

  few_in : (b : ℕ) → In b r → b / 2 < max_links
  few_in b h = few b ((read-labels k w b).0 h)

  -- there are no more links in the order than places
  order-fits : length (order r) ≤ max_links
  order-fits = omega (arith, distinct_count max_links (order r) (order_distinct r) below, count-all max_links (λ l. memb l (order r)))
    where
      below : (l : ℕ) → In l (order r) → l < max_links
      below l h = let c = order_label r l h in subst (λ (j : ℕ). j < max_links) c.2 (few_in c.0 c.1)

  -- label a comes next
  module _ {left : List ℕ} {links : List ℕ} {seen : List Bool} {n : ℕ} (g : Gathered r left links seen n) {a : ℕ} {more : List ℕ} (next : left ≡ a ∷ more) where
    within_more : (b : ℕ) → In b (a ∷ more) → In b r
    within_more b h = g.within b (subst (λ (v : List ℕ). In b v) (sym next) h)

    pub link_in : a / 2 < max_links
    link_in = few_in a (within_more a (inl refl))

    -- the order by what becomes of that label
    becomes : (v : List ℕ) → firsts g.met (a ∷ more) ≡ v → g.so_far ++ v ≡ order r
    becomes v q = sym (ap (λ (u : List ℕ). g.so_far ++ u) (ap (firsts g.met) next ∙ q)) ∙ g.rest

    -- the link was crossed before
    pub gathered_old : get_or seen (a / 2) false ≡ true → Gathered r more links seen n
    gathered_old t = record {
      so_far = g.so_far;
      met = g.met;
      placed = g.placed;
      counted = g.counted;
      flags = g.flags;
      told = g.told;
      rest = becomes _ (firsts_old g.met more a (sym (g.told (a / 2)) ∙ t));
      within = λ b h. within_more b (inr h);
    }

    -- the link is crossed for the first time
    module _ (t : get_or seen (a / 2) false ≡ false) where
      abbrev later : List ℕ
      later = firsts ((a / 2) ∷ g.met) more

      one_more : g.so_far ++ ((a / 2) ∷ later) ≡ order r
      one_more = becomes _ (firsts-new g.met more a (sym (g.told (a / 2)) ∙ t))

      pub room : n < max_links
      room = omega (arith, g.counted, order-fits, ap length one_more, length-append g.so_far ((a / 2) ∷ later))

      pub gathered_new : Gathered r more (set links n (a / 2)) (set seen (a / 2) true) (n + 1)
      gathered_new = record {
        so_far = g.so_far ++ ((a / 2) ∷ []);
        met = (a / 2) ∷ g.met;
        placed = rw (g.placed, g.counted) (padded_put max_links 0 g.so_far (a / 2) (omega (arith, g.counted, room)));
        counted = omega (arith, g.counted, length-append g.so_far ((a / 2) ∷ []));
        flags = length-set seen (a / 2) true ∙ g.flags;
        told = λ j. flag_set seen (a / 2) j (omega (arith, g.flags, link_in)) ∙ ap (λ (b : Bool). eqb j (a / 2) || b) (g.told j);
        rest = append_assoc g.so_far ((a / 2) ∷ []) later ∙ one_more;
        within = λ b h. within_more b (inr h);
      }
