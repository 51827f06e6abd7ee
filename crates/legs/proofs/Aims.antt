-- The legs that are found, one after the other, into a lent array: the arcs that they cross so far, and what is left of the trail. Assumes the parts of a plan.
use mathlib.Core.Path.{◌≡◌, refl, sym, ap, ◌∙◌, subst}
use mathlib.Core.Logic.{⊎_elim}
use mathlib.Core.Bool.{Bool, true, not}
use mathlib.Core.List.{List, [], ◌∷◌, ◌++◌, append-nil}
use Prim.Native.Nat.{ℕ, suc, ◌+◌, ◌-◌, ◌*◌, ◌≤◌, ◌<◌}
use native.Mathlib.Numerals.{add-one}
use native.Mathlib.Omega.{arith}
use lib.Dec.{T}
use Rattle.std.specs.Prelude.{Some, None}
use lib.ListN.{length, set, take, drop, length-set, length-append}
use lib.Seq.{slice, slice_empty, length-take-le, take-set-le, take-suc-set, drop-append-le, append_snoc}
use Rattle.lists.specs.Arrays.{flag, at}
use Rattle.lists.specs.Members.{In}
use Rattle.lists.proofs.Members.{in_append}
use Rattle.lists.specs.Count.{count}
use Rattle.lists.proofs.Count.{count_le}
use Rattle.lists.proofs.Tests.{and_left}
use Rattle.limits.specs.Limits.{max_switches, max_links, max_rules, max_hops}
use Rattle.routes.specs.Trail.{unmarked, mark, marks, uncrossed, nearest, legs, trail}
use Rattle.walks.specs.Walk.{here, step}
use Rattle.routes.specs.Meaning.{InUse, Reached}
use Rattle.routes.proofs.Distances.{route_none}
use Rattle.routes.proofs.Marks.{remaining, marks_less}
use Rattle.routes.proofs.Nearest.{Nearest, nearest_none, nearest?}
use Rattle.routes.proofs.Legs.{one-leg, last-leg, leg-leaves}
use Rattle.arcs.specs.declared.Net.{Net}
use Rattle.arcs.specs.Table.{cell, trail_in}
use Rattle.arcs.specs.Parts.{Parts}
use Rattle.arcs.proofs.Following.{follows_first, follows_after}
use Rattle.arcs.specs.Legs.{route_in, Joined, along}
use Rattle.arcs.proofs.Ways.{parts-hops, part-joined, way_size}
use Rattle.legs.specs.Firsts.{Firsts}
use Rattle.legs.specs.Nearest.{Lows, Tabled, NearestBy}
use Rattle.legs.specs.Several.{SomeParts, Added}
use Rattle.legs.proofs.Lows.{lows_first, lows_next, nearest_low}

-- into the array `lent`, from place `from` on
module _ {net : Net} {tails heads first after : List ℕ} {t : List (List ℕ)} {from : ℕ} (some : SomeParts net tails heads first after t from) (lent : List ℕ) where
  abbrev used : List Bool
  used = some.used

  abbrev p : Parts net tails heads used first after t
  p = some.parts

  abbrev S : ℕ
  S = net.switches

  abbrev n : ℕ
  n = net.labels

  abbrev tl : ℕ → ℕ
  tl = at tails

  abbrev hd : ℕ → ℕ
  hd = at heads

  abbrev ok : ℕ → Bool
  ok = flag used

  abbrev all : List ℕ
  all = trail_in net tails heads used

  abbrev by : List ℕ → ℕ → List ℕ
  by w u = along net tails heads used w u

  -- what the search for the nearest arc goes by
  abbrev tabled : (low : List ℕ) (u : ℕ) (m : ℕ → Bool) → T (p.part u) → Lows S n tl ok (at low) m → Tabled S n t low u
  tabled low u m h lows = record {
    tl = tl;
    hd = hd;
    ok = ok;
    few_switches = p.within.few_switches;
    few_labels = p.within.few_labels;
    part = p.part;
    inside = p.strong.inside;
    tails = p.strong.tails;
    here = h;
    leave = λ y i l. let b = lows.labels y i l in subst (λ (x : ℕ). T (p.part x)) b.1 (p.strong.tails (at low y) l b.0);
    cells = λ v i. p.cells u v h i;
  }

  -- what is left of the trail at u, where the next leg comes to place k
  abbrev rest : ℕ → (ℕ → Bool) → ℕ → List ℕ
  rest k m u = legs S n tl hd ok net.root (from + count n ok - k) m u

  -- the legs before place k are found with so many hops, at u
  pub record Found (low aims : List ℕ) (k hops u : ℕ) : Type 0 where
    pub crossed : ℕ → Bool
    pub inside : T (p.part u)
    pub low_places : length low ≡ max_switches
    pub lows : Lows S n tl ok (at low) crossed
    pub begun : from ≤ k
    pub few : k + remaining ok n crossed ≤ from + count n ok
    pub places : length aims ≡ max_rules
    pub kept : take from aims ≡ take from lent
    pub in_use : (b : ℕ) → In b (slice from k aims) → InUse n ok b
    pub goes : (w : List ℕ) → by w u ≡ rest k crossed u → by (slice from k aims ++ w) net.root ≡ all
    pub counted : hops + length (rest k crossed u) ≡ length all

  -- ---- no leg

  -- where no arc in use leaves the root, there is none at all: over the first arc of a walk from the root to its tail it would
  none_at_all : n ≤ at first net.root → (b : ℕ) → InUse n ok b → ⊥
  none_at_all h b i = go (p.strong.joined net.root (tl b) p.strong.starts (p.strong.tails b i.0 i.1))
    where
      stays : (a : ℕ) → InUse n ok a → tl a ≡ net.root → ⊥
      stays a j e = omega (arith, h, j.0, (follows_first p net.root p.strong.starts).lowest a (omega arith) j.0 j.1 e)

      go : Reached S n tl hd ok net.root (tl b) → ⊥
      go (here e) = stays b i (sym e)
      go (step a j e r) = stays a j e

  -- before place `from` there is none
  nothing : slice from from lent ≡ []
  nothing = slice_empty from lent

  -- so that the trail has no hop
  pub no_legs_is : length lent ≡ max_rules → n ≤ at first net.root → Added net tails heads used lent from (record { from = from; to = from; hops = 0 }) lent
  unfolding trail
  no_legs_is long h = record {
    begin = refl;
    few = omega arith;
    long = long;
    kept = refl;
    legs_are = record {
      order = omega arith;
      within = omega (arith, some.room);
      are = record { in_use = λ a i. absurd (subst (In a) nothing i); goes = end ∙ ap (λ (l : List ℕ). by l net.root) (sym nothing) };
      hops_are = sym (ap length (end ∙ back));
    };
  }
    where
      end : all ≡ route_in net tails heads used net.root net.root
      end = last-leg S n tl hd ok net.root (count n ok) unmarked net.root (λ b i v. none_at_all h b (i, and_left (ok b) true v))

      back : route_in net tails heads used net.root net.root ≡ []
      back = route_none S n tl hd ok net.root net.root refl

  -- ---- the legs one after the other

  pub found_none : length lent ≡ max_rules → (low : List ℕ) → Firsts S n net.root first t max_switches low → Found low lent from 0 net.root
  unfolding trail
  found_none long low firsts = record {
    crossed = unmarked;
    inside = p.strong.starts;
    low_places = firsts.long;
    lows = lows;
    begun = omega arith;
    few = omega (arith, count_le n (uncrossed ok unmarked) ok (λ b h v. and_left (ok b) true v));
    places = long;
    kept = refl;
    in_use = λ b i. absurd (subst (In b) nothing i);
    goes = λ w q. ap (λ (l : List ℕ). by (l ++ w) net.root) nothing ∙ q ∙ whole;
    counted = omega (arith, ap length whole);
  }
    where
      lows : Lows S n tl ok (at low) unmarked
      lows = lows_first p low firsts

      whole : rest from unmarked net.root ≡ all
      whole = let q : from + count n ok - from ≡ count n ok = omega arith in ap (λ (f : ℕ). legs S n tl hd ok net.root f unmarked net.root) q

  module _ {low aims : List ℕ} {k hops u : ℕ} (found : Found low aims k hops u) where
    abbrev m : ℕ → Bool
    m = found.crossed

    -- what the search for the next arc asks
    abbrev pub asks : Tabled S n t low u
    asks = tabled low u m found.inside found.lows

    -- what the next leg makes
    pub record Turn (a : ℕ) : Type 0 where
      pub from_low : u < max_switches
      pub label_low : a < 2 * max_links
      pub tail_low : tl a < max_switches
      pub room : k < max_rules
      pub short : hops + (cell t u (tl a) + 1) ≤ max_hops
      pub again : Found (set low (tl a) (at after a)) (set aims k a) (k + 1) (hops + (cell t u (tl a) + 1)) (hd a)

    pub turn : (a : ℕ) → NearestBy S n t low u (Some a) → Turn a
    turn a told = record {
      from_low = omega (arith, j.from_in, p.within);
      label_low = omega (arith, h, p.within);
      tail_low = omega (arith, j.to_in, p.within);
      room = k_in;
      short = omega (arith, size, found.counted, parts-hops p);
      again = record {
        crossed = m';
        inside = p.strong.heads a h live;
        low_places = length-set low (tl a) (at after a) ∙ found.low_places;
        lows = lows;
        begun = omega (arith, found.begun);
        few = omega (arith, found.few, less);
        places = length-set aims k a ∙ found.places;
        kept = take-set-le from aims k a found.begun ∙ found.kept;
        in_use = λ c i. ⊎_elim (found.in_use c) (⊎_elim (λ e. subst (InUse n ok) (sym e) (h, live)) (λ z. absurd z)) (in_append c (slice from k aims) (a ∷ []) (subst (In c) taken i));
        goes = λ l e. ap (λ (q : List ℕ). by (q ++ l) net.root) taken
            ∙ ap (λ (q : List ℕ). by q net.root) (append_snoc (slice from k aims) a l)
            ∙ found.goes (a ∷ l) (ap (λ (q : List ℕ). w ++ a ∷ q) e ∙ sym leg);
        counted = omega (arith, found.counted, size);
      };
    }
      where
        is : (a ≡ nearest S n tl hd ok m u) × (nearest S n tl hd ok m u < n)
        is = told asks m found.lows

        h : a < n
        h = omega (arith, is)

        near : Nearest S n tl hd ok m u a
        near = ⊎_elim (subst (Nearest S n tl hd ok m u) (sym is.0)) (λ f. absurd (omega (arith, is, nearest_none S n tl hd ok m u f))) (nearest? S n tl hd ok m u)

        live : T (ok a)
        live = and_left (ok a) (not (m a)) near.is_left

        j : Joined net tails heads used p.part u (tl a)
        j = part-joined p u (tl a) found.inside (p.strong.tails a h live)

        w : List ℕ
        w = route_in net tails heads used u (tl a)

        -- what is crossed after the leg
        m' : ℕ → Bool
        m' = mark a (marks w m)

        less : suc (remaining ok n m') ≤ remaining ok n m
        less = marks_less ok n w m a h near.is_left

        leg : rest k m u ≡ w ++ a ∷ rest (k + 1) m' (hd a)
        leg =
            let q : from + count n ok - k ≡ suc (from + count n ok - (k + 1)) = omega (arith, found.few, less) in
            ap (λ (f : ℕ). legs S n tl hd ok net.root f m u) q ∙ one-leg S n tl hd ok net.root (from + count n ok - (k + 1)) m u a near

        size : length (rest k m u) ≡ cell t u (tl a) + 1 + length (rest (k + 1) m' (hd a))
        size = omega (arith, ap length leg, length-append w (a ∷ rest (k + 1) m' (hd a)), way_size p j)

        lows : Lows S n tl ok (at (set low (tl a) (at after a))) m'
        lows =
            lows_next low m m' found.lows a (at after a) (nearest_low found.lows hd u a near j.to_in) (omega (arith, j.to_in, p.within, found.low_places))
            (follows_after p (tl a) a h live refl) (λ b. leg-leaves S n tl hd ok net.root m u a b near j.reached)

        k_in : k < max_rules
        k_in = omega (arith, found.few, less, some.room)

        taken : slice from (k + 1) (set aims k a) ≡ slice from k aims ++ (a ∷ [])
        taken =
            ap (λ (i : ℕ). slice from i (set aims k a)) (add-one k)
            ∙ ap (drop from) (take-suc-set aims k a (omega (arith, k_in, found.places)))
            ∙ drop-append-le from (take k aims) (a ∷ []) (omega (arith, length-take-le k aims (omega (arith, k_in, found.places)), found.begun))

    -- what the way back makes
    pub record End : Type 0 where
      pub from_low : u < max_switches
      pub root_low : net.root < max_switches
      pub room : k ≤ max_rules
      pub short : hops + cell t u net.root ≤ max_hops
      pub added : Added net tails heads used lent from (record { from = from; to = k; hops = hops + cell t u net.root }) aims

    pub ends : NearestBy S n t low u None → End
    ends told = record {
      from_low = omega (arith, j.from_in, p.within);
      root_low = omega (arith, j.to_in, p.within);
      room = omega (arith, found.few, some.room);
      short = omega (arith, size, parts-hops p);
      added = record {
        begin = refl;
        few = omega (arith, found.few);
        long = found.places;
        kept = found.kept;
        legs_are = record {
          order = found.begun;
          within = omega (arith, found.few, some.room);
          are = record { in_use = found.in_use; goes = sym (found.goes [] (sym end)) ∙ ap (λ (q : List ℕ). by q net.root) (append-nil (slice from k aims)) };
          hops_are = size;
        };
      };
    }
      where
        j : Joined net tails heads used p.part u net.root
        j = part-joined p u net.root found.inside p.strong.starts

        end : rest k m u ≡ route_in net tails heads used u net.root
        end =
            last-leg S n tl hd ok net.root (from + count n ok - k) m u
            (⊎_elim (λ q. absurd (omega (arith, told asks m found.lows, q.is_arc))) (λ f. f) (nearest? S n tl hd ok m u))

        size : hops + cell t u net.root ≡ length all
        size = omega (arith, found.counted, ap length end, way_size p j)
