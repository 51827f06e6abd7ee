-- The bounds of the outward labels: the parts that they name are the two stretches of the outward labels, and they stand in the trail; where a list has the trail from a place on,
-- the shifted bounds name the same parts. Assumes nothing.
use mathlib.Core.Path.{◌≡◌, refl, sym, ap, ap₂, ◌∙◌}
use mathlib.Core.List.{List, [], ◌∷◌, ◌++◌}
use Rattle.std.proofs.Common.{min}
use Prim.Native.Nat.{ℕ, zero, suc, ◌+◌, ◌-◌, ◌≤◌}
use native.Mathlib.Omega.{arith}
use lib.ListN.{length, get_or, take, drop, length-append, length-take, length-drop, take-append-drop}
use lib.Seq.{take_all, take-append-le, drop-append-le, drop-drop}
use Rattle.plant.specs.declared.Plant.{Plant}
use Rattle.walks.specs.Arcs.{tail}
use Rattle.rings.specs.Ring.{read_from, ring}
use Rattle.rings.specs.Order.{order}
use Rattle.rings.specs.Probe.{up_to, outward}
use Rattle.rings.specs.Injection.{place_of, ring_of}
use Rattle.rings.specs.Parts.{out, out_stretch, out_front}
use Rattle.rings.proofs.Parts.{out-most, outward-parts}
use Rattle.order.specs.declared.Order.{Order}
use Rattle.order.specs.declared.Span.{Span}
use Rattle.order.specs.Order.{listed}
use Rattle.order.specs.Span.{ring_span, span_of, shifted_by, stretch_of, front_of}
use Rattle.order.proofs.Rings.{place_in}
use Rattle.order.proofs.Gathering.{listed_nth}

take_length_take : (n : ℕ) (l : List ℕ) → take (length (take n l)) l ≡ take n l
take_length_take zero l = refl
take_length_take (suc n) [] = refl
take_length_take (suc n) (a ∷ l) = ap (λ (k : List ℕ). a ∷ k) (take_length_take n l)

-- ---- what the bounds name

-- those of the full check: the ring
pub ring-parts : (p : Plant) (w : List ℕ) (s : ℕ) → stretch_of w (ring_span p w s) ++ front_of w (ring_span p w s) ≡ ring_of p w s
unfolding ring_span ring_of ring read_from
ring-parts p w s = rw (take_all (length w - place_of p w s) (drop (place_of p w s) w) (omega (arith, length-drop (place_of p w s) w)))

-- those of probe m: the outward labels
module _ (p : Plant) (w : List ℕ) (s m : ℕ) where
  pub span-stretch : stretch_of w (span_of p w s m) ≡ out_stretch (tail p) s w m
  unfolding span_of out_stretch
  span-stretch = take_length_take (out (tail p) s w m) (drop (place_of p w s) w)

  pub span-front : front_of w (span_of p w s m) ≡ out_front (tail p) s w m
  unfolding span_of out_front
  span-front = take_length_take (out (tail p) s w m - (length w - place_of p w s)) w

  -- the two together
  pub span-outward : stretch_of w (span_of p w s m) ++ front_of w (span_of p w s m) ≡ outward m (ring_of p w s)
  unfolding ring_of
  span-outward = rw (span-stretch, span-front) (sym (outward-parts (tail p) s w m))

  -- they are no more labels than the trail has
  pub span_fits : length (stretch_of w (span_of p w s m)) + length (front_of w (span_of p w s m)) ≤ length w
  unfolding ring_of out
  span_fits =
      omega (
        arith,
        length-append (stretch_of w (span_of p w s m)) (front_of w (span_of p w s m)),
        ap length span-outward,
        out-most (tail p) s w m,
      )

  -- ---- how the code finds them

  -- the labels that go out
  module _ (k n : ℕ) (o : Order) (at : k ≡ place_of p w s) (lists : o ≡ listed (order (read_from k w))) (goes : n ≡ length (up_to (get_or o.links (m - 1) 0) (read_from k w))) where
    out-is : n ≡ out (tail p) s w m
    unfolding out outward ring
    out-is = goes ∙ rw (lists, listed_nth (order (read_from k w)) m, at)

    -- the stretch has what there is of them from the place on, and the front the rest
    pub span-found : (x : ℕ) → x ≡ min n (length w - k) → record { from = k; len = x; begin = 0; front = n - x } ≡ span_of p w s m
    unfolding span_of out_stretch out_front
    span-found x e =
        let most : n ≤ length w = omega (arith, out-is, out-most (tail p) s w m) in
        let stretch : length (take n (drop k w)) ≡ x = omega (arith, e, length-take n (drop k w), length-drop k w) in
        let front : length (take (n - (length w - k)) w) ≡ n - x = omega (arith, e, length-take (n - (length w - k)) w, most) in
        rw (sym out-is, sym at, stretch, front)

-- ---- parts within a stretch of a list

-- both parts that bounds name are there
pub record Stands (v : List ℕ) (b : Span) : Type 0 where
  pub stretch : b.from + b.len ≤ length v
  pub front : b.begin + b.front ≤ length v

pub ring-stands : (p : Plant) (w : List ℕ) (s : ℕ) → Stands w (ring_span p w s)
unfolding ring_span
ring-stands p w s = let h = place_in p w s (place_of p w s) refl in record { stretch = omega (arith, h); front = omega (arith, h) }

pub span-stands : (p : Plant) (w : List ℕ) (s m : ℕ) → Stands w (span_of p w s m)
unfolding span_of out_stretch out_front
span-stands p w s m =
    let h = place_in p w s (place_of p w s) refl in
    let n : ℕ = out (tail p) s w m in
    record {
      stretch = omega (arith, h, length-take n (drop (place_of p w s) w), length-drop (place_of p w s) w);
      front = omega (arith, length-take (n - (length w - place_of p w s)) w);
    }

-- the list w has v from place k on
module _ (w v : List ℕ) (k n : ℕ) (has : take n (drop k w) ≡ v) where
  rest : drop k w ≡ v ++ drop n (drop k w)
  rest = sym (take-append-drop n (drop k w)) ∙ ap (λ (l : List ℕ). l ++ drop n (drop k w)) has

  within : length v ≤ length w - k
  within = omega (arith, ap length rest, length-append v (drop n (drop k w)), length-drop k w)

  pub part_shifted : (i j : ℕ) → i + j ≤ length v → take j (drop (i + k) w) ≡ take j (drop i v)
  part_shifted i j h =
      let e : i + k ≡ k + i = omega arith in
      ap (λ (a : ℕ). take j (drop a w)) e
      ∙ ap (take j) (sym (drop-drop i k w) ∙ ap (drop i) rest ∙ drop-append-le i v (drop n (drop k w)) (omega arith))
      ∙ take-append-le j (drop i v) (drop n (drop k w)) (omega (arith, length-drop i v))

  module _ (b : Span) (stands : Stands v b) where
    -- the parts of v are those of w that the shifted bounds name
    pub stretch_shifted : stretch_of w (shifted_by b k) ≡ stretch_of v b
    unfolding shifted_by
    stretch_shifted = part_shifted b.from b.len stands.stretch

    pub front_shifted : front_of w (shifted_by b k) ≡ front_of v b
    unfolding shifted_by
    front_shifted = part_shifted b.begin b.front stands.front

    pub parts_shifted : stretch_of w (shifted_by b k) ++ front_of w (shifted_by b k) ≡ stretch_of v b ++ front_of v b
    parts_shifted = ap₂ (λ (x y : List ℕ). x ++ y) stretch_shifted front_shifted

    -- they begin within w
    pub shifted_fits : k ≤ length w → (b.from + k ≤ length w) × (b.begin + k ≤ length w)
    shifted_fits h = (omega (arith, within, stands.stretch), omega (arith, within, stands.front))
