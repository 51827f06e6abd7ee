-- The outward labels are the two stretches of the trail, one after the other, and the way back is over the same two. Assumes nothing.
use mathlib.Core.Path.{◌≡◌, sym, ap, ◌∙◌}
use mathlib.Core.List.{List, [], ◌∷◌, ◌++◌, append_assoc, append-nil}
use Prim.Native.Nat.{ℕ, ◌-◌, ◌≤◌}
use native.Mathlib.Omega.{arith}
use lib.ListN.{length, take, drop, length-append, length-drop}
use lib.Seq.{take-take, length-take-le, take-append_seam}
use Rattle.walks.specs.Arcs.{opposite}
use Rattle.rings.specs.Ring.{read_from, place, ring}
use Rattle.rings.specs.Probe.{back, outward}
use Rattle.rings.proofs.Ring.{place-most}
use Rattle.rings.proofs.Probe.{outward-front}
use Rattle.lists.proofs.Parts.{take-append}
use Rattle.rings.specs.Parts.{out, out_stretch, out_front}

-- ---- a trail read from a place

pub read_length : (k : ℕ) (w : List ℕ) → k ≤ length w → length (read_from k w) ≡ length w
unfolding read_from
read_length k w h = length-append (drop k w) (take k w) ∙ omega (arith, length-drop k w, length-take-le k w h)

-- the first n labels of it are a stretch from place k, and where that reaches the trail's end a stretch of the front
pub read_take : (n k : ℕ) (w : List ℕ) → k ≤ length w → n ≤ length w → take n (read_from k w) ≡ take n (drop k w) ++ take (n - (length w - k)) w
unfolding read_from
read_take n k w h i =
    take-append n (drop k w) (take k w)
    ∙ rw length-drop (ap (λ (l : List ℕ). take n (drop k w) ++ l) (take-take (n - (length w - k)) k w (omega arith)))

-- ---- the outward labels are the first of the ring

outward-take : (m : ℕ) (r : List ℕ) → outward m r ≡ take (length (outward m r)) r
outward-take m r =
    let v = outward-front m r in
    sym (ap (take (length (outward m r))) (sym v.1) ∙ take-append_seam (outward m r) v.0)

outward-most : (m : ℕ) (r : List ℕ) → length (outward m r) ≤ length r
outward-most m r = let v = outward-front m r in omega (arith, length-append (outward m r) v.0, ap length v.1)

-- ---- the two stretches

pub back-append : (x y : List ℕ) → back (x ++ y) ≡ back y ++ back x
back-append [] y = sym (append-nil (back y))
back-append (a ∷ x) y = ap (λ (l : List ℕ). l ++ (opposite a ∷ [])) (back-append x y) ∙ append_assoc (back y) (back x) (opposite a ∷ [])

module _ (tl : ℕ → ℕ) (s : ℕ) (w : List ℕ) (m : ℕ) where
  pub out-most : out tl s w m ≤ length w
  unfolding out ring
  out-most = omega (arith, outward-most m (ring tl s w), read_length (place tl s w) w (place-most tl s w))

  pub outward-parts : outward m (ring tl s w) ≡ out_stretch tl s w m ++ out_front tl s w m
  unfolding out_stretch out_front out ring
  outward-parts = outward-take m (ring tl s w) ∙ read_take (out tl s w m) (place tl s w) w (place-most tl s w) out-most

  -- out over the two and back over them
  pub there_and_back : outward m (ring tl s w) ++ back (outward m (ring tl s w)) ≡ (out_stretch tl s w m ++ out_front tl s w m) ++ (back (out_front tl s w m) ++ back (out_stretch tl s w m))
  there_and_back = rw outward-parts (ap (λ (l : List ℕ). (out_stretch tl s w m ++ out_front tl s w m) ++ l) (back-append (out_stretch tl s w m) (out_front tl s w m)))
