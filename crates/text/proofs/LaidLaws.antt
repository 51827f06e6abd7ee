-- Laws of bytes laid into a buffer, one after the other. Assumes nothing.
use mathlib.Core.Path.{◌≡◌, refl, sym, ap, ap₂, ◌∙◌}
use mathlib.Core.List.{List, [], ◌∷◌, ◌++◌, append_assoc}
use Prim.Native.Nat.{ℕ, ◌+◌, ◌≤◌, ◌<◌}
use native.Mathlib.Omega.{arith}
use lib.ListN.{length, set, take, drop, length-append, length-set}
use lib.Seq.{drop-drop, sets, sets-eq, length-sets, length-take-le, take-append_seam}
use borrow.Rule.Slice.PartMut.{put_mid}
use Rattle.text.specs.Laid.{Laid}
use Rattle.lists.proofs.Arrays.{sets-append}

-- one byte
pub laid-byte : (b : List ℕ) (at x : ℕ) → at < length b → Laid b at (x ∷ []) (set b at x) (at + 1)
laid-byte b at x h =
    let w : at + 1 ≤ length (set b at x) = rw (length-set b at x) (omega arith) in
    record { buffer = refl; place = omega arith; within = w; front = sym (length-take-le (at + 1) (set b at x) w) }

module _ {b : List ℕ} {at : ℕ} {xs b' : List ℕ} {next : ℕ} (l : Laid b at xs b' next) where
  -- the buffer keeps its length
  pub laid_same : length b' ≡ length b
  laid_same = ap length l.buffer ∙ length-sets b at xs

  -- one list after another
  pub laid_then : {ys b'' : List ℕ} {end : ℕ} → Laid b' next ys b'' end → Laid b at (xs ++ ys) b'' end
  laid_then {ys} {b''} {end} m = record {
    buffer = m.buffer ∙ ap₂ (λ (c : List ℕ) (i : ℕ). sets c i ys) l.buffer l.place ∙ sets-append b at xs ys;
    place = omega (arith, l.place, m.place, length-append xs ys);
    within = m.within;
    front = m.front;
  }

-- two bytes, and three
module _ (b : List ℕ) (at x y : ℕ) where
  pub laid-two : at + 1 < length b → Laid b at (x ∷ y ∷ []) (set (set b at x) (at + 1) y) (at + 2)
  laid-two h =
      let e : at + 2 ≡ at + 1 + 1 = omega arith in
      rw e (laid_then (laid-byte b at x (omega arith)) (laid-byte (set b at x) (at + 1) y (rw (length-set b at x) h)))

  pub laid-three : (z : ℕ) → at + 2 < length b → Laid b at (x ∷ y ∷ z ∷ []) (set (set (set b at x) (at + 1) y) (at + 2) z) (at + 3)
  laid-three z h =
      let e : at + 3 ≡ at + 2 + 1 = omega arith in
      let l = laid-two (omega arith) in
      rw e (laid_then l (laid-byte (set (set b at x) (at + 1) y) (at + 2) z (omega (arith, laid_same l))))

-- laid at the front, the bytes are what stands there
pub laid-front : (b xs b' : List ℕ) (next : ℕ) → Laid b 0 xs b' next → take next b' ≡ xs
laid-front b xs b' next l =
    let e : next ≡ length xs = omega (arith, l.place) in
    let h : 0 + length xs ≤ length b = omega (arith, laid_same l, l.within, l.place) in
    rw (e, l.buffer, sets-eq xs b 0 h) (take-append_seam xs (drop (0 + length xs) b))

-- written over the part of the buffer that is as long as they are, they are laid there
pub laid-put : (b : List ℕ) (at k : ℕ) (xs ys : List ℕ) → k ≡ length xs → ys ≡ xs → at + length xs ≤ length b → Laid b at xs (put_mid at k b ys) (at + length xs)
laid-put b at k xs ys e q room =
    let put : put_mid at k b ys ≡ sets b at xs = rw (e, q, sets-eq xs b at room, drop-drop (length xs) at b, append_assoc (take at b) xs (drop (at + length xs) b)) refl in
    let w : at + length xs ≤ length (put_mid at k b ys) = omega (arith, ap length put, length-sets b at xs) in
    record { buffer = put; place = refl; within = w; front = sym (length-take-le (at + length xs) (put_mid at k b ys) w) }
