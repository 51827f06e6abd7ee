-- The outward labels as parts of the trail (document 01, "Rules, packets, ring"): at most two stretches, the one from the place of the
-- injection switch and the front.
use Rattle.std.specs.Prelude.{List, ℕ, ◌-◌, length, take, drop}
use Rattle.rings.specs.Ring.{place, ring}
use Rattle.rings.specs.Probe.{outward}

module _ (tl : ℕ → ℕ) (s : ℕ) (w : List ℕ) (m : ℕ) where
  -- how many labels go out
  unfoldable pub out : ℕ
  out = length (outward m (ring tl s w))

  -- the stretch from the place of s, and that of the front
  unfoldable pub out_stretch : List ℕ
  out_stretch = take out (drop (place tl s w) w)

  unfoldable pub out_front : List ℕ
  out_front = take (out - (length w - place tl s w)) w
