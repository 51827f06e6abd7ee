-- Names for what the promises say again and again, of a plant p and one of its switches x. E, the number of links of the component of x, is
-- `links_with p x`.
use Rattle.std.specs.Prelude.{◌≡◌}
use Rattle.demands.specs.Vocabulary.{Bool, List, ℕ, given, answer, Plant, Bytes, reading, links_with, used, place_of, ring_of}
use Rattle.demands.specs.Vocabulary.{order_of, probe_of, probe_run, End, trail_with, round_with}

-- the bytes s are read as the plant p
pub record ReadAs (s : List ℕ) (p : Plant) : Type 0 where
  pub bytes : Bytes s
  pub read : answer (reading s) ≡ given p

module _ (p : Plant) (x : ℕ) where
  -- of the trail of the component of x: the place of x, the ring from it, and the links by first crossing from it
  abbrev pub place_at : ℕ
  place_at = place_of p (trail_with p x) x

  abbrev pub ring_at : List ℕ
  ring_at = ring_of p (trail_with p x) x

  abbrev pub order_at : List ℕ
  order_at = order_of p (trail_with p x) x

  -- of its round trail: the place, and the ring from it
  abbrev pub round_place_at : ℕ
  round_place_at = place_of p (round_with p x) x

  abbrev pub round_ring_at : List ℕ
  round_ring_at = ring_of p (round_with p x) x

  -- the labels of probe m, and its run by the labels that are up
  abbrev pub probe_at : ℕ → List ℕ
  probe_at m = probe_of p (trail_with p x) x (links_with p x) m

  abbrev pub probe_run_at : (ℕ → Bool) → ℕ → End
  probe_run_at up m = probe_run p (used p) (trail_with p x) x (links_with p x) up m
