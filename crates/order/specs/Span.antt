-- The outward labels of a probe as parts of the trail (document 01, "Rules, packets, ring"): where they stand, and what stands there in a
-- lent trail.
use Rattle.std.specs.Prelude.{List, ℕ, ◌+◌, ◌-◌, length, take, drop}
use Rattle.plant.specs.declared.Plant.{Plant}
use Rattle.walks.specs.Arcs.{tail}
use Rattle.rings.specs.Injection.{place_of}
use Rattle.rings.specs.Parts.{out_stretch, out_front}
use Rattle.order.specs.declared.Span.{Span}

-- for the trail w and injection at switch s: where the ring stands
unfoldable pub ring_span : Plant → List ℕ → ℕ → Span
ring_span p w s = record { from = place_of p w s; len = length w - place_of p w s; begin = 0; front = place_of p w s }

-- where the outward labels of probe m stand
unfoldable pub span_of : Plant → List ℕ → ℕ → ℕ → Span
span_of p w s m = record {
  from = place_of p w s;
  len = length (out_stretch (tail p) s w m);
  begin = 0;
  front = length (out_front (tail p) s w m);
}

-- where the same labels stand in a list that has the trail from place k on
unfoldable pub shifted_by : Span → ℕ → Span
shifted_by b k = record { from = b.from + k; len = b.len; begin = b.begin + k; front = b.front }

-- the stretch that bounds name in a trail, and the front: as much of each as is there
abbrev pub stretch_of : List ℕ → Span → List ℕ
stretch_of w b = take b.len (drop b.from w)

abbrev pub front_of : List ℕ → Span → List ℕ
front_of w b = take b.front (drop b.begin w)
