-- Known bytes that grow by one call and then by another grow by both. Assumes nothing.
use Rattle.std.proofs.Common.{List, [], ◌++◌, ℕ}
use Rattle.std.specs.Prelude.{Option}
use Rattle.std.specs.Io.KnownBytes.{Appends}
use Rattle.std.proofs.KnownBytes.{Appends-nil, Appends-trans}
use Rattle.streams.specs.Streams.{Grows}

pub grows_by : (a b : Option (List ℕ)) (more : List ℕ) → Appends a b more → Grows a b
unfolding Grows
grows_by a b more h = (more, h)

pub grows_none : (a : Option (List ℕ)) → Grows a a
grows_none a = grows_by a a [] (Appends-nil a)

pub grows_twice : (a b c : Option (List ℕ)) → Grows a b → Grows b c → Grows a c
unfolding Grows
grows_twice a b c g h = (g.0 ++ h.0, Appends-trans a b c g.0 h.0 g.1 h.1)
