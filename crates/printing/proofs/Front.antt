-- The front of an input decides what is printed: where the front has more bytes than the longest sound listing, what follows it changes nothing. Assumes nothing.
use mathlib.Core.Path.{◌≡◌, ap}
use mathlib.Core.List.{List}
use Prim.Native.Nat.{ℕ, ◌<◌}
use native.Mathlib.Omega.{arith}
use lib.ListN.{take}
use Rattle.listing.proofs.Longest.{longest_listing}
use Rattle.listing.proofs.Front.{decode_front}
use Rattle.printing.specs.Output.{output_of, printed}

pub printed-front : (n : ℕ) (s : List ℕ) → longest_listing < n → printed (take n s) ≡ printed s
printed-front n s h = ap output_of (decode_front n s h)

-- so does as much of it as fills the buffer of `print_file`
pub printed-buffer : (s : List ℕ) → printed (take 4096 s) ≡ printed s
printed-buffer s = printed-front 4096 s (omega arith)
