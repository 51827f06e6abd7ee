-- Bytes laid into a lent buffer: what each function of this crate leaves there and answers. Assumes nothing.
use Rattle.std.specs.Prelude.{◌≡◌, List, ℕ, ◌+◌, ◌≤◌, length, take}
use Rattle.std.proofs.lemmas.List.Edits.{sets}

-- from place `at` on there is room for these bytes
abbrev pub Room : List ℕ → ℕ → List ℕ → Type 0
Room b at bytes = at + length bytes ≤ length b

-- these bytes, laid into b from place `at` on, make b', and `next` is the place after them
pub record Laid (b : List ℕ) (at : ℕ) (bytes b' : List ℕ) (next : ℕ) : Type 0 where
  pub buffer : b' ≡ sets b at bytes
  pub place : next ≡ at + length bytes
  pub within : next ≤ length b'
  -- this follows from `within`; stated, a caller's `&buffer[..next]` needs no proof
  pub front : next ≡ length (take next b')
