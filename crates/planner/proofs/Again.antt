-- Read and written again, written and read again: what the two calls answer together. Assumes nothing.
use mathlib.Core.Path.{◌≡◌, sym, ap, ◌∙◌}
use mathlib.Core.List.{List, [], ◌∷◌, ◌++◌}
use Prim.Native.Nat.{ℕ, ◌≤◌}
use native.Mathlib.Omega.{arith}
use lib.ListN.{length, take, drop}
use Rattle.plant.specs.declared.Plant.{Plant}
use Rattle.answers.specs.Answers.{given, refused}
use Rattle.answers.specs.Checks.{check, answer, leaves}
use Rattle.answers.proofs.Checks.{goes_on, stops, gives_so, refuses_so}
use Rattle.codec.specs.Field.{Bytes}
use Rattle.listing.specs.Listing.{encode, reading}
use Rattle.listing.specs.Writing.{sound_plant, buffer_short, buffer_after, writing}
use Rattle.listing.specs.Steps.{Typed}
use Rattle.listing.proofs.RoundTrip.{read_write, decode_sound}
use Rattle.listing.proofs.WriteRoundTrip.{sound-given, written-given, written_read, buffer-length}
use Rattle.planner.specs.Calls.{rewriting, rewritten, rereading}

-- ---- read and written again

module _ (s b : List ℕ) where
  module _ (p : Plant) (bytes : Bytes s) (e : answer (reading s) ≡ given p) where
    same : encode p ≡ s
    same = read_write s p bytes e

    pub again_answer : answer (writing p b) ≡ answer (rewriting s b)
    unfolding rewriting writing
    again_answer =
        goes_on (sound_plant p) (λ _. check ((16, buffer_short (encode p) b) ∷ []) (length (encode p))) tt (sound-given p (decode_sound s p bytes e)) ∙ rw same (sym (goes_on (reading s) (λ _. check ((16, buffer_short s b) ∷ []) (length s)) p e))

    pub again_buffer : buffer_after p b ≡ rewritten s b
    unfolding rewritten buffer_after
    again_buffer = ap (leaves (λ n. encode p ++ drop n b) b) again_answer ∙ ap (λ (x : List ℕ). leaves (λ n. x ++ drop n b) b (answer (rewriting s b))) same

  module _ (n : ℕ) (e : answer (reading s) ≡ refused n) where
    pub again_refused : answer (rewriting s b) ≡ refused n
    unfolding rewriting
    again_refused = stops (reading s) (λ _. check ((16, buffer_short s b) ∷ []) (length s)) n e

    pub again_kept : b ≡ rewritten s b
    unfolding rewritten
    again_kept = sym (ap (leaves (λ n. s ++ drop n b) b) again_refused)

-- ---- written and read again

module _ (p : Plant) (b : List ℕ) where
  pub back-refused : (m : ℕ) → answer (writing p b) ≡ refused m → answer (rereading p b) ≡ refused m
  unfolding rereading
  back-refused m e = refuses_so (writing p b) (λ _. p) m e

  module _ (n : ℕ) (e : answer (writing p b) ≡ given n) where
    -- the listing lies in the buffer
    pub back-room : n ≤ length (buffer_after p b)
    back-room = let w = written-given p b n e in omega (arith, w.1, w.2, buffer-length p b)

    pub back-given : Typed p → answer (reading (take n (buffer_after p b))) ≡ answer (rereading p b)
    unfolding rereading
    back-given t = written_read p b n t e ∙ sym (gives_so (writing p b) (λ _. p) n e)
