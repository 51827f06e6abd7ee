-- Inner: the hop after each hop of a round trail, by what the code reads. No promise of a call needs it. Assumes nothing.
use Rattle.std.specs.Prelude.{◌≡◌, Bool, ◌&&◌, List, ℕ, ◌/◌, ◌<◌, T, ltb}
use Rattle.lists.specs.Tests.{choose}
use Rattle.lists.specs.Arrays.{flag, at}
use Rattle.limits.specs.Limits.{max_switches}
use Rattle.walks.specs.Arcs.{opposite}

-- the next leading arc, a label below n, or the way back
unfoldable pub or_back : ℕ → ℕ → ℕ → ℕ
or_back n next up = choose (ltb next n) next up

-- every arc leads to a switch that there can be
abbrev pub HeadsIn : List ℕ → Type 0
HeadsIn heads = (a : ℕ) → at heads a < max_switches

module _ (n : ℕ) (heads : List ℕ) (leading entered : List Bool) where
  -- a switch is entered by arc a
  abbrev pub enters_by : ℕ → Bool
  enters_by a = flag leading a && flag entered (a / 2)

  -- each switch by one arc alone
  pub record EntersOnce : Type 0 where
    pub heads_in : HeadsIn heads
    pub once : (a b : ℕ) → T (enters_by a) → T (enters_by b) → at heads a ≡ at heads b → a ≡ b

  -- from each switch that is entered the way back is the opposite arc
  abbrev pub WaysBack : List ℕ → Type 0
  WaysBack up = (a : ℕ) → a < n → T (enters_by a) → at up (at heads a) ≡ opposite a

module _ (n : ℕ) (heads : List ℕ) (leading entered : List Bool) (first after up : List ℕ) where
  unfoldable pub hop_after : ℕ → ℕ
  hop_after a =
      choose (flag leading a) (choose (flag entered (a / 2)) (or_back n (at first (at heads a)) (at up (at heads a))) (opposite a))
      (or_back n (at after (opposite a)) (at up (at heads a)))

  abbrev pub HopsAfter : List ℕ → Type 0
  HopsAfter next = (a : ℕ) → a < n → at next a ≡ hop_after a
