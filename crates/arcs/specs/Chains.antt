-- Inner: the flagged arcs of each switch by rising label, as chains: the first of each switch, and after each the next of the same switch. Assumes nothing.
use Rattle.std.specs.Prelude.{◌≡◌, Bool, ◌&&◌, List, ℕ, suc, ◌-◌, ◌<◌, T, eqb}
use Rattle.lists.specs.Arrays.{flag, at}
use Rattle.lists.specs.Least.{least_from}
use Rattle.limits.specs.Limits.{max_switches}

-- each flagged arc leaves a switch that there can be
abbrev pub TailsIn : ℕ → List ℕ → List Bool → Type 0
TailsIn n tails flags = (a : ℕ) → a < n → T (flag flags a) → at tails a < max_switches

-- the labels below n, the tails of their arcs, and which of them are flagged
module _ (n : ℕ) (tl : ℕ → ℕ) (ok : ℕ → Bool) where
  -- arc a is flagged and leaves x
  abbrev pub leaving : ℕ → ℕ → Bool
  leaving x a = ok a && eqb (tl a) x

  -- the lowest label from a on of a flagged arc that leaves x; n if there is none
  unfoldable pub following : ℕ → ℕ → ℕ
  following x a = least_from (n - a) a (leaving x)

  pub record Chained (first after : List ℕ) : Type 0 where
    pub firsts : (x : ℕ) → x < max_switches → at first x ≡ following x 0
    pub afters : (a : ℕ) → a < n → T (ok a) → at after a ≡ following (tl a) (suc a)
