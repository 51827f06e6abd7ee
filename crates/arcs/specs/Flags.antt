-- An array of flags that tells where a test passes, and how many flags are set. Assumes nothing.
use Rattle.std.specs.Prelude.{◌≡◌, Bool, false, List, ℕ, length, get_or}
use Rattle.lists.specs.Count.{count}

-- there are n places, and the flag at each number is what the test says of it; so the test fails from n on
pub record Flags (n : ℕ) (test : ℕ → Bool) (flags : List Bool) : Type 0 where
  pub places : length flags ≡ n
  pub tells : (i : ℕ) → get_or flags i false ≡ test i

-- how many flags are set
unfoldable pub count_set : List Bool → ℕ
count_set flags = count (length flags) (λ i. get_or flags i false)
