-- Places that are filled up to one, and then that one too. Assumes nothing.
use Rattle.std.proofs.Common.{◌≡◌, ◌⊎◌, inl, inr, ℕ, ◌+◌, ◌<◌, List, length, get_or, set, sym, subst, arith}
use Rattle.std.proofs.lemmas.Bool.{cases_eq}
use Rattle.std.proofs.lemmas.List.{get_or-set_same, get_or-set_other}

pub filled_more : {A : Type 0} (holds : ℕ → A → Type 0) (xs : List A) (i : ℕ) (x : A) → i < length xs → holds i x
    → ((k : ℕ) (d : A) → k < i → holds k (get_or xs k d)) → (k : ℕ) (d : A) → k < i + 1 → holds k (get_or (set xs i x) k d)
filled_more holds xs i x room h before k d below =
    go (cases_eq k i) where
      go : (k ≡ i) ⊎ (k ≡ i → ⊥) → holds k (get_or (set xs i x) k d)
      go (inl e) = subst (λ j. holds j (get_or (set xs i x) j d)) (sym e) (subst (holds i) (sym (get_or-set_same xs i x d room)) h)
      go (inr n) = subst (holds k) (sym (get_or-set_other xs i k x d n)) (before k d (omega arith))
