-- A buffer that a reader filled: what was read is the front of all that the reader had, so what goes by that front alone is the same for both. Assumes nothing.
use Rattle.std.proofs.Common.{◌≡◌, ◌⊎◌, inl, inr, List, [], ◌++◌, ℕ, ◌≤◌, ◌<◌, arith, length, take, sym, ap, ◌∙◌, subst, append-nil, take_all, length-take-le}
use Rattle.std.proofs.lemmas.Bool.{cases_order}
use Rattle.std.proofs.lemmas.List.{take_at}
use Rattle.std.specs.Prelude.{Option, None, Some, IfSome}
use Rattle.std.specs.Io.KnownBytes.{Consumes, IsAtEnd}

-- a reader that gave fewer bytes than the buffer has places gave all
ended : (n : ℕ) (buf s rest : List ℕ) → n ≤ length buf → s ≡ take n buf ++ rest → rest ≡ [] → take n buf ≡ take (length buf) s
ended n buf s rest h e k =
    let all : s ≡ take n buf = e ∙ ap (λ l. take n buf ++ l) k ∙ append-nil (take n buf) in
    let few : length (take n buf) ≤ length buf = omega (arith, length-take-le n buf h) in
    sym (ap (take (length buf)) all ∙ take_all (length buf) (take n buf) few)

full : (n : ℕ) (buf s rest : List ℕ) → n ≡ length buf → s ≡ take n buf ++ rest → take n buf ≡ take (length buf) s
full n buf s rest h e =
    let long : length (take n buf) ≡ length buf = omega (arith, length-take-le n buf (omega arith)) in
    sym (ap (take (length buf)) e ∙ take_at (take n buf) rest (length buf) long)

pub filled : (a b : Option (List ℕ)) (n : ℕ) (buf : List ℕ) → n ≤ length buf → Consumes a b (take n buf) → (n < length buf → IsAtEnd b) → IfSome a (λ s. take n buf ≡ take (length buf) s)
filled None b n buf h p q = tt
filled (Some s) None n buf h p q = absurd p
filled (Some s) (Some rest) n buf h p q = go (cases_order n (length buf))
  where
    go : (n ≡ length buf) ⊎ ((n < length buf) ⊎ (length buf < n)) → take n buf ≡ take (length buf) s
    go (inl e) = full n buf s rest e p
    go (inr (inl l)) = ended n buf s rest h p (q l)
    go (inr (inr l)) = absurd (omega arith)

-- f goes by the first m bytes, and there are m places
module _ (f : List ℕ → List ℕ) (m : ℕ) (front : (s : List ℕ) → f (take m s) ≡ f s) (P : List ℕ → Type 0) where
  pub of_all : (a b : Option (List ℕ)) (n : ℕ) (buf : List ℕ) → m ≡ length buf → n ≤ length buf → Consumes a b (take n buf) → (n < length buf → IsAtEnd b) → P (f (take n buf)) → IfSome a (λ s. P (f s))
  of_all None b n buf e h p q x = tt
  of_all (Some s) b n buf e h p q x = subst P (ap f (filled (Some s) b n buf h p q) ∙ ap (λ k. f (take k s)) (sym e) ∙ front s) x
