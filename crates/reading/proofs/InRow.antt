-- The promises of the steps in a row are `read`'s: each step goes on where the last one ended, and a refusal stands. Assumes nothing.
use mathlib.Core.Path.{◌≡◌, sym, ap, ◌∙◌}
use mathlib.Core.List.{List}
use Prim.Native.Nat.{ℕ}
use denote.Ref.{Bor}
use Rattle.std.specs.Prelude.{Result, Ok, Err, IfOk}
use Rattle.plant.specs.declared.Plant.{Plant}
use Rattle.answers.specs.declared.Refusal.{Refusal}
use Rattle.answers.specs.Answers.{Answer, given, refused, number_of, ◌>>=◌}
use Rattle.answers.specs.Results.{answer_as, answer_of}
use Rattle.answers.specs.Checks.{answer, ◌then◌}
use Rattle.answers.proofs.Checks.{given-refused, refused-refused, goes_on, stops}
use Rattle.listing.specs.Listing.{header, linked, ended, reading}
use Rattle.listing.specs.Steps.{plant_of, header_of, linked_of}
use Rattle.listing.specs.declared.header.Header.{Header}
use Rattle.listing.specs.declared.Linked.{Linked}
use Rattle.reading.specs.declared.Reading.{Reading}
use Rattle.reading.specs.Carried.{reading_at, bytes, left}

-- the header
module _ (s : Bor (List ℕ)) (r : Reading) (r_is : r ≡ reading_at s 0) where
  pub header_refused : (n : ℕ) → refused n ≡ answer (header (left r)) → refused n ≡ answer (reading s.now)
  unfolding reading
  header_refused n e = sym (stops (header s.now then λ x. linked x.0 x.1) (λ x. ended x.0 x.1) n (stops (header s.now) (λ x. linked x.0 x.1) n (sym (rw r_is at e))))

  -- the links
  module _ (h : Header) (e : given (header_of (bytes r) h) ≡ answer (header (left r))) (q : Reading) (q_is : q ≡ reading_at r.listing h.next) where
    q_at : q ≡ reading_at s h.next
    q_at = q_is ∙ ap (λ (x : Reading). reading_at x.listing h.next) r_is

    to_links : answer (header s.now then λ x. linked x.0 x.1) ≡ answer (linked (plant_of h) (left q))
    to_links = goes_on (header s.now) (λ x. linked x.0 x.1) (header_of s.now h) (sym (rw r_is at e)) ∙ rw q_at

    pub links_refused : (n : ℕ) → refused n ≡ answer (linked (plant_of h) (left q)) → refused n ≡ answer (reading s.now)
    unfolding reading
    links_refused n f = sym (stops (header s.now then λ x. linked x.0 x.1) (λ x. ended x.0 x.1) n (to_links ∙ sym f))

    -- the end
    pub all_given : (l : Linked) → given (linked_of (bytes q) l) ≡ answer (linked (plant_of h) (left q)) → (p : Reading) → p ≡ reading_at q.listing l.next
        → (a : Answer Plant) → a ≡ answer (ended l.plant (left p)) → a ≡ answer (reading s.now)
    unfolding reading
    all_given l f p p_is a g =
        let p_at : p ≡ reading_at s l.next = p_is ∙ ap (λ (x : Reading). reading_at x.listing l.next) q_at in
        rw p_at at g
        ∙ sym (goes_on (header s.now then λ x. linked x.0 x.1) (λ x. ended x.0 x.1) (linked_of s.now l) (to_links ∙ sym f ∙ ap (λ (x : Reading). given (linked_of (bytes x) l)) q_at))

-- the three steps, of which each may be refused: h is what the header comes to, l the links after it, and d the end after them
pub in_row : (s : Bor (List ℕ)) (r : Reading) → r ≡ reading_at s 0
    → (h : Result Header Refusal) → answer_as (header_of (bytes r)) h ≡ answer (header (left r))
    → (q : Reading) → IfOk h (λ x. q ≡ reading_at r.listing x.next)
    → (l : Result Linked Refusal) → answer_as (linked_of (bytes q)) l ≡ (answer_of h >>= λ x. answer (linked (plant_of x) (left q)))
    → (p : Reading) → IfOk l (λ x. p ≡ reading_at q.listing x.next)
    → (d : Result Plant Refusal) → answer_of d ≡ (answer_of l >>= λ x. answer (ended x.plant (left p)))
    → answer_of d ≡ answer (reading s.now)
in_row s r r_is (Ok x) e q q_is (Ok y) f p p_is d g = all_given s r r_is x e q q_is y f p p_is (answer_of d) g
in_row s r r_is (Ok x) e q q_is (Err k) f p p_is d g = g ∙ links_refused s r r_is x e q q_is (number_of k) f
in_row s r r_is (Err k) e q q_is (Ok y) f p p_is d g = absurd (given-refused _ _ f)
in_row s r r_is (Err k) e q q_is (Err j) f p p_is d g = g ∙ ap (λ (n : ℕ). refused n) (refused-refused _ _ f) ∙ header_refused s r r_is (number_of k) e
