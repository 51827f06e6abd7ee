-- The buying page of a listing in a lent buffer, by the answer of reading, and by its counts. Assumes nothing.
use mathlib.Core.Path.{◌≡◌, refl, sym, ap, ◌∙◌}
use mathlib.Core.List.{List, ◌++◌}
use Prim.Native.Nat.{ℕ, ◌≤◌, ◌<◌}
use borrow.Author.Tests.{lt-ltb, le-ltb}
use lib.ListN.{length, drop}
use Rattle.plant.specs.declared.Plant.{Plant}
use Rattle.answers.specs.Answers.{Answer, given, refused, ◌>>=◌}
use Rattle.answers.specs.Checks.{answer, leaves}
use Rattle.answers.proofs.Checks.{then_assoc, then_is, goes_on, stops, came_from}
use Rattle.codec.specs.Field.{Bytes}
use Rattle.listing.specs.Listing.{reading}
use Rattle.listing.proofs.RoundTrip.{decode_sound}
use Rattle.sheet.specs.declared.Sheet.{Sheet}
use Rattle.sheet.specs.Page.{buying_page, page_length, writing_page, page_left}
use Rattle.sheet.specs.Shown.{Shown}
use Rattle.quoting.specs.Quotes.{pricing, quoting, page_in}
use Rattle.quoting.specs.Answers.{quoted_out}
use Rattle.quoting.proofs.Counts.{priced_shown}
use Rattle.quoting.proofs.Quotes.{kept-after}
use Rattle.planner.specs.Calls.{quoting_for, buying, bought_out}

module _ (s : List ℕ) (spare : ℕ) (b : List ℕ) where
  module _ (p : Plant) (e : answer (reading s) ≡ given p) where
    pub page-given : answer (quoting p spare b) ≡ answer (buying s spare b)
    unfolding buying
    page-given = sym (goes_on (reading s) (λ q. quoting q spare b) p e)

    pub page-left : quoted_out p spare b ≡ bought_out s spare b
    unfolding quoting_for bought_out
    page-left = ap (leaves (λ c. page_in c b) b) (sym (goes_on (reading s) (λ q. pricing q spare) p e))

  module _ (n : ℕ) (e : answer (reading s) ≡ refused n) where
    pub page-refused : answer (buying s spare b) ≡ refused n
    unfolding buying
    page-refused = stops (reading s) (λ q. quoting q spare b) n e

    pub page-kept : b ≡ bought_out s spare b
    unfolding quoting_for bought_out
    page-kept = sym (ap (leaves (λ c. page_in c b) b) (stops (reading s) (λ q. pricing q spare) n e))

-- ---- the counts, and then the page of these

then_same : {A B : Type 0} (a : Answer A) (f g : A → Answer B) → ((x : A) → f x ≡ g x) → (a >>= f) ≡ (a >>= g)
then_same (given x) f g h = h x
then_same (refused n) f g h = refl

-- spares that are refused alike, or give the same order quantity
pub same-spare : (s : List ℕ) (j k : ℕ) → ((p : Plant) → answer (pricing p j) ≡ answer (pricing p k)) → answer (quoting_for s j) ≡ answer (quoting_for s k)
unfolding quoting_for
same-spare s j k h =
    then_is (reading s) (λ p. pricing p j) ∙ then_same (answer (reading s)) (λ p. answer (pricing p j)) (λ p. answer (pricing p k)) h ∙ sym (then_is (reading s) (λ p. pricing p k))

-- the counts of a listing are such as a page can hold
pub quoted_shown : (s : List ℕ) (spare : ℕ) (c : Sheet) → Bytes s → answer (quoting_for s spare) ≡ given c → Shown c
unfolding quoting_for
quoted_shown s spare c bytes e =
    let g = came_from (reading s) (λ p. pricing p spare) c e in
    priced_shown g.0 (decode_sound s g.0 bytes g.1) spare c g.2

module _ (s : List ℕ) (spare : ℕ) (b : List ℕ) where
  buying-is : answer (buying s spare b) ≡ (answer (quoting_for s spare) >>= λ c. answer (writing_page c b))
  unfolding buying quoting_for quoting
  buying-is =
      then_is (reading s) (λ p. quoting p spare b)
      ∙ then_same (answer (reading s)) (λ p. answer (quoting p spare b)) (λ p. answer (pricing p spare) >>= λ c. answer (writing_page c b)) (λ p. then_is (pricing p spare) (λ c. writing_page c b))
      ∙ sym (then_assoc (answer (reading s)) (λ p. answer (pricing p spare)) (λ c. answer (writing_page c b)))
      ∙ ap (λ (a : Answer Sheet). a >>= λ c. answer (writing_page c b)) (sym (then_is (reading s) (λ p. pricing p spare)))

  -- a refusal of the counts is that of the call
  pub buying-refused : (n : ℕ) → answer (quoting_for s spare) ≡ refused n → answer (buying s spare b) ≡ refused n
  buying-refused n e = buying-is ∙ rw e refl

  module _ (c : Sheet) (e : answer (quoting_for s spare) ≡ given c) where
    -- 18
    pub buying-short : length b < page_length c → answer (buying s spare b) ≡ refused 18
    unfolding writing_page
    buying-short h = buying-is ∙ rw e (rw (lt-ltb (length b) (page_length c) h) refl)

    module _ (h : page_length c ≤ length b) where
      page-fits : answer (writing_page c b) ≡ given (page_length c)
      unfolding writing_page
      page-fits = rw (le-ltb (length b) (page_length c) h) refl

      pub buying-given : answer (buying s spare b) ≡ given (page_length c)
      buying-given = buying-is ∙ rw e page-fits

      pub buying-left : bought_out s spare b ≡ buying_page c ++ drop (page_length c) b
      unfolding bought_out
      buying-left = ap (leaves (λ d. page_in d b) b) e ∙ ap (page_left c b) page-fits

  -- at a refusal of any kind the buffer is as it was
  pub buying-kept : (n : ℕ) → answer (buying s spare b) ≡ refused n → bought_out s spare b ≡ b
  unfolding bought_out
  buying-kept n e = kept-after (answer (quoting_for s spare)) (λ c. answer (writing_page c b)) (λ c k. buying_page c ++ drop k b) b n (sym buying-is ∙ e)
