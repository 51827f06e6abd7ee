-- Each state of a search over e links stands for an interval within 1 .. e + 1: the places that the first broken link can still have, where e + 1 says that no link
-- is broken. A probe m that counts as returned leaves the places after m, and one that counts as lost those up to m; there is then one probe less to take. A sending lost
-- that settles nothing leaves all of them. Assumes nothing.
use mathlib.Core.Path.{◌≡◌, refl, ap, subst}
use mathlib.Core.Bool.{Bool, true, false}
use Prim.Native.Nat.{ℕ, ◌+◌, ◌-◌, ◌/◌, ◌≤◌, ◌<◌}
use native.Mathlib.Omega.{arith}
use lib.Dec.{eqb}
use borrow.Author.Tests.{eqb-true, eqb-false, ne_eqb, ltb-true, ltb-false, not-true, not-false}
use Rattle.lists.specs.Tests.{choose}
use Rattle.lists.proofs.Tests.{not_both}
use Rattle.allowance.specs.Allowance.{allowance}
use Rattle.allowance.proofs.Ceiling.{allowance_half}
use Rattle.search.specs.declared.Search.{Search}
use Rattle.search.specs.declared.Search.TheVariants.{Checking, Halving, AllUp, Down}
use Rattle.search.specs.declared.Outcome.{Outcome}
use Rattle.search.specs.declared.Outcome.TheVariants.{Returned, Lost}
use Rattle.search.specs.Search.{tries, new_search, short, ended, wanted, lost_so_far, settles, narrowed, settled, once_more, next}
use Rattle.search.specs.Sound.{Good}
use Rattle.search.specs.Limit.{limit}

-- f is one of the places: no place before the first, and none after the last
abbrev pub AtLeast : ℕ → Search → ℕ → Type 0
AtLeast e (Checking count lost) f = 1 ≤ f
AtLeast e (Halving low high lost) f = low ≤ f
AtLeast e AllUp f = e + 1 ≤ f
AtLeast e (Down place) f = place ≤ f

abbrev pub AtMost : ℕ → Search → ℕ → Type 0
AtMost e (Checking count lost) f = f ≤ e + 1
AtMost e (Halving low high lost) f = f ≤ high
AtMost e AllUp f = f ≤ e + 1
AtMost e (Down place) f = f ≤ place

-- the probes that a state can still take
abbrev pub left : Search → ℕ
left (Checking count lost) = 1 + allowance count
left (Halving low high lost) = allowance (high + 1 - low)
left AllUp = 0
left (Down place) = 0

-- ---- what holds of both ways to narrow, and of both kinds of new search

choose_as : (P : Search → Type 0) (m n : ℕ) (s t : Search) → (m ≡ n → P s) → ((m ≡ n → ⊥) → P t) → P (choose (eqb m n) s t)
choose_as P m n s t y z = go (eqb m n) (eqb-true m n) (eqb-false m n)
  where
    go : (b : Bool) → (b ≡ true → m ≡ n) → (b ≡ false → m ≡ n → ⊥) → P (choose b s t)
    go true h i = y (h refl)
    go false h i = z (i refl)

pub narrowed_as : (P : Search → Type 0) (low high : ℕ) → low ≤ high → (low ≡ high → P (Down low)) → (low < high → P (Halving low high 0))
    → P (narrowed low high 0)
narrowed_as P low high h d v = choose_as P low high (Down low) (Halving low high 0) d (λ n. v (omega (arith, n)))

new_as : (P : Search → Type 0) (e : ℕ) → (e ≡ 0 → P AllUp) → (1 ≤ e → P (Checking e 0)) → P (new_search e)
unfolding new_search
new_as P e u v = choose_as P e 0 AllUp (Checking e 0) u (λ n. v (omega (arith, n)))

narrowed-left : (low high n : ℕ) → low ≤ high → allowance (high + 1 - low) < n → 1 + left (narrowed low high 0) ≤ n
narrowed-left low high n h i = narrowed_as (λ s. 1 + left s ≤ n) low high h (λ q. omega arith) (λ q. omega arith)

-- ---- the next state is that of a probe that is settled, or of one more sending of it that is lost

pub next_as : (P : Search → Bool → Type 0) (s : Search) (o : Outcome) → (settles s o ≡ true → P (settled s o) true) → (settles s o ≡ false → P (once_more s) false)
    → P (next s o) (settles s o)
next_as P s o y z = go (settles s o) y z
  where
    go : (b : Bool) → (b ≡ true → P (settled s o) true) → (b ≡ false → P (once_more s) false) → P (choose b (settled s o) (once_more s)) b
    go true y z = y refl
    go false y z = z refl

-- a loss that settles is the last that a probe has, and what does not settle is a loss before it
pub last_loss : (s : Search) → settles s Lost ≡ true → tries ≤ lost_so_far s + 1
last_loss s t = ltb-false (lost_so_far s + 1) tries (not-true (short (lost_so_far s + 1)) t)

pub earlier_loss : (s : Search) (o : Outcome) → settles s o ≡ false → (o ≡ Lost) × (lost_so_far s + 1 < tries)
earlier_loss s Returned t = absurd (not_both true refl t)
earlier_loss s Lost t = (refl, ltb-true (lost_so_far s + 1) tries (not-false (short (lost_so_far s + 1)) t))

module _ (e : ℕ) where
  -- ---- a new search is sound, stands for all places, has the limit left, and has lost no sending

  pub new_good : Good e (new_search e)
  new_good = new_as (Good e) e (λ q. tt) (λ h. (refl, h, omega arith))

  pub new-least : (f : ℕ) → 1 ≤ f → f ≤ e + 1 → AtLeast e (new_search e) f
  new-least f h i = new_as (λ s. AtLeast e s f) e (λ q. omega arith) (λ q. h)

  pub new-most : (f : ℕ) → f ≤ e + 1 → AtMost e (new_search e) f
  new-most f i = new_as (λ s. AtMost e s f) e (λ q. i) (λ q. i)

  pub new-left : left (new_search e) ≤ limit e
  unfolding limit
  new-left = new_as (λ s. left s ≤ limit e) e (λ q. omega arith) (λ h. rw (ne_eqb e 0 (λ q. omega arith)) (omega arith))

  pub new-lost : lost_so_far (new_search e) ≡ 0
  new-lost = new_as (λ s. lost_so_far s ≡ 0) e (λ q. refl) (λ q. refl)

  -- ---- a probe is settled

  pub settled_good : (s : Search) (o : Outcome) → Good e s → Good e (settled s o)
  settled_good (Checking count lost) Returned g = tt
  settled_good (Checking count lost) Lost g =
      narrowed_as (Good e) 1 count (omega arith) (λ q. (omega arith, omega arith)) (λ q. (omega arith, q, omega arith, omega arith))
  settled_good (Halving low high lost) Returned g =
      narrowed_as (Good e) ((low + high) / 2 + 1) high (omega arith) (λ q. (omega arith, omega arith)) (λ q. (omega arith, q, omega arith, omega arith))
  settled_good (Halving low high lost) Lost g =
      narrowed_as (Good e) low ((low + high) / 2) (omega arith) (λ q. (omega arith, omega arith)) (λ q. (omega arith, q, omega arith, omega arith))
  settled_good AllUp o g = g
  settled_good (Down place) o g = g

  -- no sending of the next probe is lost
  pub settled-lost : (s : Search) (o : Outcome) → Good e s → lost_so_far (settled s o) ≡ 0
  settled-lost (Checking count lost) Returned g = refl
  settled-lost (Checking count lost) Lost g = narrowed_as (λ s. lost_so_far s ≡ 0) 1 count (omega arith) (λ q. refl) (λ q. refl)
  settled-lost (Halving low high lost) Returned g =
      narrowed_as (λ s. lost_so_far s ≡ 0) ((low + high) / 2 + 1) high (omega arith) (λ q. refl) (λ q. refl)
  settled-lost (Halving low high lost) Lost g = narrowed_as (λ s. lost_so_far s ≡ 0) low ((low + high) / 2) (omega arith) (λ q. refl) (λ q. refl)
  settled-lost AllUp o g = refl
  settled-lost (Down place) o g = refl

  -- f stays no place before the first if a probe that returned is one before it, and none after the last if one that is lost is not
  pub settled-least : (s : Search) (o : Outcome) (f : ℕ) → Good e s → ended s ≡ false → AtLeast e s f → (o ≡ Returned → wanted s < f) → AtLeast e (settled s o) f
  settled-least (Checking count lost) Returned f g q a h = omega (arith, h refl)
  settled-least (Checking count lost) Lost f g q a h = narrowed_as (λ s. AtLeast e s f) 1 count (omega arith) (λ z. a) (λ z. a)
  settled-least (Halving low high lost) Returned f g q a h =
      let m = h refl in
      narrowed_as (λ s. AtLeast e s f) ((low + high) / 2 + 1) high (omega arith) (λ z. omega arith) (λ z. omega arith)
  settled-least (Halving low high lost) Lost f g q a h = narrowed_as (λ s. AtLeast e s f) low ((low + high) / 2) (omega arith) (λ z. a) (λ z. a)
  settled-least AllUp o f g q a h = absurd (not_both true refl q)
  settled-least (Down place) o f g q a h = absurd (not_both true refl q)

  pub settled-most : (s : Search) (o : Outcome) (f : ℕ) → Good e s → ended s ≡ false → AtMost e s f → (o ≡ Lost → f ≤ wanted s) → AtMost e (settled s o) f
  settled-most (Checking count lost) Returned f g q a h = a
  settled-most (Checking count lost) Lost f g q a h =
      let m = h refl in
      narrowed_as (λ s. AtMost e s f) 1 count (omega arith) (λ z. omega arith) (λ z. omega arith)
  settled-most (Halving low high lost) Returned f g q a h =
      narrowed_as (λ s. AtMost e s f) ((low + high) / 2 + 1) high (omega arith) (λ z. omega arith) (λ z. a)
  settled-most (Halving low high lost) Lost f g q a h =
      let m = h refl in
      narrowed_as (λ s. AtMost e s f) low ((low + high) / 2) (omega arith) (λ z. omega arith) (λ z. m)
  settled-most AllUp o f g q a h = absurd (not_both true refl q)
  settled-most (Down place) o f g q a h = absurd (not_both true refl q)

  -- there is one probe less to take
  pub settled-left : (s : Search) (o : Outcome) → Good e s → ended s ≡ false → 1 + left (settled s o) ≤ left s
  settled-left (Checking count lost) Returned g q = omega arith
  settled-left (Checking count lost) Lost g q =
      let i : count + 1 - 1 ≡ count = omega arith in
      narrowed-left 1 count (1 + allowance count) (omega arith) (rw i (omega arith))
  settled-left (Halving low high lost) Returned g q =
      narrowed-left ((low + high) / 2 + 1) high (allowance (high + 1 - low)) (omega arith)
      (allowance_half (high + 1 - low) (high + 1 - ((low + high) / 2 + 1)) (omega arith) (omega arith))
  settled-left (Halving low high lost) Lost g q =
      narrowed-left low ((low + high) / 2) (allowance (high + 1 - low)) (omega arith)
      (allowance_half (high + 1 - low) ((low + high) / 2 + 1 - low) (omega arith) (omega arith))
  settled-left AllUp o g q = absurd (not_both true refl q)
  settled-left (Down place) o g q = absurd (not_both true refl q)

  -- ---- a sending is lost, and its probe is not settled: all but the number of those stays

  pub record Same (s t : Search) : Type 0 where
    pub still_wanted : wanted t ≡ wanted s
    pub still_left : left t ≡ left s
    pub still_least : (f : ℕ) → AtLeast e s f → AtLeast e t f
    pub still_most : (f : ℕ) → AtMost e s f → AtMost e t f

  pub once_more_same : (s : Search) → Same s (once_more s)
  once_more_same (Checking count lost) =
      record { still_wanted = refl; still_left = refl; still_least = λ f a. a; still_most = λ f a. a }
  once_more_same (Halving low high lost) =
      record { still_wanted = refl; still_left = refl; still_least = λ f a. a; still_most = λ f a. a }
  once_more_same AllUp = record { still_wanted = refl; still_left = refl; still_least = λ f a. a; still_most = λ f a. a }
  once_more_same (Down place) = record { still_wanted = refl; still_left = refl; still_least = λ f a. a; still_most = λ f a. a }

  pub once_more_good : (s : Search) → Good e s → lost_so_far s + 1 < tries → Good e (once_more s)
  once_more_good (Checking count lost) g h = (g.0, g.1, h)
  once_more_good (Halving low high lost) g h = (g.0, g.1, g.2, h)
  once_more_good AllUp g h = g
  once_more_good (Down place) g h = g

  pub once_more_lost : (s : Search) → ended s ≡ false → lost_so_far (once_more s) ≡ lost_so_far s + 1
  once_more_lost (Checking count lost) q = refl
  once_more_lost (Halving low high lost) q = refl
  once_more_lost AllUp q = absurd (not_both true refl q)
  once_more_lost (Down place) q = absurd (not_both true refl q)

  -- ---- what a sound state can have left, and what an ended one says

  pub good_lost : (s : Search) → Good e s → lost_so_far s < tries
  good_lost (Checking count lost) g = g.2
  good_lost (Halving low high lost) g = g.3
  good_lost AllUp g = omega arith
  good_lost (Down place) g = omega arith

  -- a state that can take no more has ended
  pub none_left : (s : Search) → Good e s → left s ≡ 0 → ended s ≡ true
  none_left (Checking count lost) g q = absurd (omega arith)
  none_left (Halving low high lost) g q = absurd (omega (arith, allowance_half (high + 1 - low) 1 (omega arith) (omega arith)))
  none_left AllUp g q = refl
  none_left (Down place) g q = refl

  pub ended_lost : (s : Search) → ended s ≡ true → lost_so_far s ≡ 0
  ended_lost (Checking count lost) q = absurd (not_both false q refl)
  ended_lost (Halving low high lost) q = absurd (not_both false q refl)
  ended_lost AllUp q = refl
  ended_lost (Down place) q = refl

  -- All up leaves no place but the last
  pub up_at : (s : Search) (f : ℕ) → AtLeast e s f → s ≡ AllUp → e + 1 ≤ f
  up_at s f a q = subst (λ t. AtLeast e t f) q a

  pub ended_at : (s : Search) (f : ℕ) → Good e s → AtLeast e s f → AtMost e s f → ended s ≡ true → (f ≡ e + 1 → s ≡ AllUp) × (f ≤ e → s ≡ Down f)
  ended_at (Checking count lost) f g a b q = absurd (not_both false q refl)
  ended_at (Halving low high lost) f g a b q = absurd (not_both false q refl)
  ended_at AllUp f g a b q = (λ z. refl, λ h. absurd (omega arith))
  ended_at (Down place) f g a b q = (λ z. absurd (omega arith), λ h. ap Down (omega arith))
