-- What the sendings of a list tell of its probes: one m is one probe, which is sent three times at most, and not again once it is settled; and the probes that a search
-- counts are those of which one sending returned or three in a row were lost. Assumes that a plant can have the links that the search is over.
use mathlib.Core.Path.{◌≡◌, refl, sym, ap, ap₂, subst, ◌∙◌}
use mathlib.Core.Logic.{◌⊎◌, inl, inr, ◌↔◌}
use mathlib.Core.Bool.{Bool, true, false, ◌||◌}
use mathlib.Core.List.{List, [], ◌∷◌, ◌++◌}
use Prim.Native.Nat.{ℕ, ◌+◌, ◌/◌, ◌≤◌, ◌<◌}
use native.Mathlib.Omega.{arith}
use lib.Dec.{T, eqb, leb, ltb, ltb→lt, lt→ltb, le→leb}
use borrow.Author.Tests.{eq-eqb, ne_eqb, lt-leb}
use Rattle.lists.specs.Tests.{choose}
use Rattle.lists.specs.Count.{bit, count}
use Rattle.lists.proofs.Tests.{eq?, not_both, or_left, or_right, or_cases}
use Rattle.lists.proofs.Count.{count_both, count_none, count_lt, count-one}
use Rattle.limits.specs.Limits.{max_links}
use Rattle.search.specs.declared.Search.{Search}
use Rattle.search.specs.declared.Search.TheVariants.{Checking, Halving, AllUp, Down}
use Rattle.search.specs.declared.Outcome.{Outcome}
use Rattle.search.specs.declared.Outcome.TheVariants.{Returned, Lost}
use Rattle.search.specs.declared.Progress.{Progress}
use Rattle.search.specs.Search.{tries, ended, wanted, lost_so_far, settles, settled, once_more, next}
use Rattle.search.specs.Calls.{Call, asks, gives, step, perform, begun, Sending, sent, sendings, sending_by, returns_of, losses_of, lost_in_row, counted_in}
use Rattle.search.specs.Limit.{limit}
use Rattle.search.specs.Sound.{Good}
use Rattle.search.proofs.Intervals.{new-lost, narrowed_as, next_as, last_loss, earlier_loss, settled-lost, once_more_same, once_more_lost, good_lost}
use Rattle.search.proofs.Sound.{wanted_in}
use Rattle.search.proofs.Finds.{Kept, kept_new, kept_step, sound-kept, given_as}

-- the sendings of probe m
abbrev times : ℕ → List Sending → ℕ
times m l = returns_of m l + losses_of m l

times_more : (m k : ℕ) (o : Outcome) (l : List Sending) → times m (sent k o ∷ l) ≡ bit (eqb m k) + times m l
times_more m k Returned l = omega arith
times_more m k Lost l = omega arith

-- ---- one m is one probe

-- m is a probe that a state can still send
abbrev Ahead : Search → ℕ → Type 0
Ahead (Checking count lost) m = m ≤ count
Ahead (Halving low high lost) m = (low ≤ m) × (m < high)
Ahead AllUp m = ⊥
Ahead (Down place) m = ⊥

module _ (e : ℕ) where
  wanted_ahead : (s : Search) → Good e s → ended s ≡ false → Ahead s (wanted s)
  wanted_ahead (Checking count lost) g q = omega arith
  wanted_ahead (Halving low high lost) g q = (omega arith, omega arith)
  wanted_ahead AllUp g q = not_both true refl q
  wanted_ahead (Down place) g q = not_both true refl q

  -- once its probe is settled, a state can send no other probe than before, and not that one
  settled_ahead : (s : Search) (o : Outcome) (m : ℕ) → Good e s → Ahead (settled s o) m → Ahead s m × (m ≡ wanted s → ⊥)
  settled_ahead (Checking count lost) Returned m g h = absurd h
  settled_ahead (Checking count lost) Lost m g h =
      narrowed_as (λ s. Ahead s m → (m ≤ count) × (m ≡ count → ⊥)) 1 count (omega arith) (λ z a. absurd a) (λ z a. (omega arith, λ i. omega arith)) h
  settled_ahead (Halving low high lost) Returned m g h =
      narrowed_as (λ s. Ahead s m → ((low ≤ m) × (m < high)) × (m ≡ (low + high) / 2 → ⊥)) ((low + high) / 2 + 1) high (omega arith) (λ z a. absurd a)
      (λ z a. ((omega arith, a.1), λ i. omega arith)) h
  settled_ahead (Halving low high lost) Lost m g h =
      narrowed_as (λ s. Ahead s m → ((low ≤ m) × (m < high)) × (m ≡ (low + high) / 2 → ⊥)) low ((low + high) / 2) (omega arith) (λ z a. absurd a)
      (λ z a. ((a.0, omega arith), λ i. omega arith)) h
  settled_ahead AllUp o m g h = absurd h
  settled_ahead (Down place) o m g h = absurd h

  once_more_ahead : (s : Search) (m : ℕ) → Ahead (once_more s) m → Ahead s m
  once_more_ahead (Checking count lost) m h = h
  once_more_ahead (Halving low high lost) m h = h
  once_more_ahead AllUp m h = h
  once_more_ahead (Down place) m h = h

  -- n, the sendings of m from a state on: three at most, with those lost so far if m is wanted, and none if it is not ahead
  record Room (m : ℕ) (s : Search) (n : ℕ) : Type 0 where
    thrice : n ≤ tries
    with_lost : m ≡ wanted s → n + lost_so_far s ≤ tries
    none_else : (Ahead s m → ⊥) → n ≡ 0

  room_moved : (s : Search) (o : Outcome) (m n : ℕ) → Good e s → ended s ≡ false → Room m (next s o) n → Room m s (bit (eqb m (wanted s)) + n)
  room_moved s o m n g q = go (eq? m (wanted s))
    where
      go : (m ≡ wanted s) ⊎ (m ≡ wanted s → ⊥) → Room m (next s o) n → Room m s (bit (eqb m (wanted s)) + n)
      go (inl i) =
          let a = subst (Ahead s) (sym i) (wanted_ahead s g q) in
          rw (eq-eqb m (wanted s) i)
          (next_as (λ t b. Room m t n → Room m s (1 + n)) s o
          (λ z r.
          let z = r.none_else (λ h. (settled_ahead s o m g h).1 i) in
          record { thrice = omega arith; with_lost = λ j. omega (arith, good_lost e s g); none_else = λ h. absurd (h a) })
          (λ z r.
          let l = r.with_lost (i ∙ sym (once_more_same e s).still_wanted) in
          let k = once_more_lost e s q in
          record { thrice = omega arith; with_lost = λ j. omega arith; none_else = λ h. absurd (h a) }))
      go (inr d) =
          rw (ne_eqb m (wanted s) d)
          (next_as (λ t b. Room m t n → Room m s (0 + n)) s o
          (λ z r. record {
            thrice = omega (arith, r.thrice);
            with_lost = λ j. absurd (d j);
            none_else = λ h. omega (arith, r.none_else (λ a. h (settled_ahead s o m g a).0));
          })
          (λ z r. record { thrice = omega (arith, r.thrice); with_lost = λ j. absurd (d j); none_else = λ h. omega (arith, r.none_else (λ a. h (once_more_ahead s m a))) }))

  module _ (fits : e ≤ max_links) (most m : ℕ) where
    room_step : (p : Progress) (c : Call) (rest : List Sending) → Kept e most p → Room m (step p c).state (times m rest)
        → Room m p.state (times m (sending_by p.state c ++ rest))
    room_step p asks rest k r = r
    room_step p (gives o) rest k r =
        given_as p o (sound-kept e fits most p k) (λ t l. Room m t.state (times m rest) → Room m p.state (times m (l ++ rest))) (λ a. a)
        (λ q a. rw (times_more m (wanted p.state) o rest) (room_moved p.state o m (times m rest) k.good q a)) r

    room_all : (cs : List Call) (p : Progress) → Kept e most p → Room m p.state (times m (sendings p cs))
    room_all [] p k = record { thrice = omega arith; with_lost = λ i. omega (arith, good_lost e p.state k.good); none_else = λ h. refl }
    room_all (c ∷ cs) p k = room_step p c (sendings (step p c) cs) k (room_all cs (step p c) (kept_step e fits most p c k))

-- one m is sent three times at most
pub sent-thrice : (e : ℕ) → e ≤ max_links → (cs : List Call) (m : ℕ) → returns_of m (sendings (begun e) cs) + losses_of m (sendings (begun e) cs) ≤ tries
sent-thrice e fits cs m = (room_all e fits (limit e) m cs (begun e) (kept_new e)).thrice

-- ---- the probes counted

-- the losses of probe m before the list, in a state that has lost some
abbrev prior : Search → ℕ → ℕ
prior s m = choose (eqb m (wanted s)) (lost_so_far s) 0

prior_wanted : (s : Search) → prior s (wanted s) ≡ lost_so_far s
prior_wanted s = rw (eq-eqb (wanted s) (wanted s) refl) refl

prior_other : (s : Search) (m : ℕ) → (m ≡ wanted s → ⊥) → prior s m ≡ 0
prior_other s m d = rw (ne_eqb m (wanted s) d) refl

prior_most : (s : Search) (m n : ℕ) → lost_so_far s ≤ n → prior s m ≤ n
prior_most s m n h = go (eqb m (wanted s))
  where
    go : (b : Bool) → choose b (lost_so_far s) 0 ≤ n
    go true = h
    go false = omega arith

-- is m counted by the list, with these?
abbrev counted_from : Search → List Sending → ℕ → Bool
counted_from s l m = ltb 0 (returns_of m l) || lost_in_row m (prior s m) l

-- it goes by the returns and the losses in a row
counted_as : (s t : Search) (l k : List Sending) (m : ℕ) → returns_of m l ≡ returns_of m k → lost_in_row m (prior s m) l ≡ lost_in_row m (prior t m) k
    → T (counted_from s l m) ↔ T (counted_from t k m)
counted_as s t l k m a b =
    let e : counted_from s l m ≡ counted_from t k m = ap₂ (λ (x : ℕ) (y : Bool). ltb 0 x || y) a b in
    (subst T e, subst T (sym e))

-- fewer than three losses, those before the list included, are no three in a row
row_few : (m n : ℕ) (l : List Sending) → losses_of m l + n < tries → lost_in_row m n l ≡ false
row_few m n [] h = lt-leb tries n (omega arith)
row_few m n (sent k Returned ∷ l) h = rw (lt-leb tries n (omega arith)) (row_few m 0 l (omega arith))
row_few m n (sent k Lost ∷ l) h = rw (lt-leb tries n (omega arith)) (go (eqb m k) h (λ i. row_few m i l))
  where
    go : (b : Bool) → bit b + losses_of m l + n < tries → ((i : ℕ) → losses_of m l + i < tries → lost_in_row m i l ≡ false) → lost_in_row m (choose b (n + 1) 0) l ≡ false
    go true i f = f (n + 1) (omega arith)
    go false i f = f 0 (omega arith)

-- three before it are
row_reached : (m n : ℕ) (l : List Sending) → tries ≤ n → T (lost_in_row m n l)
row_reached m n [] h = le→leb tries n h
row_reached m n (sent k Returned ∷ l) h = or_left (leb tries n) (lost_in_row m 0 l) (le→leb tries n h)
row_reached m n (sent k Lost ∷ l) h = or_left (leb tries n) (lost_in_row m (choose (eqb m k) (n + 1) 0) l) (le→leb tries n h)

not-counted : (s : Search) (l : List Sending) (m : ℕ) → returns_of m l ≡ 0 → losses_of m l + prior s m < 3 → T (counted_from s l m) → ⊥
not-counted s l m a b t = go (or_cases (ltb 0 (returns_of m l)) (lost_in_row m (prior s m) l) t)
  where
    go : T (ltb 0 (returns_of m l)) ⊎ T (lost_in_row m (prior s m) l) → ⊥
    go (inl h) = omega (arith, ltb→lt 0 (returns_of m l) h)
    go (inr h) = subst T (row_few m (prior s m) l b) h

-- a sending of k is none of another m, and leaves it no row
other_sending : (m k : ℕ) (o : Outcome) (l : List Sending) → (m ≡ k → ⊥) → returns_of m (sent k o ∷ l) ≡ returns_of m l
other_sending m k Returned l d = rw (ne_eqb m k d) (omega arith)
other_sending m k Lost l d = refl

other_row : (m k : ℕ) (o : Outcome) (l : List Sending) → (m ≡ k → ⊥) → lost_in_row m 0 (sent k o ∷ l) ≡ lost_in_row m 0 l
other_row m k Returned l d = refl
other_row m k Lost l d = rw (ne_eqb m k d) refl

-- a sending that settles its probe counts it
settling : (s : Search) (o : Outcome) (l : List Sending) → settles s o ≡ true → T (counted_from s (sent (wanted s) o ∷ l) (wanted s))
settling s Returned l z =
    let w = wanted s in
    or_left (ltb 0 (returns_of w (sent w Returned ∷ l))) (lost_in_row w (prior s w) (sent w Returned ∷ l)) (lt→ltb 0 (returns_of w (sent w Returned ∷ l)) (rw (eq-eqb w w refl) (omega arith)))
settling s Lost l z =
    let w = wanted s in
    or_right (ltb 0 (returns_of w l)) (lost_in_row w (prior s w) (sent w Lost ∷ l))
    (rw (prior_wanted s, eq-eqb w w refl) (or_right (leb tries (lost_so_far s)) (lost_in_row w (lost_so_far s + 1) l) (row_reached w (lost_so_far s + 1) l (last_loss s z))))

module _ (e : ℕ) where
  -- an accepted outcome: its probe is counted if it settles it, and what else is counted stays
  counted_moved : (s : Search) (o : Outcome) (l : List Sending) → Good e s → ended s ≡ false → Room e (wanted s) (next s o) (times (wanted s) l)
      → count (e + 1) (counted_from s (sent (wanted s) o ∷ l)) ≡ bit (settles s o) + count (e + 1) (counted_from (next s o) l)
  counted_moved s o l g q =
      next_as (λ t b. Room e (wanted s) t (times (wanted s) l) → count (e + 1) (counted_from s x) ≡ bit b + count (e + 1) (counted_from t l)) s o
      (λ z r. settled-counts z (r.none_else (λ h. (settled_ahead e s o (wanted s) g h).1 refl)))
      (λ z r. omega (arith, count_both (e + 1) (counted_from s x) (counted_from (once_more s) l) (λ m i. unsettled z m)))
    where
      x : List Sending
      x = sent (wanted s) o ∷ l

      -- one that is settled is not sent again
      settled-counts : settles s o ≡ true → times (wanted s) l ≡ 0 → count (e + 1) (counted_from s x) ≡ 1 + count (e + 1) (counted_from (settled s o) l)
      settled-counts z none =
          let w = wanted s in
          let t = settled s o in
          let fresh : lost_so_far t ≡ 0 = settled-lost e s o g in
          let below : w < e + 1 = omega (arith, wanted_in e s g q) in
          let others : (m : ℕ) → (m ≡ w → ⊥) → T (counted_from s x m) ↔ T (counted_from t l m) =
          λ m d.
          let none : prior t m ≡ 0 = omega (arith, prior_most t m 0 (omega arith)) in
          counted_as s t x l m (other_sending m w o l d) (rw (prior_other s m d, none) (other_row m w o l d))
          in
          let new : T (counted_from t l w) → ⊥ = not-counted t l w (omega arith) (omega (arith, prior_most t w 0 (omega arith))) in
          omega (
            arith,
            count_lt (e + 1) (counted_from s x) (counted_from t l) w below (settling s o l z) new (kept others new),
            count-one (e + 1) (counted_from s x) (counted_from t l) w (besides others),
          )
        where
          kept : ((m : ℕ) → (m ≡ wanted s → ⊥) → T (counted_from s x m) ↔ T (counted_from (settled s o) l m)) → (T (counted_from (settled s o) l (wanted s)) → ⊥)
              → (m : ℕ) → m < e + 1 → T (counted_from (settled s o) l m) → T (counted_from s x m)
          kept others new m i h = go (eq? m (wanted s))
            where
              go : (m ≡ wanted s) ⊎ (m ≡ wanted s → ⊥) → T (counted_from s x m)
              go (inl j) = absurd (new (subst (λ k. T (counted_from (settled s o) l k)) j h))
              go (inr d) = (others m d).1 h

          besides : ((m : ℕ) → (m ≡ wanted s → ⊥) → T (counted_from s x m) ↔ T (counted_from (settled s o) l m))
              → (m : ℕ) → m < e + 1 → T (counted_from s x m) → (m ≡ wanted s) ⊎ T (counted_from (settled s o) l m)
          besides others m i h = go (eq? m (wanted s))
            where
              go : (m ≡ wanted s) ⊎ (m ≡ wanted s → ⊥) → (m ≡ wanted s) ⊎ T (counted_from (settled s o) l m)
              go (inl j) = inl j
              go (inr d) = inr ((others m d).0 h)

      -- a loss that settles nothing is one of those before the rest
      unsettled : settles s o ≡ false → (m : ℕ) → T (counted_from s x m) ↔ T (counted_from (once_more s) l m)
      unsettled z m = subst (λ r. T (counted_from s (sent (wanted s) r ∷ l) m) ↔ T (counted_from (once_more s) l m)) (sym (earlier_loss s o z).0) (go (eq? m (wanted s)))
        where
          still : wanted (once_more s) ≡ wanted s
          still = (once_more_same e s).still_wanted

          go : (m ≡ wanted s) ⊎ (m ≡ wanted s → ⊥) → T (counted_from s (sent (wanted s) Lost ∷ l) m) ↔ T (counted_from (once_more s) l m)
          go (inl j) =
              counted_as s (once_more s) (sent (wanted s) Lost ∷ l) l m refl
              (rw (eq-eqb m (wanted s) j, eq-eqb m (wanted (once_more s)) (j ∙ sym still), once_more_lost e s q, lt-leb tries (lost_so_far s) (omega (arith, (earlier_loss s o z).1))) refl)
          go (inr d) =
              counted_as s (once_more s) (sent (wanted s) Lost ∷ l) l m refl
              (rw (ne_eqb m (wanted s) d, ne_eqb m (wanted (once_more s)) (λ j. d (j ∙ still))) refl)

  module _ (fits : e ≤ max_links) (most : ℕ) where
    counted_step : (p : Progress) (c : Call) (rest : List Sending) → Kept e most p → Room e (wanted p.state) (step p c).state (times (wanted p.state) rest)
        → (step p c).probes + count (e + 1) (counted_from (step p c).state rest) ≡ p.probes + count (e + 1) (counted_from p.state (sending_by p.state c ++ rest))
    counted_step p asks rest k r = refl
    counted_step p (gives o) rest k r =
        given_as p o (sound-kept e fits most p k)
        (λ t l. Room e (wanted p.state) t.state (times (wanted p.state) rest)
        → t.probes + count (e + 1) (counted_from t.state rest) ≡ p.probes + count (e + 1) (counted_from p.state (l ++ rest)))
        (λ a. refl) (λ q a. omega (arith, counted_moved p.state o rest k.good q a)) r

    counted-all : (cs : List Call) (p : Progress) → Kept e most p
        → (perform p cs).probes ≡ p.probes + count (e + 1) (counted_from p.state (sendings p cs))
    counted-all [] p k =
        let few : lost_so_far p.state ≤ 2 = omega (arith, good_lost e p.state k.good) in
        let none = count_none (e + 1) (counted_from p.state []) (λ m i. not-counted p.state [] m refl (omega (arith, prior_most p.state m 2 few))) in
        omega arith
    counted-all (c ∷ cs) p k =
        let k' = kept_step e fits most p c k in
        counted-all cs (step p c) k' ∙ counted_step p c (sendings (step p c) cs) k (room_all e fits most (wanted p.state) cs (step p c) k')

-- the probes are those of which one sending returned or three in a row were lost
pub probes-counted : (e : ℕ) → e ≤ max_links → (cs : List Call) → (perform (begun e) cs).probes ≡ count (e + 1) (counted_in (sendings (begun e) cs))
unfolding begun
probes-counted e fits cs =
    let l = sendings (begun e) cs in
    let s = (begun e).state in
    omega (arith, counted-all e fits (limit e) cs (begun e) (kept_new e), count_both (e + 1) (counted_from s l) (counted_in l) (λ m i. fresh m))
  where
    fresh : (m : ℕ) → T (counted_from (begun e).state (sendings (begun e) cs) m) ↔ T (counted_in (sendings (begun e) cs) m)
    fresh m =
        let l = sendings (begun e) cs in
        let z : prior (begun e).state m ≡ 0 = omega (arith, prior_most (begun e).state m 0 (omega (arith, new-lost e))) in
        let b : counted_from (begun e).state l m ≡ counted_in l m = ap (λ (n : ℕ). ltb 0 (returns_of m l) || lost_in_row m n l) z in
        (subst T b, subst T (sym b))
