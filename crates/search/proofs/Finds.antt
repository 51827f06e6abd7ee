-- The theorem on a list of calls to a search over e links, whatever the calls: how many probes and packets it counts, that the search ends, and what it says at its end. It
-- starts from any state that keeps the invariant (`Kept`, and the two bounds for what is said) and has lost no sending; a new search is one.
-- What a probe is does not matter here: f is the place of the first broken link in the order, e + 1 if no link is broken, and the packet rule brings home the probes m
-- before f. The first premise keeps f from falling below what a state stands for, and the second one from rising above it. Assumes what `Tells` says of the packet rule,
-- and that a plant can have e links.
use mathlib.Core.Path.{◌≡◌, refl, sym, ap, subst, ◌∙◌}
use mathlib.Core.Logic.{◌⊎◌, inl, inr, ◌↔◌}
use mathlib.Core.Bool.{Bool, true, false}
use mathlib.Core.List.{List, [], ◌∷◌, ◌++◌, append_assoc, append-nil}
use Prim.Native.Nat.{ℕ, zero, suc, ◌+◌, ◌*◌, ◌≤◌, ◌<◌}
use native.Mathlib.Omega.{arith}
use native.Mathlib.Numerals.{add-one}
use lib.Dec.{ltb}
use lib.ListN.{length, length-append}
use borrow.Author.Tests.{ltb-true, lt-ltb}
use Rattle.lists.specs.Tests.{choose}
use Rattle.lists.specs.Count.{bit}
use Rattle.lists.specs.Members.{Each}
use Rattle.lists.proofs.Tests.{bool?, below?, not_both}
use Rattle.lists.proofs.Members.{each-parts}
use Rattle.answers.specs.Answers.{given}
use Rattle.answers.specs.Checks.{answer}
use Rattle.limits.specs.Limits.{max_links}
use Rattle.search.specs.declared.Search.{Search}
use Rattle.search.specs.declared.Outcome.{Outcome}
use Rattle.search.specs.declared.Outcome.TheVariants.{Returned, Lost}
use Rattle.search.specs.declared.Progress.{Progress}
use Rattle.search.specs.Search.{tries, sound, sound_for, ended, wanted, lost_so_far, settles, next, ask, give}
use Rattle.search.specs.Calls.{Call, asks, gives, counted, step, perform, begun, Sending, sent, sending_by, sendings, TrueSending, OneReturns}
use Rattle.search.specs.Limit.{limit}
use Rattle.search.specs.Values.{values_of, IsAllUp, IsDown, outcome_number, IsReturned}
use Rattle.search.proofs.Values.{is-all_up}
use Rattle.search.specs.Sound.{Good}
use Rattle.search.proofs.Sound.{good_sound, wanted_in, answers_15, answers-given}
use Rattle.search.proofs.Intervals.{AtLeast, AtMost, left, new_good, new-least, new-most, new-left, new-lost, next_as, last_loss, earlier_loss, settled_good, settled-lost, settled-least, settled-most, settled-left, once_more_same, once_more_good, once_more_lost, good_lost, none_left, ended_lost, up_at, ended_at}

-- ---- the statement

module _ (e f : ℕ) (home : ℕ → Type 0) where
  -- the packet rule brings a probe home exactly if the first broken link comes after the m-th link of the order
  pub record Tells : Type 0 where
    pub from_one : 1 ≤ f
    pub to_none : f ≤ e + 1
    pub before : (m : ℕ) → 1 ≤ m → m ≤ e → home m ↔ (m < f)

  -- what holds of r, where a list of calls led to from p, with the most probes that it may count
  pub record Finds (most : ℕ) (p : Progress) (cs : List Call) (r : Progress) : Type 0 where
    -- the probes are at most so many, and with so many the search has ended; the packets are at most three times that
    pub few : r.probes ≤ most
    pub enough : r.probes ≡ most → ended r.state ≡ true
    pub packets_few : r.packets ≤ tries * most
    -- until then it has a probe to send
    pub goes_on : ended r.state ≡ false → (m : ℕ) × (1 ≤ m) × (m ≤ e) × (answer (ask r.state) ≡ given m)
    -- its state is never refused as unsound
    pub stays_sound : (sound r.state ≡ true) × (sound_for e r.state ≡ true)
    -- if every sending is true, All up is right
    pub up_right : Each (TrueSending home) (sendings p cs) → IsAllUp r.state → f ≡ e + 1
    -- if also one of three sendings in a row of a probe returns, an ended search is All up if no link is broken, and else Down at the first broken link
    pub all_up : Each (TrueSending home) (sendings p cs) → OneReturns home (sendings p cs) → ended r.state ≡ true → f ≡ e + 1 → IsAllUp r.state
    pub first_down_is : Each (TrueSending home) (sendings p cs) → OneReturns home (sendings p cs) → ended r.state ≡ true → f ≤ e → IsDown f r.state

not-returned : IsReturned Lost → ⊥
not-returned i = omega (arith, i)

-- so it is with outcomes by a test, if the test tells that
returned_true : (b : Bool) → IsReturned (choose b Returned Lost) → b ≡ true
returned_true true t = refl
returned_true false t = absurd (not-returned t)

pub tells_by : (e f : ℕ) → 1 ≤ f → f ≤ e + 1 → (test : ℕ → Bool) → ((m : ℕ) → 1 ≤ m → m ≤ e → test m ≡ ltb m f)
    → Tells e f (λ m. IsReturned (choose (test m) Returned Lost))
tells_by e f h i test told = record {
  from_one = h;
  to_none = i;
  before = λ m j k. (
    λ t. ltb-true m f (sym (told m j k) ∙ returned_true (test m) t),
    λ l. ap (λ (b : Bool). outcome_number (choose b Returned Lost)) (told m j k ∙ lt-ltb m f l),
  );
}

-- ---- one call

-- where an outcome leads to that is accepted
abbrev pub moved : Progress → Outcome → Progress
moved p o = record { state = next p.state o; probes = p.probes + bit (settles p.state o); packets = p.packets + 1 }

-- an outcome given to a sound state is accepted, as a sending of the probe wanted; or the search has ended and nothing changes
module _ (p : Progress) (o : Outcome) (s : sound p.state ≡ true) where
  pub accepted : ended p.state ≡ false → step p (gives o) ≡ moved p o
  unfolding give
  accepted q = ap (counted p o) (answers-given p.state (next p.state o) s q)

  unchanged : ended p.state ≡ true → step p (gives o) ≡ p
  unfolding give
  unchanged q = ap (counted p o) (answers_15 p.state (next p.state o) s q)

  pub sends : ended p.state ≡ false → sending_by p.state (gives o) ≡ sent (wanted p.state) o ∷ []
  unfolding give ask
  sends q = rw (answers-given p.state (wanted p.state) s q, answers-given p.state (next p.state o) s q) refl

  sends_none : ended p.state ≡ true → sending_by p.state (gives o) ≡ []
  unfolding give ask
  sends_none q = rw (answers_15 p.state (wanted p.state) s q) refl

  pub given_as : (P : Progress → List Sending → Type 0) → P p [] → (ended p.state ≡ false → P (moved p o) (sent (wanted p.state) o ∷ []))
      → P (step p (gives o)) (sending_by p.state (gives o))
  given_as P h k = go (bool? (ended p.state))
    where
      go : (ended p.state ≡ true) ⊎ (ended p.state ≡ false) → P (step p (gives o)) (sending_by p.state (gives o))
      go (inl q) = subst (P (step p (gives o))) (sym (sends_none q)) (subst (λ r. P r []) (sym (unchanged q)) h)
      go (inr q) = subst (P (step p (gives o))) (sym (sends q)) (subst (λ r. P r (sent (wanted p.state) o ∷ [])) (sym (accepted q)) (k q))

-- ---- sendings that were lost, one after the other

-- the last n are losses of probe m
abbrev LostLast : ℕ → ℕ → List Sending → Type 0
LostLast zero m u = Unit
LostLast (suc n) m u = (v : List Sending) × (u ≡ v ++ (sent m Lost ∷ [])) × LostLast n m v

-- with two such and one more there are three in a row
third_lost : (m : ℕ) (u rest : List Sending) → LostLast 2 m u
    → (w : List Sending) × (u ++ (sent m Lost ∷ rest) ≡ w ++ (sent m Lost ∷ sent m Lost ∷ sent m Lost ∷ rest))
third_lost m u rest l =
    let x = sent m Lost in
    (l.2.0, ap (λ (k : List Sending). k ++ (x ∷ rest)) l.1 ∙ append_assoc l.0 (x ∷ []) (x ∷ rest) ∙ ap (λ (k : List Sending). k ++ (x ∷ x ∷ rest)) l.2.1 ∙ append_assoc l.2.0 (x ∷ []) (x ∷ x ∷ rest))

-- ---- what the calls keep

-- the state stays sound; the probes counted and those left are at most so many; the packets are at most three of each probe counted, and those lost of the probe wanted
pub record Kept (e most : ℕ) (p : Progress) : Type 0 where
  pub good : Good e p.state
  pub spent : p.probes + left p.state ≤ most
  pub thrice : p.packets ≤ tries * p.probes + lost_so_far p.state

pub kept_new : (e : ℕ) → Kept e (limit e) (begun e)
unfolding begun
kept_new e = record { good = new_good e; spent = omega (arith, new-left e); thrice = omega arith }

module _ (e : ℕ) (fits : e ≤ max_links) (most : ℕ) where
  pub sound-kept : (p : Progress) → Kept e most p → sound p.state ≡ true
  sound-kept p k = (good_sound e p.state fits k.good).0

  kept_moved : (p : Progress) (o : Outcome) → Kept e most p → ended p.state ≡ false → Kept e most (moved p o)
  kept_moved p o k q =
      let s = p.state in
      next_as (λ t b. Kept e most (record { state = t; probes = p.probes + bit b; packets = p.packets + 1 })) s o
      (λ z. record {
        good = settled_good e s o k.good;
        spent = omega (arith, settled-left e s o k.good q);
        thrice = omega (arith, good_lost e s k.good);
      })
      (λ z. record {
        good = once_more_good e s k.good (earlier_loss s o z).1;
        spent = omega (arith, (once_more_same e s).still_left);
        thrice = omega (arith, once_more_lost e s q);
      })

  pub kept_step : (p : Progress) (c : Call) → Kept e most p → Kept e most (step p c)
  kept_step p asks k = k
  kept_step p (gives o) k = given_as p o (sound-kept p k) (λ r l. Kept e most r) k (kept_moved p o k)

  kept-all : (cs : List Call) (p : Progress) → Kept e most p → Kept e most (perform p cs)
  kept-all [] p k = k
  kept-all (c ∷ cs) p k = kept-all cs (step p c) (kept_step p c k)

  -- the packets are at most three for each probe that may be counted: one that is not settled has lost two at most, and is one that is left
  packets_most : (r : Progress) → Kept e most r → r.packets ≤ tries * most
  packets_most r k = go (bool? (ended r.state))
    where
      go : (ended r.state ≡ true) ⊎ (ended r.state ≡ false) → r.packets ≤ tries * most
      go (inl q) = omega (arith, k, ended_lost e r.state q)
      go (inr q) =
          let some : left r.state ≡ 0 → ⊥ = λ z. not_both (ended r.state) (none_left e r.state k.good z) q in
          omega (arith, k, good_lost e r.state k.good, some)

  -- the packets are the sendings
  one-sent : (p : Progress) (c : Call) → Kept e most p → (step p c).packets ≡ p.packets + length (sending_by p.state c)
  one-sent p asks k = omega arith
  one-sent p (gives o) k = given_as p o (sound-kept p k) (λ r l. r.packets ≡ p.packets + length l) (omega arith) (λ q. omega arith)

  pub packets_sent : (cs : List Call) (p : Progress) → Kept e most p → (perform p cs).packets ≡ p.packets + length (sendings p cs)
  packets_sent [] p k = omega arith
  packets_sent (c ∷ cs) p k =
      let rest = sendings (step p c) cs in
      omega (arith, packets_sent cs (step p c) (kept_step p c k), one-sent p c k, length-append (sending_by p.state c) rest)

  -- a sound search that has not ended answers a call for a probe
  asks_on : (s : Search) → Good e s → ended s ≡ false → answer (ask s) ≡ given (wanted s)
  unfolding ask
  asks_on s g q = answers-given s (wanted s) (good_sound e s fits g).0 q

  module _ (f : ℕ) (home : ℕ → Type 0) (tells : Tells e f home) where
    -- the probe wanted returns exactly if it is before f
    told : (s : Search) → Good e s → ended s ≡ false → home (wanted s) ↔ (wanted s < f)
    told s g q = let i = wanted_in e s g q in tells.before (wanted s) i.0 i.1

    -- ---- the first premise: where sendings returned, f is after their probe

    least_step : (p : Progress) (c : Call) → Kept e most p → AtLeast e p.state f → Each (TrueSending home) (sending_by p.state c) → AtLeast e (step p c).state f
    least_step p asks k a t = a
    least_step p (gives o) k a t =
        let s = p.state in
        given_as p o (sound-kept p k) (λ r l. Each (TrueSending home) l → AtLeast e r.state f) (λ u. a)
        (λ q u.
        next_as (λ r b. AtLeast e r f) s o
        (λ z. settled-least e s o f k.good q a (λ i. (told s k.good q).0 (subst (λ r. TrueSending home (sent (wanted s) r)) i u.0)))
        (λ z. (once_more_same e s).still_least f a))
        t

    least-all : (cs : List Call) (p : Progress) → Kept e most p → AtLeast e p.state f → Each (TrueSending home) (sendings p cs) → AtLeast e (perform p cs).state f
    least-all [] p k a t = a
    least-all (c ∷ cs) p k a t =
        let r = each-parts (TrueSending home) (sending_by p.state c) (sendings (step p c) cs) t in
        least-all cs (step p c) (kept_step p c k) (least_step p c k a r.0) r.1

    -- ---- the second premise: where three sendings in a row were lost, f is not after their probe

    -- with the sendings u so far: f is no place after the last of the state, and the sendings lost so far of the probe wanted are the last of u
    record Up (u : List Sending) (s : Search) : Type 0 where
      at_most : AtMost e s f
      row : LostLast (lost_so_far s) (wanted s) u

    -- a third loss in a row is of a probe that is not before f
    lost_after : (u rest : List Sending) (s : Search) → Good e s → ended s ≡ false → Up u s → settles s Lost ≡ true
        → OneReturns home (u ++ (sent (wanted s) Lost ∷ rest)) → f ≤ wanted s
    lost_after u rest s g q a z h = go (below? (wanted s) f)
      where
        third : lost_so_far s ≡ 2
        third = omega (arith, last_loss s z, good_lost e s g)

        two : LostLast 2 (wanted s) u
        two = subst (λ n. LostLast n (wanted s) u) third a.row

        none : IsReturned Lost ⊎ (IsReturned Lost ⊎ IsReturned Lost) → ⊥
        none (inl i) = not-returned i
        none (inr (inl i)) = not-returned i
        none (inr (inr i)) = not-returned i

        go : (wanted s < f) ⊎ (f ≤ wanted s) → f ≤ wanted s
        go (inl i) = let r = third_lost (wanted s) u rest two in absurd (none (h r.0 rest (wanted s) Lost Lost Lost r.1 ((told s g q).1 i)))
        go (inr i) = i

    up_moved : (u rest : List Sending) (s : Search) (o : Outcome) → Good e s → ended s ≡ false → Up u s → OneReturns home (u ++ (sent (wanted s) o ∷ rest))
        → Up (u ++ (sent (wanted s) o ∷ [])) (next s o)
    up_moved u rest s o g q a h =
        next_as (λ r b. Up (u ++ (sent (wanted s) o ∷ [])) r) s o
        (λ z. record {
          at_most = settled-most e s o f g q a.at_most (λ i. lost_after u rest s g q a (subst (λ r. settles s r ≡ true) i z) (subst (λ r. OneReturns home (u ++ (sent (wanted s) r ∷ rest))) i h));
          row = rw (settled-lost e s o g) tt;
        })
        (λ z. record {
          at_most = (once_more_same e s).still_most f a.at_most;
          row = rw (once_more_lost e s q ∙ add-one (lost_so_far s), (once_more_same e s).still_wanted) (u, ap (λ (r : Outcome). u ++ (sent (wanted s) r ∷ [])) (earlier_loss s o z).0, a.row);
        })

    up_step : (u rest : List Sending) (p : Progress) (c : Call) → Kept e most p → Up u p.state → OneReturns home (u ++ (sending_by p.state c ++ rest))
        → Up (u ++ sending_by p.state c) (step p c).state
    up_step u rest p asks k a h = rw (append-nil u) a
    up_step u rest p (gives o) k a h =
        given_as p o (sound-kept p k) (λ r l. OneReturns home (u ++ (l ++ rest)) → Up (u ++ l) r.state) (λ i. rw (append-nil u) a)
        (λ q. up_moved u rest p.state o k.good q a) h

    most_all : (cs : List Call) (u : List Sending) (p : Progress) → Kept e most p → Up u p.state → OneReturns home (u ++ sendings p cs)
        → AtMost e (perform p cs).state f
    most_all [] u p k a h = a.at_most
    most_all (c ∷ cs) u p k a h =
        let l = sending_by p.state c in
        let rest = sendings (step p c) cs in
        most_all cs (u ++ l) (step p c) (kept_step p c k) (up_step u rest p c k a h) (subst (OneReturns home) (sym (append_assoc u l rest)) h)

    -- ---- the theorem, from any state that keeps the invariant and has lost no sending

    pub finds_from : (p : Progress) → Kept e most p → lost_so_far p.state ≡ 0 → AtLeast e p.state f → AtMost e p.state f → (cs : List Call)
        → Finds e f home most p cs (perform p cs)
    finds_from p k₀ z a b cs =
        let s = (perform p cs).state in
        let k = kept-all cs p k₀ in
        let least = least-all cs p k₀ a in
        let top = most_all cs [] p k₀ (record { at_most = b; row = rw z tt }) in
        record {
          few = omega arith;
          enough = λ q. none_left e s k.good (omega arith);
          packets_few = packets_most (perform p cs) k;
          goes_on = λ q. let i = wanted_in e s k.good q in (wanted s, i.0, i.1, asks_on s k.good q);
          stays_sound = good_sound e s fits k.good;
          up_right = λ t q. omega (arith, up_at e s f (least t) (is-all_up s q), tells.to_none);
          all_up = λ t h q i. ap values_of ((ended_at e s f k.good (least t) (top h) q).0 i);
          first_down_is = λ t h q i. ap values_of ((ended_at e s f k.good (least t) (top h) q).1 i);
        }

-- a new search is such a state
pub finds : (e : ℕ) → e ≤ max_links → (f : ℕ) (home : ℕ → Type 0) → Tells e f home → (cs : List Call)
    → Finds e f home (limit e) (begun e) cs (perform (begun e) cs)
unfolding begun
finds e fits f home tells =
    finds_from e fits (limit e) f home tells (begun e) (kept_new e) (new-lost e) (new-least e f tells.from_one tells.to_none) (new-most e f tells.to_none)
