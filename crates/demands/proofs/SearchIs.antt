-- Document 01's section "Search", in values. Assumes nothing.
use mathlib.Core.Path.{◌≡◌, refl, sym, ap, ◌∙◌, subst}
use mathlib.Core.Bool.{true, false}
use Prim.Native.Nat.{ℕ, ◌+◌, ◌/◌, ◌≤◌, ◌<◌}
use native.Mathlib.Omega.{arith}
use borrow.Author.Tests.{lt-ltb, le-ltb, eq-eqb, ne_eqb}
use Rattle.answers.specs.Answers.{Answer, given, ◌>>=◌}
use Rattle.limits.specs.Limits.{max_links}
use Rattle.search.specs.declared.Search.{Search}
use Rattle.search.specs.declared.Search.TheVariants.{Checking, Halving}
use Rattle.search.specs.declared.Outcome.{Outcome}
use Rattle.search.specs.declared.Outcome.TheVariants.{Returned, Lost}
use Rattle.search.specs.Search.{tries, new_search, sound, ended, next, ask, give}
use Rattle.search.specs.Values.{Values, values_of, checking, halving, all_up, down, IsReturned, IsLost}
use Rattle.search.proofs.Values.{same-state, same_outcome, is-returned, is_lost}
use Rattle.search.proofs.Sound.{good_sound, answers-given}
use Rattle.demands.specs.SearchIs.{after, CheckingIs, HalvingIs, SearchIs}

-- an outcome that is accepted
module _ (q : Search) (good : sound q ≡ true) (going : ended q ≡ false) where
  accepted : (o : Outcome) → after q o ≡ given (values_of (next q o))
  unfolding give
  accepted o = ap (λ (a : Answer Search). a >>= λ r. given (values_of r)) (answers-given q (next q o) good going)

  came-home : (o : Outcome) → IsReturned o → (v : Values) → values_of (next q Returned) ≡ v → after q o ≡ given v
  came-home o i v e = ap (after q) (is-returned o i) ∙ accepted Returned ∙ ap given e

  was_lost : (o : Outcome) → IsLost o → (v : Values) → values_of (next q Lost) ≡ v → after q o ≡ given v
  was_lost o i v e = ap (after q) (is_lost o i) ∙ accepted Lost ∙ ap given e

module _ (e lost : ℕ) (h : 1 ≤ e) (few : e ≤ max_links) (short : lost ≤ 2) where
  abbrev now : Search
  now = Checking e lost

  fits : sound now ≡ true
  fits = (good_sound e now few (refl, h, omega arith)).0

  checks : CheckingIs now e lost
  unfolding ask
  checks = record {
    asks = answers-given now e fits refl;
    home = λ o i. came-home now fits refl o i all_up refl;
    third_lost = λ o i t m. was_lost now fits refl o i (halving 1 e 0) (rw (le-ltb (lost + 1) tries (omega arith), ne_eqb 1 e (λ z. omega arith)) refl);
    third_lost_one = λ o i t z. was_lost now fits refl o i (down 1) (rw (le-ltb (lost + 1) tries (omega arith), eq-eqb 1 e (sym z)) refl);
    lost_short = λ o i m. was_lost now fits refl o i (checking e (lost + 1)) (rw (lt-ltb (lost + 1) tries (omega arith)) refl);
  }

module _ (low high lost : ℕ) (h : 1 ≤ low) (l : low < high) (few : high ≤ max_links) (short : lost ≤ 2) where
  abbrev here : Search
  here = Halving low high lost

  fit : sound here ≡ true
  fit = (good_sound high here few (h, l, omega arith, omega arith)).0

  abbrev m : ℕ
  m = (low + high) / 2

  halves : HalvingIs here low high lost m
  unfolding ask
  halves = record {
    asks = answers-given here m fit refl;
    home = λ o i k. came-home here fit refl o i (halving (m + 1) high 0) (rw (ne_eqb (m + 1) high (λ z. omega arith)) refl);
    home_agree = λ o i z. came-home here fit refl o i (down high) (rw (eq-eqb (m + 1) high z) (ap down z));
    third_lost = λ o i t k. was_lost here fit refl o i (halving low m 0) (rw (le-ltb (lost + 1) tries (omega arith), ne_eqb low m (λ z. omega arith)) refl);
    third_lost_agree = λ o i t z. was_lost here fit refl o i (down low) (rw (le-ltb (lost + 1) tries (omega arith), eq-eqb low m z) refl);
    lost_short = λ o i k. was_lost here fit refl o i (halving low high (lost + 1)) (rw (lt-ltb (lost + 1) tries (omega arith)) refl);
    between = (omega arith, omega arith);
  }

pub search_is : SearchIs
unfolding new_search
search_is = record {
  states_apart = same-state;
  outcomes_apart = same_outcome;
  new = λ e h. rw (ne_eqb e 0 (λ z. omega arith)) refl;
  new_none = refl;
  checking_is = λ q e lost i h few short. subst (λ (u : Search). CheckingIs u e lost) (sym (same-state q (Checking e lost) i)) (checks e lost h few short);
  halving_is = λ q low high lost i h l few short.
      subst (λ (u : Search). HalvingIs u low high lost ((low + high) / 2)) (sym (same-state q (Halving low high lost) i)) (halves low high lost h l few short);
}
