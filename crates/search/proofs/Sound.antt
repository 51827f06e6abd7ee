-- Refusals 14 and 15 as facts: what a sound state is, for itself and in a call with a listing of e links, and what a call answers by it. Assumes nothing.
use mathlib.Core.Path.{◌≡◌, refl}
use mathlib.Core.Bool.{true, false, ◌&&◌}
use Prim.Native.Nat.{ℕ, ◌≤◌, ◌<◌}
use native.Mathlib.Omega.{arith}
use lib.Dec.{leb, ltb}
use borrow.Author.Tests.{eqb-true, leb-true, ltb-true, eq-eqb, le-leb, lt-ltb}
use Rattle.lists.proofs.Tests.{and_true, not_both}
use Rattle.answers.specs.Answers.{given, refused}
use Rattle.answers.specs.Checks.{check, answer}
use Rattle.limits.specs.Limits.{max_links}
use Rattle.search.specs.declared.Search.{Search}
use Rattle.search.specs.declared.Search.TheVariants.{Checking, Halving, AllUp, Down}
use Rattle.search.specs.Search.{tries, counts, halves, short, sound, sound_for, says, ended, wanted, lost_so_far, call_checks}
use Rattle.search.specs.Sound.{Good}
use Rattle.search.specs.Answers.{SaysIn}

-- ---- what a call answers

module _ {A : Type 0} (s : Search) (a : A) where
  pub answers_15 : sound s ≡ true → ended s ≡ true → answer (check (call_checks s) a) ≡ refused 15
  answers_15 e q = rw (e, q)

  pub answers-given : sound s ≡ true → ended s ≡ false → answer (check (call_checks s) a) ≡ given a
  answers-given e q = rw (e, q)

-- ---- a sound state

pub counts-fits : (n : ℕ) → counts n ≡ true → (1 ≤ n) × (n ≤ max_links)
counts-fits n t = let r = and_true (ltb 0 n) (leb n max_links) t in (ltb-true 0 n r.0, leb-true n max_links r.1)

halves-fits : (low high : ℕ) → halves low high ≡ true → (1 ≤ low) × (low < high) × (high ≤ max_links)
halves-fits low high t =
    let r = and_true (ltb 0 low) (ltb low high && leb high max_links) t in
    let q = and_true (ltb low high) (leb high max_links) r.1 in
    (ltb-true 0 low r.0, ltb-true low high q.0, leb-true high max_links q.1)

-- a number of sendings lost that is short of settling a probe
pub checking-fits : (count lost : ℕ) → sound (Checking count lost) ≡ true → (1 ≤ count) × (count ≤ max_links) × (lost < tries)
checking-fits count lost t =
    let r = and_true (counts count) (short lost) t in
    let q = counts-fits count r.0 in
    (q.0, q.1, ltb-true lost tries r.1)

pub halving-fits : (low high lost : ℕ) → sound (Halving low high lost) ≡ true → (1 ≤ low) × (low < high) × (high ≤ max_links) × (lost < tries)
halving-fits low high lost t =
    let r = and_true (halves low high) (short lost) t in
    let q = halves-fits low high r.0 in
    (q.0, q.1, q.2, ltb-true lost tries r.1)

-- a sound state has lost fewer sendings than settle a probe
pub lost_short : (s : Search) → sound s ≡ true → lost_so_far s < tries
lost_short (Checking count lost) t = (checking-fits count lost t).2
lost_short (Halving low high lost) t = (halving-fits low high lost t).3
lost_short AllUp t = omega arith
lost_short (Down place) t = omega arith

-- a probe that is wanted is no further than the last link that there can be
pub wanted-most : (s : Search) → sound s ≡ true → wanted s ≤ max_links
wanted-most (Checking count lost) t = (checking-fits count lost t).1
wanted-most (Halving low high lost) t = omega (arith, halving-fits low high lost t)
wanted-most AllUp t = omega arith
wanted-most (Down place) t = omega arith

pub sound_good : (e : ℕ) (s : Search) → sound s ≡ true → sound_for e s ≡ true → Good e s
sound_good e (Checking count lost) t u = let q = eqb-true count e u in let r = checking-fits count lost t in (q, omega arith, r.2)
sound_good e (Halving low high lost) t u = let r = halving-fits low high lost t in (r.0, r.1, leb-true high e u, r.3)
sound_good e AllUp t u = tt
sound_good e (Down place) t u = ((counts-fits place t).0, leb-true place e u)

pub good_sound : (e : ℕ) (s : Search) → e ≤ max_links → Good e s → (sound s ≡ true) × (sound_for e s ≡ true)
good_sound e (Checking count lost) h g =
    (rw (lt-ltb 0 count (omega arith), le-leb count max_links (omega arith), lt-ltb lost tries g.2), eq-eqb count e g.0)
good_sound e (Halving low high lost) h g = (
  rw (lt-ltb 0 low (omega arith), lt-ltb low high (omega arith), le-leb high max_links (omega arith), lt-ltb lost tries g.3),
  le-leb high e (omega arith),
)
good_sound e AllUp h g = (refl, refl)
good_sound e (Down place) h g = (rw (lt-ltb 0 place (omega arith), le-leb place max_links (omega arith)), le-leb place e (omega arith))

pub says_in : (e : ℕ) (s : Search) → Good e s → SaysIn e (says s)
says_in e (Checking count lost) g = tt
says_in e (Halving low high lost) g = tt
says_in e AllUp g = tt
says_in e (Down place) g = g

-- a search that has not ended wants one of the probes 1 .. e
pub wanted_in : (e : ℕ) (s : Search) → Good e s → ended s ≡ false → (1 ≤ wanted s) × (wanted s ≤ e)
wanted_in e (Checking count lost) g q = omega arith
wanted_in e (Halving low high lost) g q = omega arith
wanted_in e AllUp g q = absurd (not_both true refl q)
wanted_in e (Down place) g q = absurd (not_both true refl q)
