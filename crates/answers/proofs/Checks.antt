-- Laws of answers: a result is not a refusal; and conditions by number, in the order in which they are tried: a call is refused by the first that holds, and gives its
-- result exactly if none of them holds. Assumes nothing.
use mathlib.Core.Path.{◌≡◌, refl, sym, ap, ◌∙◌, subst}
use mathlib.Core.Logic.{◌↔◌}
use mathlib.Core.Bool.{Bool, true, false}
use mathlib.Core.List.{List, [], ◌∷◌, ◌++◌}
use Prim.Native.Nat.{ℕ}
use native.Mathlib.Omega.{arith}
use Rattle.answers.specs.Answers.{Answer, given, refused, refuse, ◌>>=◌}
use Rattle.answers.specs.Checks.{Conditions, NoneHolds, FirstHolds, trying, Checked, answer, ◌then◌, ◌giving◌, leaves}

pub given-refused : {A : Type 0} (a : A) (n : ℕ) → given a ≡ refused n → ⊥
given-refused a n e = let z : ◌≡◌ {A = ℕ} 0 1 = cc in omega arith

pub given-given : {A : Type 0} (a b : A) → given a ≡ given b → a ≡ b
given-given a b e = cc

pub refused-refused : {A : Type 0} (m n : ℕ) → ◌≡◌ {A = Answer A} (refused m) (refused n) → m ≡ n
refused-refused m n e = cc

-- a condition that was tried, where there is a result
pub refuse-given : {A : Type 0} (n : ℕ) (c : Bool) (a : Answer A) (b : A) → refuse n c a ≡ given b → (c ≡ false) × (a ≡ given b)
refuse-given n true a b e = absurd (given-refused b n (sym e))
refuse-given n false a b e = (refl, e)

-- what came before a result
pub then_given : {A B : Type 0} (a : Answer A) (f : A → Answer B) (b : B) → (a >>= f) ≡ given b → (x : A) × (a ≡ given x) × (f x ≡ given b)
then_given (given x) f b e = (x, refl, e)
then_given (refused n) f b e = absurd (given-refused b n (sym e))

pub then_assoc : {A B C : Type 0} (a : Answer A) (f : A → Answer B) (g : B → Answer C) → (a >>= f >>= g) ≡ (a >>= λ x. f x >>= g)
then_assoc (given x) f g = refl
then_assoc (refused n) f g = refl

-- ---- one condition

module _ {A : Type 0} (n : ℕ) (c : Bool) (a : Answer A) where
  pub holds : c ≡ true → refused n ≡ refuse n c a
  holds e = rw e

  pub fails : (b : Answer A) → c ≡ false → b ≡ a → b ≡ refuse n c a
  fails b e q = rw e q

-- ---- conditions by number, in the order in which they are tried

pub trying-append : {A : Type 0} (cs ds : Conditions) (a : Answer A) → trying (cs ++ ds) a ≡ trying cs (trying ds a)
trying-append [] ds a = refl
trying-append (c ∷ cs) ds a = ap (refuse c.0 c.1) (trying-append cs ds a)

pub trying_then : {A B : Type 0} (cs : Conditions) (a : Answer A) (f : A → Answer B) → (trying cs a >>= f) ≡ trying cs (a >>= f)
trying_then [] a f = refl
trying_then {A} {B} (c ∷ cs) a f = go c.1 (trying_then cs a f)
  where
    go : (b : Bool) → (trying cs a >>= f) ≡ trying cs (a >>= f) → (refuse c.0 b (trying cs a) >>= f) ≡ refuse c.0 b (trying cs (a >>= f))
    go true e = refl
    go false e = e

-- an answer matters only where none of the conditions that are tried before it holds
pub trying_when : {A : Type 0} (cs : Conditions) (a b : Answer A) → (NoneHolds cs → a ≡ b) → trying cs a ≡ trying cs b
trying_when [] a b h = h tt
trying_when {A} (c ∷ cs) a b h = go c.1 (λ e. trying_when cs a b (λ k. h (e, k)))
  where
    go : (t : Bool) → (t ≡ false → trying cs a ≡ trying cs b) → refuse c.0 t (trying cs a) ≡ refuse c.0 t (trying cs b)
    go true f = refl
    go false f = f refl

pub none-append : (cs ds : Conditions) → NoneHolds (cs ++ ds) → NoneHolds cs × NoneHolds ds
none-append [] ds h = (tt, h)
none-append (c ∷ cs) ds h = let r = none-append cs ds h.1 in ((h.0, r.0), r.1)

pub none-trying : {A : Type 0} (cs : Conditions) (a : Answer A) → NoneHolds cs → trying cs a ≡ a
none-trying [] a h = refl
none-trying (c ∷ cs) a h = rw h.0 (none-trying cs a h.1)

pub first-trying : {A : Type 0} (n : ℕ) (before after : Conditions) (a : Answer A) → NoneHolds before → trying (before ++ (n, true) ∷ after) a ≡ refused n
first-trying n before after a h = trying-append before ((n, true) ∷ after) a ∙ none-trying before (refused n) h

trying-given : {A : Type 0} (cs : Conditions) (a : Answer A) (b : A) → trying cs a ≡ given b → NoneHolds cs × (a ≡ given b)
trying-given [] a b e = (tt, e)
trying-given (c ∷ cs) a b e =
    let r = refuse-given c.0 c.1 (trying cs a) b e in
    let q = trying-given cs a b r.1 in
    ((r.0, q.0), q.1)

trying-refused : {A : Type 0} (cs : Conditions) (a : A) (n : ℕ) → trying cs (given a) ≡ refused n → FirstHolds n cs
trying-refused [] a n e = absurd (given-refused a n e)
trying-refused {A} (c ∷ cs) a n e = go c.0 c.1 (trying-refused cs a n) e
  where
    go : (m : ℕ) (b : Bool) → (trying cs (given a) ≡ refused n → FirstHolds n cs) → refuse m b (trying cs (given a)) ≡ refused n → FirstHolds n ((m, b) ∷ cs)
    go m true rec q = record {
      before = [];
      after = cs;
      tried = ap (λ (k : ℕ). (k, true) ∷ cs) (refused-refused {A = A} m n q);
      none_before = tt;
    }
    go m false rec q =
        let f = rec q in
        record { before = (m, false) ∷ f.before; after = f.after; tried = ap (λ (ds : Conditions). (m, false) ∷ ds) f.tried; none_before = (refl, f.none_before) }

-- the answer is refusal n exactly if condition n holds and none that is tried before it does
pub refused-exactly : {A : Type 0} (cs : Conditions) (a : A) (n : ℕ) → (trying cs (given a) ≡ refused n) ↔ FirstHolds n cs
refused-exactly cs a n = (trying-refused cs a n, λ f. rw f.tried (first-trying n f.before f.after (given a) f.none_before))

-- and the result exactly if none of them holds
pub given-exactly : {A : Type 0} (cs : Conditions) (a b : A) → (trying cs (given a) ≡ given b) ↔ NoneHolds cs × (a ≡ b)
given-exactly cs a b = (λ e. let r = trying-given cs (given a) b e in (r.0, given-given a b r.1), λ h. none-trying cs (given a) h.0 ∙ ap given h.1)

-- what is so of the number of each condition is so of a refusal
abbrev pub EachNumber : (ℕ → Type 0) → Conditions → Type 0
EachNumber P [] = Unit
EachNumber P (c ∷ cs) = P c.0 × EachNumber P cs

pub each_append : (P : ℕ → Type 0) (cs ds : Conditions) → EachNumber P cs → EachNumber P ds → EachNumber P (cs ++ ds)
each_append P [] ds h k = k
each_append P (c ∷ cs) ds h k = (h.0, each_append P cs ds h.1 k)

pub first-number : (P : ℕ → Type 0) (cs : Conditions) (n : ℕ) → EachNumber P cs → FirstHolds n cs → P n
first-number P cs n h f = go f.before (subst (EachNumber P) f.tried h)
  where
    go : (ds : Conditions) → EachNumber P (ds ++ (n, true) ∷ f.after) → P n
    go [] q = q.0
    go (d ∷ ds) q = go ds q.1

-- where no condition is the first that holds, none holds
pub otherwise-none : (cs : Conditions) → ((n : ℕ) → FirstHolds n cs → ⊥) → NoneHolds cs
otherwise-none cs h = go (trying cs (given tt)) refl
  where
    go : (a : Answer Unit) → trying cs (given tt) ≡ a → NoneHolds cs
    go (given _) e = ((given-exactly cs tt tt).0 e).0
    go (refused n) e = absurd (h n ((refused-exactly cs tt n).0 e))

-- ---- a call

-- a call that gives a, gives its result
pub result-given : {A : Type 0} (c : Checked A) (a : A) → answer c ≡ given a → c.result ≡ a
result-given c a e = ((given-exactly c.checks c.result a).0 e).1

-- one after the other
module _ {A B : Type 0} (c : Checked A) (f : A → Checked B) where
  pub then_is : answer (c then f) ≡ (answer c >>= λ a. answer (f a))
  then_is =
      trying-append c.checks (f c.result).checks (given (f c.result).result)
      ∙ sym (trying_then c.checks (given c.result) (λ a. answer (f a)))

  pub goes_on : (a : A) → answer c ≡ given a → answer (c then f) ≡ answer (f a)
  goes_on a e = then_is ∙ rw e refl

  pub stops : (n : ℕ) → answer c ≡ refused n → answer (c then f) ≡ refused n
  stops n e = then_is ∙ rw e refl

  -- what came before a result
  pub came_from : (b : B) → answer (c then f) ≡ given b → (a : A) × (answer c ≡ given a) × (answer (f a) ≡ given b)
  came_from b e = then_given (answer c) (λ a. answer (f a)) b (sym then_is ∙ e)

-- with another result
module _ {A B : Type 0} (c : Checked A) (f : A → B) where
  giving-is : answer (c giving f) ≡ (answer c >>= λ a. given (f a))
  giving-is = sym (trying_then c.checks (given c.result) (λ a. given (f a)))

  pub gives_so : (a : A) → answer c ≡ given a → answer (c giving f) ≡ given (f a)
  gives_so a e = giving-is ∙ rw e refl

  pub refuses_so : (n : ℕ) → answer c ≡ refused n → answer (c giving f) ≡ refused n
  refuses_so n e = giving-is ∙ rw e refl

  pub was_given : (b : B) → answer (c giving f) ≡ given b → (a : A) × (answer c ≡ given a) × (f a ≡ b)
  was_given b e = let r = then_given (answer c) (λ a. given (f a)) b (sym giving-is ∙ e) in (r.0, r.1, given-given (f r.0) b r.2)

-- a refusal leaves what is lent as it was
pub left-kept : {A B : Type 0} (f : A → B) (b : B) (a : Answer A) (n : ℕ) → a ≡ refused n → leaves f b a ≡ b
left-kept f b a n e = rw e refl
