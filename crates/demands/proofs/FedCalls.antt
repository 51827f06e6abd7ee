-- The calls that start and feed the search of a console, as one more call leaves them. Assumes nothing.
use mathlib.Core.Path.{◌≡◌, refl, ap, ◌∙◌}
use mathlib.Core.Bool.{Bool, true, false}
use mathlib.Core.List.{List, [], ◌∷◌, ◌++◌}
use Prim.Native.Nat.{ℕ}
use lib.Dec.{eqb}
use borrow.Author.Tests.{eq-eqb, ne_eqb}
use Rattle.lists.specs.Tests.{choose}
use Rattle.answers.specs.Answers.{Answer, given, refused}
use Rattle.search.specs.declared.Outcome.{Outcome}
use Rattle.desk.specs.declared.Console.{Console}
use Rattle.desk.specs.declared.Desk.{Desk}
use Rattle.consoles.specs.Calls.{Request, new_set, outcome}
use Rattle.consoles.specs.Lists.{DeskCall, answer_to, after, after_all, Fed, unknown, feed_with, feed_if, fed_by, fed_in}
use Rattle.demands.specs.Order8.{FedCalls}

-- what a call does, by whether it is of the console
abbrev turned : Bool → Answer Console → List ℕ → Request → Fed → Fed
turned b a s r u = choose b (feed_if a s r u) u

-- the last call of a list
one_more : (k : ℕ) (c : DeskCall) (cs : List DeskCall) (d : Desk) (u : Fed)
    → fed_by k d (cs ++ c ∷ []) u ≡ turned (eqb c.console k) (answer_to (after_all d cs) c) c.listing c.request (fed_by k d cs u)
one_more k c [] d u = refl
one_more k c (q ∷ qs) d u = one_more k c qs (after d q) (turned (eqb q.console k) (answer_to d q) q.listing q.request u)

refused-same : (b : Bool) (n : ℕ) (s : List ℕ) (r : Request) (u : Fed) → turned b (refused n) s r u ≡ u
refused-same true n s r u = refl
refused-same false n s r u = refl

set_same : (b : Bool) (a : Answer Console) (s : List ℕ) (set : ℕ) (u : Fed) → turned b a s (new_set set) u ≡ u
set_same true (given c) s set u = refl
set_same true (refused n) s set u = refl
set_same false a s set u = refl

unknown-same : (b : Bool) (a : Answer Console) (s : List ℕ) (o : Outcome) → turned b a s (outcome o) unknown ≡ unknown
unknown-same true (given c) s o = refl
unknown-same true (refused n) s o = refl
unknown-same false a s o = refl

module _ (k : ℕ) (d : Desk) (cs : List DeskCall) (c : DeskCall) where
  abbrev b : Bool
  b = eqb c.console k

  abbrev a : Answer Console
  a = answer_to (after_all d cs) c

  abbrev u : Fed
  u = fed_in k d cs

  now : fed_in k d (cs ++ c ∷ []) ≡ turned b a c.listing c.request u
  now = one_more k c cs d unknown

  -- of the console itself, where it is not refused
  own : c.console ≡ k → (e : Console) → a ≡ given e → fed_in k d (cs ++ c ∷ []) ≡ feed_with c.listing c.request u
  own i e g =
      now ∙ ap (λ (t : Bool). turned t a c.listing c.request u) (eq-eqb c.console k i)
      ∙ ap (λ (v : Answer Console). feed_if v c.listing c.request u) g

  pub fed_calls : FedCalls k d cs c
  fed_calls = record {
    none = refl;
    started = λ i x r e g. own i e g ∙ ap (λ (v : Request). feed_with c.listing v u) r;
    fed = λ i o r e g s x os f. own i e g ∙ ap (λ (v : Request). feed_with c.listing v u) r ∙ ap (λ (v : Fed). feed_with c.listing (outcome o) v) f;
    fed_unknown = λ i o r f.
        now ∙ ap (λ (v : Request). turned b a c.listing v u) r ∙ ap (turned b a c.listing (outcome o)) f ∙ unknown-same b a c.listing o;
    set_leaves = λ set r. now ∙ ap (λ (v : Request). turned b a c.listing v u) r ∙ set_same b a c.listing set u;
    refusal_leaves = λ n g. now ∙ ap (λ (v : Answer Console). turned b v c.listing c.request u) g ∙ refused-same b n c.listing c.request u;
    others_leave = λ n. now ∙ ap (λ (t : Bool). turned t a c.listing c.request u) (ne_eqb c.console k n);
  }
