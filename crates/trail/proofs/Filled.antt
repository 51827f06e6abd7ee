-- A buffer that is filled and a list that is compared, place by place and list by list; a list that begins with another of its length is that, and
-- one that begins with another has it at its front. Assumes nothing.
use mathlib.Core.Path.{◌≡◌, refl, sym, ap, ap₂, ◌∙◌, subst}
use mathlib.Core.Logic.{◌↔◌}
use mathlib.Core.Bool.{Bool, true, false, ◌&&◌, and_assoc, false≢true}
use mathlib.Core.List.{List, [], ◌∷◌, ◌++◌, append-nil}
use Prim.Native.Nat.{ℕ, ◌+◌, ◌≤◌, ◌<◌}
use native.Mathlib.Omega.{arith}
use native.Mathlib.Numerals.{add-one}
use borrow.Author.Tests.{eqb-true, eq-eqb, ne_eqb}
use lib.Dec.{eqb}
use Rattle.std.specs.Prelude.{Option, Some, None}
use lib.ListN.{length, get_or, set, take, drop, length-set, length-append, drop_of_length-le}
use lib.Seq.{sets, drop-cons, drop-drop}
use Rattle.lists.proofs.Arrays.{sets-append, sets-front, laid}
use Rattle.lists.proofs.Tests.{and_true}
use Rattle.trail.specs.Filled.{filled_with, begins_with, Tells}
use Rattle.trail.specs.Ways.{Laid, TellsFrom}

-- the list l is w and then v
pub record Splits (l w v : List ℕ) : Type 0 where
  pub is : l ≡ w ++ v

-- ---- what is left to store

-- to store w into b from place i on makes what w₀ makes in b₀ from place i₀ on
pub record Stored (b₀ : List ℕ) (i₀ : ℕ) (w₀ b : List ℕ) (i : ℕ) (w : List ℕ) : Type 0 where
  pub long : length b ≡ length b₀
  pub counted : i + length w ≡ i₀ + length w₀
  pub makes : sets b i w ≡ sets b₀ i₀ w₀

module _ {b₀ : List ℕ} {i₀ : ℕ} {w₀ : List ℕ} where
  pub stored_none : {w : List ℕ} → w₀ ≡ w → Stored b₀ i₀ w₀ b₀ i₀ w
  stored_none e = record { long = refl; counted = omega (arith, ap length e); makes = ap (sets b₀ i₀) (sym e) }

  module _ {b : List ℕ} {i : ℕ} {w : List ℕ} (s : Stored b₀ i₀ w₀ b i w) where
    pub stored_one : {a : ℕ} {v : List ℕ} → w ≡ a ∷ v → Stored b₀ i₀ w₀ (set b i a) (i + 1) v
    stored_one {a} {v} e = record {
      long = length-set b i a ∙ s.long;
      counted = omega (arith, s.counted, ap length e);
      makes = ap (λ (k : ℕ). sets (set b i a) k v) (add-one i) ∙ ap (sets b i) (sym e) ∙ s.makes;
    }

    pub stored_room : {x v : List ℕ} → Splits w x v → i₀ + length w₀ ≤ length b₀ → i + length x ≤ length b
    stored_room {x} {v} e h = omega (arith, s.long, s.counted, ap length e.is, length-append x v)

    pub stored_list : {x v b' : List ℕ} {j : ℕ} → Splits w x v → Laid x b i b' j → Stored b₀ i₀ w₀ b' j v
    stored_list {x} {v} {b'} {j} e l = record {
      long = laid b b' i x l.makes ∙ s.long;
      counted = omega (arith, s.counted, ap length e.is, length-append x v, l.after);
      makes = ap₂ (λ (c : List ℕ) (k : ℕ). sets c k v) l.makes l.after ∙ sets-append b i x v ∙ ap (sets b i) (sym e.is) ∙ s.makes;
    }

    pub stored_all : w ≡ [] → Laid w₀ b₀ i₀ b i
    stored_all e = record { makes = sym (ap (sets b i) e) ∙ s.makes; after = omega (arith, s.counted, ap length e) }

-- ---- lists that are laid

-- nothing is laid, or one list after another; no length changes
pub laid_none : (b : List ℕ) (i : ℕ) → Laid [] b i b i
laid_none b i = record { makes = refl; after = omega arith }

pub laid_then : {w v b b' b'' : List ℕ} {i j k : ℕ} → Laid w b i b' j → Laid v b' j b'' k → Laid (w ++ v) b i b'' k
laid_then {w} {v} {b} {i = i} l m = record {
  makes = m.makes ∙ ap₂ (λ (c : List ℕ) (n : ℕ). sets c n v) l.makes l.after ∙ sets-append b i w v;
  after = omega (arith, l.after, m.after, length-append w v);
}

pub laid-long : {w b b' : List ℕ} {i j : ℕ} → Laid w b i b' j → length b' ≡ length b
laid-long {w} {b} {b'} {i} l = laid b b' i w l.makes

-- from place 0 on: at the front
pub laid-front : {w b b' : List ℕ} {j : ℕ} → Laid w b 0 b' j → length w ≤ length b → b' ≡ filled_with w b
laid-front {w} {b} l h = l.makes ∙ sets-front b w h

-- ---- what is left to compare

-- l begins with w at place i just where it begins with w₀ at place i₀
pub record Met (l : List ℕ) (i₀ : ℕ) (w₀ : List ℕ) (i : ℕ) (w : List ℕ) : Type 0 where
  pub counted : i + length w ≡ i₀ + length w₀
  pub begins : begins_with (drop i l) w ≡ begins_with (drop i₀ l) w₀

begins-append : (l w v : List ℕ) → begins_with l (w ++ v) ≡ begins_with l w && begins_with (drop (length w) l) v
unfolding begins_with
begins-append l [] v = refl
begins-append [] (a ∷ w) v = refl
begins-append (x ∷ l) (a ∷ w) v = ap (λ (c : Bool). eqb x a && c) (begins-append l w v) ∙ sym (and_assoc (eqb x a) (begins_with l w) (begins_with (drop (length w) l) v))

module _ {l : List ℕ} {i₀ : ℕ} {w₀ : List ℕ} where
  pub met-none : {w : List ℕ} → w₀ ≡ w → Met l i₀ w₀ i₀ w
  met-none e = record { counted = omega (arith, ap length e); begins = ap (begins_with (drop i₀ l)) (sym e) }

  module _ {i : ℕ} {w : List ℕ} (m : Met l i₀ w₀ i w) where
    module _ {a : ℕ} {v : List ℕ} (e : w ≡ a ∷ v) where
      pub met-short : length l ≤ i → TellsFrom i₀ l w₀ None
      unfolding begins_with
      met-short h = sym m.begins ∙ ap₂ begins_with (drop_of_length-le l h) e

      -- by what the first comparison says
      first : (b : Bool) → i < length l → eqb (get_or l i 0) a ≡ b → begins_with (drop i₀ l) w₀ ≡ b && begins_with (drop (i + 1) l) v
      unfolding begins_with
      first b h q = sym m.begins ∙ ap₂ begins_with (drop-cons l i 0 h) e ∙ ap₂ (λ (c : Bool) (k : ℕ). c && begins_with (drop k l) v) q (sym (add-one i))

      pub met_differs : i < length l → (get_or l i 0 ≡ a → ⊥) → TellsFrom i₀ l w₀ None
      met_differs h f = first false h (ne_eqb (get_or l i 0) a f)

      pub met-one : i < length l → get_or l i 0 ≡ a → Met l i₀ w₀ (i + 1) v
      met-one h f = record { counted = omega (arith, m.counted, ap length e); begins = sym (first true h (eq-eqb (get_or l i 0) a f)) }

    module _ {x v : List ℕ} (e : Splits w x v) (r : Option ℕ) (t : TellsFrom i l x r) where
      -- by what is told of x
      by : (b : Bool) → begins_with (drop i l) x ≡ b → begins_with (drop i₀ l) w₀ ≡ b && begins_with (drop (i + length x) l) v
      by b q =
          sym m.begins
          ∙ ap (begins_with (drop i l)) e.is
          ∙ begins-append (drop i l) x v
          ∙ ap₂ (λ (c : Bool) (k : List ℕ). c && begins_with k v) q (drop-drop (length x) i l)

      pub met_other : r ≡ None → TellsFrom i₀ l w₀ None
      met_other q = by false (subst (TellsFrom i l x) q t)

      pub met_list : {j : ℕ} → r ≡ Some j → Met l i₀ w₀ j v
      met_list {j} q =
          let f : (begins_with (drop i l) x ≡ true) × (j ≡ i + length x) = subst (TellsFrom i l x) q t in record {
            counted = omega (arith, f.1, m.counted, ap length e.is, length-append x v);
            begins = sym (by true f.0 ∙ ap (λ (k : ℕ). begins_with (drop k l) v) (sym f.1));
          }

    pub met_all : w ≡ [] → TellsFrom i₀ l w₀ (Some i)
    unfolding begins_with
    met_all e = (sym m.begins ∙ ap (begins_with (drop i l)) e, omega (arith, m.counted, ap length e))

-- what is told of the last list is told of all
pub met-last : {l w v x : List ℕ} {i₀ i : ℕ} → Met l i₀ w i v → Splits v x [] → (r : Option ℕ) → TellsFrom i l x r → TellsFrom i₀ l w r
met-last m e (Some j) t = met_all (met_list m e (Some j) t refl) refl
met-last m e None t = met_other m e None t refl

-- ---- what is told of lists

module _ (l : List ℕ) where
  -- of none, and of one list after another: by what is told of the first, and then of the second from the place after it
  pub tells_none : (i : ℕ) → TellsFrom i l [] (Some i)
  tells_none i = met_all (met-none refl) refl

  module _ (i : ℕ) (w v : List ℕ) where
    both : Splits (w ++ v) w v
    both = record { is = refl }

    all : Met l i (w ++ v) i (w ++ v)
    all = met-none refl

    pub tells_other : TellsFrom i l w None → TellsFrom i l (w ++ v) None
    tells_other t = met_other all both None t refl

    pub tells_then : (j : ℕ) → TellsFrom i l w (Some j) → (r : Option ℕ) → TellsFrom j l v r → TellsFrom i l (w ++ v) r
    tells_then j t r q = met-last (met_list all both (Some j) t refl) (record { is = sym (append-nil v) }) r q

  -- from place 0 on: of the whole list
  pub tells-front : (w : List ℕ) (r : Option ℕ) → TellsFrom 0 l w r → Tells l w r
  tells-front w (Some n) t = (t.0, omega (arith, t.1))
  tells-front w None t = t

-- ---- a list that begins with another and has its length is the other, and so is no other list

whole : (l w : List ℕ) → begins_with l w ≡ true → length l ≡ length w → l ≡ w
unfolding begins_with
whole [] [] e q = refl
whole (x ∷ l) [] e q = absurd (omega arith)
whole [] (a ∷ w) e q = absurd (omega arith)
whole (x ∷ l) (a ∷ w) e q =
    let h = and_true (eqb x a) (begins_with l w) e in
    ap₂ (λ (z : ℕ) (zs : List ℕ). z ∷ zs) (eqb-true x a h.0) (whole l w h.1 (omega arith))

-- a list begins with its front
pub begins-own : (w v : List ℕ) → begins_with (w ++ v) w ≡ true
unfolding begins_with
begins-own [] v = refl
begins-own (a ∷ w) v = rw (eq-eqb a a refl) (begins-own w v)

itself : (w : List ℕ) → begins_with w w ≡ true
itself w = rw (append-nil w) at (begins-own w [])

pub same-is : (l w : List ℕ) → (begins_with l w && eqb (length l) (length w) ≡ true) ↔ (l ≡ w)
same-is l w = (
  λ e. let h = and_true (begins_with l w) (eqb (length l) (length w)) e in whole l w h.0 (eqb-true (length l) (length w) h.1),
  λ e. subst (λ (v : List ℕ). begins_with l v && eqb (length l) (length v) ≡ true) e (rw (itself l, eq-eqb (length l) (length l) refl)),
)

-- a list that begins with another has it at its front
pub front-is : (l w : List ℕ) → begins_with l w ≡ true → take (length w) l ≡ w
unfolding begins_with
front-is l [] e = refl
front-is [] (a ∷ w) e = absurd (false≢true e)
front-is (x ∷ l) (a ∷ w) e =
    let h = and_true (eqb x a) (begins_with l w) e in
    ap₂ (λ (z : ℕ) (zs : List ℕ). z ∷ zs) (eqb-true x a h.0) (front-is l w h.1)
