-- Laws of tables: their cells, a store of one of them, and when two are equal. Assumes nothing.
use mathlib.Core.Path.{◌≡◌, sym, ap, ◌∙◌, subst}
use mathlib.Core.Logic.{⊎_elim}
use mathlib.Core.List.{List, [], map}
use Prim.Native.Nat.{ℕ, ◌<◌}
use native.Mathlib.Omega.{arith}
use lib.ListN.{length, get_or, set, replicate, length-set, length-replicate, get_or-replicate}
use lib.Seq.{get_or-set_same, get_or-set_other, ext_get_or}
use Rattle.lists.proofs.Tests.{eq?}
use Rattle.lists.proofs.Numbers.{values_length, values-at}
use Rattle.lists.specs.Numbers.{range}
use Rattle.limits.specs.Limits.{max_switches}
use Rattle.arcs.specs.Table.{cell, grid, Shape}

-- ---- the cells of a table

-- f tells every cell of the table
pub record Holds (f : ℕ → ℕ → ℕ) (t : List (List ℕ)) : Type 0 where
  pub shape : Shape t
  pub cells : (u v : ℕ) → u < max_switches → v < max_switches → cell t u v ≡ f u v

row_of : (f : ℕ → ℕ → ℕ) (u : ℕ) → u < max_switches → get_or (grid f) u [] ≡ map (f u) (range 0 max_switches)
unfolding grid
row_of f u h = values-at (λ i. map (f i) (range 0 max_switches)) [] max_switches u h

pub grid_holds : (f : ℕ → ℕ → ℕ) → Holds f (grid f)
unfolding grid
grid_holds f = record {
  shape = record {
    long = values_length (λ i. map (f i) (range 0 max_switches)) 0 max_switches;
    wide = λ i h. ap length (row_of f i h) ∙ values_length (f i) 0 max_switches;
  };
  cells = λ u v h k. ap (λ (r : List ℕ). get_or r v 0) (row_of f u h) ∙ values-at (f u) 0 max_switches v k;
}

-- a table is known by its cells
pub holds_grid : (f : ℕ → ℕ → ℕ) (t : List (List ℕ)) → Holds f t → t ≡ grid f
holds_grid f t p =
    ext_get_or [] t (grid f) (p.shape.long ∙ sym q.shape.long) (λ i h. row i (omega (arith, p.shape.long)))
  where
    q : Holds f (grid f)
    q = grid_holds f

    row : (i : ℕ) → i < max_switches → get_or t i [] ≡ get_or (grid f) i []
    row i h =
        ext_get_or 0 (get_or t i []) (get_or (grid f) i []) (p.shape.wide i h ∙ sym (q.shape.wide i h))
        (λ j k. let l : j < max_switches = omega (arith, p.shape.wide i h) in p.cells i j h l ∙ sym (q.cells i j h l))

pub flat_holds : (s : ℕ) → Holds (λ u v. s) (replicate max_switches (replicate max_switches s))
flat_holds s = record {
  shape = record {
    long = length-replicate max_switches (replicate max_switches s);
    wide = λ i h. ap length (get_or-replicate max_switches i (replicate max_switches s) [] h) ∙ length-replicate max_switches s;
  };
  cells = λ u v h k. ap (λ (r : List ℕ). get_or r v 0) (get_or-replicate max_switches u (replicate max_switches s) [] h) ∙ get_or-replicate max_switches v s 0 k;
}

-- ---- a store

-- a member of a list after a store: what was stored, or as it was
pub set_cases : {A : Type 0} (l : List A) (i : ℕ) (a d : A) → i < length l → (Q : ℕ → A → Type 0) → Q i a → ((j : ℕ) → (j ≡ i → ⊥) → Q j (get_or l j d)) → (j : ℕ) → Q j (get_or (set l i a) j d)
set_cases l i a d h Q new old j =
    ⊎_elim (λ e. subst (λ (k : ℕ). Q k (get_or (set l i a) k d)) (sym e) (subst (Q i) (sym (get_or-set_same l i a d h)) new))
    (λ f. subst (Q j) (sym (get_or-set_other l i j a d f)) (old j f)) (eq? j i)

pub row_shape : (t : List (List ℕ)) → Shape t → (i : ℕ) (r : List ℕ) → i < max_switches → length r ≡ max_switches → Shape (set t i r)
row_shape t s i r h e = record {
  long = length-set t i r ∙ s.long;
  wide = set_cases t i r [] (omega (arith, s.long)) (λ a l. a < max_switches → length l ≡ max_switches) (λ _. e) (λ a _. s.wide a);
}

abbrev pub put : List (List ℕ) → ℕ → ℕ → ℕ → List (List ℕ)
put t i j v = set t i (set (get_or t i []) j v)

module _ (t : List (List ℕ)) (s : Shape t) (i j v : ℕ) (h : i < max_switches) (k : j < max_switches) where
  -- a cell of the new table: the one that was stored, or as it was
  pub put_cases : (Q : ℕ → ℕ → ℕ → Type 0) → Q i j v → ((a b : ℕ) → ((a ≡ i) → (b ≡ j) → ⊥) → Q a b (cell t a b)) → (a b : ℕ) → Q a b (cell (put t i j v) a b)
  put_cases Q new old a b =
      set_cases t i (set (get_or t i []) j v) [] (omega (arith, s.long)) (λ c r. Q c b (get_or r b 0))
      (set_cases (get_or t i []) j v 0 (omega (arith, s.wide i h)) (Q i) new (λ d f. old i d (λ _ q. f q)) b) (λ c f. old c b (λ q _. f q)) a

  pub put_shape : Shape (put t i j v)
  put_shape = row_shape t s i (set (get_or t i []) j v) h (length-set (get_or t i []) j v ∙ s.wide i h)
