-- A text laid over the last of so many spaces stands at the right of their columns. Assumes nothing.
use mathlib.Core.Path.{◌≡◌, sym, ap, ap₂, ◌∙◌}
use mathlib.Core.List.{List, ◌++◌, append_assoc}
use Prim.Native.Nat.{ℕ, ◌+◌, ◌-◌, ◌≤◌}
use native.Mathlib.Omega.{arith}
use lib.ListN.{length, take, drop, length-append, replicate-append-replicate}
use lib.Seq.{sets, sets-eq, length-sets, length-take-le, take_at, drop_at}
use Rattle.lists.proofs.Arrays.{sets-append}
use Rattle.text.specs.Lines.{space}
use Rattle.text.specs.Laid.{Laid}
use Rattle.text.proofs.LaidLaws.{laid_same}
use Rattle.columns.specs.Fields.{spaces, right_in}
use Rattle.columns.proofs.Fields.{spaces-size, right-size}

-- members laid in the place of as many others
sets_over : (l : List ℕ) (i : ℕ) (xs ys : List ℕ) → length xs ≡ length ys → i + length ys ≤ length l → sets (sets l i xs) i ys ≡ sets l i ys
sets_over l i xs ys e h =
    let m = sets l i xs in
    let n = length-take-le i l (omega arith) in
    let is : m ≡ take i l ++ xs ++ drop (i + length xs) l = sets-eq xs l i (omega (arith, e)) in
    let front : take i m ≡ take i l = ap (take i) (is ∙ append_assoc (take i l) xs (drop (i + length xs) l)) ∙ take_at (take i l) (xs ++ drop (i + length xs) l) i n in
    let rest : drop (i + length ys) m ≡ drop (i + length ys) l = ap (drop (i + length ys)) is ∙ drop_at (take i l ++ xs) (drop (i + length xs) l) (i + length ys) (omega (arith, length-append (take i l) xs, n, e)) ∙ ap (λ (k : ℕ). drop (i + k) l) e in
    sets-eq ys m i (omega (arith, length-sets l i xs)) ∙ ap₂ (λ (a b : List ℕ). a ++ ys ++ b) front rest ∙ sym (sets-eq ys l i h)

module _ (b : List ℕ) (at columns : ℕ) (text : List ℕ) (h : length text ≤ columns) {c : List ℕ} {i : ℕ} (l : Laid b at (spaces columns) c i) where
  end : i ≡ at + columns
  end = omega (arith, l.place, spaces-size columns)

  -- with the number of its bytes d
  pub right-laid : (d : ℕ) → d ≡ length text → {e : List ℕ} {j : ℕ} → Laid c (i - d) text e j → Laid b at (right_in columns text) e i
  right-laid d q {e} m =
      let k = columns - length text in
      let n : at + length (spaces k) ≡ i - d = omega (arith, q, end, spaces-size k) in
      let all : k + length text ≡ columns = omega arith in
      let two : spaces k ++ spaces (length text) ≡ spaces columns = replicate-append-replicate {A = ℕ} k (length text) space ∙ ap spaces all in
      let room : at + length (spaces k) + length text ≤ length (sets b at (spaces k)) = omega (arith, n, q, end, length-sets b at (spaces k), laid_same l, l.within) in
      let before : c ≡ sets (sets b at (spaces k)) (at + length (spaces k)) (spaces (length text)) = l.buffer ∙ ap (sets b at) (sym two) ∙ sym (sets-append b at (spaces k) (spaces (length text))) in
      record {
        buffer =
            m.buffer
            ∙ ap₂ (λ (a : List ℕ) (y : ℕ). sets a y text) before (sym n)
            ∙ sets_over (sets b at (spaces k)) (at + length (spaces k)) (spaces (length text)) text (spaces-size (length text)) room
            ∙ sets-append b at (spaces k) text;
        place = omega (arith, end, right-size columns text);
        within = omega (arith, l.within, laid_same m);
        front = sym (length-take-le i e (omega (arith, l.within, laid_same m)));
      }
