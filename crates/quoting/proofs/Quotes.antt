-- The buying page of a plan in a lent buffer: the spare is judged, then the room. Assumes nothing.
use mathlib.Core.Path.{◌≡◌, refl, sym, ap, ◌∙◌}
use mathlib.Core.List.{List, [], ◌∷◌, ◌++◌}
use mathlib.Core.Logic.{◌⊎◌, ⊎_elim}
use Prim.Native.Nat.{ℕ, ◌+◌, ◌*◌, ◌≤◌}
use borrow.Author.Tests.{ltb-false}
use lib.Dec.{ltb}
use lib.ListN.{length, drop}
use Rattle.std.specs.Prelude.{Result, Ok, Err}
use Rattle.answers.specs.declared.Refusal.{Refusal}
use Rattle.answers.specs.Answers.{Answer, given, refused, ◌>>=◌, number_of}
use Rattle.answers.specs.Results.{answer_of, Judges}
use Rattle.answers.specs.Checks.{answer, leaves}
use Rattle.answers.proofs.Checks.{result-given, then_is, left-kept}
use Rattle.answers.proofs.Results.{ok_given, ok_then, err_then, none_judged, passed, turned_down}
use Rattle.plant.specs.declared.Plant.{Plant}
use Rattle.sheet.specs.declared.Sheet.{Sheet}
use Rattle.sheet.specs.Columns.{line_columns}
use Rattle.sheet.specs.Page.{buying_page, page_length, writing_page, page_left}
use Rattle.quoting.specs.Quotes.{pricing, quoting, page_in}
use Rattle.quoting.specs.Answers.{quoted_out}

-- where an answer or what follows it is a refusal, what is lent is left as it was
pub kept-after : {A B C : Type 0} (a : Answer A) (f : A → Answer B) (g : A → B → C) (b : C) (n : ℕ) → (a >>= f) ≡ refused n → leaves (λ x. leaves (g x) b (f x)) b a ≡ b
kept-after (given x) f g b n e = left-kept (g x) b (f x) n e
kept-after (refused m) f g b n e = refl

-- at a refusal the buffer is as it was
pub out-kept : (p : Plant) (spare : ℕ) (b : List ℕ) (n : ℕ) → answer (quoting p spare b) ≡ refused n → quoted_out p spare b ≡ b
unfolding quoting
out-kept p spare b n e = kept-after (answer (pricing p spare)) (λ c. answer (writing_page c b)) (λ c k. buying_page c ++ drop k b) b n (sym (then_is (pricing p spare) (λ c. writing_page c b)) ∙ e)

-- r is what the pricing comes to
module _ (p : Plant) (spare : ℕ) (b : List ℕ) (r : Result Sheet Refusal) (q : answer_of r ≡ answer (pricing p spare)) where
  pub spare_refused : (k : Refusal) → r ≡ Err k → answer (quoting p spare b) ≡ refused (number_of k)
  unfolding quoting
  spare_refused k e = err_then (λ s. s) (pricing p spare) r q (λ s. writing_page s b) k e

  module _ (s : Sheet) (e : r ≡ Ok s) where
    pub priced : answer (pricing p spare) ≡ given s
    priced = ok_given (λ s. s) (answer (pricing p spare)) r q s e

    goes_on : answer (quoting p spare b) ≡ answer (writing_page s b)
    unfolding quoting
    goes_on = ok_then (λ s. s) (pricing p spare) r q (λ s. writing_page s b) s e

    -- the page of the counts has a line for each switch of the plant
    long : page_length s ≡ line_columns * (p.switches + 1)
    unfolding pricing
    long = ap page_length (sym (result-given (pricing p spare) s priced))

    -- w is what a room for n bytes comes to
    module _ (n : ℕ) (f : n ≡ line_columns * (p.switches + 1)) (w : Result Unit Refusal) (j : Judges ((18, ltb (length b) n) ∷ []) w) where
      size : n ≡ page_length s
      size = f ∙ sym long

      room_judged : Judges (writing_page s b).checks w
      unfolding writing_page
      room_judged = rw size at j

      module _ (x : Unit) (g : w ≡ Ok x) where
        written : answer (writing_page s b) ≡ given n
        unfolding writing_page
        written = passed (writing_page s b).checks w room_judged (given (page_length s)) x g ∙ ap given (sym size)

        pub room-enough : page_length s ≤ length b
        unfolding writing_page
        room-enough = ltb-false (length b) (page_length s) (none_judged (writing_page s b).checks w room_judged x g).0

        pub quote_given : answer (quoting p spare b) ≡ given n
        quote_given = goes_on ∙ written

        pub quote_left : buying_page s ++ drop (page_length s) b ≡ quoted_out p spare b
        quote_left = sym (ap (leaves (λ c. page_in c b) b) priced ∙ ap (page_left s b) (written ∙ ap given size))

      pub room_refused : (k : Refusal) → w ≡ Err k → answer (quoting p spare b) ≡ refused (number_of k)
      unfolding writing_page
      room_refused k g = goes_on ∙ turned_down (writing_page s b).checks w room_judged (given (page_length s)) k g

  -- so of the two, the spare before the room, the first that refuses is the call's refusal: the spare, or where that is none, what a room for n bytes comes to
  module _ (k : Refusal)
      (first : (r ≡ Err k)
      ⊎ ((s : Sheet) × (r ≡ Ok s) × (n : ℕ) × (n ≡ line_columns * (p.switches + 1)) × (w : Result Unit Refusal) × Judges ((18, ltb (length b) n) ∷ []) w × (w ≡ Err k)))
    where
      pub quote_refused : refused (number_of k) ≡ answer (quoting p spare b)
      quote_refused = sym (⊎_elim (spare_refused k) (λ h. room_refused h.0 h.1 h.2 h.3 h.4 h.5 k h.6) first)

      pub quote_kept : b ≡ quoted_out p spare b
      quote_kept = sym (out-kept p spare b (number_of k) (sym quote_refused))
