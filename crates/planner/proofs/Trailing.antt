-- A trail of a listing in a lent buffer, and the flags of its bridges. Assumes nothing.
use mathlib.Core.Path.{◌≡◌, refl, sym, ap, ◌∙◌, subst}
use mathlib.Core.Bool.{Bool, false}
use mathlib.Core.List.{List, [], ◌∷◌}
use Prim.Native.Nat.{ℕ, ◌≤◌}
use borrow.Author.Tests.{le-ltb, ltb-false}
use lib.Dec.{ltb}
use lib.ListN.{length}
use Rattle.lists.proofs.Numbers.{values-are}
use Rattle.plant.specs.declared.Plant.{Plant}
use Rattle.std.specs.Prelude.{Result, Ok, Err}
use Rattle.answers.specs.declared.Refusal.{Refusal}
use Rattle.answers.specs.Answers.{Answer, given, refused, number_of}
use Rattle.answers.specs.Checks.{Checked, answer, ◌then◌, leaves}
use Rattle.answers.specs.Results.{Judges}
use Rattle.answers.proofs.Checks.{then_is, goes_on, stops}
use Rattle.answers.proofs.Results.{none_judged, turned_down}
use Rattle.limits.specs.Limits.{max_links}
use Rattle.walks.specs.Graph.{bridge}
use Rattle.arcs.specs.Flags.{Flags}
use Rattle.listing.specs.Listing.{reading}
use Rattle.trail.specs.Filled.{filled_with}
use Rattle.quoting.proofs.Quotes.{kept-after}
use Rattle.planner.specs.Calls.{bridge_flags, places_short, laying, laid_with}

pub flags_are : (p : Plant) (fs : List Bool) → Flags max_links (bridge p) fs → fs ≡ bridge_flags p
unfolding bridge_flags
flags_are p fs f = values-are (bridge p) false max_links fs f.places (λ i h. f.tells i)

-- ---- laying a trail

module _ (w b : List ℕ) where
  pub lay_enough : length w ≤ length b → (n : ℕ) → n ≡ length w → given n ≡ answer (laying w b)
  unfolding laying places_short
  lay_enough h n e = rw (le-ltb (length b) (length w) h, e) refl

  -- what is laid, by the answer
  pub laid_by : (a : Answer ℕ) → a ≡ answer (laying w b) → leaves (λ n. filled_with w b) b a ≡ laid_with w b
  laid_by a e = ap (leaves (λ n. filled_with w b) b) e

  -- by what is judged of the room for so many hops: 10
  module _ (n : ℕ) (hops : n ≡ length w) (v : Result Unit Refusal) (j : Judges ((10, ltb (length b) n) ∷ []) v) where
    judged : Judges ((10, ltb (length b) (length w)) ∷ []) v
    judged = subst (λ (k : ℕ). Judges ((10, ltb (length b) k) ∷ []) v) hops j

    pub lay_short : (k : Refusal) → v ≡ Err k → answer (laying w b) ≡ refused (number_of k)
    unfolding laying places_short
    lay_short k e = turned_down ((10, ltb (length b) (length w)) ∷ []) v judged (given (length w)) k e

    pub room : (u : Unit) → v ≡ Ok u → length w ≤ length b
    room u e = ltb-false (length b) (length w) (none_judged ((10, ltb (length b) (length w)) ∷ []) v judged u e).0

-- ---- the trail that f tells of a plant, by the answer of reading

module _ (f : Plant → List ℕ) (s b : List ℕ) where
  abbrev whole : Checked ℕ
  whole = reading s then λ p. laying (f p) b

  -- what is laid out
  abbrev out : List ℕ
  out = leaves (λ p. laid_with (f p) b) b (answer (reading s))

  module _ (p : Plant) (e : answer (reading s) ≡ given p) where
    pub trail-given : answer (laying (f p) b) ≡ answer whole
    trail-given = sym (goes_on (reading s) (λ q. laying (f q) b) p e)

    pub left-given : laid_with (f p) b ≡ out
    left-given = sym (ap (leaves (λ q. laid_with (f q) b) b) e)

    -- by what is judged of the room for so many hops
    module _ (n : ℕ) (hops : n ≡ length (f p)) (v : Result Unit Refusal) (j : Judges ((10, ltb (length b) n) ∷ []) v) where
      module _ (k : Refusal) (d : v ≡ Err k) where
        pub short_answer : answer whole ≡ refused (number_of k)
        short_answer = sym trail-given ∙ lay_short (f p) b n hops v j k d

        pub short_left : b ≡ out
        short_left = laid_by (f p) b (refused (number_of k)) (sym (lay_short (f p) b n hops v j k d)) ∙ left-given

      module _ (u : Unit) (d : v ≡ Ok u) where
        pub enough_room : length (f p) ≤ length b
        enough_room = room (f p) b n hops v j u d

        pub enough_answer : (m : ℕ) → m ≡ length (f p) → given m ≡ answer whole
        enough_answer m q = lay_enough (f p) b enough_room m q ∙ trail-given

        pub enough_left : filled_with (f p) b ≡ out
        enough_left = laid_by (f p) b (given (length (f p))) (lay_enough (f p) b enough_room (length (f p)) refl) ∙ left-given

  module _ (n : ℕ) (e : answer (reading s) ≡ refused n) where
    pub trail-refused : answer whole ≡ refused n
    trail-refused = stops (reading s) (λ q. laying (f q) b) n e

    pub left-refused : b ≡ out
    left-refused = sym (ap (leaves (λ q. laid_with (f q) b) b) e)

  -- at a refusal of any kind the buffer is as it was
  pub trail-kept : (n : ℕ) → answer whole ≡ refused n → out ≡ b
  trail-kept n e = kept-after (answer (reading s)) (λ q. answer (laying (f q) b)) (λ q _. filled_with (f q) b) b n (sym (then_is (reading s) (λ q. laying (f q) b)) ∙ e)
