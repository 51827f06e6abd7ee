-- What one more call does after a list of calls to a search, to its state and to its sendings. Assumes nothing.
use mathlib.Core.Path.{◌≡◌, refl, sym, ap, ◌∙◌}
use mathlib.Core.List.{List, [], ◌∷◌, ◌++◌, append_assoc, append-nil}
use Prim.Native.Nat.{ℕ}
use Rattle.answers.specs.Answers.{Answer, given, refused}
use Rattle.answers.specs.Checks.{answer}
use Rattle.plant.specs.declared.Plant.{Plant}
use Rattle.walks.specs.Components.{links_with}
use Rattle.search.specs.declared.Search.{Search}
use Rattle.search.specs.declared.Outcome.{Outcome}
use Rattle.search.specs.declared.Progress.{Progress}
use Rattle.search.specs.Search.{ask, give}
use Rattle.search.specs.Calls.{Call, asks, gives, counted, step, perform, begun, Sending, sent, sending_of, sending_by, sendings}
use Rattle.demands.specs.Demand3.{CallByCall}

perform_more : (p : Progress) (cs ds : List Call) → perform p (cs ++ ds) ≡ perform (perform p cs) ds
perform_more p [] ds = refl
perform_more p (c ∷ cs) ds = perform_more (step p c) cs ds

sendings_more : (p : Progress) (cs ds : List Call) → sendings p (cs ++ ds) ≡ sendings p cs ++ sendings (perform p cs) ds
sendings_more p [] ds = refl
sendings_more p (c ∷ cs) ds =
    ap (λ (l : List Sending). sending_by p.state c ++ l) (sendings_more (step p c) cs ds)
    ∙ sym (append_assoc (sending_by p.state c) (sendings (step p c) cs) (sendings (perform (step p c) cs) ds))

-- a refused outcome is no sending
none-sent : (a : Answer ℕ) (o : Outcome) (n : ℕ) → sending_of a o (refused n) ≡ []
none-sent (given m) o n = refl
none-sent (refused k) o n = refl

module _ (p : Progress) (cs : List Call) where
  abbrev r : Progress
  r = perform p cs

  one_more : (c : Call) (l : List Sending) → sending_by r.state c ≡ l → sendings p (cs ++ c ∷ []) ≡ sendings p cs ++ l
  one_more c l e =
      sendings_more p cs (c ∷ []) ∙ ap (λ (v : List Sending). sendings p cs ++ v) (append-nil (sending_by r.state c) ∙ e)

  no_more : (c : Call) → sending_by r.state c ≡ [] → sendings p (cs ++ c ∷ []) ≡ sendings p cs
  no_more c e = one_more c [] e ∙ append-nil (sendings p cs)

pub call_by_call : (p : Plant) (x : ℕ) (cs : List Call) → CallByCall p x cs
unfolding begun
call_by_call p x cs =
    let b = begun (links_with p x) in
    let s = (perform b cs).state in
    record {
      first = (refl, refl);
      accepted = λ o q m g a. (
        ap (λ (r : Progress). r.state) (perform_more b cs (gives o ∷ [])) ∙ ap (λ (v : Answer Search). (counted (perform b cs) o v).state) g,
        one_more b cs (gives o) (sent m o ∷ [])
            (ap (λ (v : Answer ℕ). sending_of v o (answer (give s o))) a ∙ ap (sending_of (given m) o) g),
      );
      asked = (perform_more b cs (asks ∷ []), no_more b cs asks refl);
      refusal = λ o n g. (
        perform_more b cs (gives o ∷ []) ∙ ap (counted (perform b cs) o) g,
        no_more b cs (gives o) (ap (sending_of (answer (ask s)) o) g ∙ none-sent (answer (ask s)) o n),
      );
    }
