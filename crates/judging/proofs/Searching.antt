-- A search in a call with a listing: refusal 14, and the probe wanted. Assumes nothing.
use mathlib.Core.Path.{◌≡◌, sym, ap, ◌∙◌, subst}
use mathlib.Core.Bool.{true, false, ◌&&◌}
use Prim.Native.Nat.{ℕ, ◌≤◌}
use borrow.Author.Tests.{not-false}
use Rattle.std.specs.Prelude.{Result, Ok, Err}
use Rattle.lists.proofs.Tests.{and_true}
use Rattle.answers.specs.Answers.{given, refused, number_of}
use Rattle.answers.specs.Results.{answer_of}
use Rattle.answers.specs.Checks.{check, answer}
use Rattle.answers.proofs.Checks.{given-exactly, gives_so, refuses_so}
use Rattle.answers.specs.declared.Refusal.{Refusal}
use Rattle.search.specs.declared.Search.{Search}
use Rattle.search.specs.Search.{sound, sound_for, wanted, ask}
use Rattle.search.specs.Sound.{Good}
use Rattle.search.proofs.Sound.{sound_good, wanted_in}
use Rattle.judging.specs.Conditions.{search_unsound, wanted_checks, probe_wanted}

module _ (e : ℕ) (q : Search) where
  -- ---- refusal 14

  pub sound-here : search_unsound e q ≡ false → (sound q ≡ true) × (sound_for e q ≡ true)
  unfolding search_unsound
  sound-here f = and_true (sound q) (sound_for e q) (not-false (sound q && sound_for e q) f)

  pub good_here : search_unsound e q ≡ false → Good e q
  good_here f = let r = sound-here f in sound_good e q r.0 r.1

  -- ---- the probe wanted: 14, then what the call for a probe answers

  pub wanted_unsound : search_unsound e q ≡ true → refused 14 ≡ answer (probe_wanted e q)
  unfolding probe_wanted
  wanted_unsound f = rw f

  pub wanted-sound : search_unsound e q ≡ false → answer (ask q) ≡ answer (probe_wanted e q)
  unfolding probe_wanted ask
  wanted-sound f = rw (f, (sound-here f).0)

  -- it is one of the probes 1 .. e
  pub wanted_among : (m : ℕ) → answer (probe_wanted e q) ≡ given m → (1 ≤ m) × (m ≤ e)
  unfolding probe_wanted
  wanted_among m g =
      let r = (given-exactly (wanted_checks e q) (wanted q) m).0 g in
      subst (λ (k : ℕ). (1 ≤ k) × (k ≤ e)) r.1 (wanted_in e q (good_here r.0.0) r.0.1.0)

  -- what the code answers for the probe wanted, and what follows it
  module _ (a : Result ℕ Refusal) (r : answer_of a ≡ answer (probe_wanted e q)) where
    pub probe_among : (m : ℕ) → a ≡ Ok m → (1 ≤ m) × (m ≤ e)
    probe_among m f = wanted_among m (sym r ∙ ap answer_of f)

    pub probe-given : {A : Type 0} (f : ℕ → A) (m : ℕ) (b : A) → a ≡ Ok m → b ≡ f m → given b ≡ answer (check (wanted_checks e q) (f (wanted q)))
    unfolding probe_wanted
    probe-given f m b h i = ap given i ∙ sym (gives_so (probe_wanted e q) f m (sym r ∙ ap answer_of h))

    pub probe-refused : {A : Type 0} (f : ℕ → A) (k : Refusal) → a ≡ Err k → refused (number_of k) ≡ answer (check (wanted_checks e q) (f (wanted q)))
    unfolding probe_wanted
    probe-refused f k h = sym (refuses_so (probe_wanted e q) f (number_of k) (sym r ∙ ap answer_of h))
