-- What the two premises of demand 3's verdict say, of any plant value; and that they can hold where a packet vanishes over sound links: the full check is lost twice and then
-- returns. That assumes a sound plant, one of its switches with a link in its component, and states by which none of these is broken.
use mathlib.Core.Path.{◌≡◌, refl, sym, ap, ◌∙◌, subst}
use mathlib.Core.Logic.{◌⊎◌, inl, inr, ◌↔◌}
use mathlib.Core.Bool.{true, false}
use mathlib.Core.List.{List, [], ◌∷◌, ◌++◌}
use Prim.Native.Nat.{ℕ, ◌+◌, ◌≤◌, ◌<◌}
use native.Mathlib.Omega.{arith}
use borrow.Author.Tests.{ne_eqb, lt-ltb, le-leb}
use lib.ListN.{length, length-append}
use Rattle.lists.specs.Members.{Each}
use Rattle.lists.proofs.Members.{each-parts}
use Rattle.lists.proofs.Tests.{not_false_true}
use Rattle.plant.specs.declared.Plant.{Plant}
use Rattle.limits.specs.Limits.{max_links}
use Rattle.limits.specs.Sound.{Sound}
use Rattle.walks.specs.Components.{links_with}
use Rattle.rings.specs.Rules.{up_by}
use Rattle.rings.proofs.FirstDown.{first_down, first-none}
use Rattle.plan.specs.Plan.{trail_with}
use Rattle.rings.specs.Injection.{order_of}
use Rattle.search.specs.declared.Outcome.{Outcome}
use Rattle.search.specs.declared.Outcome.TheVariants.{Returned, Lost}
use Rattle.search.specs.declared.Search.TheVariants.{Checking}
use Rattle.search.specs.declared.Progress.{Progress}
use Rattle.search.specs.Search.{tries, new_search, sound, ended, wanted}
use Rattle.search.specs.Values.{IsReturned, IsLost, outcome_number}
use Rattle.search.specs.Calls.{Call, gives, step, perform, begun, Sending, sent, sendings, TrueSending, OneReturns}
use Rattle.search.proofs.Finds.{moved, accepted, sends}
use Rattle.probing.specs.Calls.{probe_end}
use Rattle.probing.specs.Searches.{NoneBroken, actual_outcome, ComesHome, sent_over}
use Rattle.probing.proofs.Injection.{links-few, order-links, order-length, probe-tells}
use Rattle.demands.specs.Order4.{ReturnedIn, LostInRow, TrueSendings, Premises, LostOverSound}
use Rattle.demands.proofs.GotTo.{two_way}

-- ---- what the premises say, where `home m` is that the packet rule brings probe m home

module _ (home : ℕ → Type 0) where
  returns-home : (m : ℕ) (o : Outcome) → IsReturned o → TrueSending home (sent m o) → home m
  returns-home m Returned i t = t
  returns-home m Lost i t = absurd (omega (arith, i))

  true_returns : (l : List Sending) → Each (TrueSending home) l → (m : ℕ) → ReturnedIn m l → home m
  true_returns l h m r =
      returns-home m r.o r.returned (each-parts (TrueSending home) r.before (sent m r.o ∷ r.after) (subst (Each (TrueSending home)) r.there h)).1.0

  later : (s : Sending) (l : List Sending) (m : ℕ) → ReturnedIn m l → ReturnedIn m (s ∷ l)
  later s l m r = record {
    before = s ∷ r.before;
    after = r.after;
    o = r.o;
    returned = r.returned;
    there = ap (λ (v : List Sending). s ∷ v) r.there;
  }

  returns_true : (l : List Sending) → ((m : ℕ) → ReturnedIn m l → home m) → Each (TrueSending home) l
  returns_true [] f = tt
  returns_true (sent k Returned ∷ l) f = (
    f k (record { before = []; after = l; o = Returned; returned = refl; there = refl }),
    returns_true l (λ m r. f m (later (sent k Returned) l m r)),
  )
  returns_true (sent k Lost ∷ l) f = (tt, returns_true l (λ m r. f m (later (sent k Lost) l m r)))

  not_both : (o : Outcome) → IsReturned o → IsLost o → ⊥
  not_both o i j = omega (arith, i, j)

  none-lost : (l : List Sending) → OneReturns home l → (m : ℕ) → home m → LostInRow m l → ⊥
  none-lost l h m i r = go (h r.before r.after m r.a r.b r.c r.there i)
    where
      go : IsReturned r.a ⊎ (IsReturned r.b ⊎ IsReturned r.c) → ⊥
      go (inl e) = not_both r.a e r.lost.0
      go (inr (inl e)) = not_both r.b e r.lost.1
      go (inr (inr e)) = not_both r.c e r.lost.2

  one_of : (a b c : Outcome) → (IsLost a × IsLost b × IsLost c → ⊥) → IsReturned a ⊎ (IsReturned b ⊎ IsReturned c)
  one_of Returned b c f = inl refl
  one_of Lost Returned c f = inr (inl refl)
  one_of Lost Lost Returned f = inr (inr refl)
  one_of Lost Lost Lost f = absurd (f (refl, refl, refl))

  one_returns : (l : List Sending) → ((m : ℕ) → home m → LostInRow m l → ⊥) → OneReturns home l
  one_returns l f before after m a b c e i =
      one_of a b c (λ z. f m i (record { before = before; after = after; a = a; b = b; c = c; lost = z; there = e }))

pub true_sendings : (actual : ℕ → Outcome) (l : List Sending) → TrueSendings actual l
true_sendings actual l =
    let home : ℕ → Type 0 = λ m. IsReturned (actual m) in
    record { all_true = (true_returns home l, returns_true home l); one_returns = (none-lost home l, one_returns home l) }

module _ (p : Plant) (x : ℕ) (states : List ℕ) where
  -- it comes home exactly if its run has ended
  home-ended : (m : ℕ) → ComesHome p x states m ↔ ((probe_end p x states m).ended ≡ true)
  unfolding actual_outcome
  home-ended m = (two_way (probe_end p x states m)).returned

  pub premises : (cs : List Call) → Premises p x states cs
  premises cs =
      let home = ComesHome p x states in
      let l = sent_over p x cs in
      record {
        all_true = (λ h m r. (home-ended m).0 (true_returns home l h m r), λ f. returns_true home l (λ m r. (home-ended m).1 (f m r)));
        probe_end_is = λ m. refl;
        one_of_three = (λ h m e r. none-lost home l h m ((home-ended m).1 e) r, λ f. one_returns home l (λ m i r. f m ((home-ended m).0 i) r));
      }

-- ---- the full check is lost twice, and then returns

-- an outcome that is accepted, and then others
one-sent : (p : Progress) (o : Outcome) (cs : List Call) → sound p.state ≡ true → ended p.state ≡ false
    → sendings p (gives o ∷ cs) ≡ sent (wanted p.state) o ∷ sendings (moved p o) cs
one-sent p o cs s q =
    ap (λ (l : List Sending). l ++ sendings (step p (gives o)) cs) (sends p o s q)
    ∙ ap (λ (r : Progress). sent (wanted p.state) o ∷ sendings r cs) (accepted p o s q)

abbrev noisy : List Call
noisy = gives Lost ∷ gives Lost ∷ gives Returned ∷ []

module _ (e : ℕ) (some : 1 ≤ e) (fits : e ≤ max_links) where
  abbrev thrice : List Sending
  thrice = sent e Lost ∷ sent e Lost ∷ sent e Returned ∷ []

  -- the search after so many losses
  abbrev checked : ℕ → Progress
  checked n = record { state = Checking e n; probes = 0; packets = n }

  begins : begun e ≡ checked 0
  unfolding begun new_search
  begins = rw (ne_eqb e 0 (λ z. omega arith)) refl

  checked_sound : (n : ℕ) → n < tries → sound (Checking e n) ≡ true
  checked_sound n h = rw (lt-ltb 0 e (omega arith), le-leb e max_links fits, lt-ltb n tries h) refl

  noisy_sent : sendings (begun e) noisy ≡ thrice
  noisy_sent =
      ap (λ (r : Progress). sendings r noisy) begins
      ∙ one-sent (checked 0) Lost (gives Lost ∷ gives Returned ∷ []) (checked_sound 0 (omega arith)) refl
      ∙ ap (λ (l : List Sending). sent e Lost ∷ l) (one-sent (checked 1) Lost (gives Returned ∷ []) (checked_sound 1 (omega arith)) refl)
      ∙ ap (λ (l : List Sending). sent e Lost ∷ sent e Lost ∷ l) (one-sent (checked 2) Returned [] (checked_sound 2 (omega arith)) refl)

  noisy_ends : ended (perform (begun e) noisy).state ≡ true
  noisy_ends =
      ap (λ (r : Progress). ended (perform r noisy).state) begins
      ∙ ap (λ (r : Progress). ended (perform r (gives Lost ∷ gives Returned ∷ [])).state) (accepted (checked 0) Lost (checked_sound 0 (omega arith)) refl)
      ∙ ap (λ (r : Progress). ended (perform r (gives Returned ∷ [])).state) (accepted (checked 1) Lost (checked_sound 1 (omega arith)) refl)
      ∙ ap (λ (r : Progress). ended r.state) (accepted (checked 2) Returned (checked_sound 2 (omega arith)) refl)

  third : (before after : List Sending) (m : ℕ) (a b c : Outcome) → thrice ≡ before ++ (sent m a ∷ sent m b ∷ sent m c ∷ after) → IsReturned c
  third [] after m a b c q = let z : Returned ≡ c = cc in ap outcome_number (sym z)
  third (s ∷ before) after m a b c q = absurd (omega (arith, ap length q, length-append before (sent m a ∷ sent m b ∷ sent m c ∷ after)))

module _ (p : Plant) (ok : Sound p) (x : ℕ) (x_in : x < p.switches) (some : 1 ≤ links_with p x) (states : List ℕ) (none : NoneBroken p x states) where
  abbrev e : ℕ
  e = links_with p x

  abbrev order : List ℕ
  order = order_of p (trail_with p x) x

  full_home : (probe_end p x states e).ended ≡ true
  full_home =
      let n : first_down (up_by states) order ≡ length order + 1
      = (first-none (up_by states) order).1 (λ l h. not_false_true (up_by states l) (none l ((order-links p ok x x_in l).0 h))) in
      probe-tells p ok x x_in (up_by states) e some (omega arith) ∙ lt-ltb e (first_down (up_by states) order) (omega (arith, n, order-length p ok x x_in))

  pub lost_over_sound : LostOverSound p x states
  lost_over_sound =
      let few = links-few p ok x x_in in
      let home = ComesHome p x states in
      let sends : sent_over p x noisy ≡ thrice e some few = noisy_sent e some few in
      let i = (home-ended p x states e).1 full_home in
      record {
        calls = noisy;
        all_true = subst (Each (TrueSending home)) (sym sends) (tt, (tt, (i, tt)));
        one_of_three = λ before after m a b c q h. inr (inr (third e some few before after m a b c (sym sends ∙ q)));
        ends = noisy_ends e some few;
        probe = e;
        home = full_home;
        lost = record { before = []; after = sent e Lost ∷ sent e Returned ∷ []; o = Lost; lost = refl; there = sends };
      }
