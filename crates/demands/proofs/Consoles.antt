-- The promises of document 02's order 8: sets, the calls of a console, isolation, and demand 3 of a console's search. Assumes nothing.
use mathlib.Core.Path.{◌≡◌, refl, sym, ap, ◌∙◌, subst}
use mathlib.Core.List.{List, ◌∷◌}
use Prim.Native.Nat.{ℕ, ◌≤◌}
use lib.Pow.{pow_pos}
use borrow.Author.Tests.{leb-false, lt-leb, not-false}
use Rattle.plant.specs.declared.Plant.{Plant}
use Rattle.limits.specs.Limits.{max_switches}
use Rattle.answers.specs.Answers.{Answer, given, ◌>>=◌}
use Rattle.answers.specs.Checks.{answer}
use Rattle.answers.proofs.Checks.{trying_then, given-exactly, result-given}
use Rattle.listing.specs.Listing.{reading}
use Rattle.listing.proofs.RoundTrip.{decode_sound}
use Rattle.walks.specs.Components.{links_with}
use Rattle.search.specs.declared.Search.{Search}
use Rattle.search.specs.Search.{new_search, next}
use Rattle.judging.specs.Conditions.{wanted_checks}
use Rattle.planning.proofs.Plans.{at-given}
use Rattle.probing.proofs.Searching.{searches}
use Rattle.desk.specs.declared.Console.{Console}
use Rattle.desk.specs.Console.{has, set_out_of_range, switch_checks, console_with, search_from, replacing, starting, telling}
use Rattle.desk.specs.Inner.{giving_to}
use Rattle.desk.specs.Desk.{console_of}
use Rattle.desk.proofs.Sets.{small_has, none_above}
use Rattle.desk.proofs.Consoles.{fresh-idle}
use Rattle.desk.proofs.Feeding.{given-sound}
use Rattle.consoles.specs.Calls.{new_set, start, outcome}
use Rattle.consoles.specs.Lists.{after_all, unknown}
use Rattle.consoles.proofs.Isolation.{answer_of, next_of, asks_so, own_by, own-after, others-after, same-answers, same_after}
use Rattle.consoles.proofs.Fed.{FedBy, fed_keeps}
use Rattle.demands.specs.Order8.{Sets, ConsoleCalls, Isolated, Agreeing, ConsoleSearches}

pub sets : Sets
sets = record {
  none_beyond = λ set h. sym (none_above set max_switches h);
  fresh = fresh-idle;
  empty = λ k h x. ap (λ (c : Console). has c.set x) (fresh-idle k h) ∙ sym (small_has 0 x (pow_pos x));
  no_search = λ k h. ap (λ (c : Console). c.search) (fresh-idle k h);
}

pub console_calls : (k : ℕ) → k ≤ 3 → (s : List ℕ) (p : Plant) → answer (reading s) ≡ given p → ConsoleCalls k s p
unfolding replacing starting telling giving_to
console_calls k h s p e =
    let so = asks_so k s p h e in
    record {
      asks = so;
      keeps_search = λ set c a g. sym (result-given (replacing p.switches set c) a (sym (so (new_set set) c) ∙ g));
      replaces = λ x set u v. so (start x) (console_with set u) ∙ sym (so (start x) (console_with set v));
      in_set = λ x c a g.
          let r
          = (given-exactly ((20, set_out_of_range p.switches c.set) ∷ switch_checks p.switches c.set x) (console_with c.set (search_from x (new_search (links_with p x)))) a).0
          (sym (so (start x) c) ∙ g) in
          (leb-false p.switches x r.0.1.0, not-false (has c.set x) r.0.1.1.0, sym r.1);
      feeds = λ o set x q f h i j.
          so (outcome o) (console_with set (search_from x q)) ∙ rw (f, lt-leb p.switches x h, i)
          (sym (ap (λ (a : Answer Search). a >>= λ r. given (console_with set (search_from x r))) (given-sound (links_with p x) q o j)
          ∙ trying_then (wanted_checks (links_with p x) q) (given (next q o)) (λ r. given (console_with set (search_from x r)))));
    }

pub isolated : Isolated
isolated = record { own = λ q. ((λ c. (answer_of q c, next_of q c)), λ d. (refl, own-after d q)); stands = λ d q c e. own_by d q (given c) e; others = others-after }

pub agreeing : Agreeing
agreeing k h d e cs ds i j = record { answers = same-answers k h d e cs ds i j; afterwards = same_after k h d e cs ds i j }

pub console_searches : ConsoleSearches
console_searches k h d cs s x os b e =
    let f = subst (FedBy (console_of (after_all d cs) k)) e (fed_keeps k h d cs unknown tt) in
    let g = at-given s x f.0 f.1 in
    record { plant = f.0; read = g.0; at_switch = g.1; stands = f.2; searches = searches f.0 (decode_sound s f.0 b g.0) x g.1 os }
