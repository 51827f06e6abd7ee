-- Demand 1 holds: what each call tries is read off its definition; the rest follows for every call from the laws on conditions in `Tried`, and
-- what a call leaves in a lent buffer goes by its answer. Assumes nothing.
use mathlib.Core.Path.{◌≡◌, refl, sym, ap}
use mathlib.Core.Bool.{true}
use mathlib.Core.List.{List, [], ◌∷◌, ◌++◌, map, append-nil}
use Prim.Native.Nat.{ℕ}
use native.Mathlib.Omega.{arith}
use Rattle.lists.specs.Members.{all}
use Rattle.lists.proofs.Numbers.{in_range}
use Rattle.listing.proofs.Refusing.{refusal-numbers}
use Rattle.plant.specs.declared.Plant.{Plant}
use Rattle.answers.specs.Answers.{refused}
use Rattle.answers.specs.Checks.{Conditions, answer}
use Rattle.answers.proofs.Checks.{refused-exactly, left-kept}
use Rattle.listing.specs.Listing.{reading}
use Rattle.listing.specs.Writing.{writing}
use Rattle.walks.specs.Components.{links_with}
use Rattle.listing.proofs.WriteRoundTrip.{writer-numbers, buffer-refused}
use Rattle.planning.specs.Planning.{switch_out_of_range, planning_at}
use Rattle.quantity.specs.Quantity.{order_quantity}
use Rattle.search.specs.declared.Outcome.{Outcome}
use Rattle.search.specs.Search.{ask, give}
use Rattle.sheet.specs.Page.{writing_page}
use Rattle.sheet.specs.Form.{reading_page}
use Rattle.plan.specs.Plan.{trail_of, round_of}
use Rattle.quoting.specs.Quotes.{pricing, quoting}
use Rattle.planner.specs.Calls.{rewriting, rewritten, rereading, summing, bridging, parting, tabling, counting, laying, trailing, laid_out, round_trailing, round_laid_out, buying}
use Rattle.planner.proofs.Trailing.{trail-kept}
use Rattle.planner.proofs.Buying.{buying-kept}
use Rattle.probing.specs.Calls.{run_in, running, check_in, checking, round_in, round_running, choice_in, choosing, order_in, ordering, outward_in, outgoing, probe_in, probing, name_in, naming, beginning, performing}
use Rattle.desk.specs.declared.Held.{Held}
use Rattle.std.specs.Prelude.{Option, None, Some}
use Rattle.desk.specs.Console.{set_out_of_range, replacing, starting, held_at, held_checks, telling}
use Rattle.desk.specs.declared.Desk.{Desk}
use Rattle.desk.specs.Desk.{with_console, console_of}
use Rattle.consoles.specs.Calls.{new_set, start, outcome, console_out_of_range, sizing, calling, serving, served}
use Rattle.demands.specs.Tried.{is_refusal}
use Rattle.demands.specs.Demand1.{of_held, Demand1}
use Rattle.demands.specs.Untouched.{Untouched}
use Rattle.demands.proofs.Tried.{tries, after, at, called}

each-held : (p : Plant) (set : ℕ) (h : Option Held) → all is_refusal (map (λ q. q.0) (of_held p set h)) ≡ true
each-held p set None = refl
each-held p set (Some h) = refl

-- what an outcome tries of a console's search
held-are : (p : Plant) (set : ℕ) (h : Option Held) → held_checks p.switches (links_with p (held_at h)) set h ≡ of_held p set h
unfolding switch_out_of_range
held-are p set None = refl
held-are p set (Some h) = refl

held-tried : (d : Desk) (s : List ℕ) (k : ℕ) (o : Outcome)
    → (serving d k s (outcome o)).checks
    ≡ (19, console_out_of_range k) ∷ (reading s).checks ++ (20, set_out_of_range (reading s).result.switches (console_of d k).set) ∷ of_held (reading s).result (console_of d k).set (console_of d k).search
unfolding sizing calling telling
held-tried d s k o =
    ap (λ (cs : Conditions). (19, console_out_of_range k) ∷ (reading s).checks ++ (20, set_out_of_range (reading s).result.switches (console_of d k).set) ∷ cs) (held-are (reading s).result (console_of d k).set (console_of d k).search)

-- what is written and read again is refused as what is written is
reread-refused : (p : Plant) (b : List ℕ) (n : ℕ) → answer (rereading p b) ≡ refused n → answer (writing p b) ≡ refused n
unfolding rereading
reread-refused p b n e =
    (refused-exactly (writing p b).checks (writing p b).result n).1 ((refused-exactly (rereading p b).checks (rereading p b).result n).0 e)

written-refused : (p : Plant) (b : List ℕ) (n : ℕ) → answer (writing p b) ≡ refused n → answer (rereading p b) ≡ refused n
unfolding rereading
written-refused p b n e =
    (refused-exactly (rereading p b).checks (rereading p b).result n).1 ((refused-exactly (writing p b).checks (writing p b).result n).0 e)

pub demand_1 : Demand1
unfolding rewriting rereading summing bridging parting tabling counting laying trailing round_trailing buying quoting pricing writing_page reading_page order_quantity run_in running check_in checking round_in round_running choice_in choosing order_in ordering outward_in outgoing probe_in probing name_in naming beginning performing ask give replacing starting telling sizing calling planning_at switch_out_of_range
demand_1 = record {
  read = λ s n e. let r = refusal-numbers s n e in in_range n 1 8 r.0 (omega (arith, r.1));
  write = writer-numbers;
  rewrite = λ s b. after s _ (rewriting s b) refl (λ p. refl);
  reread = λ p b. (λ n e. writer-numbers p b n (reread-refused p b n e), λ n. (reread-refused p b n, written-refused p b n));
  summarize = λ s. after s _ (summing s) (sym (append-nil (reading s).checks)) (λ p. refl);
  find_bridges = λ s. after s _ (bridging s) (sym (append-nil (reading s).checks)) (λ p. refl);
  find_components = λ s. after s _ (parting s) (sym (append-nil (reading s).checks)) (λ p. refl);
  forwarding_table = λ s. after s _ (tabling s) (sym (append-nil (reading s).checks)) (λ p. refl);
  rules_by_switch = λ s. after s _ (counting s) (sym (append-nil (reading s).checks)) (λ p. refl);
  lay_trail = λ s b. after s _ (trailing s b) refl (λ p. refl);
  lay_round_trail = λ s b. after s _ (round_trailing s b) refl (λ p. refl);
  write_buying_page = λ s spare b. after s _ (buying s spare b) refl (λ p. refl);
  read_buying_page = λ page. tries _ _ refl;
  order_quantity_is = λ rules spare. tries _ _ refl;
  allowance = λ n. tries [] _ refl;
  run = λ s x labels states. at s x _ (running s x labels states) refl (λ p. refl);
  outcome_of_is = λ e. tries [] _ refl;
  full_check = λ s x w states. at s x _ (checking s x w states) refl (λ p. refl);
  round_run_is = λ s x w states. at s x _ (round_running s x w states) refl (λ p. refl);
  shorter_trail = λ s x w v. at s x _ (choosing s x w v) refl (λ p. refl);
  chosen = λ w v c. tries [] _ refl;
  order_of_links = λ s x w. at s x _ (ordering s x w) refl (λ p. refl);
  outward_labels = λ s x w q. at s x _ (outgoing s x w q) refl (λ p. refl);
  stretch = λ w b. tries [] _ refl;
  front = λ w b. tries [] _ refl;
  run_probe = λ s x w states q. at s x _ (probing s x w states q) refl (λ p. refl);
  link_named = λ s x w q. at s x _ (naming s x w q) refl (λ p. refl);
  new_search_is = λ s x. at s x (λ p. []) (beginning s x) (sym (append-nil (planning_at s x).checks)) (λ p. refl);
  ask = λ q. tries _ _ refl;
  give = λ q o. tries _ _ refl;
  perform = λ s x cs. at s x (λ p. []) (performing s x cs) (sym (append-nil (planning_at s x).checks)) (λ p. refl);
  fresh_desk_is = tries [] _ refl;
  replace_set = λ d s k set. called k s _ (serving d k s (new_set set)) refl (λ p. refl);
  start_search = λ d s k x. called k s _ (serving d k s (start x)) refl (λ p. refl);
  give_outcome = λ d s k o. called k s _ (serving d k s (outcome o)) (held-tried d s k o) (λ p. each-held p _ (console_of d k).search);
}

pub untouched : Untouched
unfolding rewritten served laid_out trailing round_laid_out round_trailing
untouched = record {
  write = buffer-refused;
  rewrite = λ s b. left-kept _ b (answer (rewriting s b));
  reread = λ p b n e. buffer-refused p b n (reread-refused p b n e);
  lay_trail = trail-kept trail_of;
  lay_round_trail = trail-kept round_of;
  write_buying_page = buying-kept;
  replace_set = λ d s k set. left-kept (with_console d k) d (answer (serving d k s (new_set set)));
  start_search = λ d s k x. left-kept (with_console d k) d (answer (serving d k s (start x)));
  give_outcome = λ d s k o. left-kept (with_console d k) d (answer (serving d k s (outcome o)));
}
