-- What each call answers in a plant where nothing is refused, from what the code computes of the trail of the component of a switch. Assumes nothing.
use mathlib.Core.Path.{◌≡◌, ap, ap₂, ◌∙◌}
use mathlib.Core.Bool.{Bool, false}
use mathlib.Core.List.{List}
use Prim.Native.Nat.{ℕ, ◌-◌}
use lib.ListN.{get_or}
use borrow.Author.Tests.{eq-eqb, ne_eqb}
use Rattle.lists.specs.Arrays.{flag}
use Rattle.plant.specs.declared.Plant.{Plant}
use Rattle.answers.specs.Answers.{given}
use Rattle.answers.specs.Checks.{answer}
use Rattle.walks.specs.Arcs.{tail, head}
use Rattle.walks.specs.Components.{links_with, used}
use Rattle.plan.specs.Plan.{trail_with, in_table}
use Rattle.rings.specs.Packet.{run, rules_for}
use Rattle.rings.specs.Packet as ring
use Rattle.rings.specs.Rules.{up_by_link}
use Rattle.rings.specs.Order.{nth}
use Rattle.rings.specs.Injection.{ring_of, order_of, probe_run}
use Rattle.order.specs.declared.Order.{Order}
use Rattle.order.specs.declared.Span.{Span}
use Rattle.order.specs.Order.{listed}
use Rattle.order.specs.Span.{ring_span, span_of}
use Rattle.order.proofs.Gathering.{listed_nth}
use Rattle.packet.specs.Runs.{injected_at, goes_on}
use Rattle.packet.proofs.Probes.{from_switch}
use Rattle.search.specs.declared.Said.{Said}
use Rattle.search.specs.declared.Said.TheVariants.{Down}
use Rattle.judging.specs.Conditions.{trail_differs}
use Rattle.probing.specs.Calls.{order_in, own_span, link, named_in}
use Rattle.answers.proofs.Checks.{fails}

-- ---- a packet that is no probe

module _ (p : Plant) (us : List Bool) (states labels : List ℕ) (x : ℕ) (table : flag us ≡ used p) where
  pub ran_as : (i e : ring.End) → i ≡ injected_at x → e ≡ goes_on p us states i labels → given e ≡ given (run (in_table p) (up_by_link states) (head p) x 0 labels)
  ran_as i e new goes =
      ap given (from_switch p us states x i e labels new goes ∙ ap (λ (o : ℕ → Bool). run (rules_for o (tail p)) (up_by_link states) (head p) x 0 labels) table)

-- ---- over the trail of the component of x

module _ (p : Plant) (w : List ℕ) (x : ℕ) (same : w ≡ trail_with p x) where
  -- with rules for the arcs in use
  module _ {table : ℕ → Bool} (in_use : table ≡ used p) (up : ℕ → Bool) (e : ring.End) where
    pub checked : e ≡ run (rules_for table (tail p)) up (head p) x 0 (ring_of p w x) → given e ≡ given (run (in_table p) up (head p) x 0 (ring_of p (trail_with p x) x))
    checked g = ap given (g ∙ ap₂ (λ (k : ℕ → Bool) (v : List ℕ). run (rules_for k (tail p)) up (head p) x 0 (ring_of p v x)) in_use same)

    pub probed : (n m : ℕ) → n ≡ links_with p x → e ≡ probe_run p table w x n up m → e ≡ probe_run p (used p) (trail_with p x) x (links_with p x) up m
    probed n m i g =
        g ∙ ap₂ (λ (v : List ℕ) (k : ℕ). probe_run p table v x k up m) same i ∙ ap (λ (k : ℕ → Bool). probe_run p k (trail_with p x) x (links_with p x) up m) in_use

  pub out-ring : (m : ℕ) (b : Span) → m ≡ links_with p x → b ≡ ring_span p w x → b ≡ own_span p x m
  unfolding own_span
  out-ring m b e f = rw (eq-eqb _ _ e) (f ∙ ap (λ (v : List ℕ). ring_span p v x) same)

  pub out-part : (m : ℕ) (b : Span) → (m ≡ links_with p x → ⊥) → b ≡ span_of p w x m → b ≡ own_span p x m
  unfolding own_span
  out-part m b n f = rw (ne_eqb _ _ n) (f ∙ ap (λ (v : List ℕ). span_of p v x m) same)

  -- the link at a place in the order
  pub named_link : (o : Order) (d : Said) (k : ℕ) → o ≡ listed (order_of p w x) → d ≡ Down k
      → link (get_or o.links (k - 1) 0) ≡ (named_in (order_of p (trail_with p x) x) d)
  named_link o d k f e =
      let l : get_or o.links (k - 1) 0 ≡ nth (order_of p (trail_with p x) x) k =
      ap (λ (d : Order). get_or d.links (k - 1) 0) f ∙ listed_nth (order_of p w x) k ∙ ap (λ (v : List ℕ). nth (order_of p v x) k) same
      in
      rw e (ap (λ (j : ℕ). link j) l)

pub ordered : (p : Plant) (w own : List ℕ) (x : ℕ) (o : Order) → trail_differs p w ≡ false → own ≡ trail_with p x → o ≡ listed (order_of p own x)
    → given o ≡ answer (order_in x w p)
unfolding order_in
ordered p w own x o d e f = fails 12 _ _ _ d (ap given (f ∙ ap (λ (v : List ℕ). listed (order_of p v x)) e))
