-- Runs hop by hop, as the code makes them. Assumes nothing.
use mathlib.Core.Path.{◌≡◌, refl, sym, ap, ◌∙◌, subst}
use mathlib.Core.Bool.{Bool, true, false, not, ◌&&◌}
use mathlib.Core.List.{List, [], ◌∷◌, ◌++◌}
use Prim.Native.Nat.{ℕ, suc, ◌+◌, ◌*◌, ◌/◌, ◌%◌, ◌≤◌}
use native.Mathlib.Omega.{arith}
use native.Mathlib.Numerals.{add-one}
use lib.Dec.{eqb}
use lib.ListN.{length, get_or}
use Rattle.lists.specs.Tests.{choose}
use Rattle.lists.specs.Arrays.{flag}
use Rattle.lists.proofs.Tests.{not_true_false}
use Rattle.plant.specs.declared.Plant.{Plant}
use Rattle.plant.specs.Links.{side, first, second}
use Rattle.walks.specs.Arcs.{tail, head}
use Rattle.walks.proofs.Labels.{arc_below}
use Rattle.rings.specs.Packet.{crosses, run, run_on, rules_for}
use Rattle.rings.specs.Packet as ring
use Rattle.rings.proofs.Packet.{run_none, run_label, hops-most, run_on-append}
use Rattle.rings.specs.Rules.{up_by}
use Rattle.packet.specs.Runs.{after_label, flagged, up_of, goes_by}
use Rattle.packet.specs.Asked.{ForArcs}

-- a run makes no more hops than it has labels
on_hops : (rule : ℕ → ℕ → Bool) (up : ℕ → Bool) (hd : ℕ → ℕ) (e : ring.End) (w : List ℕ) → (run_on rule up hd e w).hops ≤ e.hops + length w
unfolding run_on
on_hops rule up hd e w = go e.ended (hops-most rule up hd w e.last e.hops)
  where
    go : (b : Bool) → (run rule up hd e.last e.hops w).hops ≤ e.hops + length w → (choose b (run rule up hd e.last e.hops w) e).hops ≤ e.hops + length w
    go true h = h
    go false h = omega arith

module _ (n : ℕ) (p : Plant) (rules : List Bool) (states : List ℕ) where
  abbrev up : ℕ → Bool
  up = up_of n states

  -- may a packet at a switch cross by label a?
  unfoldable pub passes : ℕ → ℕ → Bool
  passes at a = crosses (flagged p rules) up at a

  -- ---- whether it crosses

  -- a label past those of the plant has no rule
  pub passes_past : ForArcs p rules → (at a : ℕ) → 2 * p.count ≤ a → passes at a ≡ false
  unfolding passes flagged rules_for
  passes_past arcs at a h =
      let e : flag rules a ≡ false = not_true_false (flag rules a) (λ t. omega (arith, arc_below p a (arcs a t))) in
      rw e

  pub passes_is : (at a : ℕ) (r : Bool) → r ≡ (flag rules a && eqb (side (a % 2) (first p (a / 2)) (second p (a / 2))) at) && not (eqb (get_or states (a / n) 0) 0)
      → r ≡ passes at a
  unfolding passes flagged rules_for tail up_by
  passes_is at a r e = e

  -- ---- a run, hop by hop

  -- a packet that is lost stays where it is
  pub goes-lost : (e : ring.End) (w : List ℕ) → e.ended ≡ false → e ≡ goes_by n p rules states e w
  unfolding run_on
  goes-lost e w q = rw q

  -- over one label
  pub hop_is : (e r : ring.End) (a : ℕ) → e.ended ≡ true → r ≡ after_label e (passes e.last a) (head p a) → r ≡ goes_by n p rules states e (a ∷ [])
  unfolding passes run_on
  hop_is e r a t q =
      rw (q, t, run_label (flagged p rules) up (head p) e.last e.hops a [], run_none (flagged p rules) up (head p) (head p a) (suc e.hops)) (go (flagged p rules e.last a && up a))
    where
      go : (c : Bool) → after_label e c (head p a) ≡ choose c (record { ended = true; hops = suc e.hops; last = head p a }) (record { ended = false; hops = e.hops; last = e.last })
      go true = rw (add-one e.hops)
      go false = refl

  -- two runs are one
  pub on_two : (e f r : ring.End) (x y : List ℕ) → f ≡ goes_by n p rules states e x → r ≡ goes_by n p rules states f y → r ≡ goes_by n p rules states e (x ++ y)
  on_two e f r x y a b = b ∙ ap (λ (d : ring.End). goes_by n p rules states d y) a ∙ sym (run_on-append (flagged p rules) up (head p) e x y)

  -- no label
  pub goes_none : (e : ring.End) → e ≡ goes_by n p rules states e []
  unfolding run_on
  goes_none e = go e.ended refl
    where
      go : (b : Bool) → e.ended ≡ b → e ≡ choose b (run (flagged p rules) up (head p) e.last e.hops []) e
      go true t = sym (run_none (flagged p rules) up (head p) e.last e.hops ∙ ap (λ (b : Bool). record { ended = b; hops = e.hops; last = e.last }) (sym t))
      go false t = refl

  -- where a packet was lost it stays, over whatever labels
  pub stays : (e at : ring.End) (x y : List ℕ) → at ≡ goes_by n p rules states e x → at.ended ≡ false → at ≡ goes_by n p rules states e (x ++ y)
  stays e at x y q f = on_two e at at x y q (goes-lost at y f)

  -- it makes no more hops than it has labels
  pub after-hops : (e r : ring.End) (w : List ℕ) → r ≡ goes_by n p rules states e w → r.hops ≤ e.hops + length w
  after-hops e r w q = subst (λ (d : ring.End). d.hops ≤ e.hops + length w) (sym q) (on_hops (flagged p rules) up (head p) e w)
