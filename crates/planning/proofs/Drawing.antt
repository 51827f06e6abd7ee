-- The plan of a plant, from the components that were found: what each step asks, and what the plan says of its fields. Assumes nothing.
use mathlib.Core.Path.{◌≡◌, refl, sym, ap, ◌∙◌, subst}
use mathlib.Core.Bool.{Bool}
use mathlib.Core.List.{List}
use Prim.Native.Nat.{ℕ, ◌*◌, ◌≤◌}
use native.Mathlib.Omega.{arith}
use Rattle.std.proofs.Common.{get_or-take}
use Rattle.std.proofs.lemmas.Grind.{same_number_lists}
use lib.ListN.{length, get_or, take, length-take}
use Rattle.lists.specs.Arrays.{flag, at}
use Rattle.lists.specs.Members.{In}
use Rattle.lists.specs.Sum.{sum}
use Rattle.lists.proofs.Members.{get_d_in}
use Rattle.lists.proofs.Sum.{sum_same}
use Rattle.lists.proofs.SumOf.{sum_list}
use Rattle.plant.specs.declared.Plant.{Plant}
use Rattle.limits.specs.Limits.{max_switches, max_links, max_rules}
use Rattle.walks.specs.Components.{roots, used}
use Rattle.walks.specs.Graph.{arcs_used_from}
use Rattle.walks.proofs.Components.{roots_few, arcs-sum}
use Rattle.walks.proofs.Limits.{few-used}
use Rattle.walks.proofs.Valid.{sound_valid}
use Rattle.arcs.specs.declared.Net.{Net}
use Rattle.arcs.specs.declared.ArcEnds.{ArcEnds}
use Rattle.arcs.specs.declared.AllLegs.{AllLegs}
use Rattle.arcs.specs.declared.Chains.{Chains}
use Rattle.arcs.specs.Net.{rooted, Within}
use Rattle.arcs.specs.Chains.{TailsIn, Chained}
use Rattle.arcs.specs.Table.{distances_in}
use Rattle.arcs.specs.Parts as network
use Rattle.arcs.specs.Flags.{Flags}
use Rattle.arcs.specs.Legs.{no_legs, LegsIn}
use Rattle.legs.specs.Several.{in_use, Several, LegsOfAll}
use Rattle.components.specs.declared.Found.{Found}
use Rattle.components.specs.Found.{Finds}
use Rattle.planning.specs.Plans.{net_of, used_flags, TablesBy, NetworkOf, HopsBy, LegsBy, Charted}
use Rattle.planning.proofs.Networks.{flags_from, all-within, all-tails, net_parts, net_trail}

-- the chains of the arcs in use, and the fewest hops over these between every two switches, are from each root what a trail is laid by
module _ (e : ArcEnds) (flags : List Bool) (flags_are : Flags (2 * max_links) (used e.plant) flags) (chains : Chains) (t : List (List ℕ)) (of : NetworkOf flags e chains t) where
  pub parts : (r : ℕ) → In r (roots e.plant) → network.Parts (net_of e.plant r) e.tails e.heads (used_flags e.plant r) chains.first chains.after t
  parts = net_parts e.plant e.sound e.tails e.heads e.ends flags flags_are chains.first chains.after of.chained t of.hops_are

module _ (e : ArcEnds) (f : Found) (finds : Finds e.plant f) where
  abbrev p : Plant
  p = e.plant

  pub charted : Charted p f.count f.roots f.home f.bridges f.used
  charted = record { count_is = finds.count_is; roots_are = finds.roots_are; homes = finds.homes; bridges_are = finds.bridges_are; used_are = finds.used_are }

  -- the roots that were found
  pub roots-are : (m : ℕ) → m ≡ f.count → length f.roots ≡ max_switches → take m f.roots ≡ roots p
  roots-are m all places =
      let number : length (take m f.roots) ≡ length (roots p) =
      omega (arith, length-take m f.roots, finds.count_is, roots_few p (sound_valid p e.sound) e.sound.start_in, e.sound.few_switches) in
      same_number_lists (take m f.roots) (roots p) number (λ i h. get_or-take m f.roots i 0 (omega (arith, number, finds.count_is)) ∙ finds.roots_are i (omega (arith, number)))

  -- ---- the network, by the ends of the arcs and the arcs in use

  module _ (net : Net) (net_is : net ≡ net_of p p.start) where
    pub chains_asked : (net.labels ≤ 2 * max_links) × TailsIn net.labels e.tails f.used
    chains_asked = rw net_is (all-tails p e.sound e.tails e.heads e.ends f.used finds.used_are p.start e.sound.start_in)

    pub distances-asked : Within net e.tails e.heads f.used
    distances-asked = rw net_is (all-within p e.sound e.tails e.heads e.ends f.used finds.used_are p.start e.sound.start_in)

    module _ (chains : Chains) (chained : Chained net.labels (at e.tails) (flag f.used) chains.first chains.after) (t : List (List ℕ))
        (table : t ≡ distances_in net e.tails e.heads f.used)
      where
        pub network_is : NetworkOf f.used e chains t
        network_is = record {
          chained = subst (λ (n : Net). Chained n.labels (at e.tails) (flag f.used) chains.first chains.after) net_is chained;
          hops_are = subst (λ (n : Net). t ≡ distances_in n e.tails e.heads f.used) net_is table;
        }

        own-parts : (r : ℕ) → In r (roots p) → network.Parts (net_of p r) e.tails e.heads (used_flags p r) chains.first chains.after t
        own-parts = parts e f.used finds.used_are chains t network_is

        pub tables : TablesBy e chains t
        tables r h = ∣ own-parts r h ∣₁

        -- ---- the legs

        abbrev flags_of : ℕ → List Bool
        flags_of i = used_flags p (get_or (roots p) i 0)

        -- the arcs in use of all components together
        room : sum (length (roots p)) (λ i. in_use net (flags_of i)) ≤ max_rules
        unfolding arcs_used_from
        room =
            omega (
              arith,
              sum_same (length (roots p)) (λ i. in_use net (flags_of i)) (λ i. arcs_used_from p (get_or (roots p) i 0))
                  (λ i h. rw (net_is, flags_from p e.sound (get_or (roots p) i 0)) refl),
              sum_list (arcs_used_from p) (roots p),
              arcs-sum p (sound_valid p e.sound) e.sound.start_in,
              few-used p e.sound,
            )

        module _ (rs : List ℕ) (rs_are : rs ≡ roots p) where
          -- the network of component i
          rooted-is : (i : ℕ) → rooted net (at rs i) ≡ net_of p (get_or (roots p) i 0)
          rooted-is i = rw (net_is, rs_are) refl

          pub legs-asked : Several net e.tails e.heads chains.first chains.after t rs
          legs-asked = record {
            used = flags_of;
            few = omega (arith, ap length rs_are, roots_few p (sound_valid p e.sound) e.sound.start_in, e.sound.few_switches);
            parts = λ i h.
                subst (λ (n : Net). network.Parts n e.tails e.heads (flags_of i) chains.first chains.after t) (sym (rooted-is i))
                (own-parts (get_or (roots p) i 0) (get_d_in (roots p) i (omega (arith, ap length rs_are))));
            room = subst (λ (k : List ℕ). sum (length k) (λ i. in_use net (flags_of i)) ≤ max_rules) (sym rs_are) room;
          }

          module _ (legs : AllLegs) (own : (w : Several net e.tails e.heads chains.first chains.after t rs) → LegsOfAll net e.tails e.heads rs w.used legs.aims legs.list) where
            pub legs_by : LegsBy e legs
            unfolding legs-asked
            legs_by i h =
                subst (λ (n : Net). LegsIn n e.tails e.heads (flags_of i) legs.aims (get_or legs.list i no_legs)) (rooted-is i) (own legs-asked i (omega (arith, ap length rs_are)))

            pub hops_by : HopsBy p legs.list
            hops_by i h = (legs_by i h).hops_are ∙ ap length (net_trail p e.sound e.tails e.heads e.ends (get_or (roots p) i 0))
