-- The links at each switch, counted link by link. Assumes nothing.
use mathlib.Core.Path.{◌≡◌, sym, ap, ◌∙◌}
use mathlib.Core.Bool.{Bool, true, false, not, ◌&&◌, ◌||◌}
use mathlib.Core.List.{List, map}
use Prim.Native.Nat.{ℕ, ◌+◌, ◌≤◌, ◌<◌}
use native.Mathlib.Omega.{arith}
use lib.Dec.{eqb}
use lib.ListN.{length, get_or, set, take, replicate, length-set, length-replicate}
use lib.Seq.{length-take-le, get_or-take}
use Rattle.lists.specs.Arrays.{at}
use Rattle.lists.specs.Count.{bit, count}
use Rattle.lists.specs.Numbers.{range}
use Rattle.lists.proofs.Arrays.{at_more}
use Rattle.lists.proofs.Count.{bit_le_one, count-all}
use Rattle.lists.proofs.Members.{get_d_same}
use Rattle.lists.proofs.Numbers.{values-are}
use Rattle.lists.proofs.Stepwise.{count_next}
use Rattle.limits.specs.Limits.{max_switches, max_links}
use Rattle.limits.specs.Sound.{Sound}
use Rattle.plant.specs.declared.Link.{Link}
use Rattle.plant.specs.declared.Plant.{Plant}
use Rattle.plant.specs.Links.{zero_link, link_at, first, second}
use Rattle.walks.specs.Graph.{is_at, links_at}
use Rattle.walks.proofs.LinksAt.{at-ends}
use Rattle.walks.proofs.Live.{live-listed}

module _ (p : Plant) where
  -- the array has the counts of the first n links
  pub record CountsTo (n : ℕ) (l : List ℕ) : Type 0 where
    pub places : length l ≡ max_switches
    pub tells : (x : ℕ) → x < max_switches → at l x ≡ count n (is_at p x)

  pub counts_none : CountsTo 0 (replicate max_switches 0)
  unfolding count
  counts_none = record { places = length-replicate {A = ℕ} max_switches 0; tells = λ x h. get_d_same max_switches x 0 }

  module _ (ok : Sound p) {n : ℕ} (all : n ≡ p.count) where
    -- the links of the listing, as the code reads them
    abbrev listing : List Link
    listing = take n p.links

    listed : length listing ≡ p.count
    listed = length-take-le n p.links (omega (arith, all, ok.few_links, ok.places)) ∙ all

    pub counts_are : (k : ℕ) (l : List ℕ) → k ≤ length listing → length listing ≤ k → CountsTo k l → l ≡ map (links_at p) (range 0 max_switches)
    unfolding links_at
    counts_are k l h i c =
        let e : k ≡ p.count = omega (arith, listed) in
        values-are (links_at p) 0 max_switches l c.places (rw e at c.tells)

    module _ (k : ℕ) (h : k < length listing) where
      inside : k < p.count
      inside = omega (arith, listed)

      it_is : get_or listing k zero_link ≡ link_at p k
      it_is = get_or-take n p.links k zero_link (omega (arith, inside, all))

      -- a switch has it at an end if it is in service and one of its ends is there
      at_is : {b : Bool} → not (get_or listing k zero_link).out_of_service ≡ b → (z : ℕ) → is_at p z k ≡ b && (eqb (first p k) z || eqb (second p k) z)
      at_is e z = ap (λ (b : Bool). b && (eqb (first p k) z || eqb (second p k) z)) (live-listed p k inside ∙ ap (λ (i : Link). not i.out_of_service) (sym it_is) ∙ e)

      -- with its ends
      module _ (l : List ℕ) (c : CountsTo k l) (x y : ℕ) (ex : x ≡ (get_or listing k zero_link).first) (ey : y ≡ (get_or listing k zero_link).second) where
        x_is : x ≡ first p k
        x_is = ex ∙ ap (λ (i : Link). i.first) it_is

        y_is : y ≡ second p k
        y_is = ey ∙ ap (λ (i : Link). i.second) it_is

        x_place : x < max_switches
        x_place = omega (arith, x_is, ok.first_in_is k inside, ok.few_switches)

        y_place : y < max_switches
        y_place = omega (arith, y_is, ok.second_in k inside, ok.few_switches)

        -- a count stays small
        count_small : (z : ℕ) → z < max_switches → at l z ≤ k
        count_small z i = omega (arith, c.tells z i, count-all k (is_at p z))

        pub first_small : at l x < max_links
        first_small = omega (arith, count_small x x_place, inside, ok.few_links)

        -- with the first end
        abbrev half : List ℕ
        half = set l x (at l x + 1)

        half_at : (z : ℕ) → at half z ≡ at l z + bit (eqb x z)
        half_at z = at_more l x z (omega (arith, x_place, c.places))

        pub second_small : at half y ≤ max_links
        second_small = omega (arith, half_at y, count_small y y_place, bit_le_one (eqb x y), inside, ok.few_links)

        -- with both
        pub counts_live : not (get_or listing k zero_link).out_of_service ≡ true → CountsTo (k + 1) (set half y (at half y + 1))
        counts_live e = record {
          places = length-set half y (at half y + 1) ∙ length-set l x (at l x + 1) ∙ c.places;
          tells = λ z i.
              at_more half y z (omega (arith, length-set l x (at l x + 1), y_place, c.places))
              ∙ omega (arith, half_at z, c.tells z i, count_next (is_at p z) k, at-ends (first p k) (second p k) z (ok.apart k inside), ap (λ (i : ℕ). bit (eqb i z)) x_is, ap (λ (i : ℕ). bit (eqb i z)) y_is, ap bit (at_is e z));
        }

      pub counts_dead : (l : List ℕ) → CountsTo k l → not (get_or listing k zero_link).out_of_service ≡ false → CountsTo (k + 1) l
      counts_dead l c e = record {
        places = c.places;
        tells = λ z i. c.tells z i ∙ omega (arith, count_next (is_at p z) k, ap bit (at_is e z));
      }
