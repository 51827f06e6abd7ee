-- A sound plant by its parts: its header, its links and the places past them; and the tests that such a header and such a link pass. Assumes nothing.
use mathlib.Core.Path.{◌≡◌, refl, sym, ap, ◌∙◌}
use mathlib.Core.Bool.{false}
use mathlib.Core.List.{List}
use Prim.Native.Nat.{ℕ, ◌+◌, ◌-◌, ◌^◌, ◌≤◌, ◌<◌}
use native.Mathlib.Omega.{arith}
use borrow.Author.Tests.{lt-ltb, le-leb, ne_eqb, leb-true, ltb-true, eqb-false, not-false}
use lib.ListN.{length, get_or, drop, replicate, length-drop, length-replicate}
use lib.Seq.{length-take-le, get_or-take, get_or-drop, ext_get_or}
use Rattle.lists.proofs.Tests.{and_true}
use Rattle.lists.specs.Members.{Each}
use Rattle.lists.proofs.Members.{each_at, at_each, get_d_same}
use Rattle.plant.specs.declared.Link.{Link}
use Rattle.plant.specs.declared.Plant.{Plant}
use Rattle.plant.specs.Links.{zero_link, link_at}
use Rattle.answers.specs.Answers.{given, refuse}
use Rattle.answers.specs.Checks.{answer}
use Rattle.answers.proofs.Checks.{refuse-given}
use Rattle.limits.specs.Limits.{max_switches, max_links}
use Rattle.limits.specs.Sound.{Sound}
use Rattle.listing.specs.Listing.{value_out_of_range, end_out_of_range, self_link, sound_link, links_of}

-- ---- a header and a link that are not refused

pub record InRange (switches count start : ℕ) : Type 0 where
  pub some_switch : 1 ≤ switches
  pub few_switches : switches ≤ max_switches
  pub few_links : count ≤ max_links
  pub start_in : start < switches

pub in_range : (switches count start : ℕ) → value_out_of_range switches count start ≡ false → InRange switches count start
unfolding value_out_of_range
in_range a b c e =
    let t = not-false _ e in
    let q = and_true _ _ t in
    let r = and_true _ _ q.0 in
    let u = and_true _ _ r.0 in
    record { some_switch = leb-true 1 a u.0; few_switches = leb-true a max_switches u.1; few_links = leb-true b max_links r.1; start_in = ltb-true c a q.1 }

-- the ends of a link that is not refused
pub record Ends (switches : ℕ) (l : Link) : Type 0 where
  pub first_in_is : l.first < switches
  pub second_in : l.second < switches
  pub apart : l.first ≡ l.second → ⊥

pub sound-ends : (switches : ℕ) (l : Link) → answer (sound_link switches l) ≡ given tt → Ends switches l
unfolding sound_link end_out_of_range self_link
sound-ends switches l e =
    let six = refuse-given 6 (end_out_of_range switches l) (refuse 7 (self_link l) (given tt)) tt e in
    let seven = refuse-given 7 (self_link l) (given tt) tt six.1 in
    let q = and_true _ _ (not-false _ six.0) in
    record { first_in_is = ltb-true _ _ q.0; second_in = ltb-true _ _ q.1; apart = eqb-false _ _ seven.0 }

-- ---- a sound plant by its parts

-- a link of a plant with so many switches
pub record Fitting (switches : ℕ) (l : Link) : Type 0 where
  pub ends : Ends switches l
  pub tag_fits : l.tag < 2 ^ 16

pub record Parts (p : Plant) : Type 0 where
  pub header : InRange p.switches p.count p.start
  pub each_link : Each (Fitting p.switches) (links_of p)
  pub places : length p.links ≡ max_links
  pub zeros : drop p.count p.links ≡ replicate (max_links - p.count) zero_link

-- it has as many links as its count says
pub length-links : (p : Plant) → p.count ≤ max_links → length p.links ≡ max_links → length (links_of p) ≡ p.count
length-links p h k = length-take-le p.count p.links (omega arith)

pub sound-parts : (p : Plant) → Sound p → Parts p
sound-parts p s = record {
  header = record { some_switch = s.some_switch; few_switches = s.few_switches; few_links = s.few_links; start_in = s.start_in };
  each_link = at_each (Fitting p.switches) (links_of p) zero_link (λ l h. fitting l (omega (arith, length-links p s.few_links s.places)));
  places = s.places;
  zeros =
      ext_get_or zero_link (drop p.count p.links) (replicate (max_links - p.count) zero_link) (rw (length-drop, length-replicate, s.places) refl)
      (λ l h. get_or-drop p.count p.links l zero_link ∙ s.zeros (p.count + l) (omega arith) ∙ sym (get_d_same (max_links - p.count) l zero_link));
}
  where
    fitting : (l : ℕ) → l < p.count → Fitting p.switches (get_or (links_of p) l zero_link)
    fitting l h = rw (get_or-take p.count p.links l zero_link h) (record { ends = record { first_in_is = s.first_in_is l h; second_in = s.second_in l h; apart = s.apart l h }; tag_fits = s.tag_fits l h })

pub parts-sound : (p : Plant) → Parts p → Sound p
parts-sound p r = record {
  some_switch = r.header.some_switch;
  few_switches = r.header.few_switches;
  few_links = r.header.few_links;
  start_in = r.header.start_in;
  first_in_is = λ l h. (fitting l h).ends.first_in_is;
  second_in = λ l h. (fitting l h).ends.second_in;
  apart = λ l h. (fitting l h).ends.apart;
  tag_fits = λ l h. (fitting l h).tag_fits;
  places = r.places;
  zeros = zero_at;
}
  where
    fitting : (l : ℕ) → l < p.count → Fitting p.switches (link_at p l)
    fitting l h = rw (get_or-take p.count p.links l zero_link h) at (each_at (Fitting p.switches) (links_of p) zero_link r.each_link l (omega (arith, length-links p r.header.few_links r.places)))

    zero_at : (l : ℕ) → p.count ≤ l → link_at p l ≡ zero_link
    zero_at l h =
        let e : p.count + (l - p.count) ≡ l = omega arith in
        ap (λ (k : ℕ). get_or p.links k zero_link) (sym e)
        ∙ sym (get_or-drop p.count p.links (l - p.count) zero_link)
        ∙ ap (λ (ls : List Link). get_or ls (l - p.count) zero_link) r.zeros
        ∙ get_d_same (max_links - p.count) (l - p.count) zero_link

-- ---- a header in range and a link with such ends pass the tests of 5, 6 and 7

pub range_in : (switches count start : ℕ) → InRange switches count start → value_out_of_range switches count start ≡ false
unfolding value_out_of_range
range_in a b c r =
    rw (le-leb 1 a r.some_switch, le-leb a max_switches r.few_switches, le-leb b max_links r.few_links, lt-ltb c a r.start_in)

pub ends-sound : (switches : ℕ) (l : Link) → Ends switches l → answer (sound_link switches l) ≡ given tt
unfolding sound_link end_out_of_range self_link
ends-sound switches l r = rw (lt-ltb l.first switches r.first_in_is, lt-ltb l.second switches r.second_in, ne_eqb l.first l.second r.apart)
