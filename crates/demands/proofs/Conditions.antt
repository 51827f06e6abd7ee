-- What the condition of each refusal says. Assumes nothing.
use mathlib.Core.Path.{◌≡◌, refl, sym, ap, ◌∙◌, subst}
use mathlib.Core.Logic.{◌⊎◌, inl, inr, ◌↔◌}
use mathlib.Core.Bool.{Bool, true, false, not, ◌&&◌, ◌||◌}
use mathlib.Core.List.{List, [], ◌∷◌, ◌++◌}
use Prim.Native.Nat.{ℕ, zero, suc, ◌+◌, ◌*◌, ◌/◌, ◌%◌, ◌^◌, ◌≤◌, ◌<◌}
use native.Mathlib.Nat.{div-one, div-div-eq-div-mul, pow-succ'}
use native.Mathlib.Omega.{arith}
use borrow.Author.Tests.{lt-ltb, ltb-true, le-leb, leb-true, eq-eqb, eqb-true, not-true, not-false}
use lib.Dec.{eqb, leb, ltb}
use lib.ListN.{length, drop, take-append-drop}
use Rattle.lists.specs.Members.{all, Each}
use Rattle.lists.proofs.Tests.{not_both, not_true_false, true_exactly, and_true, or_false}
use Rattle.plant.specs.declared.Link.{Link}
use Rattle.plant.specs.declared.Plant.{Plant}
use Rattle.plant.specs.Links.{zero_link}
use Rattle.limits.specs.Limits.{max_switches, max_links}
use Rattle.codec.specs.Given.{bit_at}
use Rattle.codec.proofs.ConditionLaws.{map_missing_lem, map-undefined, field_missing_lem, field-redundant}
use Rattle.listing.specs.Listing.{value_out_of_range}
use Rattle.listing.specs.Writing.{is_zero, plant_out_of_range, buffer_short}
use Rattle.listing.proofs.ConditionLaws.{value_out_of_range_lem, end_out_of_range_lem, self_link_lem, bytes_remain_lem}
use Rattle.quantity.specs.Quantity.{spare_above}
use Rattle.plan.specs.Plan.{trail_of}
use Rattle.planning.specs.Planning.{switch_out_of_range}
use Rattle.planner.specs.Calls.{places_short}
use Rattle.search.specs.declared.Search.{Search}
use Rattle.search.specs.declared.Search.TheVariants.{Checking, Halving, AllUp, Down}
use Rattle.search.specs.Search.{tries, sound, ended}
use Rattle.search.specs.Sound.{Good}
use Rattle.search.specs.Values.{checking, IsAllUp, IsDown}
use Rattle.search.proofs.Values.{same-state, is-all_up, is_down}
use Rattle.search.proofs.Sound.{counts-fits, checking-fits, halving-fits, good_sound}
use Rattle.judging.specs.Conditions.{trail_differs, hops_differ, states_short, search_unsound}
use Rattle.judging.proofs.Lent.{trail-same, trail-own, hops-begin, hops-own}
use Rattle.judging.proofs.Searching.{good_here}
use Rattle.sheet.specs.declared.Sheet.{Sheet}
use Rattle.sheet.specs.Page.{buying_page}
use Rattle.sheet.specs.Form.{formed, counts_in}
use Rattle.sheet.specs.Shown.{Shown}
use Rattle.sheet.proofs.RoundTrip.{written-formed, read-shown, written_again}
use Rattle.desk.specs.Console.{has, set_out_of_range, outside_set}
use Rattle.desk.proofs.Sets.{beyond_is}
use Rattle.consoles.specs.Calls.{console_out_of_range}
use Rattle.demands.specs.Conditions.{SoundOver, ConditionsAre}

-- tests of numbers
less : (a b : ℕ) → (ltb a b ≡ true) ↔ (a < b)
less a b = (ltb-true a b, lt-ltb a b)

most : (a b : ℕ) → (leb a b ≡ true) ↔ (a ≤ b)
most a b = (leb-true a b, le-leb a b)

five : (a b c : ℕ) → (value_out_of_range a b c ≡ true) ↔ ((1 ≤ a) × (a ≤ max_switches) × (b ≤ max_links) × (c < a) → ⊥)
five a b c = (
  λ e q. (value_out_of_range_lem a b c).0 e (record { some_switch = q.0; few_switches = q.1; few_links = q.2; start_in = q.3 }),
  λ n. (value_out_of_range_lem a b c).1 (λ r. n (r.some_switch, r.few_switches, r.few_links, r.start_in)),
)

-- a place that is zero
zero_is : (l : Link) → (is_zero l ≡ true) ↔ (l ≡ zero_link)
unfolding is_zero
zero_is l = (
  λ e.
      let q = and_true (eqb l.first 0) (eqb l.second 0 && (eqb l.tag 0 && not l.out_of_service)) e in
      let r = and_true (eqb l.second 0) (eqb l.tag 0 && not l.out_of_service) q.1 in
      let u = and_true (eqb l.tag 0) (not l.out_of_service) r.1 in
      λ i. record { first = eqb-true l.first 0 q.0 i; second = eqb-true l.second 0 r.0 i; tag = eqb-true l.tag 0 u.0 i; out_of_service = not-true l.out_of_service u.1 i },
  λ e. ap is_zero e,
)

each_zero : (ls : List Link) → (all is_zero ls ≡ true) ↔ Each (λ l. l ≡ zero_link) ls
each_zero [] = (λ e. tt, λ h. refl)
each_zero (l ∷ ls) = (
  λ e. let r = and_true (is_zero l) (all is_zero ls) e in ((zero_is l).0 r.0, (each_zero ls).0 r.1),
  λ h. rw ((zero_is l).1 h.0) ((each_zero ls).1 h.1),
)

five_written : (p : Plant) → (plant_out_of_range p ≡ true)
    ↔ ((value_out_of_range p.switches p.count p.start ≡ false) × Each (λ l. l ≡ zero_link) (drop p.count p.links) → ⊥)
unfolding plant_out_of_range
five_written p =
    let v = value_out_of_range p.switches p.count p.start in
    let past = drop p.count p.links in
    true_exactly (v || not (all is_zero past)) (
      λ f. let r = or_false v (not (all is_zero past)) f in (r.0, (each_zero past).0 (not-false (all is_zero past) r.1)),
      λ h. rw (h.0, (each_zero past).1 h.1) refl,
    )

ten : (w b : List ℕ) → (places_short w b ≡ true) ↔ (length b < length w)
unfolding places_short
ten w b = less (length b) (length w)

eleven : (p : Plant) (x : ℕ) → (switch_out_of_range p x ≡ true) ↔ (p.switches ≤ x)
unfolding switch_out_of_range
eleven p x = most p.switches x

twelve : (p : Plant) (lent : List ℕ) → (trail_differs p lent ≡ true) ↔ (lent ≡ trail_of p → ⊥)
twelve p lent = true_exactly (trail_differs p lent) (trail-same p lent, λ e. subst (λ (w : List ℕ). trail_differs p w ≡ false) (sym e) (trail-own p))

twelve_hops : (w lent : List ℕ) → (hops_differ w lent ≡ true) ↔ ((spare : List ℕ) × (lent ≡ w ++ spare) → ⊥)
twelve_hops w lent = true_exactly (hops_differ w lent) (
  λ f. (drop (length w) lent, sym (take-append-drop (length w) lent) ∙ ap (λ (v : List ℕ). v ++ drop (length w) lent) (hops-begin w lent f)),
  λ q. subst (λ (v : List ℕ). hops_differ w v ≡ false) (sym q.1) (hops-own w q.0),
)

thirteen : (e : ℕ) (states : List ℕ) → (states_short e states ≡ true) ↔ (length states < e)
unfolding states_short
thirteen e states = less (length states) e

-- a good state, by its values
over : (e : ℕ) (q : Search) → Good e q → SoundOver e q
over e (Checking count lost) g = inl (lost, ap (λ (c : ℕ). checking c lost) g.0, g.1, omega (arith, g.2))
over e (Halving low high lost) g = inr (inl (low, high, lost, refl, g.0, g.1, g.2, omega (arith, g.3)))
over e AllUp g = inr (inr (inl refl))
over e (Down place) g = inr (inr (inr (place, refl, g.0, g.1)))

good_of : (e : ℕ) (q : Search) → SoundOver e q → Good e q
good_of e q (inl s) = subst (Good e) (sym (same-state q (Checking e s.0) s.1)) (refl, s.2, omega (arith, s.3))
good_of e q (inr (inl s)) = subst (Good e) (sym (same-state q (Halving s.0 s.1 s.2) s.3)) (s.4, s.5, s.6, omega (arith, s.7))
good_of e q (inr (inr (inl s))) = subst (Good e) (sym (is-all_up q s)) tt
good_of e q (inr (inr (inr s))) = subst (Good e) (sym (is_down q s.0 s.1)) (s.2, s.3)

-- a good state is sound, and sound for the listing
fine : (e : ℕ) (q : Search) → e ≤ max_links → Good e q → search_unsound e q ≡ false
unfolding search_unsound
fine e (Checking count lost) h g = rw (lt-ltb 0 count (omega arith), le-leb count max_links (omega arith), lt-ltb lost tries g.2, eq-eqb count e g.0)
fine e (Halving low high lost) h g =
    rw (lt-ltb 0 low (omega arith), lt-ltb low high g.1, le-leb high max_links (omega arith), lt-ltb lost tries g.3, le-leb high e g.2)
fine e AllUp h g = refl
fine e (Down place) h g = rw (lt-ltb 0 place (omega arith), le-leb place max_links (omega arith), le-leb place e g.1)

-- a state that is sound is sound for the links that it speaks of
alone : (q : Search) → sound q ≡ true → (e : ℕ) × (e ≤ max_links) × Good e q
alone (Checking count lost) t = let r = checking-fits count lost t in (count, r.1, (refl, r.0, r.2))
alone (Halving low high lost) t = let r = halving-fits low high lost t in (high, r.2, (r.0, r.1, omega arith, r.3))
alone AllUp t = (0, omega arith, tt)
alone (Down place) t = let r = counts-fits place t in (place, r.1, (r.0, omega arith))

fourteen_alone : (q : Search) → (sound q ≡ false) ↔ ((e : ℕ) × (e ≤ max_links) × SoundOver e q → ⊥)
fourteen_alone q = (
  λ f g. not_both (sound q) (good_sound g.0 q g.1 (good_of g.0 q g.2)).0 f,
  λ n. not_true_false (sound q) (λ t. let r = alone q t in n (r.0, r.1, over r.0 q r.2)),
)

fifteen : (q : Search) → (ended q ≡ true) ↔ (IsAllUp q ⊎ ((k : ℕ) × IsDown k q))
fifteen q = (to q, from)
  where
    to : (r : Search) → ended r ≡ true → IsAllUp r ⊎ ((k : ℕ) × IsDown k r)
    to (Checking count lost) e = absurd (not_both false e refl)
    to (Halving low high lost) e = absurd (not_both false e refl)
    to AllUp e = inl refl
    to (Down k) e = inr (k, refl)

    from : IsAllUp q ⊎ ((k : ℕ) × IsDown k q) → ended q ≡ true
    from (inl e) = ap ended (is-all_up q e)
    from (inr r) = ap ended (is_down q r.0 r.1)

sixteen : (s b : List ℕ) → (buffer_short s b ≡ true) ↔ (length b < length s)
unfolding buffer_short
sixteen s b = less (length b) (length s)

seventeen : (spare : ℕ) → (spare_above spare ≡ true) ↔ (100 < spare)
unfolding spare_above
seventeen spare = less 100 spare

eighteen_read : (b : List ℕ) → (formed b ≡ false) ↔ ((c : Sheet) × Shown c × (buying_page c ≡ b) → ⊥)
eighteen_read b = (
  λ f w. not_both (formed b) (ap formed (sym w.2) ∙ written-formed w.0 w.1) f,
  λ n. not_true_false (formed b) (λ t. n (counts_in b, read-shown b t, written_again b t)),
)

nineteen : (k : ℕ) → (console_out_of_range k ≡ true) ↔ (3 < k)
unfolding console_out_of_range
nineteen k = less 3 k

-- the bits of a set
has-bit : (set x : ℕ) → set / 2 ^ x % 2 ≡ bit_at set x
has-bit set zero = ap (λ (n : ℕ). n % 2) (div-one set)
has-bit set (suc x) = ap (λ (n : ℕ). n % 2) (ap (λ (d : ℕ). set / d) (pow-succ' 2 x) ∙ sym (div-div-eq-div-mul set 2 (2 ^ x))) ∙ has-bit (set / 2) x

in_set : (set x : ℕ) → (has set x ≡ true) ↔ (bit_at set x ≡ 1)
in_set set x = (λ t. sym (has-bit set x) ∙ eqb-true (set / 2 ^ x % 2) 1 t, λ e. eq-eqb (set / 2 ^ x % 2) 1 (has-bit set x ∙ e))

twenty : (s set : ℕ) → (set_out_of_range s set ≡ true) ↔ ((x : ℕ) × (s ≤ x) × (bit_at set x ≡ 1))
twenty s set = (
  λ t. let b = (beyond_is s set).0 t in (b.0, b.1, (in_set set b.0).0 b.2),
  λ b. (beyond_is s set).1 (b.0, b.1, (in_set set b.0).1 b.2),
)

outside : (b : Bool) → (not b ≡ true) ↔ (b ≡ true → ⊥)
outside true = (λ e. absurd (not_both false e refl), λ n. absurd (n refl))
outside false = (λ e t. not_both false t refl, λ n. refl)

twenty_one : (set x : ℕ) → (outside_set set x ≡ true) ↔ (bit_at set x ≡ 1 → ⊥)
twenty_one set x = (
  λ t e. (outside (has set x)).0 t ((in_set set x).1 e),
  λ n. (outside (has set x)).1 (λ t. n ((in_set set x).0 t)),
)

pub conditions-are : ConditionsAre
conditions-are = record {
  one = map_missing_lem;
  two = map-undefined;
  three = field_missing_lem;
  four = field-redundant;
  five = five;
  five_written = five_written;
  six = end_out_of_range_lem;
  seven = self_link_lem;
  eight = bytes_remain_lem;
  ten = ten;
  eleven = eleven;
  twelve = twelve;
  twelve_hops = twelve_hops;
  thirteen = thirteen;
  fourteen = λ e q h. true_exactly (search_unsound e q) (λ f. over e q (good_here e q f), λ s. fine e q h (good_of e q s));
  fourteen_alone = fourteen_alone;
  fifteen = fifteen;
  sixteen = sixteen;
  seventeen = seventeen;
  eighteen_written = λ switches b. less (length b) (32 * (switches + 1));
  eighteen_read = eighteen_read;
  nineteen = nineteen;
  twenty = twenty;
  twenty_one = twenty_one;
}
