-- The links by which the switches were entered, the links on a cycle, and bridges, by what the code reads of them. Assumes a sound plant and its visits from the roots of all
-- components.
use mathlib.Core.Path.{◌≡◌, refl, sym, ap, ap₂, ◌∙◌, subst}
use mathlib.Core.Logic.{◌⊎◌, inl, inr, ⊎_elim}
use mathlib.Core.Bool.{Bool, true, false, not, ◌&&◌}
use mathlib.Core.List.{List}
use Prim.Native.Nat.{ℕ, ◌+◌, ◌*◌, ◌/◌, ◌≤◌, ◌<◌}
use native.Mathlib.Omega.{arith}
use lib.Dec.{T}
use lib.ListN.{length, get_or, set, replicate, length-set, length-replicate}
use lib.Seq.{get_or-set_same, get_or-set_other}
use borrow.Author.Tests.{eq-eqb, ne_eqb}
use Rattle.lists.specs.Arrays.{at}
use Rattle.lists.proofs.Tests.{T_true, true_T, false_T, bool?, not_both, not_true_false, eq?}
use Rattle.lists.specs.Members.{In}
use Rattle.lists.proofs.Members.{memb→in, in→memb, get_d_same}
use Rattle.lists.proofs.Stepwise.{upto}
use Rattle.plant.specs.declared.Plant.{Plant}
use Rattle.plant.specs.Links.{first, second, live}
use Rattle.limits.specs.Limits.{max_switches, max_links}
use Rattle.limits.specs.Sound.{Sound}
use Rattle.walks.specs.Arcs.{tail, head, Arc, Valid}
use Rattle.walks.specs.Graph.{Crosses, arcs, visited_from, reached_from, entered_from, bridge}
use Rattle.walks.specs.Components.{root_of, roots}
use Rattle.walks.specs.Inner.{Level}
use Rattle.walks.proofs.Live.{live_below}
use Rattle.walks.proofs.Visit.{rank_inj, Good}
use Rattle.walks.proofs.Labels.{even_half, odd_half, tail_even, tail_odd, head_even, head_odd, crosses, crossed-is, ends, even_arc}
use Rattle.walks.proofs.Visited.{visited_good, visited_keeps, visited_inside, entered_arc}
use Rattle.walks.proofs.Counting.{bridge-entered}
use Rattle.walks.proofs.Components.{root_reaches, root-listed, listed_in, reaches_root}
use Rattle.walks.proofs.Cycles.{rk, Ent, Seen, Round, one_way, entry, round_flip, round-begin, round-step, passed, level_step, not-passed}
use Rattle.walks.proofs.Valid.{sound_valid}
use Rattle.arcs.specs.Net.{Ends}
use Rattle.arcs.specs.declared.Visited.{Visited}
use Rattle.arcs.specs.Shows.{TellsAll}
use Rattle.arcs.proofs.Entered.{first_in_is, entered-first}
use Rattle.bridges.specs.Inner.{across_of, EntryLinks, Covered}

across_is : {p : Plant} {tails heads : List ℕ} → Ends p tails heads → (l x : ℕ) → across_of (at tails) (at heads) l x ≡ across_of (tail p) (head p) l x
across_is e l x = ap₂ (λ (f g : ℕ → ℕ). across_of f g l x) e.tails_are e.heads_are

-- a flag that is not set after one more is set was not set before
unmarked : (flags : List Bool) (l m : ℕ) → l < length flags → get_or (set flags l true) m false ≡ false → get_or flags m false ≡ false
unmarked flags l m h f =
    sym (get_or-set_other flags l m true false (λ q. not_both _ (ap (λ (z : ℕ). get_or (set flags l true) z false) q ∙ get_or-set_same flags l true false h) f)) ∙ f

-- the root of the component of link k
abbrev root_at : Plant → ℕ → ℕ
root_at p k = root_of p (first p k)

module _ (p : Plant) (k : ℕ) where
  -- from the ends of link k the climb has come to x and y, with these flags
  pub record Climbing (flags : List Bool) (x y : ℕ) : Type 0 where
    pub covered : Covered p k flags
    pub x_in : Seen p (root_at p k) x
    pub y_in : Seen p (root_at p k) y
    pub round : Round p (root_at p k) x y
    pub level : (a : ℕ) → Ent p (root_at p k) a → get_or flags (a / 2) false ≡ false → Level p (root_at p k) a x y → Level p (root_at p k) a (first p k) (second p k)

  -- x goes back over the link by which it was entered, to z: there is a place for the link's flag, the number falls, and so the climb goes on
  pub record Back (v : Visited) (up : List ℕ) (flags : List Bool) (x y z : ℕ) : Type 0 where
    pub place : get_or up x 0 < max_links
    pub less : get_or v.rank z 0 < get_or v.rank x 0
    pub step : Climbing (set flags (get_or up x 0) true) z y

-- what is known of the arrays that a climb reads, and of whose plant they are
pub record Given (p : Plant) (tails heads : List ℕ) (v : Visited) (up : List ℕ) : Type 0 where
  pub sound : Sound p
  pub arrays : Ends p tails heads
  pub visits : TellsAll p v
  pub entries : EntryLinks p max_links up

module _ {p : Plant} (sound : Sound p) where
  ok : Valid p
  ok = sound_valid p sound

  -- ---- what is visited from a listed root

  module _ (r : ℕ) (listed : In r (roots p)) where
    r_in : r < p.switches
    r_in = listed_in p ok sound.start_in r listed

    good : Good (tail p) (head p) (arcs p) (visited_from p r)
    good = visited_good p ok r r_in

    seen-place : {x : ℕ} → Seen p r x → x < max_switches
    seen-place {x} h = omega (arith, visited_inside p ok r r_in x h, sound.few_switches)

    link-place : (a : ℕ) → Ent p r a → a / 2 < max_links
    link-place a h = omega (arith, live_below p (a / 2) (entered_arc p ok r r_in a h), sound.few_links)

    -- the first end of the link of an entered arc
    low : (a : ℕ) → Ent p r a → Seen p r (first p (a / 2))
    low a h = ⊎_elim (λ q. rw q.0 at (good.low a h)) (λ q. rw q.1 at (good.high a h)) (ends p a)

    -- no other root leads there
    only : (s x : ℕ) → In s (roots p) → Seen p s x → Seen p r x → s ≡ r
    only s x i h k =
        sym (reaches_root p ok sound.start_in s x i (in→memb x (visited_from p s).ord h))
        ∙ reaches_root p ok sound.start_in r x listed (in→memb x (visited_from p r).ord k)

  -- no two entered arcs have the same head, or the same link
  module _ (r s a b : ℕ) (i : In r (roots p)) (j : In s (roots p)) (h : Ent p r a) (k : Ent p s b) where
    once : head p a ≡ head p b → a ≡ b
    once e =
        let q : s ≡ r = only r i s (head p b) j ((good s j).high b k) (subst (Seen p r) e ((good r i).high a h)) in
        (good r i).once a b h (subst (λ (z : ℕ). Ent p z b) q k) e

    once_link : a / 2 ≡ b / 2 → a ≡ b
    once_link e =
        let q : s ≡ r = only r i s (first p (b / 2)) j (low s j b k) (subst (λ (l : ℕ). Seen p r (first p l)) e (low r i a h)) in
        one_way p r ok (r_in r i) a b h (subst (λ (z : ℕ). Ent p z b) q k) e

  -- ---- the root of the component of link k

  listed : (k : ℕ) → In (root_at p k) (roots p)
  listed k = root-listed p ok sound.start_in (first p k) (first_in_is p sound k)

  reached : (k : ℕ) → T (reached_from p (root_at p k) (first p k))
  reached k = root_reaches p ok sound.start_in (first p k) (first_in_is p sound k)

  -- ---- the links by which the switches were entered

  pub entry_none : EntryLinks p 0 (replicate max_switches 0)
  entry_none = record { places = length-replicate {A = ℕ} max_switches 0; tells = λ r a i h l. absurd (omega arith) }

  -- link l was entered by arc b
  entry_put : {l : ℕ} {up : List ℕ} → EntryLinks p l up → (r b : ℕ) → In r (roots p) → Ent p r b → b / 2 ≡ l → EntryLinks p (l + 1) (set up (head p b) l)
  entry_put {l} {up} e r b i h q = record { places = length-set up (head p b) l ∙ e.places; tells = λ s a j k m. go s a j k m (eq? a b) }
    where
      go : (s a : ℕ) → In s (roots p) → Ent p s a → a / 2 < l + 1 → (a ≡ b) ⊎ (a ≡ b → ⊥) → get_or (set up (head p b) l) (head p a) 0 ≡ a / 2
      go s a j k m (inl z) =
          ap (λ (c : ℕ). get_or (set up (head p b) l) (head p c) 0) z ∙ get_or-set_same up (head p b) l 0 (omega (arith, e.places, seen-place r i ((good r i).high b h)))
          ∙ sym q ∙ ap (λ (c : ℕ). c / 2) (sym z)
      go s a j k m (inr n) =
          let other : a / 2 ≡ b / 2 → ⊥ = λ z. n (once_link s r a b j i k h z) in
          get_or-set_other up (head p b) (head p a) l 0 (λ z. n (once s r a b j i k h z)) ∙ e.tells s a j k (omega (arith, other, q))

  -- past the links of the plant there is nothing to tell
  pub entry_all : {n : ℕ} {up : List ℕ} → EntryLinks p n up → p.count ≤ n → EntryLinks p max_links up
  entry_all e l = record { places = e.places; tells = λ r a i h k. e.tells r a i h (omega (arith, live_below p (a / 2) (entered_arc p ok r (r_in r i) a h))) }

  module _ {v : Visited} (all : TellsAll p v) where
    rank_is : (r x : ℕ) → In r (roots p) → Seen p r x → get_or v.rank x 0 ≡ rk p r x
    rank_is r x i h = (all r i).ranks x (in→memb x (visited_from p r).ord h)

    -- the numbers rise along an entered arc
    rises : (r a : ℕ) → In r (roots p) → Ent p r a → get_or v.rank (tail p a) 0 < get_or v.rank (head p a) 0
    rises r a i h = omega (arith, (good r i).up a h, rank_is r (tail p a) i ((good r i).low a h), rank_is r (head p a) i ((good r i).high a h))

    -- an entered link is crossed by an entered arc
    entered-crosses : (l : ℕ) → get_or v.entered l false ≡ true → Crosses l (visited_from p (root_at p l)).ent
    entered-crosses l f = (crossed-is l (visited_from p (root_at p l)).ent).0 (true_T (entered_from p (root_at p l) l) (sym ((all (root_at p l) (listed l)).enters l (reached l)) ∙ f))

    module _ {l : ℕ} {up : List ℕ} (e : EntryLinks p l up) where
      pub entry_pass : get_or v.entered l false ≡ false → EntryLinks p (l + 1) up
      entry_pass f = record { places = e.places; tells = λ r a i h k. e.tells r a i h (let other : a / 2 ≡ l → ⊥ = not_this r a i h in omega (arith, other)) }
        where
          not_this : (r a : ℕ) → In r (roots p) → Ent p r a → a / 2 ≡ l → ⊥
          not_this r a i h q =
              let t = (crossed-is l (visited_from p r).ent).1 (crosses a l (visited_from p r).ent h q) in
              false_T (entered_from p r l) (sym ((all r i).enters l (entered-first p sound r l (r_in r i) t)) ∙ f) t

      module _ (f : get_or v.entered l false ≡ true) {x y : ℕ} (x_is : x ≡ first p l) (y_is : y ≡ second p l) where
        -- along the arc that goes the other way the numbers would fall
        rise : (a : ℕ) → Ent p (root_at p l) a → {s t : ℕ} → tail p a ≡ s → head p a ≡ t → get_or v.rank s 0 < get_or v.rank t 0
        rise a h m n = rw (m, n) at (rises (root_at p l) a (listed l) h)

        put : (a : ℕ) → Ent p (root_at p l) a → {t : ℕ} → head p a ≡ t → a / 2 ≡ l → EntryLinks p (l + 1) (set up t l)
        put a h n q = subst (λ (z : ℕ). EntryLinks p (l + 1) (set up z l)) n (entry_put e (root_at p l) a (listed l) h q)

        pub entry_second : get_or v.rank x 0 < get_or v.rank y 0 → EntryLinks p (l + 1) (set up y l)
        entry_second k =
            ⊎_elim (λ h. put (2 * l) h (head_even p l ∙ sym y_is) (even_half l))
            (λ h. absurd (omega (arith, rise (2 * l + 1) h (tail_odd p l ∙ sym y_is) (head_odd p l ∙ sym x_is)))) (entered-crosses l f)

        pub entry_first : get_or v.rank y 0 ≤ get_or v.rank x 0 → EntryLinks p (l + 1) (set up x l)
        entry_first k =
            ⊎_elim (λ h. absurd (omega (arith, rise (2 * l) h (tail_even p l ∙ sym x_is) (head_even p l ∙ sym y_is))))
            (λ h. put (2 * l + 1) h (head_odd p l ∙ sym x_is) (odd_half l)) (entered-crosses l f)

  -- ---- one climb

  -- the end of the link of arc b away from its head
  across_tail : (b : ℕ) → Arc p b → across_of (tail p) (head p) (b / 2) (head p b) ≡ tail p b
  unfolding across_of
  across_tail b h =
      rw (tail_even p (b / 2), head_even p (b / 2))
      (⊎_elim (λ e. rw (e.0, e.1, ne_eqb (first p (b / 2)) (second p (b / 2)) (ok.apart (b / 2) h)))
      (λ e. rw (e.0, e.1, eq-eqb (first p (b / 2)) (first p (b / 2)) refl)) (ends p b))

  -- the two are switches that there can be
  pub climb_places : {k : ℕ} {flags : List Bool} {x y : ℕ} → Climbing p k flags x y → (x < max_switches) × (y < max_switches)
  climb_places {k} c = (seen-place (root_at p k) (listed k) c.x_in, seen-place (root_at p k) (listed k) c.y_in)

  pub climb_flip : {k : ℕ} {flags : List Bool} {x y : ℕ} → Climbing p k flags x y → Climbing p k flags y x
  climb_flip {k} {x} {y} c = record {
    covered = c.covered;
    x_in = c.y_in;
    y_in = c.x_in;
    round = round_flip p (root_at p k) ok (r_in (root_at p k) (listed k)) x y c.round;
    level = λ a h f q. c.level a h f (record { there = q.back; back = q.there });
  }

  -- a flag more
  mark : (k l : ℕ) (flags : List Bool) → l < max_links → bridge p l ≡ false → Covered p k flags → Covered p k (set flags l true)
  mark k l flags h e c = record {
    places = length-set flags l true ∙ c.places;
    sure = λ m f. go m f (eq? m l);
    all = λ r a i j f. c.all r a i j (unmarked flags l (a / 2) (omega (arith, c.places)) f);
  }
    where
      go : (m : ℕ) → get_or (set flags l true) m false ≡ true → (m ≡ l) ⊎ (m ≡ l → ⊥) → bridge p m ≡ false
      go m f (inl q) = rw q e
      go m f (inr n) = c.sure m (sym (get_or-set_other flags l m true false n) ∙ f)

  -- the two have met
  pub climb_end : {k : ℕ} {flags : List Bool} {x y : ℕ} → Climbing p k flags x y → x ≡ y → Covered p (k + 1) flags
  climb_end {k} {flags} {x} {y} c e = record {
    places = c.covered.places;
    sure = c.covered.sure;
    all = λ r a i h f.
        upto {P = λ m. T (live p m) → (T (entered_from p r m) → ⊥) → Seen p r (first p m) → Level p r a (first p m) (second p m)} (c.covered.all r a i h f)
        (λ t n z. level r (only (root_at p k) (listed k) r (first p k) i z (memb→in (first p k) (visited_from p (root_at p k)).ord (reached k))) a h f);
  }
    where
      own : (a : ℕ) → Ent p (root_at p k) a → get_or flags (a / 2) false ≡ false → Level p (root_at p k) a (first p k) (second p k)
      own a h f = c.level a h f (subst (λ (z : ℕ). Level p (root_at p k) a x z) e (record { there = λ w. w; back = λ w. w }))

      level : (r : ℕ) → r ≡ root_at p k → (a : ℕ) → Ent p r a → get_or flags (a / 2) false ≡ false → Level p r a (first p k) (second p k)
      level r q = subst (λ (s : ℕ). (a : ℕ) → Ent p s a → get_or flags (a / 2) false ≡ false → Level p s a (first p k) (second p k)) (sym q) own

  -- ---- all climbs

  pub covered_none : Covered p 0 (replicate max_links false)
  covered_none = record {
    places = length-replicate max_links false;
    sure = λ l e. absurd (not_both _ e (get_d_same max_links l false));
    all = λ r a i h f k l. absurd (omega arith);
  }

  module _ {k : ℕ} {flags : List Bool} (c : Covered p k flags) where
    -- link k closes no cycle
    pass : ((r : ℕ) → In r (roots p) → T (live p k) → (T (entered_from p r k) → ⊥) → Seen p r (first p k) → ⊥) → Covered p (k + 1) flags
    pass none = record {
      places = c.places;
      sure = c.sure;
      all = λ r a i h f.
          upto {P = λ m. T (live p m) → (T (entered_from p r m) → ⊥) → Seen p r (first p m) → Level p r a (first p m) (second p m)} (c.all r a i h f)
          (λ t n z. absurd (none r i t n z));
    }

    pub pass_dead : live p k ≡ false → Covered p (k + 1) flags
    pass_dead e = pass (λ r i t n z. false_T (live p k) e t)

    pub pass_entered : {v : Visited} → TellsAll p v → get_or v.entered k false ≡ true → Covered p (k + 1) flags
    pass_entered all e = pass (λ r i t n z. n (true_T (entered_from p r k) (sym ((all r i).enters k (in→memb (first p k) (visited_from p r).ord z)) ∙ e)))

    -- past the links of the plant none closes a cycle
    pub covered_all : p.count ≤ k → Covered p max_links flags
    covered_all l = record {
      places = c.places;
      sure = c.sure;
      all = λ r a i h f m j t. c.all r a i h f m (omega (arith, live_below p m t)) t;
    }

  module _ {v : Visited} (all : TellsAll p v) where
    pub climb_begin : {k : ℕ} {flags : List Bool} → Covered p k flags → live p k ≡ true → get_or v.entered k false ≡ false → Climbing p k flags (first p k) (second p k)
    climb_begin {k} c e f = record {
      covered = c;
      x_in = seen;
      y_in = rw (head_even p k) at (visited_keeps p ok (root_at p k) within (2 * k) (even_arc p k alive) (rw (tail_even p k) seen));
      round = round-begin p (root_at p k) ok within k alive (false_T (entered_from p (root_at p k) k) (sym ((all (root_at p k) (listed k)).enters k (reached k)) ∙ f));
      level = λ a h g q. q;
    }
      where
        alive : T (live p k)
        alive = true_T (live p k) e

        within : root_at p k < p.switches
        within = r_in (root_at p k) (listed k)

        seen : Seen p (root_at p k) (first p k)
        seen = memb→in (first p k) (visited_from p (root_at p k)).ord (reached k)

    -- x and y have not met, and the number of x is the higher
    module _ {tails heads : List ℕ} (arrays : Ends p tails heads) {up : List ℕ} (entries : EntryLinks p max_links up) {k : ℕ} {flags : List Bool} {x y : ℕ}
        (c : Climbing p k flags x y) (apart : x ≡ y → ⊥) (higher : get_or v.rank y 0 ≤ get_or v.rank x 0)
      where
        abbrev r : ℕ
        r = root_at p k

        within : r < p.switches
        within = r_in r (listed k)

        lower : rk p r y < rk p r x
        lower =
            let differ : rk p r x ≡ rk p r y → ⊥ = λ e. apart (rank_inj x y (visited_from p r).ord c.x_in c.y_in e) in
            omega (arith, rank_is all r x (listed k) c.x_in, rank_is all r y (listed k) c.y_in, differ)

        -- x is the head of an arc that was entered
        above : (b : ℕ) × Ent p r b × (head p b ≡ x)
        above = entry p r ok within x y c.x_in lower

        abbrev arc : ℕ
        arc = above.0

        link : get_or up x 0 ≡ arc / 2
        link = subst (λ (z : ℕ). get_or up z 0 ≡ arc / 2) above.2 (entries.tells r arc (listed k) above.1 (link-place r (listed k) arc above.1))

        across_arc : across_of (at tails) (at heads) (get_or up x 0) x ≡ tail p arc
        across_arc =
            across_is arrays (get_or up x 0) x
            ∙ rw link (subst (λ (z : ℕ). across_of (tail p) (head p) (arc / 2) z ≡ tail p arc) above.2 (across_tail arc (entered_arc p ok r within arc above.1)))

        climb_step : Climbing p k (set flags (arc / 2) true) (tail p arc) y
        climb_step = record {
          covered = mark k (arc / 2) flags (link-place r (listed k) arc above.1) (passed p r ok within arc y above.1 less around c.y_in) c.covered;
          x_in = (good r (listed k)).low arc above.1;
          y_in = c.y_in;
          round = round-step p r ok within arc y above.1 less around;
          level = λ a h f q. c.level a h (unmarked flags (arc / 2) (a / 2) place f)
              (subst (λ (z : ℕ). Level p r a z y) above.2 (level_step p r ok within a h arc y above.1 (differ a f) q));
        }
          where
            less : rk p r y < rk p r (head p arc)
            less = omega (arith, lower, ap (rk p r) above.2)

            around : Round p r (head p arc) y
            around = subst (λ (z : ℕ). Round p r z y) (sym above.2) c.round

            place : arc / 2 < length flags
            place = omega (arith, link-place r (listed k) arc above.1, c.covered.places)

            differ : (a : ℕ) → get_or (set flags (arc / 2) true) (a / 2) false ≡ false → a ≡ arc → ⊥
            differ a f q = not_both _ (ap (λ (z : ℕ). get_or (set flags (arc / 2) true) (z / 2) false) q ∙ get_or-set_same flags (arc / 2) true false place) f

        pub climb_back : {z : ℕ} → z ≡ across_of (at tails) (at heads) (get_or up x 0) x → Back p k v up flags x y z
        climb_back {z} e = record {
          place = rw link (link-place r (listed k) arc above.1);
          less = rw (above.2, sym (e ∙ across_arc)) at (rises all r arc (listed k) above.1);
          step = rw (e ∙ across_arc, link) climb_step;
        }

    -- ---- bridges

    module _ {flags : List Bool} (c : Covered p max_links flags) (l : ℕ) where
      -- an entered link is a bridge where it has no flag
      bridge_entry : get_or v.entered l false ≡ true → not (get_or flags l false) ≡ bridge p l
      bridge_entry e = go (bool? (get_or flags l false))
        where
          at_arc : (a : ℕ) → Ent p (root_at p l) a → a / 2 ≡ l → get_or flags l false ≡ false → bridge p l ≡ true
          at_arc a h q f =
              T_true (bridge p l) (subst (λ (m : ℕ). T (bridge p m)) q (not-passed p (root_at p l) ok (r_in (root_at p l) (listed l)) a h
              (λ k t n i. c.all (root_at p l) a (listed l) h (ap (λ (m : ℕ). get_or flags m false) q ∙ f) k (omega (arith, live_below p k t, sound.few_links)) t n i)))

          go : (get_or flags l false ≡ true) ⊎ (get_or flags l false ≡ false) → not (get_or flags l false) ≡ bridge p l
          go (inl f) = ap not f ∙ sym (c.sure l f)
          go (inr f) = ap not f ∙ sym (⊎_elim (λ h. at_arc (2 * l) h (even_half l) f) (λ h. at_arc (2 * l + 1) h (odd_half l) f) (entered-crosses all l e))

      -- the bridges are the entered links that have no flag
      pub bridge-flag : get_or v.entered l false && not (get_or flags l false) ≡ bridge p l
      bridge-flag = go (bool? (get_or v.entered l false))
        where
          none : get_or v.entered l false ≡ false → bridge p l ≡ true → ⊥
          none e q =
              false_T (entered_from p (root_at p l) l) (sym ((all (root_at p l) (listed l)).enters l (reached l)) ∙ e)
              (bridge-entered p ok (root_at p l) (r_in (root_at p l) (listed l)) l (true_T (bridge p l) q) (memb→in (first p l) (visited_from p (root_at p l)).ord (reached l)))

          go : (get_or v.entered l false ≡ true) ⊎ (get_or v.entered l false ≡ false) → get_or v.entered l false && not (get_or flags l false) ≡ bridge p l
          go (inl e) = rw e (bridge_entry e)
          go (inr e) = rw e (sym (not_true_false (bridge p l) (none e)))
