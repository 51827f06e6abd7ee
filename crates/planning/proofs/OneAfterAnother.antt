-- Lists that follow one another, those that a function has at some numbers: each is laid into a buffer, or compared with a lent list, after those before it. Then the trail and
-- the round trail of a component by what inner functions tell of them, and that those of all components are such lists. Assumes of a list nothing, and of a trail a plan.
use mathlib.Core.Path.{◌≡◌, refl, sym, ap, ◌∙◌, subst}
use mathlib.Core.List.{List, [], ◌∷◌, ◌++◌, append_assoc, append-nil, flatten}
use Prim.Native.Nat.{ℕ, ◌+◌, ◌≤◌, ◌<◌}
use native.Mathlib.Omega.{arith}
use native.Mathlib.Numerals.{add-one}
use lib.ListN.{length, get_or, take, drop, take-append-drop}
use lib.Seq.{slice, take_all, take-suc}
use Rattle.lists.specs.Arrays.{at}
use Rattle.lists.specs.Members.{In}
use Rattle.lists.proofs.Members.{get_d_in}
use Rattle.lists.proofs.Chained.{chained, chained-within}
use Rattle.plant.specs.declared.Plant.{Plant}
use Rattle.limits.specs.Sound.{Sound}
use Rattle.walks.specs.Components.{roots}
use Rattle.walks.specs.Round.{round_from}
use Rattle.walks.proofs.Components.{listed_in}
use Rattle.walks.proofs.Labels.{arc_below}
use Rattle.walks.proofs.Valid.{sound_valid}
use Rattle.routes.specs.Plants.{trail_from}
use Rattle.plan.proofs.Rounds.{round-from}
use Rattle.arcs.specs.declared.ArcEnds.{ArcEnds}
use Rattle.arcs.specs.declared.Network.{Network}
use Rattle.arcs.specs.Legs.{no_legs, LegsOf}
use Rattle.std.specs.Prelude.{Option, Some, None}
use Rattle.trail.specs.Filled.{filled_with, Tells}
use Rattle.trail.specs.Ways.{TrailingOf, trail_by, Laid, TellsFrom}
use Rattle.trail.proofs.Filled.{laid_none, laid_then, laid-long, laid-front, tells_none, tells_other, tells_then, tells-front}
use Rattle.round.specs.declared.Round.{Round}
use Rattle.round.specs.Round.{labels_of, Labels}
use Rattle.round.proofs.Follow.{left-length}
use Rattle.planning.specs.declared.Chart.{Chart}
use Rattle.planning.specs.declared.Plan.{Plan}
use Rattle.planning.specs.Plans.{net_of, used_flags, NetworkAt, LegsAt}
use Rattle.planning.proofs.Networks.{net_trail}
use Rattle.planning.proofs.Laid.{net_parts, net_legs}

-- ---- lists that follow one another

chained_append : (f : ℕ → List ℕ) (rs ss : List ℕ) → chained f (rs ++ ss) ≡ chained f rs ++ chained f ss
unfolding flatten
chained_append f [] ss = refl
chained_append f (r ∷ rs) ss = ap (λ (w : List ℕ). f r ++ w) (chained_append f rs ss) ∙ sym (append_assoc (f r) (chained f rs) (chained f ss))

module _ (f : ℕ → List ℕ) (rs : List ℕ) where
  -- the lists that f has at the first i of the numbers rs
  abbrev pub first_of : ℕ → List ℕ
  first_of i = chained f (take i rs)

  first-none : [] ≡ first_of 0
  unfolding flatten
  first-none = refl

  first_next : (i : ℕ) → i < length rs → first_of i ++ f (get_or rs i 0) ≡ first_of (i + 1)
  unfolding flatten
  first_next i h =
      sym (ap first_of (add-one i) ∙ ap (chained f) (take-suc rs i 0 h) ∙ chained_append f (take i rs) (get_or rs i 0 ∷ [])
      ∙ ap (λ (w : List ℕ). first_of i ++ w) (append-nil (f (get_or rs i 0))))

  -- ---- `all` of them

  module _ (all : List ℕ) (is : all ≡ chained f rs) where
    first_all : (i : ℕ) → length rs ≤ i → first_of i ≡ all
    first_all i h = ap (chained f) (take_all i rs h) ∙ sym is

    -- the first i, and then the others
    first_rest : (i : ℕ) → first_of i ++ chained f (drop i rs) ≡ all
    first_rest i = sym (chained_append f (take i rs) (drop i rs)) ∙ ap (chained f) (take-append-drop i rs) ∙ sym is

  -- ---- laid into the buffer b, where v is the next list

  pub laid-begin : (b : List ℕ) → Laid (first_of 0) b 0 b 0
  laid-begin b = subst (λ (w : List ℕ). Laid w b 0 b 0) first-none (laid_none b 0)

  module _ {b b' : List ℕ} {i j : ℕ} (l : Laid (first_of i) b 0 b' j) where
    pub laid_next : i < length rs → {v : List ℕ} → v ≡ f (get_or rs i 0) → {b'' : List ℕ} {k : ℕ} → Laid v b' j b'' k → Laid (first_of (i + 1)) b 0 b'' k
    laid_next h {v} e {b''} {k} m =
        subst (λ (w : List ℕ). Laid w b 0 b'' k) (ap (λ (w : List ℕ). first_of i ++ w) e ∙ first_next i h) (laid_then l m)

    module _ (all : List ℕ) (is : all ≡ chained f rs) (room : length all ≤ length b) where
      pub laid-room : i < length rs → {n : ℕ} → n ≡ length (f (get_or rs i 0)) → j + n ≤ length b'
      laid-room h e = omega (arith, e, l.after, laid-long l, chained-within f rs i h, ap length is)

      pub laid_end : length rs ≤ i → b' ≡ filled_with all b
      laid_end h = laid-front (subst (λ (w : List ℕ). Laid w b 0 b' j) (first_all all is i h) l) room

  -- ---- compared with the list l, where v is the next list

  module _ (l : List ℕ) where
    pub tells-begin : TellsFrom 0 l (first_of 0) (Some 0)
    tells-begin = subst (λ (w : List ℕ). TellsFrom 0 l w (Some 0)) first-none (tells_none l 0)

    module _ (i j : ℕ) (t : TellsFrom 0 l (first_of i) (Some j)) where
      module _ (h : i < length rs) (v : List ℕ) (e : v ≡ f (get_or rs i 0)) (r : Option ℕ) (q : TellsFrom j l v r) where
        next : TellsFrom 0 l (first_of (i + 1)) r
        next = subst (λ (w : List ℕ). TellsFrom 0 l w r) (ap (λ (w : List ℕ). first_of i ++ w) e ∙ first_next i h) (tells_then l 0 (first_of i) v j t r q)

        pub tells-next : (k : ℕ) → r ≡ Some k → TellsFrom 0 l (first_of (i + 1)) (Some k)
        tells-next k s = subst (TellsFrom 0 l (first_of (i + 1))) s next

        pub tells_away : (all : List ℕ) → all ≡ chained f rs → r ≡ None → Tells l all None
        tells_away all is s =
            subst (λ (w : List ℕ). TellsFrom 0 l w None) (first_rest all is (i + 1))
            (tells_other l 0 (first_of (i + 1)) (chained f (drop (i + 1) rs)) (subst (TellsFrom 0 l (first_of (i + 1))) s next))

      pub tells_end : (all : List ℕ) → all ≡ chained f rs → length rs ≤ i → Tells l all (Some j)
      tells_end all is h = tells-front l all (Some j) (subst (λ (w : List ℕ). TellsFrom 0 l w (Some j)) (first_all all is i h) t)

-- ---- components by number

module _ (x : Chart) where
  pub numbered : {i : ℕ} → i < x.count → i < length (roots x.ends.plant)
  numbered h = omega (arith, x.charted.count_is)

  module _ {i : ℕ} (h : i < length (roots x.ends.plant)) where
    pub root_in : at x.roots i < x.ends.plant.switches
    root_in =
        let r = get_or (roots x.ends.plant) i 0 in
        omega (arith, x.charted.roots_are i h, listed_in x.ends.plant (sound_valid x.ends.plant x.ends.sound) x.ends.sound.start_in r (get_d_in (roots x.ends.plant) i h))

-- ---- trails

-- that of component i
module _ (x : Plan) {i : ℕ} (h : i < length (roots x.layout.chart.ends.plant)) where
  abbrev e : ArcEnds
  e = x.layout.chart.ends

  abbrev r : ℕ
  r = get_or (roots e.plant) i 0

  pub legs_at : {legs : List ℕ} → let own = get_or x.legs.list i no_legs in legs ≡ slice own.from own.to x.legs.aims → LegsAt e i legs
  legs_at is = subst (LegsOf (net_of e.plant r) e.tails e.heads (used_flags e.plant r)) (sym is) (net_legs x i h).are

  -- by its network and its legs
  module _ {n : Network} (own : NetworkAt e x.chains x.distances i n) {legs : List ℕ} (along : LegsAt e i legs) where
    pub trailing : TrailingOf n legs
    trailing = record { used = used_flags e.plant r; parts = net_parts x i h n own; legs_are = rw (own.net_is, own.tails_are, own.heads_are) along }

    pub trail_is : trail_by trailing ≡ trail_from e.plant r
    unfolding trailing
    trail_is = rw (own.net_is, own.tails_are, own.heads_are) (net_trail e.plant e.sound e.tails e.heads e.ends r)

-- ---- round trails

-- that of component i
module _ {p : Plant} (sound : Sound p) {i : ℕ} (h : i < length (roots p)) (x : Round) (e : labels_of x ≡ round_from p (get_or (roots p) i 0)) where
  pub round-labels : Labels x
  round-labels a j =
      omega (
        arith,
        arc_below p a (((round-from p sound (get_or (roots p) i 0) (get_d_in (roots p) i h)).each a).0 (subst (λ (w : List ℕ). In a w) e j)).1,
        sound.few_links,
      )

  pub round-hops : x.hops ≡ length (round_from p (get_or (roots p) i 0))
  round-hops = sym (left-length x) ∙ ap length e
