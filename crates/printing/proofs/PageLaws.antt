-- The page of a plant, laid line by line: the rules of its table, the trail of each component, and the lines one after the other; and the most bytes that they
-- take. Assumes nothing.
use mathlib.Core.Path.{◌≡◌, refl, sym, ap, ◌∙◌}
use mathlib.Core.List.{List, [], ◌∷◌, ◌++◌, map, map-map}
use Prim.Native.Nat.{ℕ, ◌+◌, ◌-◌, ◌*◌, ◌^◌, ◌≤◌, ◌<◌}
use native.Mathlib.Omega.{arith}
use lib.Dec.{T}
use lib.ListN.{length, get_or, take, drop, length-append, length-map, length-drop, get_or-map}
use lib.Seq.{take-append_seam, take-append-le, drop-append-le}
use Rattle.lists.specs.Members.{Each}
use Rattle.lists.proofs.Members.{in_each, each_map}
use Rattle.lists.proofs.Chained.{chained-part}
use Rattle.lists.specs.Numbers.{range, keep}
use Rattle.lists.proofs.Numbers.{keep_in, values-are, values-at, values_length}
use Rattle.plant.specs.declared.Plant.{Plant}
use Rattle.limits.specs.Sound.{Sound}
use Rattle.limits.specs.Limits.{max_switches, max_rules}
use Rattle.walks.specs.Arcs.{tail, head}
use Rattle.walks.specs.Components.{roots, used}
use Rattle.walks.proofs.Valid.{sound_valid}
use Rattle.walks.proofs.Labels.{arc_below, tail_in, head_in}
use Rattle.walks.proofs.Components.{used_arc, roots_few}
use Rattle.walks.proofs.Limits.{few-used}
use Rattle.routes.specs.Plants.{trail_from}
use Rattle.trail.specs.Filled.{filled_with}
use Rattle.table.specs.declared.Rule.{Rule}
use Rattle.table.specs.declared.Table.{Table}
use Rattle.table.specs.Rules.{table_with, rules_in}
use Rattle.plan.specs.Plan.{trails_of, trail_of, trail_begin, rule_of, rules_of, table_of}
use Rattle.plan.proofs.Plan.{rules_by_label}
use Rattle.plan.proofs.Trails.{begin-within, trail-from}
use Rattle.text.specs.Lines.{rule_word, each, summary_line, rule_line, rule_lines, trail_line, trail_lines, page_of}
use Rattle.text.specs.Sizes.{digits_short, rule_most, trails_most}
use Rattle.text.specs.Laid.{Laid}
use Rattle.text.proofs.LaidLaws.{laid_then}
use Rattle.text.proofs.SizeLaws.{Below, each-most, line-most, trails-most}
use Rattle.planning.specs.declared.Component.{Component}
use Rattle.planning.specs.declared.Components.{Components}
use Rattle.planning.specs.declared.Numbers.{Numbers}
use Rattle.planning.specs.Components.{zero_component, components_with, component_at, components_of}
use Rattle.planning.specs.Numbers.{numbers_of}
use Rattle.printing.specs.Output.{triple, plant_output}
use Rattle.printing.specs.Stretches.{stretch_of, Stretches}

-- ---- the rules of a table

-- the line of a rule
abbrev pub rule_bytes : Rule → List ℕ
rule_bytes r = rule_line r.from r.label r.to

pub rules-each : (rs : List Rule) → each rule_bytes rs ≡ rule_lines (map triple rs)
rules-each [] = refl
rules-each (r ∷ rs) = ap (λ (l : List ℕ). rule_bytes r ++ l) (rules-each rs)

-- ---- the most bytes of a page: a label is below twice the links, and a switch below the switches

module _ (p : Plant) (sound : Sound p) where
  few-rules : length (rules_of p) ≤ max_rules
  few-rules = omega (arith, rules_by_label p, few-used p sound)

  label_below : (a : ℕ) → T (used p a) → a < 10 ^ digits_short
  label_below a u = omega (arith, arc_below p a (used_arc p a u), sound.few_links)

  rule_most_lem : (a : ℕ) → T (used p a) → length (rule_bytes (rule_of p a)) ≤ rule_most
  rule_most_lem a u =
      let arc = used_arc p a u in
      let few = sound.few_switches in
      line-most digits_short (omega arith) rule_word (tail p a ∷ a ∷ head p a ∷ [])
      (omega (arith, tail_in p (sound_valid p sound) a arc), (label_below a u, (omega (arith, head_in p (sound_valid p sound) a arc), tt)))

  rules-most : length (rule_lines (map triple (rules_of p))) ≤ max_rules * rule_most
  unfolding rules_in
  rules-most =
      let arcs = keep (used p) (range 0 (2 * p.count)) in
      let all : Each (λ r. length (rule_bytes r) ≤ rule_most) (rules_of p) = each_map (λ r. length (rule_bytes r) ≤ rule_most) (rule_of p) arcs
      (in_each (λ a. length (rule_bytes (rule_of p a)) ≤ rule_most) arcs (λ a i. rule_most_lem a (keep_in (used p) a (range 0 (2 * p.count)) i).1)) in
      omega (arith, ap length (rules-each (rules_of p)), each-most rule_bytes rule_most (rules_of p) all, few-rules)

  few-roots : length (roots p) ≤ max_switches
  few-roots = omega (arith, roots_few p (sound_valid p sound) sound.start_in, sound.few_switches)

  lines-most : length (trail_lines (map (trail_from p) (roots p))) ≤ trails_most max_switches (length (trail_of p))
  unfolding trails_of
  lines-most =
      let all = each_map (Below digits_short) (trail_from p) (roots p)
      (in_each (λ r. Below digits_short (trail_from p r)) (roots p) (λ r i. in_each (λ a. a < 10 ^ digits_short) (trail_from p r) (λ a j. label_below a (((trail-from p sound r i).exactly a).0 j).1))) in
      omega (arith, trails-most (map (trail_from p) (roots p)) all, length-map (roots p) (trail_from p), few-roots)

-- those of a plant's table
module _ (p : Plant) (t : Table) (e : t ≡ table_of p) where
  table-rules : take t.count t.rules ≡ rules_of p
  unfolding table_with
  table-rules = rw e (take-append_seam (rules_of p) _)

  pub table-few : Sound p → t.count ≤ max_rules
  unfolding table_with
  table-few sound = rw e (few-rules p sound)

  pub table-most : Sound p → length (rule_lines (map triple (take t.count t.rules))) ≤ max_rules * rule_most
  table-most sound = rw table-rules (rules-most p sound)

-- ---- the trails, filled one after another into the buffer ms, by the components

-- a line for each
pub trails-each : (ls : List ℕ) (cs : List Component) → each (λ c. trail_line (stretch_of ls c)) cs ≡ trail_lines (map (stretch_of ls) cs)
trails-each ls [] = refl
trails-each ls (c ∷ cs) = ap (λ (l : List ℕ). trail_line (stretch_of ls c) ++ l) (trails-each ls cs)

-- a stretch of a list stands also in one that goes on
stretch_on : (w r : List ℕ) (b n : ℕ) → b + n ≤ length w → take n (drop b (w ++ r)) ≡ take n (drop b w)
stretch_on w r b n h = ap (take n) (drop-append-le b w r (omega arith)) ∙ take-append-le n (drop b w) r (omega (arith, length-drop b w))

-- the part of the labels from b to b + h
pub stretch_cut : (ls : List ℕ) (c : Component) (b h : ℕ) → b ≡ c.begin → h ≡ c.hops → take (b + h - b) (drop b ls) ≡ stretch_of ls c
stretch_cut ls c b h e f = let k : b + h - b ≡ h = omega arith in rw (k, e, f) refl

module _ (p : Plant) (sound : Sound p) (ms : List ℕ) {ls : List ℕ} (e : ls ≡ filled_with (trail_of p) ms) {cs : Components} (f : cs ≡ components_of p) where
  listed : take cs.count cs.list ≡ map (component_at p) (range 0 (length (roots p)))
  unfolding components_of components_with
  listed = rw f (take-append_seam (map (component_at p) (range 0 (length (roots p)))) _)

  count_is : cs.count ≡ length (roots p)
  unfolding components_of components_with
  count_is = rw f (values_length (component_at p) 0 (length (roots p)))

  pub count-few : cs.count ≤ max_switches
  count-few = omega (arith, count_is, few-roots p sound)

  one : (i : ℕ) → i < length (roots p) → get_or (take cs.count cs.list) i zero_component ≡ component_at p i
  one i h = ap (λ (l : List Component). get_or l i zero_component) listed ∙ values-at (component_at p) zero_component (length (roots p)) i h

  pub stretches : Stretches (take cs.count cs.list) ls
  unfolding component_at
  stretches = record {
    within = λ i h.
        let j : i < length (roots p) = omega (arith, ap length listed, values_length (component_at p) 0 (length (roots p))) in
        rw (one i j, e) (omega (arith, begin-within p i j, length-append (trail_of p) (drop (length (trail_of p)) ms)));
  }

  -- that of component i is its trail
  stretch-is : (i : ℕ) → i < length (roots p) → stretch_of ls (component_at p i) ≡ trail_from p (get_or (roots p) i 0)
  unfolding component_at trails_of
  stretch-is i h =
      rw e
      (stretch_on (trail_of p) (drop (length (trail_of p)) ms) (trail_begin p i) (length (trail_from p (get_or (roots p) i 0))) (begin-within p i h)
      ∙ chained-part (trail_from p) (roots p) i h)

  trails-are : map (stretch_of ls) (take cs.count cs.list) ≡ map (trail_from p) (roots p)
  trails-are =
      ap (map (stretch_of ls)) listed
      ∙ map-map (stretch_of ls) (component_at p) (range 0 (length (roots p)))
      ∙ sym (values-are (λ i. stretch_of ls (component_at p i)) (trail_from p 0) (length (roots p)) (map (trail_from p) (roots p)) (length-map (roots p) (trail_from p))
      (λ i h. get_or-map (trail_from p) (roots p) i 0 ∙ sym (stretch-is i h)))

  pub lines_fit : length (trail_lines (map (stretch_of ls) (take cs.count cs.list))) ≤ trails_most max_switches (length (trail_of p))
  lines_fit = rw trails-are (lines-most p sound)

-- ---- the page

-- the numbers, the rules and the trails, one after the other
pub plant-laid : (p : Plant) (sound : Sound p) (ms : List ℕ) {n : Numbers} {t : Table} {ls : List ℕ} {cs : Components} {b c d e : List ℕ} {i j k : ℕ} → n ≡ numbers_of p → t ≡ table_of p
    → ls ≡ filled_with (trail_of p) ms → cs ≡ components_of p
    → Laid b 0 (summary_line n.switches n.links n.bridges n.rules n.hops) c i
    → Laid c i (rule_lines (map triple (take t.count t.rules))) d j
    → Laid d j (trail_lines (map (stretch_of ls) (take cs.count cs.list))) e k
    → Laid b 0 (plant_output p) e k
unfolding plant_output page_of numbers_of
plant-laid p sound ms f g q s l m o =
    laid_then (rw f at l) (laid_then (rw (table-rules p _ g) at m) (rw (trails-are p sound ms q s) at o))
