-- What `rules` prints of a connected plant: the numbers, the rules and the one trail line that document 01 has, from the start. Assumes a sound connected plant.
use mathlib.Core.Path.{◌≡◌, refl}
use mathlib.Core.List.{◌++◌, append-nil, map}
use Prim.Native.Nat.{◌*◌}
use lib.ListN.{length}
use Rattle.plant.specs.declared.Plant.{Plant}
use Rattle.limits.specs.Sound.{Sound}
use Rattle.walks.specs.Arcs.{tail, head}
use Rattle.walks.specs.Graph.{live_links, bridges, used_from, arcs_used_from}
use Rattle.walks.specs.Components.{arcs_used}
use Rattle.walks.proofs.Components.{roots-one}
use Rattle.walks.proofs.Valid.{sound_valid}
use Rattle.routes.specs.Plants.{trail_from}
use Rattle.table.specs.Rules.{rules_in}
use Rattle.plan.specs.Plan.{Connected}
use Rattle.plan.proofs.Connected.{used-one, trail-one}
use Rattle.text.specs.Lines.{summary_line, rule_lines, trail_line, page_of}
use Rattle.printing.specs.Output.{triple, plant_output}

module _ (p : Plant) (ok : Sound p) (con : Connected p) where
  pub printed-one : plant_output p
      ≡ summary_line p.switches (live_links p) (bridges p) (arcs_used_from p p.start) (length (trail_from p p.start))
      ++ (rule_lines (map triple (rules_in (2 * p.count) (tail p) (head p) (used_from p p.start))) ++ trail_line (trail_from p p.start))
  unfolding plant_output page_of arcs_used arcs_used_from
  printed-one =
      rw (used-one p ok con, trail-one p ok con, roots-one p (sound_valid p ok) ok.start_in con, append-nil (trail_line (trail_from p p.start))) refl
