-- The buying page of a plant (document 02, order 3): its counts, and the page of these in a lent buffer.
use Rattle.std.specs.Prelude.{List, map, ℕ}
use Rattle.lists.specs.Numbers.{range}
use Rattle.answers.specs.Checks.{Checked, answer, ◌then◌, ◌giving◌}
use Rattle.limits.specs.Limits.{max_switches}
use Rattle.plant.specs.declared.Plant.{Plant}
use Rattle.walks.specs.Graph.{links_at}
use Rattle.senders.specs.declared.BySwitch.{BySwitch}
use Rattle.senders.specs.Senders.{by_switch}
use Rattle.plan.specs.Plan.{table_of}
use Rattle.quantity.specs.Quantity.{order_quantity}
use Rattle.sheet.specs.declared.Sheet.{Sheet}
use Rattle.sheet.specs.Page.{writing_page, page_left}

-- the counts of a plant with these rules, for an order quantity: the rules of each switch, and the links at it
abbrev pub sheet_with : Plant → BySwitch → ℕ → Sheet
sheet_with p rules quantity =
    record {
      switches = p.switches;
      rules = rules.counts;
      links = map (links_at p) (range 0 max_switches);
      total = rules.total;
      quantity = quantity;
    }

-- 17, or the counts with the order quantity of all rules
unfoldable pub pricing : Plant → ℕ → Checked Sheet
pricing p spare = order_quantity (by_switch (table_of p)).total spare giving sheet_with p (by_switch (table_of p))

-- 17, then 18, or the length of the page
unfoldable pub quoting : Plant → ℕ → List ℕ → Checked ℕ
quoting p spare b = pricing p spare then λ s. writing_page s b

-- the page of the counts c in the lent buffer b, then the bytes that stood past it; where it does not fit, the buffer as it was
abbrev pub page_in : Sheet → List ℕ → List ℕ
page_in c b = page_left c b (answer (writing_page c b))
