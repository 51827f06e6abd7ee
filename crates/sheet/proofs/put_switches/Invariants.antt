-- Before each turn the lines of the switches before x are laid.
use Rattle.lists.specs.Numbers.{range}
use Rattle.text.specs.Lines.{each}
use Rattle.text.specs.Laid.{Laid}
use Rattle.sheet.specs.Page.{switch_line}
use Rattle.sheet.proofs.put_switches.Given as goal

abbrev pub invariant-loop-x : goal.invariant-loop-x
invariant-loop-x l = Laid l.fn.buf 0 (each (switch_line l.fn.quote.sheet) (range 0 l.x)) l.buf l.next
