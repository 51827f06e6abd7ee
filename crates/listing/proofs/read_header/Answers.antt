use Rattle.std.proofs.Common.{arith, refl, sym, ◌∙◌}
use Rattle.answers.proofs.Results.{exit, none_judged, passed, turned_down}
use Rattle.listing.proofs.SoundLaws.{InRange, in_range}
use Rattle.listing.proofs.ReadLaws.{header_stops, header-tries}
use Rattle.listing.proofs.read_header.Goals as goal
use Rattle.listing.proofs.read_header.Goals.{In_ok-judge}
use lib.ListN.{get_or}

inside : (c : In_ok-judge) → InRange (get_or c.in_ok-part.part.values 0 0) (get_or c.in_ok-part.part.values 1 0) (get_or c.in_ok-part.part.values 2 0)
inside c = in_range _ _ _ (sym c.out_of_range.ensures ∙ (none_judged _ _ c.in_ok-judge.ensures _ refl).0)

pub returns-in_err-part : goal.returns-in_err-part
returns-in_err-part c = exit _ _ _ c.from_residual.ensures.1 ∙ header_stops _ _ (rw c.header_fields.ensures at c.in_err-part.ensures)

pub returns-in_err-judge : goal.returns-in_err-judge
returns-in_err-judge c =
    exit _ _ _ c.from_residual-in_err-judge.ensures.1
    ∙ sym
    (header-tries _ _ (rw c.header_fields.ensures at c.in_ok-part.ensures) ∙ turned_down _ _ (rw c.out_of_range.ensures at c.in_err-judge.ensures) _ _ refl)

pub overflow_cast-result : goal.overflow_cast-result
overflow_cast-result c = let r = inside (goal.at.overflow_cast-result c).In_ok-judge in omega arith

pub overflow_cast-result-2 : goal.overflow_cast-result-2
overflow_cast-result-2 c = let r = inside (goal.at.overflow_cast-result-2 c).In_ok-judge in omega arith

pub overflow_cast-result-3 : goal.overflow_cast-result-3
overflow_cast-result-3 c = let r = inside (goal.at.overflow_cast-result-3 c).In_ok-judge in omega arith

pub invariant_of-result : goal.invariant_of-result
invariant_of-result c = record { few = (inside (goal.at.invariant_of-result c).In_ok-judge).few_links }

pub returns : goal.returns
returns c =
    sym
    (header-tries _ _ (rw c.header_fields.ensures at c.in_ok-part.ensures) ∙ passed _ _ (rw c.out_of_range.ensures at c.in_ok-judge.ensures) _ _ refl)
