use Rattle.std.proofs.Common.{arith, sym, ◌∙◌, eqb}
use lib.ListN.{get_or}
use Rattle.answers.proofs.Results.{exit}
use Rattle.codec.proofs.FieldLaws.{bytes_known}
use Rattle.codec.proofs.PartRoundTrip.{bytes_drop}
use Rattle.listing.specs.Listing.{link_from}
use Rattle.listing.proofs.SoundLaws.{Ends, sound-ends}
use Rattle.listing.proofs.ReadLaws.{link_stops, link_unsound, link-given, tag_fits}
use Rattle.listing.proofs.read_link.Goals as goal
use Rattle.listing.proofs.read_link.Goals.{In_ok-judge_ends}

ends : (c : In_ok-judge_ends) → Ends c.args.switches (link_from c.in_ok-part.part.values)
ends c = sound-ends _ _ (sym (c.in_ok-judge_ends.ensures _ _))

pub returns-in_err-part : goal.returns-in_err-part
returns-in_err-part c = exit _ _ _ c.from_residual.ensures.1 ∙ link_stops _ _ _ _ (rw c.link_fields.ensures at c.in_err-part.ensures)

pub returns-in_err-judge_ends : goal.returns-in_err-judge_ends
returns-in_err-judge_ends c =
    exit _ _ _ c.from_residual-in_err-judge_ends.ensures.1
    ∙ link_unsound _ _ _ _ (rw c.link_fields.ensures at c.in_ok-part.ensures) _ (c.in_err-judge_ends.ensures _ _)

pub overflow_cast-l : goal.overflow_cast-l
overflow_cast-l c = let e = ends (goal.at.overflow_cast-l c).In_ok-judge_ends in omega (arith, e.first_in_is, c.ranges.switches)

pub overflow_cast-l-2 : goal.overflow_cast-l-2
overflow_cast-l-2 c = let e = ends (goal.at.overflow_cast-l-2 c).In_ok-judge_ends in omega (arith, e.second_in, c.ranges.switches)

pub overflow_cast-l-3 : goal.overflow_cast-l-3
overflow_cast-l-3 c =
    let t = tag_fits c.args.switches c.args.before _ _ (rw c.link_fields.ensures at c.in_ok-part.ensures) (bytes_drop _ _ (bytes_known c.args.s.now (λ i. (c.type_inv.s i).fits))) in
    omega arith

pub returns : goal.returns
returns c =
    let vs = c.in_ok-part.part.values in
    let sound = c.in_ok-judge_ends.ensures (get_or vs 2 0) (eqb (get_or vs 3 0) 0) in
    let e = link-given c.args.switches c.args.before _ _ (rw c.link_fields.ensures at c.in_ok-part.ensures) sound in
    grind (arith, e)
