use Rattle.std.proofs.Common.{refl, sym, ◌∙◌}
use Rattle.answers.proofs.Results.{exit, none_judged, passed, turned_down}
use Rattle.codec.proofs.PartLaws.{part-first, Mapped, part-is}
use Rattle.codec.proofs.read_part.Given as given
use Rattle.codec.proofs.read_part.Goals as goal
use Rattle.codec.proofs.read_part.Goals.{After-measure-extent}

-- what is known of the map
mapped : (g : given.Over) (c : After-measure-extent g) → Mapped c.args.s.now c.args.at c.args.fields.now.list c.from-map.result c.measure-extent.result.size c.measure-extent.result.rest
mapped g c = record {
  there = (none_judged _ _ c.in_ok-judge.ensures _ refl).0;
  is = c.from-map.ensures;
  takes = c.measure-extent.ensures.0;
  leaves = c.measure-extent.ensures.1;
}

pub returns-in_err-judge : goal.returns-in_err-judge
returns-in_err-judge g c = exit _ _ _ c.from_residual.ensures.1 ∙ sym (part-first _ _ _ ∙ turned_down _ _ c.in_err-judge.ensures _ _ refl)

pub returns-in_err-judge-2 : goal.returns-in_err-judge-2
returns-in_err-judge-2 g c =
    let m = mapped g (goal.at.returns-in_err-judge-2 g c).After-measure-extent in
    exit _ _ _ c.from_residual-in_err-judge-2.ensures.1 ∙ sym (part-is m _ _ _ refl refl refl ∙ turned_down _ _ c.in_err-judge-2.ensures _ _ refl)

pub returns-in_err-judge-3 : goal.returns-in_err-judge-3
returns-in_err-judge-3 g c =
    let m = mapped g (goal.at.returns-in_err-judge-3 g c).After-measure-extent in
    exit _ _ _ c.from_residual-in_err-judge-3.ensures.1
    ∙ sym (part-is m _ _ _ refl refl refl ∙ passed _ _ c.in_ok-judge-2.ensures _ _ refl ∙ turned_down _ _ c.in_err-judge-3.ensures _ _ refl)

pub returns-in_err-judge-4 : goal.returns-in_err-judge-4
returns-in_err-judge-4 g c =
    let m = mapped g (goal.at.returns-in_err-judge-4 g c).After-measure-extent in
    exit _ _ _ c.from_residual-in_err-judge-4.ensures.1
    ∙ sym
    (part-is m _ _ _ c.read_fields-part.ensures.redundant_is refl refl
    ∙ passed _ _ c.in_ok-judge-2.ensures _ _ refl
    ∙ passed _ _ c.in_ok-judge-3.ensures _ _ refl
    ∙ turned_down _ _ c.in_err-judge-4.ensures _ _ refl)

pub returns : goal.returns
returns g c =
    let m = mapped g (goal.at.returns g c).After-measure-extent in
    let r = c.read_fields-part.ensures in
    sym
    (part-is m _ _ _ r.redundant_is r.values_are r.next_is
    ∙ passed _ _ c.in_ok-judge-2.ensures _ _ refl
    ∙ passed _ _ c.in_ok-judge-3.ensures _ _ refl
    ∙ passed _ _ c.in_ok-judge-4.ensures _ _ refl)
