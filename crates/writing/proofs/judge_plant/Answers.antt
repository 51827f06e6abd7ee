use Rattle.std.proofs.Common.{◌≡◌, Bool, not, ◌&&◌, ◌||◌, List, [], ◌∷◌, ap, refl, sym, ◌∙◌, drop}
use Rattle.std.specs.List.{list_all}
use Rattle.lists.specs.Members.{all}
use Rattle.answers.proofs.Results.{exit, passed, turned_down}
use Rattle.listing.specs.Listing.{value_out_of_range}
use Rattle.listing.specs.Writing.{is_zero, plant_out_of_range}
use Rattle.listing.proofs.WriteLaws.{plant-tries}
use Rattle.writing.proofs.judge_plant.Goals as goal
use Rattle.writing.proofs.judge_plant.Goals.{then-outside, else-outside, After-judge}

all-same : {A : Type 0} (p : A → Bool) (xs : List A) → list_all p xs ≡ all p xs
all-same p [] = refl
all-same p (x ∷ xs) = ap (λ (b : Bool). p x && b) (all-same p xs)

judged : (c : After-judge) → c.if-outside.judge ≡ plant_out_of_range c.args.p.now
unfolding plant_out_of_range
judged c =
    let p = c.args.p.now in
    let past : Bool = not (all is_zero (drop p.count p.links)) in
    let e : c.out_of_range-outside.result ≡ value_out_of_range p.switches p.count p.start = rw (c.from.ensures, c.from-2.ensures, c.from-3.ensures) at c.out_of_range-outside.ensures in
    elim c.if-outside.branch [
      | then-outside w ↦ w.judge-is ∙ w.if-outside.true ∙ ap (λ (b : Bool). b || past) (sym w.if-outside.true ∙ e)
      | else-outside w ↦ w.judge-is ∙ ap not (w.places_zero.ensures ∙ all-same is_zero _) ∙ ap (λ (b : Bool). b || past) (sym w.if-outside.false ∙ e)
    ]

pub returns-in_err-judge : goal.returns-in_err-judge
returns-in_err-judge c =
    exit _ _ _ c.from_residual.ensures.1 ∙ sym (plant-tries _ ∙ turned_down _ _ (rw (judged (goal.at.returns-in_err-judge c).After-judge) at c.in_err-judge.ensures) _ _ refl)

pub returns : goal.returns
returns c = c.judge_links.ensures ∙ sym (plant-tries _ ∙ passed _ _ (rw (judged (goal.at.returns c).After-judge) at c.in_ok-judge.ensures) _ _ refl)
