-- A call on a desk: 19 and the listing's refusals, which leave the desk as it is, or what the console does with S and E, and the desk with that. Assumes nothing.
use mathlib.Core.Path.{◌≡◌, sym, ap, ◌∙◌}
use mathlib.Core.List.{List}
use Prim.Native.Nat.{ℕ}
use Rattle.std.specs.Prelude.{Result, Ok, Err, IsErrAnd}
use Rattle.answers.specs.declared.Refusal.{Refusal}
use Rattle.answers.specs.Answers.{refused, number_of}
use Rattle.answers.specs.Checks.{answer}
use Rattle.answers.specs.Results.{answer_as, answer_of}
use Rattle.answers.proofs.Results.{exit, ok_then, err_then}
use Rattle.desk.specs.declared.Console.{Console}
use Rattle.desk.specs.declared.Desk.{Desk}
use Rattle.desk.specs.declared.Size.{Size}
use Rattle.desk.specs.Desk.{console_of, desk_after}
use Rattle.consoles.specs.Answers.{sized}
use Rattle.consoles.specs.Calls.{sizing, Request, switch_of, asking, calling, serving, served}

-- c is console k of the desk d, and z what the listing comes to for the switch that the call goes by
module _ (d : Desk) (k : ℕ) (s : List ℕ) (r : Request) (c : Console) (i : c ≡ console_of d k)
    (z : Result Size Refusal) (q : answer_as sized z ≡ answer (sizing k s (switch_of r c))) where
  -- the listing or the console's number is refused
  module _ (n : Refusal) (e : z ≡ Err n) where
    stops : answer (serving d k s r) ≡ refused (number_of n)
    unfolding calling
    stops = ap (λ (x : Console). answer (calling k s r x)) (sym i) ∙ err_then sized (sizing k s (switch_of r c)) z q (λ y. asking y.0 y.1 r c) n e

    pub refused_value : (a : Result Console Refusal) → IsErrAnd a (λ m. m ≡ n) → answer_of a ≡ answer (serving d k s r)
    refused_value a h = exit (λ x. x) a n h ∙ sym stops

    pub refused_desk : d ≡ served d k s r
    unfolding served
    refused_desk = sym (ap (desk_after d k) stops)

  -- neither is, and b is what the console's call comes to
  module _ (y : Size) (e : z ≡ Ok y) (b : Result Console Refusal) (h : answer_of b ≡ answer (asking y.switches y.links r c)) where
    goes_on : answer_of b ≡ answer (serving d k s r)
    unfolding calling
    goes_on = h ∙ sym (ok_then sized (sizing k s (switch_of r c)) z q (λ x. asking x.0 x.1 r c) y e) ∙ ap (λ (x : Console). answer (calling k s r x)) i

    pub served_value : (a : Result Console Refusal) → a ≡ b → answer_of a ≡ answer (serving d k s r)
    served_value a f = ap answer_of f ∙ goes_on

    pub served_desk : (w : Desk) → w ≡ desk_after d k (answer_of b) → w ≡ served d k s r
    unfolding served
    served_desk w f = f ∙ ap (desk_after d k) goes_on
