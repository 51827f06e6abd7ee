-- The page that stands at the front of the buffer is what it hands on to be written, or the refusal.
use Rattle.std.proofs.Common.{arith, ◌≡◌, List, ℕ, ◌+◌, ◌*◌, ◌≤◌, min, length, take, sym, ap, ◌∙◌, length-take-le}
use Rattle.answers.specs.Answers.{given, refused}
use Rattle.answers.specs.Checks.{answer}
use Rattle.codec.specs.Field.{Bytes}
use Rattle.codec.proofs.FieldLaws.{bytes_known}
use Rattle.limits.specs.Limits.{max_switches}
use Rattle.text.specs.Decimal.{read_decimal}
use Rattle.text.specs.Lines.{refusal_of}
use Rattle.sheet.specs.Columns.{line_columns}
use Rattle.planner.specs.Calls.{buying, bought_out}
use Rattle.buying.specs.Output.{bought, printed}
use Rattle.buying.proofs.Output.{spare-same, output_page, output_refusal}
use Rattle.buying.proofs.print_page.Goals as goal

-- what was written, for the spare as the argument says it, where the buffer has room for the longest page
module _ (s argument : List ℕ) (k : ℕ) (bytes : Bytes s) (e : k ≡ min (read_decimal argument) 255) where
  same : bought k s ≡ printed argument s
  same = ap (λ (j : ℕ). bought j s) e ∙ spare-same (read_decimal argument) s

  page-is : (b : List ℕ) (n : ℕ) → answer (buying s k b) ≡ given n → {c : List ℕ} → c ≡ bought_out s k b → line_columns * (max_switches + 1) ≤ length b → (n ≤ length c) × (take n c ≡ printed argument s)
  page-is b n g l room = let o = output_page s k b bytes room n g in (omega (arith, ap length l, o.0), ap (take n) l ∙ o.1 ∙ same)

  refusal_is : (b : List ℕ) (m : ℕ) → answer (buying s k b) ≡ refused m → line_columns * (max_switches + 1) ≤ length b → refusal_of m ≡ printed argument s
  refusal_is b m g room = output_refusal s k b bytes room m g ∙ same

pub print_refusal-requires : goal.print_refusal-requires
print_refusal-requires g c =
    refusal_is c.args.listing.now c.args.spare.now.argument.now c.percent.result (bytes_known c.args.listing.now (λ i. (c.type_inv.listing i).fits)) c.percent.ensures _ _ (sym c.in-Err.ensures.result_value) (omega arith)

pub slice_bounds-page-end : goal.slice_bounds-page-end
slice_bounds-page-end g c =
    (page-is c.args.listing.now c.args.spare.now.argument.now c.percent.result (bytes_known c.args.listing.now (λ i. (c.type_inv.listing i).fits)) c.percent.ensures _ c.in-Ok.n (sym c.in-Ok.ensures.result_value) c.in-Ok.ensures.buffer_now (omega arith)).0

pub slice_bounds-write_output-end : goal.slice_bounds-write_output-end
slice_bounds-write_output-end g c =
    let w = page-is c.args.listing.now c.args.spare.now.argument.now c.percent.result (bytes_known c.args.listing.now (λ i. (c.type_inv.listing i).fits)) c.percent.ensures _ c.in-Ok.n (sym c.in-Ok.ensures.result_value) c.in-Ok.ensures.buffer_now (omega arith) in
    sym (length-take-le c.in-Ok.n _ w.0)

pub write_output-requires : goal.write_output-requires
write_output-requires g c =
    (page-is c.args.listing.now c.args.spare.now.argument.now c.percent.result (bytes_known c.args.listing.now (λ i. (c.type_inv.listing i).fits)) c.percent.ensures _ c.in-Ok.n (sym c.in-Ok.ensures.result_value) c.in-Ok.ensures.buffer_now (omega arith)).1
