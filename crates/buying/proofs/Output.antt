-- What `buying` prints, from the call that writes the page: a spare that a byte can't hold is refused as a smaller one that is too large, a buffer for the longest page has room, and
-- the front of an input decides. Assumes nothing.
use mathlib.Core.Path.{◌≡◌, refl, sym, ap, ◌∙◌}
use mathlib.Core.Logic.{◌⊎◌, inl, inr}
use mathlib.Core.List.{List}
use Prim.Native.Nat.{ℕ, ◌+◌, ◌*◌, ◌≤◌, ◌<◌, min}
use native.Mathlib.Omega.{arith}
use borrow.Author.Tests.{lt-ltb}
use lib.ListN.{length, take, drop, length-append}
use lib.Seq.{take_at}
use Rattle.lists.proofs.Tests.{below?}
use Rattle.plant.specs.declared.Plant.{Plant}
use Rattle.answers.specs.Answers.{Answer, given, refused, ◌>>=◌}
use Rattle.answers.specs.Checks.{Checked, answer}
use Rattle.answers.proofs.Checks.{given-given, given-refused, refused-refused, then_is}
use Rattle.codec.specs.Field.{Bytes}
use Rattle.limits.specs.Limits.{max_switches}
use Rattle.listing.specs.Listing.{reading}
use Rattle.listing.proofs.Longest.{longest_listing}
use Rattle.listing.proofs.Front.{decode_front}
use Rattle.text.specs.Decimal.{read_decimal}
use Rattle.text.specs.Lines.{refusal_of}
use Rattle.quantity.specs.Quantity.{max_spare, spare_above, order_quantity}
use Rattle.sheet.specs.declared.Sheet.{Sheet}
use Rattle.sheet.specs.Columns.{line_columns}
use Rattle.sheet.specs.Page.{buying_page, page_length}
use Rattle.sheet.proofs.Page.{page-size}
use Rattle.quoting.specs.Quotes.{pricing}
use Rattle.planner.specs.Calls.{quoting_for, buying, bought_out}
use Rattle.planner.proofs.Buying.{same-spare, quoted_shown, buying-refused, buying-given, buying-left}
use Rattle.buying.specs.Output.{output_of, bought, printed}

-- ---- the spare as a byte

spare_large : (p : Plant) (j k : ℕ) → max_spare < j → max_spare < k → answer (pricing p j) ≡ answer (pricing p k)
unfolding pricing order_quantity spare_above
spare_large p j k h i = rw (lt-ltb max_spare j h, lt-ltb max_spare k i) refl

pub spare-same : (n : ℕ) (s : List ℕ) → bought (min n 255) s ≡ bought n s
spare-same n s = go (below? 255 n)
  where
    large : 255 < n → (p : Plant) → answer (pricing p (min n 255)) ≡ answer (pricing p n)
    large h p = spare_large p (min n 255) n (omega arith) (omega arith)

    go : (255 < n) ⊎ (n ≤ 255) → bought (min n 255) s ≡ bought n s
    go (inl h) = ap output_of (same-spare s (min n 255) n (large h))
    go (inr h) = let e : min n 255 ≡ n = omega arith in ap (λ (k : ℕ). bought k s) e

-- ---- the page in a buffer for the longest one

module _ (s : List ℕ) (spare : ℕ) (b : List ℕ) (bytes : Bytes s) (room : line_columns * (max_switches + 1) ≤ length b) where
  fits : (c : Sheet) → answer (quoting_for s spare) ≡ given c → page_length c ≤ length b
  fits c e = omega (arith, (quoted_shown s spare c bytes e).few)

  -- the length is that of the output, which stands at the front
  pub output_page : (n : ℕ) → answer (buying s spare b) ≡ given n → (n ≤ length (bought_out s spare b)) × (take n (bought_out s spare b) ≡ bought spare s)
  output_page n g = go (answer (quoting_for s spare)) refl
    where
      go : (a : Answer Sheet) → answer (quoting_for s spare) ≡ a → (n ≤ length (bought_out s spare b)) × (take n (bought_out s spare b) ≡ bought spare s)
      go (given c) e =
          let k : n ≡ page_length c = given-given n (page_length c) (sym g ∙ buying-given s spare b c e (fits c e)) in
          let w = quoted_shown s spare c bytes e in (
            omega (arith, k, ap length (buying-left s spare b c e (fits c e)), length-append (buying_page c) (drop (page_length c) b), page-size c w.digits w.few),
            ap (λ (m : List ℕ). take n m) (buying-left s spare b c e (fits c e)) ∙ take_at (buying_page c) (drop (page_length c) b) n (page-size c w.digits w.few ∙ sym k) ∙ sym (ap output_of e),
          )
      go (refused m) e = absurd (given-refused n m (sym g ∙ buying-refused s spare b m e))

  -- and a refusal is that of the counts
  pub output_refusal : (m : ℕ) → answer (buying s spare b) ≡ refused m → refusal_of m ≡ bought spare s
  output_refusal m g = go (answer (quoting_for s spare)) refl
    where
      go : (a : Answer Sheet) → answer (quoting_for s spare) ≡ a → refusal_of m ≡ bought spare s
      go (given c) e = absurd (given-refused (page_length c) m (sym (buying-given s spare b c e (fits c e)) ∙ g))
      go (refused k) e = ap refusal_of (refused-refused {A = ℕ} m k (sym g ∙ buying-refused s spare b k e)) ∙ sym (ap output_of e)

-- ---- the front of an input

pub printed-front : (n : ℕ) (argument s : List ℕ) → longest_listing < n → printed argument (take n s) ≡ printed argument s
unfolding quoting_for
printed-front n argument s h =
    let f : Plant → Checked Sheet = λ p. pricing p (read_decimal argument) in
    ap output_of (then_is (reading (take n s)) f ∙ ap (λ (a : Answer Plant). a >>= λ p. answer (f p)) (decode_front n s h) ∙ sym (then_is (reading s) f))

-- as much of it as fills the buffer of `print_file` decides
pub printed-buffer : (argument s : List ℕ) → printed argument (take 4096 s) ≡ printed argument s
printed-buffer argument s = printed-front 4096 argument s (omega arith)
