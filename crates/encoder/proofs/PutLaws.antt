-- Bytes laid into a buffer one after the other: what is left to lay gives what the whole gives. Assumes nothing.
use mathlib.Core.Path.{◌≡◌, refl, sym, ap, ap₂, ◌∙◌}
use mathlib.Core.List.{List, [], ◌++◌}
use Prim.Native.Nat.{ℕ, suc, ◌+◌, ◌-◌, ◌/◌, ◌%◌, ◌≤◌, ◌<◌}
use native.Mathlib.Omega.{arith}
use borrow.Author.Tests.{ne_eqb}
use lib.ListN.{length, get_or, drop, set, length-append}
use lib.Seq.{sets}
use Rattle.std.proofs.lemmas.List.{drop_more}
use Rattle.lists.proofs.Arrays.{sets-append, laid}
use Rattle.codec.specs.Field.{bytes_of}
use Rattle.codec.specs.declared.Field.{Field}
use Rattle.codec.specs.Part.{field_bytes, map_of, body_of, part_bytes}
use Rattle.codec.proofs.FieldLaws.{length-bytes_of}
use Rattle.codec.proofs.LayoutLaws.{no_field, field_at}

-- ---- the bytes of a number from byte i on

module _ (b : List ℕ) (at width i v : ℕ) where
  pub bytes_next : i < width → sets (set b (at + i) (v % 256)) (at + (i + 1)) (bytes_of (width - (i + 1)) (v / 256)) ≡ sets b (at + i) (bytes_of (width - i) v)
  bytes_next h =
      let k : width - i ≡ suc (width - (i + 1)) = omega arith in
      let j : suc (at + i) ≡ at + (i + 1) = omega arith in
      sym (ap (λ (w : ℕ). sets b (at + i) (bytes_of w v)) k ∙ ap (λ (n : ℕ). sets (set b (at + i) (v % 256)) n (bytes_of (width - (i + 1)) (v / 256))) j)

-- ---- the bytes of a field

pub field-some : (f : Field) (v : ℕ) → (v ≡ f.absent → ⊥) → field_bytes f v ≡ bytes_of f.width v
field-some f v n = rw (ne_eqb v f.absent n) refl

pub field-size : (f : Field) (v : ℕ) → (v ≡ f.absent → ⊥) → length (field_bytes f v) ≡ f.width
field-size f v n = ap length (field-some f v n) ∙ length-bytes_of f.width v

-- ---- pieces laid one after the other: `left` are the bytes that are yet to be laid, from `at` on, of those of `all` from `from` on

pub record Laid (all b₀ : List ℕ) (from : ℕ) (left b : List ℕ) (at : ℕ) : Type 0 where
  pub same : length b ≡ length b₀
  pub place : at + length left ≡ from + length all
  pub whole : sets b at left ≡ sets b₀ from all

module _ (all b₀ : List ℕ) (from : ℕ) where
  pub laid_none : Laid all b₀ from all b₀ from
  laid_none = record { same = refl; place = refl; whole = refl }

  module _ (left one more b : List ℕ) (at : ℕ) (r : Laid all b₀ from left b at) (e : left ≡ one ++ more) where
    both : length left ≡ length one + length more
    both = ap length e ∙ length-append one more

    pub laid-room : from + length all ≤ length b₀ → at + length one ≤ length b
    laid-room k = omega (arith, r.same, r.place, both)

    pub laid_one : (b' : List ℕ) (at' : ℕ) → at' ≡ at + length one → b' ≡ sets b at one → Laid all b₀ from more b' at'
    laid_one b' at' p f = record {
      same = laid b b' at one f ∙ r.same;
      place = omega (arith, r.place, both);
      whole = rw (f, p) (sets-append b at one more) ∙ ap (sets b at) (sym e) ∙ r.whole;
    }

  pub laid_all : (b : List ℕ) (at : ℕ) → Laid all b₀ from [] b at → (at ≡ from + length all) × (b ≡ sets b₀ from all)
  laid_all b at r = (omega (arith, r.place), r.whole)

-- ---- the fields of a part with the values vs, from field i on

abbrev pub body_from : List Field → List ℕ → ℕ → List ℕ
body_from fs vs i = body_of (drop i fs) (drop i vs)

abbrev pub bytes_at : List Field → List ℕ → ℕ → List ℕ
bytes_at fs vs i = field_bytes (field_at fs i) (get_or vs i 0)

pub body_next : (fs : List Field) (vs : List ℕ) (i : ℕ) → i < length fs → i < length vs → body_from fs vs i ≡ bytes_at fs vs i ++ body_from fs vs (i + 1)
body_next fs vs i h k = ap₂ body_of (drop_more fs i no_field h) (drop_more vs i 0 k)

-- ---- the map, then the fields

module _ (b : List ℕ) (at : ℕ) (fs : List Field) (vs : List ℕ) where
  pub part_room : at + length (part_bytes fs vs) ≤ length b → at + 1 + length (body_of fs vs) ≤ length b
  unfolding part_bytes
  part_room h = omega arith

  pub part_end : at + 1 + length (body_of fs vs) ≡ at + length (part_bytes fs vs)
  unfolding part_bytes
  part_end = omega arith

  pub part-laid : (m : ℕ) → m ≡ map_of fs vs → sets (set b at m) (at + 1) (body_of fs vs) ≡ sets b at (part_bytes fs vs)
  unfolding part_bytes
  part-laid m e = let k : at + 1 ≡ suc at = omega arith in rw (k, e) refl
