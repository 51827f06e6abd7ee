-- Laws of numbers in decimal, over any number: what was written is read and what was read is written, the bytes are digits with no leading zero, and how many there are. Assumes nothing.
use mathlib.Core.Path.{◌≡◌, refl, sym, ap, ap₂, ◌∙◌, subst}
use mathlib.Core.Logic.{◌⊎◌, inl, inr, ⊎_elim}
use mathlib.Core.Bool.{true, false, not}
use mathlib.Core.List.{List, [], ◌∷◌, ◌++◌, append-nil, append_assoc}
use Prim.Native.Nat.{ℕ, zero, suc, ◌+◌, ◌-◌, ◌*◌, ◌/◌, ◌%◌, ◌^◌, ◌≤◌, ◌<◌}
use native.Mathlib.Nat.{pow-suc, one-le-pow}
use native.Mathlib.Omega.{arith}
use borrow.Author.Tests.{lt-ltb, le-ltb, le-leb, leb-true, ne_eqb, eqb-false, not-true}
use lib.Dec.{T, eqb, ltb}
use lib.ListN.{length, get_or, length-append}
use Rattle.lists.proofs.Tests.{below?, true_T, not_both, and_true, if_true, if_false}
use Rattle.lists.specs.Members.{all}
use Rattle.lists.proofs.Members.{all_append}
use Rattle.text.specs.Decimal.{digit, digits, decimal, read_after, read_decimal, is_digit, leads, is_decimal}

-- ---- the two cases of the definition

digits_last : (k n : ℕ) → n < 10 → digits (suc k) n ≡ digit n ∷ []
unfolding digits
digits_last k n h = if_true (ltb n 10) _ _ (true_T _ (lt-ltb n 10 h))

digits_more : (k n : ℕ) → 10 ≤ n → digits (suc k) n ≡ digits k (n / 10) ++ (digit (n % 10) ∷ [])
unfolding digits
digits_more k n h = if_false (ltb n 10) _ _ (λ t. subst T (le-ltb n 10 h) t)

-- any number of steps that is enough gives the same digits
digits_same : (k j n : ℕ) → n ≤ k → n ≤ j → digits (suc k) n ≡ digits (suc j) n
digits_same zero j n h i = digits_last 0 n (omega arith) ∙ sym (digits_last j n (omega arith))
digits_same (suc k) zero n h i = digits_last (suc k) n (omega arith) ∙ sym (digits_last 0 n (omega arith))
digits_same (suc k) (suc j) n h i = go (below? n 10) (digits_same k j (n / 10))
  where
    go : (n < 10) ⊎ (10 ≤ n) → (n / 10 ≤ k → n / 10 ≤ j → digits (suc k) (n / 10) ≡ digits (suc j) (n / 10)) → digits (suc (suc k)) n ≡ digits (suc (suc j)) n
    go (inl m) same = digits_last (suc k) n m ∙ sym (digits_last (suc j) n m)
    go (inr m) same =
        digits_more (suc k) n m
        ∙ ap (λ (l : List ℕ). l ++ (digit (n % 10) ∷ [])) (same (omega arith) (omega arith))
        ∙ sym (digits_more (suc j) n m)

-- a number below ten is its digit
pub decimal-last : (n : ℕ) → n < 10 → decimal n ≡ digit n ∷ []
unfolding decimal
decimal-last n h = digits_last n n h

-- any other number is its tenth, rounded down, and then its last digit
pub decimal_more : (n : ℕ) → 10 ≤ n → decimal n ≡ decimal (n / 10) ++ (digit (n % 10) ∷ [])
unfolding decimal
decimal_more n h = digits_same n (suc n) n (omega arith) (omega arith) ∙ digits_more (suc n) n h ∙ ap (λ (l : List ℕ). l ++ (digit (n % 10) ∷ [])) (digits_same n (n / 10) (n / 10) (omega arith) (omega arith))

-- of two digits, and of three
pub decimal-two : (n : ℕ) → 10 ≤ n → n < 100 → decimal n ≡ digit (n / 10) ∷ digit (n % 10) ∷ []
decimal-two n h k = decimal_more n h ∙ ap (λ (l : List ℕ). l ++ (digit (n % 10) ∷ [])) (decimal-last (n / 10) (omega arith))

pub decimal-three : (n : ℕ) → 100 ≤ n → n < 1000 → decimal n ≡ digit (n / 100) ∷ digit (n / 10 % 10) ∷ digit (n % 10) ∷ []
decimal-three n h k =
    let e : n / 10 / 10 ≡ n / 100 = omega arith in
    decimal_more n (omega arith) ∙ ap (λ (l : List ℕ). l ++ (digit (n % 10) ∷ [])) (decimal-two (n / 10) (omega arith) (omega arith)) ∙ ap (λ (d : ℕ). digit d ∷ digit (n / 10 % 10) ∷ digit (n % 10) ∷ []) e

pub length_more : (n : ℕ) → 10 ≤ n → length (decimal n) ≡ length (decimal (n / 10)) + 1
length_more n h = ap length (decimal_more n h) ∙ length-append (decimal (n / 10)) (digit (n % 10) ∷ [])

-- so what holds of one digit and goes on to one digit more holds of every number in decimal
module _ (P : ℕ → List ℕ → Type 0) (one : (n : ℕ) → n < 10 → P n (digit n ∷ [])) (more : (n : ℕ) (l : List ℕ) → 10 ≤ n → P (n / 10) l → P n (l ++ (digit (n % 10) ∷ []))) where
  up_to : (k n : ℕ) → n ≤ k → P n (decimal n)
  up_to zero n h = subst (P n) (sym (decimal-last n (omega arith))) (one n (omega arith))
  up_to (suc k) n h = go (below? n 10) (up_to k (n / 10))
    where
      go : (n < 10) ⊎ (10 ≤ n) → (n / 10 ≤ k → P (n / 10) (decimal (n / 10))) → P n (decimal n)
      go (inl m) f = subst (P n) (sym (decimal-last n m)) (one n m)
      go (inr m) f = subst (P n) (sym (decimal_more n m)) (more n (decimal (n / 10)) m (f (omega arith)))

  pub by_digits : (n : ℕ) → P n (decimal n)
  by_digits n = up_to n n (omega arith)

-- ---- reading

pub read-append : (n : ℕ) (l m : List ℕ) → read_after n (l ++ m) ≡ read_after (read_after n l) m
read-append n [] m = refl
read-append n (b ∷ l) m = read-append (n * 10 + (b - digit 0)) l m

-- what was written is read
pub read-decimal : (n : ℕ) → read_decimal (decimal n) ≡ n
read-decimal =
    by_digits
    (λ n l. read_decimal l ≡ n)
    (λ n h. omega arith)
    (λ n l h e. read-append 0 l (digit (n % 10) ∷ []) ∙ rw e (omega arith))

-- ---- how many digits

tenth_below : (n k : ℕ) → n < 10 ^ suc k → n / 10 < 10 ^ k
tenth_below n k h = let e : 10 ^ suc k ≡ 10 ^ k * 10 = pow-suc 10 k in omega arith

tenth_above : (n k : ℕ) → 10 ^ suc k ≤ n → 10 ^ k ≤ n / 10
tenth_above n k h = let e : 10 ^ suc k ≡ 10 ^ k * 10 = pow-suc 10 k in omega arith

most : (n k : ℕ) → n < 10 ^ suc k → length (decimal n) ≤ suc k
most = by_digits (λ n l. (k : ℕ) → n < 10 ^ suc k → length l ≤ suc k) (λ n h k i. omega arith) step
  where
    step : (n : ℕ) (l : List ℕ) → 10 ≤ n → ((k : ℕ) → n / 10 < 10 ^ suc k → length l ≤ suc k) → (k : ℕ) → n < 10 ^ suc k → length (l ++ (digit (n % 10) ∷ [])) ≤ suc k
    step n l h f zero i = absurd (omega arith)
    step n l h f (suc k) i = rw length-append (omega (arith, f k (tenth_below n (suc k) i)))

-- a number below the k-th power of ten has at most k digits
pub decimal-most : (n k : ℕ) → 1 ≤ k → n < 10 ^ k → length (decimal n) ≤ k
decimal-most n zero s h = absurd (omega arith)
decimal-most n (suc k) s h = most n k h

-- a number from the k-th power of ten on has more than k
pub decimal-least : (n k : ℕ) → 10 ^ k ≤ n → k < length (decimal n)
decimal-least = by_digits (λ n l. (k : ℕ) → 10 ^ k ≤ n → k < length l) one step
  where
    one : (n : ℕ) → n < 10 → (k : ℕ) → 10 ^ k ≤ n → k < 1
    one n h zero i = omega arith
    one n h (suc k) i = absurd (omega (arith, tenth_above n k i, one-le-pow k 10 (omega arith)))

    step : (n : ℕ) (l : List ℕ) → 10 ≤ n → ((k : ℕ) → 10 ^ k ≤ n / 10 → k < length l) → (k : ℕ) → 10 ^ k ≤ n → k < length (l ++ (digit (n % 10) ∷ []))
    step n l h f zero i = rw length-append (omega arith)
    step n l h f (suc k) i = rw length-append (omega (arith, f k (tenth_above n k i)))

-- ---- the bytes are digits, with no leading zero, and such bytes are a number in decimal

digit-is : (d : ℕ) → d < 10 → is_digit (digit d) ≡ true
digit-is d h = rw (le-leb (digit 0) (digit d) (omega arith), le-leb (digit d) (digit 9) (omega arith))

pub is_digit_lem : (b : ℕ) → is_digit b ≡ true → (digit 0 ≤ b) × (b ≤ digit 9)
is_digit_lem b e = let t = and_true _ _ e in (leb-true (digit 0) b t.0, leb-true b (digit 9) t.1)

pub decimal-digits : (n : ℕ) → all is_digit (decimal n) ≡ true
decimal-digits =
    by_digits
    (λ n l. all is_digit l ≡ true)
    (λ n h. rw (digit-is n h))
    (λ n l h e. all_append is_digit l (digit (n % 10) ∷ []) ∙ rw (e, digit-is (n % 10) (omega arith)))

-- the first byte, and the digit zero if there is none
abbrev first : List ℕ → ℕ
first l = get_or l 0 (digit 0)

-- digits that do not begin with a zero go on to such
leads_more : (l : List ℕ) (b : ℕ) → (first l ≡ digit 0 → ⊥) → (leads (l ++ (b ∷ [])) ≡ true) × (first (l ++ (b ∷ [])) ≡ digit 0 → ⊥)
leads_more [] b f = absurd (f refl)
leads_more (a ∷ []) b f = (rw (ne_eqb a (digit 0) f), f)
leads_more (a ∷ c ∷ l) b f = (rw (ne_eqb a (digit 0) f), f)

pub decimal-leads : (n : ℕ) → leads (decimal n) ≡ true
decimal-leads n =
    (by_digits
    (λ n l. (leads l ≡ true) × (1 ≤ n → first l ≡ digit 0 → ⊥))
    (λ n h. (refl, λ i e. omega arith))
    (λ n l h f. let r = leads_more l (digit (n % 10)) (f.1 (omega arith)) in (r.0, λ i. r.1))
    n).0

pub decimal-is : (n : ℕ) → is_decimal (decimal n) ≡ true
unfolding is_decimal
decimal-is n = rw (decimal-digits n, decimal-leads n)

decimal-next : (n b : ℕ) → 1 ≤ n → is_digit b ≡ true → decimal (n * 10 + (b - digit 0)) ≡ decimal n ++ (b ∷ [])
decimal-next n b h e =
    let t = is_digit_lem b e in
    let q : (n * 10 + (b - digit 0)) / 10 ≡ n = omega arith in
    let r : digit ((n * 10 + (b - digit 0)) % 10) ≡ b = omega arith in
    decimal_more (n * 10 + (b - digit 0)) (omega arith) ∙ ap₂ (λ (m c : ℕ). decimal m ++ (c ∷ [])) q r

decimal-after : (n : ℕ) (bs : List ℕ) → 1 ≤ n → all is_digit bs ≡ true → decimal (read_after n bs) ≡ decimal n ++ bs
decimal-after n [] h e = sym (append-nil (decimal n))
decimal-after n (b ∷ bs) h e =
    let t = and_true _ _ e in
    decimal-after (n * 10 + (b - digit 0)) bs (omega arith) t.1
    ∙ ap (λ (l : List ℕ). l ++ bs) (decimal-next n b h t.0)
    ∙ append_assoc (decimal n) (b ∷ []) bs

decimal-one : (b : ℕ) → is_digit b ≡ true → decimal (b - digit 0) ≡ b ∷ []
decimal-one b e =
    let t = is_digit_lem b e in
    let r : digit (b - digit 0) ≡ b = omega arith in
    decimal-last (b - digit 0) (omega arith) ∙ ap (λ (c : ℕ). c ∷ []) r

-- what was read is written
pub decimal-read : (bs : List ℕ) → is_decimal bs ≡ true → decimal (read_decimal bs) ≡ bs
unfolding is_decimal
decimal-read [] e = absurd (not_both false e refl)
decimal-read (b ∷ []) e = let z : 0 + (b - digit 0) ≡ b - digit 0 = omega arith in ap decimal z ∙ decimal-one b (and_true _ _ (and_true _ _ e).0).0
decimal-read (b ∷ c ∷ bs) e =
    let t = and_true (all is_digit (b ∷ c ∷ bs)) (not (eqb b (digit 0))) e in
    let u = and_true (is_digit b) (all is_digit (c ∷ bs)) t.0 in
    let d = is_digit_lem b u.0 in
    let f = eqb-false b (digit 0) (not-true _ t.1) in
    let z : 0 + (b - digit 0) ≡ b - digit 0 = omega arith in
    ap (λ (n : ℕ). decimal (read_after n (c ∷ bs))) z
    ∙ decimal-after (b - digit 0) (c ∷ bs) (omega (arith, f)) u.1
    ∙ ap (λ (l : List ℕ). l ++ (c ∷ bs)) (decimal-one b u.0)

-- so many digits make a number below that power of ten
pub read_below : (bs : List ℕ) (k : ℕ) → is_decimal bs ≡ true → length bs ≤ k → read_decimal bs < 10 ^ k
read_below bs k e h =
    ⊎_elim (λ b. b) (λ f. absurd (omega (arith, decimal-least (read_decimal bs) k f, ap length (decimal-read bs e)))) (below? (read_decimal bs) (10 ^ k))
