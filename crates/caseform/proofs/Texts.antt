-- What is written part by part: a front of a part is a front of the whole, and so is one of what follows. Assumes nothing.
use Rattle.std.proofs.Common.{◌≡◌, refl, sym, ap, ◌∙◌, subst, ℕ, ◌+◌, ◌<◌, List, [], ◌∷◌, ◌++◌, length, get_or, take, drop, append_assoc, append-nil, take-append-drop, arith}
use Rattle.std.specs.Prelude.{OnErr, OnOk, Option, Result, Ok, Err, decimal}
use Rattle.std.specs.Io.KnownBytes.{Appends}
use Rattle.std.proofs.KnownBytes.{Appends-trans}
use Rattle.std.proofs.Math.Seq.{take-append-add}
use Rattle.std.proofs.lemmas.List.{drop_more, length-append, take-append-le, take_more}
use Rattle.streams.specs.Streams.{AppendsFront}
use Rattle.caseform.specs.Shown.{spaced}

pub front_more : (a b : Option (List ℕ)) (bs cs : List ℕ) → AppendsFront a b bs → AppendsFront a b (bs ++ cs)
front_more a b bs cs f =
    let long = length-append bs cs in
    (f.0, omega arith, subst (Appends a b) (sym (take-append-le f.0 bs cs f.1)) f.2)

pub front_after : (a b c : Option (List ℕ)) (bs cs : List ℕ) → Appends a b bs → AppendsFront b c cs → AppendsFront a c (bs ++ cs)
front_after a b c bs cs h f =
    let long = length-append bs cs in
    (length bs + f.0, omega arith, subst (Appends a c) (sym (take-append-add bs cs f.0)) (Appends-trans a b c bs (take f.0 cs) h f.2))

-- ---- what the last call leaves, by its result

pub fails : {A E : Type 0} {P : Type 0} (r : Result A E) → P → OnErr r P
fails (Ok x) p = tt
fails (Err e) p = p

pub ok_after : {A E : Type 0} (r : Result A E) (a b c : Option (List ℕ)) (bs cs : List ℕ) → Appends a b bs → OnOk r (Appends b c cs)
    → OnOk r (Appends a c (bs ++ cs))
ok_after (Ok x) a b c bs cs h o = Appends-trans a b c bs cs h o
ok_after (Err e) a b c bs cs h o = tt

pub err_after : {A E : Type 0} (r : Result A E) (a b c : Option (List ℕ)) (bs cs : List ℕ) → Appends a b bs → OnErr r (AppendsFront b c cs)
    → OnErr r (AppendsFront a c (bs ++ cs))
err_after (Ok x) a b c bs cs h o = tt
err_after (Err e) a b c bs cs h o = front_after a b c bs cs h o

-- ---- numbers, each after a space

spaced_append : (xs ys : List ℕ) → spaced (xs ++ ys) ≡ spaced xs ++ spaced ys
spaced_append [] ys = refl
spaced_append (n ∷ ns) ys = ap (λ l. 32 ∷ decimal n ++ l) (spaced_append ns ys) ∙ sym (append_assoc (32 ∷ decimal n) (spaced ns) (spaced ys))

spaced_split : (xs : List ℕ) (i : ℕ) → i < length xs → spaced xs ≡ spaced (take i xs) ++ (32 ∷ decimal (get_or xs i 0) ++ spaced (drop (i + 1) xs))
spaced_split xs i h =
    ap spaced (sym (take-append-drop i xs)) ∙ spaced_append (take i xs) (drop i xs) ∙ ap (λ l. spaced (take i xs) ++ spaced l) (drop_more xs i 0 h)

pub spaced_more : (a b c d : Option (List ℕ)) (xs : List ℕ) (i : ℕ) → i < length xs → Appends a b (spaced (take i xs)) → Appends b c (32 ∷ [])
    → Appends c d (decimal (get_or xs i 0)) → Appends a d (spaced (take (i + 1) xs))
spaced_more a b c d xs i h before space number =
    let n = get_or xs i 0 in
    let one = ap (λ l. spaced (take i xs) ++ (32 ∷ l)) (append-nil (decimal n)) in
    subst (Appends a d) (sym (ap spaced (take_more xs i 0 h) ∙ spaced_append (take i xs) (n ∷ []) ∙ one))
    (Appends-trans a b d (spaced (take i xs)) (32 ∷ decimal n) before (Appends-trans b c d (32 ∷ []) (decimal n) space number))

pub space_fails : (a b c : Option (List ℕ)) (xs : List ℕ) (i : ℕ) → i < length xs → Appends a b (spaced (take i xs)) → AppendsFront b c (32 ∷ [])
    → AppendsFront a c (spaced xs)
space_fails a b c xs i h before space =
    subst (λ l. AppendsFront a c l) (sym (spaced_split xs i h))
    (front_after a b c (spaced (take i xs)) _ before (front_more b c (32 ∷ []) (decimal (get_or xs i 0) ++ spaced (drop (i + 1) xs)) space))

pub number_fails : (a b c d : Option (List ℕ)) (xs : List ℕ) (i : ℕ) → i < length xs → Appends a b (spaced (take i xs)) → Appends b c (32 ∷ [])
    → AppendsFront c d (decimal (get_or xs i 0)) → AppendsFront a d (spaced xs)
number_fails a b c d xs i h before space number =
    subst (λ l. AppendsFront a d l) (sym (spaced_split xs i h))
    (front_after a b d (spaced (take i xs)) _ before (front_after b c d (32 ∷ []) _ space (front_more c d _ (spaced (drop (i + 1) xs)) number)))
