-- Laws of a call's result: what it says of the answer, what follows it, and its conditions. Assumes nothing.
use mathlib.Core.Path.{◌≡◌, refl, sym, ap, ◌∙◌}
use mathlib.Core.List.{◌++◌}
use Rattle.std.specs.Prelude.{Result, Ok, Err, IsErrAnd}
use Rattle.std.specs.Result.{result_and}
use Rattle.std.proofs.lemmas.Result.{err_from_is_err_and}
use Rattle.answers.specs.declared.Refusal.{Refusal}
use Rattle.answers.specs.Answers.{Answer, given, refused, number_of}
use Rattle.answers.specs.Results.{answer_as, answer_of, Judges}
use Rattle.answers.specs.Checks.{Conditions, NoneHolds, trying, Checked, answer, ◌then◌, ◌giving◌}
use Rattle.answers.proofs.Checks.{refused-exactly, given-exactly, goes_on, stops, gives_so, refuses_so, none-trying, trying-append, first-trying}

-- what the exit of a `?` returns is the refusal that it met
pub exit : {A B : Type 0} (f : A → B) (r : Result A Refusal) (k : Refusal) → IsErrAnd r (λ e. e ≡ k) → answer_as f r ≡ refused (number_of k)
exit f r k e = let p = err_from_is_err_and r e in ap (answer_as f) p.1 ∙ ap (λ (j : Refusal). refused (number_of j)) p.2

-- what a result r says of the answer a, where x stands for f of it
module _ {A B : Type 0} (f : A → B) (a : Answer B) (r : Result A Refusal) (q : answer_as f r ≡ a) where
  pub ok_given : (x : A) → r ≡ Ok x → a ≡ given (f x)
  ok_given x e = sym q ∙ ap (answer_as f) e

  pub err_refused : (k : Refusal) → r ≡ Err k → a ≡ refused (number_of k)
  err_refused k e = sym q ∙ ap (answer_as f) e

-- what follows a call with the result r
module _ {A B C : Type 0} (f : A → B) (c : Checked B) (r : Result A Refusal) (q : answer_as f r ≡ answer c) where
  module _ (g : B → Checked C) where
    pub ok_then : (x : A) → r ≡ Ok x → answer (c then g) ≡ answer (g (f x))
    ok_then x e = goes_on c g (f x) (ok_given f (answer c) r q x e)

    pub err_then : (k : Refusal) → r ≡ Err k → answer (c then g) ≡ refused (number_of k)
    err_then k e = stops c g (number_of k) (err_refused f (answer c) r q k e)

  module _ (g : B → C) where
    pub ok_giving : (x : A) → r ≡ Ok x → answer (c giving g) ≡ given (g (f x))
    ok_giving x e = gives_so c g (f x) (ok_given f (answer c) r q x e)

    pub err_giving : (k : Refusal) → r ≡ Err k → answer (c giving g) ≡ refused (number_of k)
    err_giving k e = refuses_so c g (number_of k) (err_refused f (answer c) r q k e)

-- ---- a `?` between two calls: what the first gives is what the second is about, and a refusal of the first is that of both

module _ {B C : Type 0} (c : Checked B) where
  module _ (g : B → Checked C) where
    pub try_given : (b : Answer C) (x : B) → given x ≡ answer c → b ≡ answer (g x) → b ≡ answer (c then g)
    try_given b x e h = h ∙ sym (goes_on c g x (sym e))

    pub try_refused : {A : Type 0} (f : A → C) (r : Result A Refusal) (k : Refusal) → IsErrAnd r (λ e. e ≡ k) → refused (number_of k) ≡ answer c
        → answer_as f r ≡ answer (c then g)
    try_refused f r k m e = exit f r k m ∙ sym (stops c g (number_of k) (sym e))

  module _ (g : B → C) where
    pub try_giving : (y : C) (x : B) → given x ≡ answer c → y ≡ g x → given y ≡ answer (c giving g)
    try_giving y x e h = ap given h ∙ sym (gives_so c g x (sym e))

    pub try_no_giving : {A : Type 0} (f : A → C) (r : Result A Refusal) (k : Refusal) → IsErrAnd r (λ e. e ≡ k) → refused (number_of k) ≡ answer c
        → answer_as f r ≡ answer (c giving g)
    try_no_giving f r k m e = exit f r k m ∙ sym (refuses_so c g (number_of k) (sym e))

-- ---- conditions

module _ (cs : Conditions) (r : Result Unit Refusal) (j : Judges cs r) where
  -- none of the conditions holds where it is no refusal, and what comes after them is the answer
  pub none_judged : (x : Unit) → r ≡ Ok x → NoneHolds cs
  none_judged x e = ((given-exactly cs tt x).0 (sym j.first ∙ ap answer_of e)).0

  pub passed : {A : Type 0} (a : Answer A) (x : Unit) → r ≡ Ok x → trying cs a ≡ a
  passed a x e = none-trying cs a (none_judged x e)

  -- and where it is one, that refusal is
  pub turned_down : {A : Type 0} (a : Answer A) (k : Refusal) → r ≡ Err k → trying cs a ≡ refused (number_of k)
  turned_down a k e = let f = (refused-exactly cs tt (number_of k)).0 (sym j.first ∙ ap answer_of e) in rw f.tried (first-trying (number_of k) f.before f.after a f.none_before)

-- the result of a call is that of its conditions
pub checks_judge : {A B : Type 0} (f : A → B) (c : Checked B) (r : Result A Refusal) (v : Result Unit Refusal)
    → answer_as f r ≡ answer c → ((x : A) → r ≡ Ok x → v ≡ Ok tt) → ((k : Refusal) → r ≡ Err k → v ≡ Err k) → Judges c.checks v
checks_judge f c (Ok x) v q y n = record { first = ap answer_of (y x refl) ∙ sym ((given-exactly c.checks tt tt).1 (((given-exactly c.checks c.result (f x)).0 (sym q)).0, refl)) }
checks_judge f c (Err k) v q y n = record { first = ap answer_of (n k refl) ∙ sym ((refused-exactly c.checks tt (number_of k)).1 ((refused-exactly c.checks c.result (number_of k)).0 (sym q))) }

-- of two results, the first that refuses is that of the conditions of both, one after the other
pub and_judges : (cs ds : Conditions) (v w : Result Unit Refusal) → Judges cs v → Judges ds w → Judges (cs ++ ds) (result_and v w)
and_judges cs ds (Ok x) w j k = record { first = k.first ∙ sym (trying-append cs ds (given tt) ∙ passed cs (Ok x) j (trying ds (given tt)) x refl) }
and_judges cs ds (Err n) w j k = record { first = sym (trying-append cs ds (given tt) ∙ turned_down cs (Err n) j (trying ds (given tt)) n refl) }
