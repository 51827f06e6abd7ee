-- What calls try, in order: of conditions that are written out, and of what goes on from a listing. Assumes nothing.
use mathlib.Core.Path.{◌≡◌, refl, sym, ap, ◌∙◌, subst}
use mathlib.Core.Bool.{Bool, true}
use mathlib.Core.List.{List, [], ◌∷◌, ◌++◌, map, append_assoc}
use Prim.Native.Nat.{ℕ}
use lib.Dec.{T}
use Rattle.lists.specs.Members.{all}
use Rattle.lists.proofs.Tests.{and_true, true_T}
use Rattle.plant.specs.declared.Plant.{Plant}
use Rattle.answers.specs.Answers.{given}
use Rattle.answers.specs.Checks.{Conditions, Checked, FirstHolds, trying, check, answer, ◌then◌}
use Rattle.answers.proofs.Checks.{none-trying, refused-exactly, goes_on, stops}
use Rattle.listing.specs.Listing.{reading}
use Rattle.planning.specs.Planning.{switch_out_of_range, planning_at}
use Rattle.consoles.specs.Calls.{console_out_of_range}
use Rattle.demands.specs.Tried.{is_refusal, Tries, TriesListing, TriesConsole}

abbrev number : ℕ × Bool → ℕ
number q = q.0

-- each of these numbers is that of a refusal
abbrev Known : List ℕ → Type 0
Known ns = all is_refusal ns ≡ true

-- ---- conditions that are written out

first_known : (cs : Conditions) (n : ℕ) → Known (map number cs) → FirstHolds n cs → T (is_refusal n)
first_known cs n k f = go f.before (ap (λ (ds : Conditions). all is_refusal (map number ds)) (sym f.tried) ∙ k)
  where
    go : (ds : Conditions) → Known (map number (ds ++ (n, true) ∷ f.after)) → T (is_refusal n)
    go [] e = true_T (is_refusal n) (and_true (is_refusal n) (all is_refusal (map number f.after)) e).0
    go (d ∷ ds) e = go ds (and_true (is_refusal d.0) (all is_refusal (map number (ds ++ (n, true) ∷ f.after))) e).1

pub tries : {A : Type 0} (cs : Conditions) (r : A) → Known (map number cs) → Tries cs (trying cs (given r))
tries cs r k = record {
  refusals = refused-exactly cs r;
  otherwise = λ h. (r, none-trying cs (given r) h);
  no_other = λ n e. first_known cs n k ((refused-exactly cs r n).0 e);
}

-- ---- after a listing, also with a switch, and with a console before

module _ {A : Type 0} (s : List ℕ) (cs : Plant → Conditions) (c : Checked A) where
  abbrev further : Plant → Checked A
  further p = check (cs p) c.result

  pub after : c.checks ≡ (reading s).checks ++ cs (reading s).result → ((p : Plant) → Known (map number (cs p))) → TriesListing s cs (answer c)
  after e k =
      let same : answer c ≡ answer (reading s then further) = ap (λ (ds : Conditions). trying ds (given c.result)) e in
      record {
        listing_first = λ n r. same ∙ stops (reading s) further n r;
        then_tries = λ p g. subst (Tries (cs p)) (sym (same ∙ goes_on (reading s) further p g)) (tries (cs p) c.result (k p));
      }

pub at : {A : Type 0} (s : List ℕ) (x : ℕ) (cs : Plant → Conditions) (c : Checked A) → c.checks ≡ (planning_at s x).checks ++ cs (reading s).result
    → ((p : Plant) → Known (map number (cs p))) → TriesListing s (λ p. (11, switch_out_of_range p x) ∷ cs p) (answer c)
unfolding planning_at
at s x cs c e k =
    after s (λ p. (11, switch_out_of_range p x) ∷ cs p) c (e ∙ append_assoc (reading s).checks ((11, switch_out_of_range (reading s).result x) ∷ []) (cs (reading s).result)) k

pub called : {A : Type 0} (k : ℕ) (s : List ℕ) (cs : Plant → Conditions) (c : Checked A)
    → c.checks ≡ (19, console_out_of_range k) ∷ (reading s).checks ++ cs (reading s).result
    → ((p : Plant) → Known (map number (cs p))) → TriesConsole k s cs (answer c)
called k s cs c e h =
    let same = ap (λ (ds : Conditions). trying ds (given c.result)) e in
    let ds = (reading s).checks ++ cs (reading s).result in
    record {
      console_first = λ r. same ∙ rw r refl;
      then_tries = λ r. subst (TriesListing s cs) (sym (same ∙ rw r refl)) (after s cs (check ds c.result) refl h);
    }
