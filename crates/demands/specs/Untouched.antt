-- Demand 1: a refusal changes no lent buffer, and no lent desk. Each field is the definition of what is left read aloud.
use Rattle.std.specs.Prelude.{◌≡◌}
use Rattle.demands.specs.Vocabulary.{List, ℕ, refused, Answer, answer, Plant, writing, buffer_after, Outcome, rewriting}
use Rattle.demands.specs.Vocabulary.{rereading, trailing, round_trailing, buying, rewritten, laid_out, bought_out, round_laid_out, Desk}
use Rattle.demands.specs.Vocabulary.{new_set, start, outcome, serving, served}

-- a refusal leaves what is lent, b before and `after` afterwards, as it was
abbrev pub Keeps : {A B : Type 0} → Answer A → B → B → Type 0
Keeps a b after = (n : ℕ) → a ≡ refused n → after ≡ b

-- "a refusal … leaves all lent memory untouched": the buffers of six calls, and the desk of three
pub record Untouched : Type 0 where
  pub write : (p : Plant) (b : List ℕ) → Keeps (answer (writing p b)) b (buffer_after p b)
  pub rewrite : (s b : List ℕ) → Keeps (answer (rewriting s b)) b (rewritten s b)
  pub reread : (p : Plant) (b : List ℕ) → Keeps (answer (rereading p b)) b (buffer_after p b)
  pub lay_trail : (s b : List ℕ) → Keeps (answer (trailing s b)) b (laid_out s b)
  pub lay_round_trail : (s b : List ℕ) → Keeps (answer (round_trailing s b)) b (round_laid_out s b)
  pub write_buying_page : (s : List ℕ) (spare : ℕ) (b : List ℕ) → Keeps (answer (buying s spare b)) b (bought_out s spare b)
  pub replace_set : (d : Desk) (s : List ℕ) (k set : ℕ) → Keeps (answer (serving d k s (new_set set))) d (served d k s (new_set set))
  pub start_search : (d : Desk) (s : List ℕ) (k x : ℕ) → Keeps (answer (serving d k s (start x))) d (served d k s (start x))
  pub give_outcome : (d : Desk) (s : List ℕ) (k : ℕ) (o : Outcome)
      → Keeps (answer (serving d k s (outcome o))) d (served d k s (outcome o))
