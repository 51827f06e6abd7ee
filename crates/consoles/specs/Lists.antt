-- Lists of calls on a desk: what the calls of one console answer, the desk after them, and which of them start and feed that console's
-- search. Assumes nothing.
use Rattle.std.specs.Prelude.{List, [], ◌∷◌, ◌++◌, ℕ, eqb}
use Rattle.lists.specs.Tests.{choose}
use Rattle.answers.specs.Answers.{Answer, given, refused}
use Rattle.answers.specs.Checks.{answer}
use Rattle.search.specs.Calls.{Call, gives}
use Rattle.desk.specs.declared.Console.{Console}
use Rattle.desk.specs.declared.Desk.{Desk}
use Rattle.consoles.specs.Calls.{Request, new_set, start, outcome, serving, served}

-- a call on a desk: of which console, with which listing, and what it asks for
pub record DeskCall : Type 0 where
  pub console : ℕ
  pub listing : List ℕ
  pub request : Request

-- what it answers, and the desk after it
abbrev pub answer_to : Desk → DeskCall → Answer Console
answer_to d c = answer (serving d c.console c.listing c.request)

abbrev pub after : Desk → DeskCall → Desk
after d c = served d c.console c.listing c.request

-- the desk after a list of them
abbrev pub after_all : Desk → List DeskCall → Desk
after_all d [] = d
after_all d (c ∷ cs) = after_all (after d c) cs

-- those of console k, and what they answer, in their order
abbrev pub calls_of : ℕ → List DeskCall → List DeskCall
calls_of k [] = []
calls_of k (c ∷ cs) = choose (eqb c.console k) (c ∷ calls_of k cs) (calls_of k cs)

abbrev pub answers_of : ℕ → Desk → List DeskCall → List (Answer Console)
answers_of k d [] = []
answers_of k d (c ∷ cs) = choose (eqb c.console k) (answer_to d c ∷ answers_of k (after d c) cs) (answers_of k (after d c) cs)

-- ---- the calls that start and feed the search of console k

-- nothing of it yet, or its last start that was not refused, by listing and switch, with the outcomes since then that were not refused
pub data Fed : Type 0 where
  unknown : Fed
  since : List ℕ → ℕ → List Call → Fed

abbrev pub feed_with : List ℕ → Request → Fed → Fed
feed_with s (new_set set) u = u
feed_with s (start x) u = since s x []
feed_with s (outcome o) unknown = unknown
feed_with s (outcome o) (since t x cs) = since t x (cs ++ gives o ∷ [])

-- a refused call does nothing to it
abbrev pub feed_if : Answer Console → List ℕ → Request → Fed → Fed
feed_if (given c) s r u = feed_with s r u
feed_if (refused n) s r u = u

-- nor does a call of another console
abbrev pub fed_by : ℕ → Desk → List DeskCall → Fed → Fed
fed_by k d [] u = u
fed_by k d (c ∷ cs) u = fed_by k (after d c) cs (choose (eqb c.console k) (feed_if (answer_to d c) c.listing c.request u) u)

-- of a list of calls on a desk d
abbrev pub fed_in : ℕ → Desk → List DeskCall → Fed
fed_in k d cs = fed_by k d cs unknown
