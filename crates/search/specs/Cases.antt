-- Cases of the search: the starred ones of document 01, with each loss given three times, and those of document 02's order 4. Each row has what the definitions answer, and
-- what the papers say. Assumes nothing.
use Rattle.std.specs.Prelude.{◌≡◌, refl, List, [], ◌∷◌, ◌++◌, map, ℕ, zero, suc}
use Rattle.lists.specs.Count.{count}
use Rattle.answers.specs.Answers.{Answer, given, refused, ◌>>=◌}
use Rattle.answers.specs.Checks.{answer}
use Rattle.answers.specs.Tables.{agreed}
use Rattle.search.specs.declared.Search.{Search}
use Rattle.search.specs.declared.Search.TheVariants.{Checking, Halving, AllUp, Down}
use Rattle.search.specs.declared.Outcome.{Outcome}
use Rattle.search.specs.declared.Outcome.TheVariants.{Returned, Lost}
use Rattle.search.specs.declared.Progress.{Progress}
use Rattle.search.specs.Search.{new_search, ask, give}
use Rattle.search.specs.Values.{values_of, outcome_number}
use Rattle.search.specs.Calls.{Call, asks, gives, perform, begun, Sending, sent, sendings, counted_in}

-- the calls that count a probe as returned, and as lost
abbrev returns : List Call
returns = gives Returned ∷ []

abbrev losses : List Call
losses = gives Lost ∷ gives Lost ∷ gives Lost ∷ []

-- the numbers of probes after each list of n probes that were counted
abbrev pub probes_after : ℕ → Progress → List ℕ
probes_after zero p = p.probes ∷ []
probes_after (suc n) p = probes_after n (perform p returns) ++ probes_after n (perform p losses)

-- a state as numbers: its kind, 0 Checking, 1 Halving, 2 All up, 3 Down, and then its own
abbrev numbers : Search → List ℕ
numbers q = (values_of q).0 ∷ (values_of q).1

-- where calls lead to after a new search over e links: probes, packets, and the state
abbrev after : ℕ → List Call → Answer (List ℕ)
after e cs = let p = perform (begun e) cs in given (p.probes ∷ p.packets ∷ numbers p.state)

-- their sendings, each as the m of its probe and 1 if it returned, else 0
abbrev pairs : List Sending → List ℕ
pairs [] = []
pairs (sent m o ∷ l) = m ∷ outcome_number o ∷ pairs l

abbrev sends : ℕ → List Call → Answer (List ℕ)
sends e cs = given (pairs (sendings (begun e) cs))

-- how many probes they count
abbrev counts : ℕ → List Call → Answer (List ℕ)
counts e cs = given (count (suc e) (counted_in (sendings (begun e) cs)) ∷ [])

abbrev asking : Search → Answer (List ℕ)
asking s = answer (ask s) >>= λ m. given (m ∷ [])

abbrev giving : Search → Outcome → Answer (List ℕ)
giving s o = answer (give s o) >>= λ t. given (numbers t)

-- document 01's starred ones: one link takes one probe, however many outcomes are given; three links take at most three
abbrev pub starred : List (Answer (List ℕ) × Answer (List ℕ))
starred =
    (given (probes_after 2 (begun 1)), given (1 ∷ 1 ∷ 1 ∷ 1 ∷ []))
    ∷ (given (probes_after 4 (begun 3)), given (1 ∷ 1 ∷ 1 ∷ 1 ∷ 1 ∷ 1 ∷ 1 ∷ 1 ∷ 2 ∷ 2 ∷ 2 ∷ 2 ∷ 3 ∷ 3 ∷ 3 ∷ 3 ∷ []))
    ∷ []

abbrev rows : List (Answer (List ℕ) × Answer (List ℕ))
rows =
    -- the most packets: three losses for each of three probes, over three links
    (after 3 (losses ++ losses ++ losses), given (3 ∷ 9 ∷ 3 ∷ 1 ∷ []))
    -- a loss short of the third counts no probe, and calls for a probe do not break the row; the third counts it
    ∷ (after 3 (gives Lost ∷ []), given (0 ∷ 1 ∷ 0 ∷ 3 ∷ 1 ∷ []))
    ∷ (after 3 (gives Lost ∷ asks ∷ gives Lost ∷ asks ∷ []), given (0 ∷ 2 ∷ 0 ∷ 3 ∷ 2 ∷ []))
    ∷ (after 3 (gives Lost ∷ asks ∷ gives Lost ∷ asks ∷ gives Lost ∷ []), given (1 ∷ 3 ∷ 1 ∷ 1 ∷ 3 ∷ 0 ∷ []))
    -- the first that returns counts it, also after losses, and the losses of one probe are not those of the next
    ∷ (after 3 (gives Lost ∷ gives Lost ∷ returns), given (1 ∷ 3 ∷ 2 ∷ []))
    ∷ (after 3 (losses ++ gives Lost ∷ gives Lost ∷ returns), given (2 ∷ 6 ∷ 3 ∷ 3 ∷ []))
    ∷ (after 4 (losses ++ gives Lost ∷ gives Lost ∷ returns ++ gives Lost ∷ []), given (2 ∷ 7 ∷ 1 ∷ 3 ∷ 4 ∷ 1 ∷ []))
    -- the sendings are of the probe that is asked for; calls for a probe and refused calls are none
    ∷ (sends 3 (asks ∷ gives Lost ∷ asks ∷ gives Lost ∷ gives Lost ∷ gives Lost ∷ returns ++ losses), given (3 ∷ 0 ∷ 3 ∷ 0 ∷ 3 ∷ 0 ∷ 2 ∷ 0 ∷ 2 ∷ 1 ∷ []))
    -- by them two losses count no probe, a return after them counts it, and three losses count theirs
    ∷ (counts 3 (gives Lost ∷ gives Lost ∷ []), given (0 ∷ []))
    ∷ (counts 3 (gives Lost ∷ gives Lost ∷ returns), given (1 ∷ []))
    ∷ (counts 3 (losses ++ gives Lost ∷ gives Lost ∷ []), given (1 ∷ []))
    ∷ (counts 3 (losses ++ losses ++ losses), given (3 ∷ []))
    -- a refused outcome is no packet
    ∷ (after 1 (returns ++ losses), given (1 ∷ 1 ∷ 2 ∷ []))
    ∷ (after 0 losses, given (0 ∷ 0 ∷ 2 ∷ []))
    -- "the sendings lost so far, 0 to 2, and any other value is refusal 14"; m does not depend on them
    ∷ (asking (Checking 3 2), given (3 ∷ []))
    ∷ (asking (Checking 3 3), refused 14)
    ∷ (asking (Halving 1 3 2), given (2 ∷ []))
    ∷ (asking (Halving 1 3 3), refused 14)
    ∷ (giving (Checking 3 255) Returned, refused 14)
    ∷ (giving (Halving 1 3 255) Lost, refused 14)
    -- 14 of more links than a plant can have, also of a search that has ended, before 15
    ∷ (asking (Checking 257 0), refused 14)
    ∷ (asking (Halving 1 257 0), refused 14)
    ∷ (asking (Down 257), refused 14)
    ∷ (asking (Down 0), refused 14)
    ∷ (asking (Down 3), refused 15)
    ∷ (giving AllUp Lost, refused 15)
    ∷ []

-- one test over each list
starred-right : map (λ r. r.0) starred ≡ map (λ r. r.1) starred
unfolding begun new_search ask give
starred-right = agreed (λ r. r.0) (λ r. r.1) starred refl

right : map (λ r. r.0) rows ≡ map (λ r. r.1) rows
unfolding begun new_search ask give count
right = agreed (λ r. r.0) (λ r. r.1) rows refl
