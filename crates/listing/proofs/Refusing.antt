-- Every refusal of a reading is one of 1 to 8. Assumes nothing.
use mathlib.Core.Path.{◌≡◌}
use mathlib.Core.List.{List, [], ◌++◌}
use Prim.Native.Nat.{ℕ, zero, suc, ◌≤◌}
use native.Mathlib.Omega.{arith}
use Rattle.plant.specs.declared.Link.{Link}
use Rattle.plant.specs.Links.{zero_link}
use Rattle.answers.specs.Answers.{refused}
use Rattle.answers.specs.Checks.{Conditions, answer}
use Rattle.answers.proofs.Checks.{refused-exactly, EachNumber, each_append, first-number}
use Rattle.codec.specs.Part.{part}
use Rattle.listing.specs.Listing.{header, sound_link, link, links, linked, ended, reading}

abbrev OneToEight : ℕ → Type 0
OneToEight n = (1 ≤ n) × (n ≤ 8)

-- one list of conditions after the other
both : (cs ds : Conditions) → EachNumber OneToEight cs → EachNumber OneToEight ds → EachNumber OneToEight (cs ++ ds)
both = each_append OneToEight

links-numbers : (switches n : ℕ) (before : Link) (s : List ℕ) → EachNumber OneToEight (links switches n before s).checks
unfolding links link sound_link part
links-numbers switches zero before s = tt
links-numbers switches (suc n) before s =
    let r = (link switches before s).result in
    let more = (links switches n r.0 r.1).checks in
    both (link switches before s).checks (more ++ []) (omega arith) (both more [] (links-numbers switches n r.0 r.1) tt)

pub refusal-numbers : (s : List ℕ) (n : ℕ) → answer (reading s) ≡ refused n → (1 ≤ n) × (n ≤ 8)
unfolding reading header part linked ended
refusal-numbers s n e =
    let h = (header s).result in
    let cs = (links h.0.switches h.0.count zero_link h.1).checks in
    let l = linked h.0 h.1 in
    first-number OneToEight (reading s).checks n
    (both ((header s).checks ++ l.checks) (ended l.result.0 l.result.1).checks (both (header s).checks l.checks (omega arith) (both cs [] (links-numbers h.0.switches h.0.count zero_link h.1) tt)) (omega arith))
    ((refused-exactly (reading s).checks (reading s).result n).0 e)
