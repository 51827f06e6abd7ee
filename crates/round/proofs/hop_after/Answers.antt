-- The hop after an arc, by whether it leads and whether its link is entered.
use Rattle.std.proofs.Common.{◌≡◌, true, false, ℕ, ◌/◌, ap, ◌∙◌, arith}
use Rattle.lists.specs.Arrays.{flag, at}
use Rattle.limits.specs.Limits.{max_links}
use Rattle.round.specs.Inner.{or_back, hop_after}
use Rattle.round.proofs.Turning.{opposite-below}
use Rattle.round.proofs.hop_after.Goals as goal

pub bounds-t-back : goal.bounds-t-back
bounds-t-back c = omega (arith, c.opposite-back.ensures, opposite-below c.args.a max_links c.requires.a_bound)

pub returns-then-not-t-i : goal.returns-then-not-t-i
unfolding hop_after
returns-then-not-t-i c =
    let t = c.args.t.now in
    let up = c.args.up.now in
    let a = c.args.a in
    let e : flag t.leading a ≡ false = c.if-not-t-i.true in
    rw e (c.or_back.ensures ∙ ap (λ (b : ℕ). or_back t.labels (at t.chains.after b) (at up (at t.heads a))) c.opposite-back.ensures)

pub returns-then-t-i : goal.returns-then-t-i
unfolding hop_after
returns-then-t-i c =
    let t = c.args.t.now in
    let a = c.args.a in
    let e : flag t.leading a ≡ true = c.if-not-t-i.false in
    let f : flag t.entered (a / 2) ≡ true = c.if-t-i.true in
    rw (e, f) c.or_back-then-t-i.ensures

pub returns : goal.returns
unfolding hop_after
returns c =
    let t = c.args.t.now in
    let a = c.args.a in
    let e : flag t.leading a ≡ true = c.if-not-t-i.false in
    let f : flag t.entered (a / 2) ≡ false = c.if-t-i.false in
    rw (e, f) c.opposite-back.ensures
