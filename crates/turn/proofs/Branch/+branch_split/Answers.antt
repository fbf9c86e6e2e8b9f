-- `turn::Branch::search` and `turn::Branch::split`, which call each other, meet their contracts: a branch is empty, holds the taken
-- settings alone, or turns on some settings; one of these is taken, or it is left.
use mathlib.Core.Path.{refl}
use Prim.Native.Nat.{ℕ}
use native.Mathlib.Omega.{arith}
use Rattle.std.proofs.lemmas.Result.{err_from_is_err_and}
use Rattle.sets.specs.Sets.{only}
use Rattle.setups.specs.Limits.{settings_most}
use Rattle.sets.proofs.Single.{only_lone}
use Rattle.turn.proofs.Branches.{own_empty, lost_empty, hit_one, wants_turns}
use Rattle.turn.proofs.Growth.{added_none, grown_one}
use Rattle.turn.proofs.Splitting.{Parts, fewer_left, leave_turns, take_ready, take_over, take_last, leave_ready, take_and_leave}
use Rattle.turn.proofs.Branch.+branch_split.Goals as goal
use Rattle.turn.proofs.Branch.+branch_split.Goals.{split-After-with}

-- ---- search

pub search-returns-then-own-self : goal.search-returns-then-own-self
search-returns-then-own-self t c = added_none c.requires (own_empty c.own.result c.own.ensures c.if-own-self.true)

pub search-returns-in-Nothing : goal.search-returns-in-Nothing
search-returns-in-Nothing t c =
    grown_one c.requires _ c.insert.result (hit_one c.own.result c.own.ensures c.if-own-self.false c.in-Nothing.ensures) c.insert.ensures

pub search-insert-requires : goal.search-insert-requires
search-insert-requires t c =
    let taken = c.args.self.taken in
    λ h. c.requires.fresh taken h ((hit_one c.own.result c.own.ensures c.if-own-self.false c.in-Nothing.ensures taken).1 refl)

pub search-returns-in-Hopeless : goal.search-returns-in-Hopeless
search-returns-in-Hopeless t c = added_none c.requires (lost_empty c.in-Hopeless.ensures)

pub search-split-requires : goal.search-split-requires
search-split-requires t c = let wants = c.in-Wants.ensures in (omega arith, (wants_turns wants.0 wants.1, c.requires))

-- ---- split

-- the two parts, once the setting is chosen
parts : (t : ℕ) (c : split-After-with t) →
    (let a = c.args in
    Parts a.self.members.now a.self.taken a.self.left a.wanted (only settings_most c.choose-setting.result.0) c.with.result c.without.result)
parts t c = record {
  turns = c.requires.turns_on;
  chosen = c.choose-setting.ensures;
  lone = only_lone settings_most c.choose-setting.result.0;
  joins = c.with.ensures;
  leaves = c.without.ensures;
}

pub split-search-requires : goal.split-search-requires
split-search-requires t c =
    let p = parts t (goal.at.split-search-requires t c).After-with in
    let less = fewer_left p in
    (omega arith, take_ready p c.requires.ready)

pub split-returns-in_err-search : goal.split-returns-in_err-search
split-returns-in_err-search t c =
    let p = parts t (goal.at.split-returns-in_err-search t c).After-with in
    let refused = err_from_is_err_and c.from_residual.result c.from_residual.ensures.1 in
    rw (refused.1, refused.2) (c.in_err-search.ensures.0, take_over p c.requires.ready c.in_err-search.ensures.1)

pub split-returns-then-still_wanted-eq-EMPTY : goal.split-returns-then-still_wanted-eq-EMPTY
split-returns-then-still_wanted-eq-EMPTY t c =
    let still = c.without-still_wanted in
    take_last (parts t (goal.at.split-returns-then-still_wanted-eq-EMPTY t c).After-with) c.requires.ready c.in_ok-search.ensures still.result still.ensures
    c.if-still_wanted-eq-EMPTY.true

pub split-split-requires : goal.split-split-requires
split-split-requires t c =
    let p = parts t (goal.at.split-split-requires t c).After-with in
    let less = fewer_left p in
    let still = c.without-still_wanted in
    (omega arith, (leave_turns p still.result still.ensures c.if-still_wanted-eq-EMPTY.false, leave_ready p c.requires.ready c.in_ok-search.ensures))

pub split-returns : goal.split-returns
split-returns t c =
    take_and_leave (parts t (goal.at.split-returns t c).After-with) c.requires.ready c.in_ok-search.ensures _ c.split.result c.split.ensures
