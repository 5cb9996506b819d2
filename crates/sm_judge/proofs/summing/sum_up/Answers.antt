-- The last sum stands behind the forms and the sums before it.
use Rattle.sm_judge.proofs.Imports.{◌+◌, ◌-◌, subst, arith, events, Walked, TooFar, eliminated_by, TellsSums, ShowsSums}
use Rattle.std.proofs.Common.{ℕ}
use Rattle.sm_judge.specs.declared.summing.SumsEnd.{SumsEnd}
use Rattle.sm_judge.proofs.MakingLemmas.{sources_many}
use Rattle.sm_judge.proofs.summing.sum_up.Goals as goal

pub overflow_sub-bad : goal.overflow_sub-bad
overflow_sub-bad c =
    let shows = subst (ShowsSums c.args.forms.list.items c.end_of_sums.new.elims.items) c.in-Contradiction.is c.in_ok-count.ensures.sums in
    let some = shows.0 in
    omega arith

pub returns-in-Contradiction-clause-why : goal.returns-in-Contradiction-clause-why
returns-in-Contradiction-clause-why c = λ b sources.
    let shows = subst (ShowsSums c.args.forms.list.items c.end_of_sums.new.elims.items) c.in-Contradiction.is c.in_ok-count.ensures.sums in
    let some = shows.0 in
    let many = sources_many b c.args.sources.items c.args.forms.list.items sources in
    record {
      forms = c.args.forms.list.items;
      sources = sources;
      contradict = shows.1 (c.len.result + c.len-in-Contradiction.result - 1) (omega arith);
    }

pub returns-in-Contradiction-clause-counted : goal.returns-in-Contradiction-clause-counted
returns-in-Contradiction-clause-counted c =
    let next : ℕ → Walked = λ (n : ℕ). TooFar in
    let steps = c.args.so_far.steps in
    let told = subst (λ (e : SumsEnd).
    TellsSums e steps (eliminated_by steps c.args.so_far.count (events c.args.forms.list.items c.args.atoms) next) next) c.in-Contradiction.is
    (c.in_ok-count.ensures.tells next) in
    told.1

pub returns-in-GoesOn-clause-counted : goal.returns-in-GoesOn-clause-counted
returns-in-GoesOn-clause-counted c =
    let next : ℕ → Walked = λ (n : ℕ). TooFar in
    let steps = c.args.so_far.steps in
    let told = subst (λ (e : SumsEnd).
    TellsSums e steps (eliminated_by steps c.args.so_far.count (events c.args.forms.list.items c.args.atoms) next) next) c.in-GoesOn.is
    (c.in_ok-count.ensures.tells next) in
    told.1
