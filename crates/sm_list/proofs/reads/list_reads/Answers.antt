-- One round more, until none brings anything.
use Rattle.sm_list.proofs.Imports.{◌≡◌, ◌<◌, ◌≤◌, ℕ, suc, List, length, take, drop, sym, ap, subst, ◌∙◌, arith, length-map, Tree, trees_in, tree_at, grows-twice, with_reads, with_all_reads, trees_at}
use Rattle.sm_list.proofs.ReadsLemmas.{AllRead, IsSettled, rank_of, round_from, rounds_next, rounds_end, settled_past}
use Rattle.sm_list.proofs.reads.list_reads.Goals as goal

pub loop-from-smaller : goal.loop-from-smaller
loop-from-smaller c =
    let seen = trees_at (trees_in c.loop-from.table) c.loop-from.listed in
    let new = trees_at (trees_in c.list_round.new.table) c.list_round.new.listed in
    let long = length-map c.loop-from.listed (tree_at (trees_in c.loop-from.table)) in
    let inside : c.loop-from.from < length seen = omega arith in
    let end : length seen ≡ c.len-end.result = omega arith in
    let round = round_from seen c.loop-from.from new inside c.loop-from.invariant.done c.in_ok-list_round.ensures.terms in
    subst (λ (n : ℕ). rank_of (drop n new) < rank_of (drop c.loop-from.from seen)) end round.less

pub loop-from-preserved : goal.loop-from-preserved
loop-from-preserved c =
    let first = trees_at (trees_in c.args.table.now) c.args.listed.now in
    let seen = trees_at (trees_in c.loop-from.table) c.loop-from.listed in
    let new = trees_at (trees_in c.list_round.new.table) c.list_round.new.listed in
    let long = length-map c.loop-from.listed (tree_at (trees_in c.loop-from.table)) in
    let after = length-map c.list_round.new.listed (tree_at (trees_in c.list_round.new.table)) in
    let inside : c.loop-from.from < length seen = omega arith in
    let end : length seen ≡ c.len-end.result = omega arith in
    let round = round_from seen c.loop-from.from new inside c.loop-from.invariant.done c.in_ok-list_round.ensures.terms in
    let r = c.loop-from.invariant.rounds.0 in
    let made : seen ≡ with_all_reads r first = c.loop-from.invariant.rounds.1 in
    let longer = round.longer in
    record {
      inside = omega arith;
      listed = c.in_ok-list_round.ensures.listed;
      grows = grows-twice c.args.table.now c.loop-from.table c.list_round.new.table c.loop-from.invariant.grows c.list_round.ensures.grows;
      rounds = (suc r, round.all ∙ ap (λ (us : List Tree). with_reads us us) made ∙ sym (rounds_next r first));
      done = subst (λ (n : ℕ). AllRead new (take n new)) end round.done;
    }

pub returns-clause-terms : goal.returns-clause-terms
returns-clause-terms c =
    let first = trees_at (trees_in c.args.table.now) c.args.listed.now in
    let seen = trees_at (trees_in c.loop-from.table) c.loop-from.listed in
    let long = length-map c.loop-from.listed (tree_at (trees_in c.loop-from.table)) in
    let past : length seen ≤ c.loop-from.from = omega arith in
    let r = c.loop-from.invariant.rounds.0 in
    let made : seen ≡ with_all_reads r first = c.loop-from.invariant.rounds.1 in
    let settled = settled_past seen c.loop-from.from past c.loop-from.invariant.done in
    made ∙ rounds_end r first c.requires.closed (subst IsSettled made settled)
