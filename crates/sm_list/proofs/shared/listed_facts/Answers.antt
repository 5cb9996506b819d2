-- The terms of the facts are the table's, which has grown, so each fact is the same there.
use Rattle.sm_list.proofs.Imports.{◌≡◌, ◌++◌, ◌≤◌, true, false, List, [], length, sym, ap, ◌∙◌, subst, arith, Sorts, Tree, trees_in, sorts_in, TermId, terms_of, trees_at, AreBuilt, ArePlaced, all_numbered, assertions_in}
use Rattle.sm_list.proofs.OwnLemmas.{facts_grown, facts_within_grown}
use Rattle.sm_list.proofs.SharedLemmas.{all_moved, all_behind}
use Rattle.sm_list.proofs.shared.listed_facts.Goals as goal

pub list_terms-requires-clause-none : goal.list_terms-requires-clause-none
list_terms-requires-clause-none c = c.in_ok-terms.ensures.listed

pub put_rest-requires-clause-built : goal.put_rest-requires-clause-built
put_rest-requires-clause-built c =
    let old = c.args.table.now in
    let all = assertions_in (sorts_in old) (trees_in old) (all_numbered c.args.facts.now) in
    subst (AreBuilt []) (sym (ap (trees_at (trees_in c.list_terms.new.table)) c.as_slice.ensures.values ∙ c.in_ok-list_terms.ensures.terms))
    (all_behind all).built

pub put_rest-requires-clause-first : goal.put_rest-requires-clause-first
put_rest-requires-clause-first c =
    let all = trees_at (trees_in c.list_terms.new.table) c.as_slice.result.now in
    (all, ap (λ (ts : List Tree). ts ++ all) (sym c.in_ok-terms.ensures.own))

pub put_rest-requires-clause-sorts : goal.put_rest-requires-clause-sorts
put_rest-requires-clause-sorts c = c.in_ok-terms.ensures.sorts ∙ sym c.list_terms.ensures.grows.sorts

pub put_rest-requires-clause-codes : goal.put_rest-requires-clause-codes
put_rest-requires-clause-codes c = c.in_ok-terms.ensures.codes ∙ sym c.list_terms.ensures.grows.codes

pub put_rest-requires-clause-count : goal.put_rest-requires-clause-count
put_rest-requires-clause-count c =
    subst (λ (ns : List TermId). length ns ≤ length (trees_in c.list_terms.new.table)) (sym c.in_ok-terms.ensures.numbers) (omega arith)

pub put_rest-requires-clause-placed : goal.put_rest-requires-clause-placed
put_rest-requires-clause-placed c =
    subst (λ (ts : List Tree). ArePlaced (trees_in c.list_terms.new.table) ts c.in_ok-terms.terms.numbers.items)
    (sym c.in_ok-terms.ensures.own) (λ n below among. let never : false ≡ true = among in absurd cc)

pub returns-clause-terms : goal.returns-clause-terms
returns-clause-terms c =
    let old = c.args.table.now in
    let trees = trees_in c.list_terms.new.table in
    let all = assertions_in (sorts_in old) (trees_in old) (all_numbered c.args.facts.now) in
    let behind = all_behind all in
    let own = c.in_ok-put_rest.ensures.trees ∙ ap (trees_at trees) c.as_slice.ensures.values ∙ c.in_ok-list_terms.ensures.terms in
    record {
      sorts = c.in_ok-put_rest.ensures.sorts;
      codes = c.in_ok-put_rest.ensures.codes;
      own = own;
      listed = c.in_ok-list_terms.ensures.terms;
      below = c.in_ok-list_terms.ensures.below;
      closed = behind.closed;
      built = behind.built;
      count = c.in_ok-put_rest.ensures.count;
      placed = subst (λ (ts : List Tree). ArePlaced trees ts c.put_rest.new.numbers.items) own c.in_ok-put_rest.ensures.placed;
    }

pub returns-clause-facts : goal.returns-clause-facts
returns-clause-facts c =
    let old = c.args.table.now in
    let new = c.list_terms.new.table in
    let grows = c.list_terms.ensures.grows in
    let facts = all_numbered c.args.facts.now in
    let same = facts_grown old new grows facts c.requires in
    let own = c.in_ok-put_rest.ensures.trees ∙ ap (trees_at (trees_in new)) c.as_slice.ensures.values ∙ c.in_ok-list_terms.ensures.terms
    ∙ ap terms_of (sym same) in
    let moved = all_moved (sorts_in new) (trees_in new) (trees_in c.put_rest.new.own) facts (all_numbered c.in_ok-facts.facts.items)
    (facts_within_grown old new grows facts c.requires) c.put_rest.new.numbers.items c.deref.result.now c.in_ok-put_rest.ensures.placed own
    c.deref.ensures.value c.in_ok-facts.ensures in
    ap (λ (s : Sorts). assertions_in s (trees_in c.put_rest.new.own) (all_numbered c.in_ok-facts.facts.items)) (sym grows.sorts)
    ∙ moved.same ∙ same

pub returns-clause-within : goal.returns-clause-within
returns-clause-within c =
    let old = c.args.table.now in
    let new = c.list_terms.new.table in
    let grows = c.list_terms.ensures.grows in
    let facts = all_numbered c.args.facts.now in
    let same = facts_grown old new grows facts c.requires in
    let own = c.in_ok-put_rest.ensures.trees ∙ ap (trees_at (trees_in new)) c.as_slice.ensures.values ∙ c.in_ok-list_terms.ensures.terms
    ∙ ap terms_of (sym same) in
    (all_moved (sorts_in new) (trees_in new) (trees_in c.put_rest.new.own) facts (all_numbered c.in_ok-facts.facts.items)
    (facts_within_grown old new grows facts c.requires) c.put_rest.new.numbers.items c.deref.result.now c.in_ok-put_rest.ensures.placed own
    c.deref.ensures.value c.in_ok-facts.ensures).within
