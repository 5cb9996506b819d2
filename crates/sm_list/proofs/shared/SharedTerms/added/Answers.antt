-- The terms of the formula go behind the others, which keep their numbers.
use Rattle.sm_list.proofs.Imports.{◌≡◌, ◌++◌, List, [], sym, ap, ◌∙◌, subst, Tree, numbered, assertion_in, trees_in, sorts_in, with_formula, trees_at, AreBuilt, ArePlaced, with_those_before}
use Rattle.sm_list.proofs.BuiltLemmas.{FormulaAmong}
use Rattle.sm_list.proofs.SharedLemmas.{added, moved, placed_grown}
use Rattle.sm_list.proofs.shared.SharedTerms.added.Goals as goal

pub put_rest-requires-clause-built : goal.put_rest-requires-clause-built
put_rest-requires-clause-built c =
    let old = c.args.table.now in
    let trees = trees_in c.list_reads.new.table in
    let form = assertion_in (sorts_in old) (trees_in old) (numbered c.args.f.now) in
    let shared = c.requires.shared.1 in
    let all : trees_at trees c.list_reads.new.listed ≡ with_those_before (with_formula form c.requires.shared.0) =
    c.in_ok-list_reads.ensures.terms
    ∙ ap with_those_before (c.in_ok-list_formula.ensures.terms ∙ ap (with_formula form) shared.listed) in
    subst (AreBuilt []) (sym (ap (trees_at trees) c.as_slice.ensures.values ∙ all))
    (added form c.requires.shared.0 shared.built shared.closed).behind.built

pub put_rest-requires-clause-first : goal.put_rest-requires-clause-first
put_rest-requires-clause-first c =
    let old = c.args.table.now in
    let trees = trees_in c.list_reads.new.table in
    let form = assertion_in (sorts_in old) (trees_in old) (numbered c.args.f.now) in
    let shared = c.requires.shared.1 in
    let all : trees_at trees c.list_reads.new.listed ≡ with_those_before (with_formula form c.requires.shared.0) =
    c.in_ok-list_reads.ensures.terms
    ∙ ap with_those_before (c.in_ok-list_formula.ensures.terms ∙ ap (with_formula form) shared.listed) in
    let behind = (added form c.requires.shared.0 shared.built shared.closed).behind in (
      behind.more,
      ap (trees_at trees) c.as_slice.ensures.values ∙ all ∙ behind.is ∙ ap (λ (ts : List Tree). ts ++ behind.more) (sym shared.own),
    )

pub put_rest-requires-clause-placed : goal.put_rest-requires-clause-placed
put_rest-requires-clause-placed c =
    let old = trees_in c.args.table.now in
    let own = c.args.self.now.own in
    let numbers = c.args.self.now.numbers.items in
    let shared = c.requires.shared.1 in
    placed_grown old (trees_in c.list_reads.new.table) (trees_in own) numbers c.args.self.now.listed
    c.list_reads.ensures.grows.trees c.len-count.ensures.apart shared.below (shared.listed ∙ sym shared.own)
    (subst (λ (ts : List Tree). ArePlaced old ts numbers) (sym shared.own) shared.placed)

pub returns-clause-added : goal.returns-clause-added
returns-clause-added c = λ terms shared.
    let old = c.args.table.now in
    let trees = trees_in c.list_reads.new.table in
    let form = assertion_in (sorts_in old) (trees_in old) (numbered c.args.f.now) in
    let all : trees_at trees c.list_reads.new.listed ≡ with_those_before (with_formula form terms) =
    c.in_ok-list_reads.ensures.terms
    ∙ ap with_those_before (c.in_ok-list_formula.ensures.terms ∙ ap (with_formula form) shared.listed) in
    let behind = (added form terms shared.built shared.closed).behind in
    let own = c.in_ok-put_rest.ensures.trees ∙ ap (trees_at trees) c.as_slice.ensures.values ∙ all in
    record {
      sorts = c.in_ok-put_rest.ensures.sorts;
      codes = c.in_ok-put_rest.ensures.codes;
      own = own;
      listed = all;
      below = c.in_ok-list_reads.ensures.listed;
      closed = behind.closed;
      built = behind.built;
      count = c.in_ok-put_rest.ensures.count;
      placed =
          subst (λ (ts : List Tree). ArePlaced trees ts c.put_rest.new.numbers.items) own c.in_ok-put_rest.ensures.placed;
    }

pub returns-clause-formula : goal.returns-clause-formula
returns-clause-formula c =
    let old = c.args.table.now in
    let trees = trees_in c.list_reads.new.table in
    let f = numbered c.args.f.now in
    let form = assertion_in (sorts_in old) (trees_in old) f in
    let shared = c.requires.shared.1 in
    let own = trees_in c.put_rest.new.own in
    let all : own ≡ with_those_before (with_formula form c.requires.shared.0) =
    c.in_ok-put_rest.ensures.trees ∙ ap (trees_at trees) c.as_slice.ensures.values ∙ c.in_ok-list_reads.ensures.terms
    ∙ ap with_those_before (c.in_ok-list_formula.ensures.terms ∙ ap (with_formula form) shared.listed) in
    let among : FormulaAmong own form =
    subst (λ (ts : List Tree). FormulaAmong ts form) (sym all) (added form c.requires.shared.0 shared.built shared.closed).among in
    (moved old c.list_reads.new.table c.list_reads.ensures.grows f (numbered c.in_ok-g.g) c.requires.within own
    c.put_rest.new.numbers.items c.deref.result.now c.in_ok-put_rest.ensures.placed among c.deref.ensures.value c.in_ok-g.ensures).same

pub returns-clause-inside : goal.returns-clause-inside
returns-clause-inside c =
    let old = c.args.table.now in
    let trees = trees_in c.list_reads.new.table in
    let f = numbered c.args.f.now in
    let form = assertion_in (sorts_in old) (trees_in old) f in
    let shared = c.requires.shared.1 in
    let own = trees_in c.put_rest.new.own in
    let all : own ≡ with_those_before (with_formula form c.requires.shared.0) =
    c.in_ok-put_rest.ensures.trees ∙ ap (trees_at trees) c.as_slice.ensures.values ∙ c.in_ok-list_reads.ensures.terms
    ∙ ap with_those_before (c.in_ok-list_formula.ensures.terms ∙ ap (with_formula form) shared.listed) in
    let among : FormulaAmong own form =
    subst (λ (ts : List Tree). FormulaAmong ts form) (sym all) (added form c.requires.shared.0 shared.built shared.closed).among in
    (moved old c.list_reads.new.table c.list_reads.ensures.grows f (numbered c.in_ok-g.g) c.requires.within own
    c.put_rest.new.numbers.items c.deref.result.now c.in_ok-put_rest.ensures.placed among c.deref.ensures.value c.in_ok-g.ensures).within
