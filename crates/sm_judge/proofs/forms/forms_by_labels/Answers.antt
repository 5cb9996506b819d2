-- The forms of the items are those of the branch.
use Rattle.sm_judge.proofs.Imports.{◌≡◌, List, ap, ◌∙◌, rules, Linear, trees_in, sorts_in, linear_forms, Two, places_of, held, seen_in}
use Rattle.std.proofs.Common.{ℕ}
use Rattle.sm_judge.proofs.GivenFormsLemmas.{forms_given, classes_explained, facts_explained, error_given}
use Rattle.sm_judge.proofs.LinearsLemmas.{all_forms_are}
use Rattle.sm_judge.proofs.forms.forms_by_labels.Goals as goal

pub returns-in_err-made : goal.returns-in_err-made
returns-in_err-made c = λ equal apart labels.
    let sorts = sorts_in c.args.table.now in
    let trees = trees_in c.args.table.now in
    let facts = c.args.facts.now in
    let fs : List (Linear ℕ) = c.args.forms.now in
    let fs_are : fs ≡ linear_forms trees = all_forms_are trees fs c.len-count.ensures.apart c.terms_have_places.ensures c.requires.forms in
    let pairs : List Two = c.deref.result.now in
    let are = ap places_of c.deref.ensures.value ∙ c.in_ok-pairs.ensures.pairs equal labels.tell in
    let e = c.in_err-made.field-0.0 in
    error_given (seen_in sorts trees trees facts equal apart) c.from_residual-in_err-made.result e (search rules)
    (classes_explained sorts trees facts equal apart c.len-count.ensures.apart fs fs_are pairs are c.requires.facts e
    c.in_err-made.ensures)

pub returns-in_err-add_fact_forms : goal.returns-in_err-add_fact_forms
returns-in_err-add_fact_forms c = λ equal apart labels.
    let sorts = sorts_in c.args.table.now in
    let trees = trees_in c.args.table.now in
    let facts = c.args.facts.now in
    let fs : List (Linear ℕ) = c.args.forms.now in
    let fs_are : fs ≡ linear_forms trees = all_forms_are trees fs c.len-count.ensures.apart c.terms_have_places.ensures c.requires.forms in
    let pairs : List Two = c.deref.result.now in
    let are = ap places_of c.deref.ensures.value ∙ c.in_ok-pairs.ensures.pairs equal labels.tell in
    let e = c.in_err-add_fact_forms.field-0.0 in
    error_given (seen_in sorts trees trees facts equal apart) c.from_residual-in_err-add_fact_forms.result e (search rules)
    (facts_explained sorts trees facts equal apart c.len-count.ensures.apart fs fs_are pairs are c.requires.facts
    (held c.in_ok-made.made) e c.in_ok-made.ensures c.in_err-add_fact_forms.ensures.err)

pub returns : goal.returns
returns c = λ equal apart labels.
    let sorts = sorts_in c.args.table.now in
    let trees = trees_in c.args.table.now in
    let facts = c.args.facts.now in
    let fs : List (Linear ℕ) = c.args.forms.now in
    let fs_are : fs ≡ linear_forms trees = all_forms_are trees fs c.len-count.ensures.apart c.terms_have_places.ensures c.requires.forms in
    let pairs : List Two = c.deref.result.now in
    let are = ap places_of c.deref.ensures.value ∙ c.in_ok-pairs.ensures.pairs equal labels.tell in
    forms_given sorts trees facts equal apart c.len-count.ensures.apart fs fs_are pairs are c.requires.facts
    (held c.in_ok-made.made) (held c.add_fact_forms.new.made) c.in_ok-made.ensures c.in_ok-add_fact_forms.ensures.ok
