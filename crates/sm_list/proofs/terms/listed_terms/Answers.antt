use Rattle.sm_list.proofs.Imports.{◌≡◌, ap, ◌∙◌, IfOk-weaker, trees_in, sorts_in, terms_of, all_numbered, assertions_in, trees_at, numbers_of}
use Rattle.sm_list.proofs.terms.listed_terms.Goals as goal

pub returns-clause-terms : goal.returns-clause-terms
returns-clause-terms c =
    let old = trees_in c.args.table.now in
    let all = terms_of (assertions_in (sorts_in c.args.table.now) old (all_numbered c.args.facts.now)) in
    let trees = trees_in c.list_terms.new.table in
    IfOk-weaker c.numbered_terms.result (λ ts. numbers_of ts.list.items ≡ c.as_slice.result.now)
    (λ ts. trees_at trees (numbers_of ts.list.items) ≡ all)
    (λ ts is. ap (trees_at trees) (is ∙ c.as_slice.ensures.values) ∙ c.in_ok-list_terms.ensures.terms) c.numbered_terms.ensures
