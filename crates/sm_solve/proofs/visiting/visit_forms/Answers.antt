use Rattle.sm_solve.proofs.Imports.{◌≡◌, ℕ, length, IfOk, sym, subst, trees_in, sorts_in, are_apart, are_equal, setting_of, ByForms, branch_of, Seen, split_of, all_numbered, assertions_in, TellsForms, seen_in, Walked, by_forms, forms_of, by_no_split, by_parts, TellsVisit}
use Rattle.sm_solve.proofs.visiting.visit_forms.Goals as goal

pub returns-in-GoesOn-clause-tells : goal.returns-in-GoesOn-clause-tells
returns-in-GoesOn-clause-tells c = λ go.
    let table = c.args.cx.now.table.now in
    let sorts = sorts_in table in
    let trees = trees_in table in
    let facts = c.args.facts.now in
    let all = assertions_in sorts trees (all_numbered facts) in
    let b = branch_of table facts in
    let equal = are_equal (setting_of c.args.classes.now) in
    let s : Seen = seen_in sorts trees trees facts equal (are_apart (setting_of c.args.classes.now) equal) in
    let next : ℕ → Walked = by_parts go (by_no_split c.args.cx.now.reach b) all (split_of b) in
    let came : Seen → Walked = λ (v : Seen). by_forms c.args.cx.now.reach.steps c.args.count (length trees) (forms_of v) next in
    let told : came s ≡ next c.in-GoesOn.at =
    subst (λ (r : ByForms). TellsForms r (came s) next) c.in-GoesOn.is (c.in_ok-at.ensures.forms next) in
    let whole : came b ≡ next c.in-GoesOn.at = subst (λ (v : Seen). came v ≡ next c.in-GoesOn.at) c.requires.seen told in
    subst (λ (w : Walked). IfOk c.visit_split.result (λ v. TellsVisit sorts trees all go v w)) (sym whole) (c.visit_split.ensures.tells go)
