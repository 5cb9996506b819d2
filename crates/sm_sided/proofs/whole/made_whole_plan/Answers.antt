-- The certificates show the goals, by how many facts were counted.
use Rattle.sm_sided.proofs.Imports.{◌≡◌, Ok, List, map, length, sym, ap, subst, ◌∙◌, length-map, Copy, sorted_outputs, of_copy, code_of, certificate_in, plan_in, obligations, nodes_of, sorts_in, trees_in, whole_certificates, NamesNoTerm, whole_plan, IsShown, KeepsNone, AllByRecursion}
use Rattle.sm_syntax.specs.trees.Programs.{declared_of, outputs_of}
use Rattle.sm_plan.specs.Plans.{Plan, Due}
use Rattle.sm_sided.proofs.WholeShown.{whole_shown}
use Rattle.sm_sided.proofs.WholeKept.{whole_keeps, whole_names_none}
use Rattle.sm_sided.proofs.whole.made_whole_plan.Goals as goal

pub returns-clause-shown : goal.returns-clause-shown
returns-clause-shown c = λ t has sorts trees.
    let program = λ (copy : Copy). code_of (of_copy c.args.programs.now copy) in
    let table = c.args.table.now in
    let all = sorted_outputs (declared_of c.args.decls.now) (outputs_of c.args.outputs.now) in
    let n = c.in_ok-n.n in
    let change = c.in-Some.change in
    let here : plan_in (sorts_in table) (trees_in table) c.in_ok-plan.plan ≡ whole_plan program =
    c.in_ok-plan.ensures.plan (sorts_in table) (trees_in table) in
    let there : plan_in sorts trees c.in_ok-plan.plan ≡ whole_plan program = c.in_ok-plan.ensures.plan sorts trees in
    let shown : IsShown sorts t (whole_plan program) (whole_certificates change n (length all)) =
    whole_shown sorts t _ all program change n has c.in-Some.ensures
    (λ (dues : List Due) (e : obligations t (whole_plan program) ≡ Ok dues).
    c.in_ok-n.ensures.count t has dues (ap (obligations t) here ∙ e)) in
    let counted : length all ≡ length c.args.outputs.now.list.items =
    length-map (outputs_of c.args.outputs.now) _ ∙ length-map c.args.outputs.now.list.items _ in
    let made : map (certificate_in trees) c.in_ok-trees.trees.list.items ≡ whole_certificates change n (length all) =
    c.in_ok-trees.ensures trees ∙ ap (whole_certificates change n) (sym counted) in
    subst (λ (p : Plan). IsShown sorts t p (map (certificate_in trees) c.in_ok-trees.trees.list.items)) (sym there)
    (subst (IsShown sorts t (whole_plan program)) (sym made) shown)

pub returns-clause-kept : goal.returns-clause-kept
returns-clause-kept c = λ sorts trees.
    let program = λ (copy : Copy). code_of (of_copy c.args.programs.now copy) in
    subst (λ (p : Plan). AllByRecursion KeepsNone (nodes_of p)) (sym (c.in_ok-plan.ensures.plan sorts trees)) (whole_keeps program)

pub returns-clause-unnamed : goal.returns-clause-unnamed
returns-clause-unnamed c = λ trees.
    subst (AllByRecursion NamesNoTerm) (sym (c.in_ok-trees.ensures trees))
    (whole_names_none c.in-Some.change c.in_ok-n.n (length c.args.outputs.now.list.items))

pub returns-clause-few : goal.returns-clause-few
returns-clause-few c = λ trees. (c.in-Some.change, c.in_ok-n.n, c.in_ok-n.ensures.few, c.in_ok-trees.ensures trees)
