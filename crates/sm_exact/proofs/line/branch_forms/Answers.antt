-- The forms over places are those of the branch.
use Rattle.sm_exact.proofs.Imports.{◌≡◌, Option, Some, None, Ok, Err, IfSome, IfNone, trees_in, sorts_in, forms_of_branch, SomeLacksPlace, ArePlacedForms}
use Rattle.std.proofs.Common.{Result, IfOk}
use Rattle.sm_exact.proofs.PlacedBranch.{forms_are, forms_none}
use Rattle.sm_exact.proofs.line.branch_forms.Goals as goal

-- what is said of a value that is there
some_weaker : {X Y : Type 0} (r : Result (Option X) Y) (P Q : X → Type 0) → ((x : X) → P x → Q x) →
    IfOk r (λ o. IfSome o P) → IfOk r (λ o. IfSome o Q)
some_weaker (Ok (Some x)) P Q weaker holds = weaker x holds
some_weaker (Ok None) P Q weaker holds = tt
some_weaker (Err y) P Q weaker holds = tt

-- what is said where there is none
none_weaker : {X Y : Type 0} (r : Result (Option X) Y) (A B : Type 0) → (A → B) →
    IfOk r (λ o. IfNone o A) → IfOk r (λ o. IfNone o B)
none_weaker (Ok (Some x)) A B weaker holds = tt
none_weaker (Ok None) A B weaker holds = weaker holds
none_weaker (Err y) A B weaker holds = tt

pub returns-clause-some : goal.returns-clause-some
returns-clause-some c = λ facts stand.
    let trees = trees_in c.args.table.now in
    let sorts = sorts_in c.args.table.now in
    let items = c.args.branch.now.list.items in
    let numbers = c.in_ok-terms.terms in
    some_weaker c.placed_forms.result (λ fs. ArePlacedForms numbers items fs.items) (λ fs. forms_of_branch facts ≡ Some fs.items)
    (λ fs placed. forms_are trees numbers c.len-count.ensures.apart c.in_ok-terms.ensures.below sorts items facts
    c.in_ok-terms.ensures.terms stand fs.items placed)
    c.placed_forms.ensures.some

pub returns-clause-none : goal.returns-clause-none
returns-clause-none c = λ facts stand.
    let trees = trees_in c.args.table.now in
    let sorts = sorts_in c.args.table.now in
    let items = c.args.branch.now.list.items in
    let numbers = c.in_ok-terms.terms in
    none_weaker c.placed_forms.result (SomeLacksPlace numbers items) (forms_of_branch facts ≡ None)
    (λ lacks. forms_none trees numbers c.len-count.ensures.apart c.in_ok-terms.ensures.below sorts items facts c.in_ok-terms.ensures.terms
    stand lacks)
    c.placed_forms.ensures.none
