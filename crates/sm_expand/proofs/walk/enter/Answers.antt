-- The facts that are shared, and then the state's own.
use Rattle.sm_expand.proofs.Imports.{◌≡◌, List, ◌++◌, take, sym, ap, ◌∙◌, subst, append_assoc, on_ok_weaker, Assertion, AreFormsReady, forms_in}
use Rattle.sm_expand.proofs.FormsLemmas.{forms_front, ready_front}
use Rattle.sm_expand.proofs.walk.enter.Goals as goal

pub returns-clause-path : goal.returns-clause-path
returns-clause-path c = λ sorts trees.
    let old = c.args.path.now.list.items in
    let kept = forms_in sorts trees c.args.kept.now.list.items in
    let more = forms_in sorts trees c.args.more.now.list.items in
    let front = take c.args.shared (forms_in sorts trees old) in
    let cut : forms_in sorts trees c.truncate.new.self.items ≡ front =
    ap (forms_in sorts trees) c.truncate.ensures.items ∙ forms_front sorts trees c.args.shared old in
    let all : forms_in sorts trees c.add_forms.new.path.list.items ++ more ≡ front ++ (kept ++ more) =
    ap (λ (l : List Assertion). l ++ more) (c.in_ok-add_forms.ensures.added sorts trees ∙ ap (λ (l : List Assertion). l ++ kept) cut)
    ∙ append_assoc front kept more in
    on_ok_weaker c.add_forms-2.result (λ e. e ∙ all) (c.add_forms-2.ensures.added sorts trees)

pub returns-clause-ready : goal.returns-clause-ready
returns-clause-ready c = λ sorts trees path kept more.
    let front = subst (AreFormsReady sorts trees) (sym c.truncate.ensures.items)
    (ready_front sorts trees c.args.shared c.args.path.now.list.items path) in
    c.add_forms-2.ensures.ready sorts trees (c.in_ok-add_forms.ensures.ready sorts trees front kept) more
