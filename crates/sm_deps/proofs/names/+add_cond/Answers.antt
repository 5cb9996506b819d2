use Rattle.sm_deps.proofs.Imports.{◌≡◌, ℕ, Bool, ap, ◌∙◌, ⊎_elim, expression_of, condition_of, Cond, mentions, tests, members, either}
use Rattle.sm_syntax.specs.declared.tree.Cond.{And, Or}
use Rattle.sm_deps.proofs.MembersLemmas.{tests-Compare, tests-And, tests-Or, added_two, on_ok}
use Rattle.sm_deps.proofs.names.+add_cond.Goals as goal

-- the names of the two sides
pub returns-in_ok-add_expr-in-Cmp : goal.returns-in_ok-add_expr-in-Cmp
returns-in_ok-add_expr-in-Cmp t c =
    let d = expression_of c.in-Cmp.d in
    let e = expression_of c.in-Cmp.e in
    on_ok c.add_expr-in-Cmp.result c.add_expr-in-Cmp.ensures
    (added_two (members c.args.names.now) (members c.add_expr.new.names) (members c.add_expr-in-Cmp.new.names) (mentions d) (mentions e)
    (tests (condition_of c.args.c.now))
    (c.in_ok-add_expr-in-Cmp.ensures)
    (ap (λ (b : Cond). tests (condition_of b)) c.in-Cmp.is ∙ tests-Compare c.in-Cmp.field-0 d e))

-- the names of the two parts, whichever connective it is
pub returns-in_ok-add_cond-in-And : goal.returns-in_ok-add_cond-in-And
returns-in_ok-add_cond-in-And t c =
    let b = c.in-And.b in
    let d = c.in-And.d in
    let names : Cond → ℕ → Bool = λ (e : Cond). tests (condition_of e) in
    let start = members c.args.names.now in
    let one = members c.add_cond-in-And.new.names in
    let parts : names c.args.c.now ≡ either (names b.value) (names d.value) =
    ⊎_elim (λ (is : c.args.c.now ≡ And b d). ap names is ∙ tests-And (condition_of b.value) (condition_of d.value))
    (λ (is : c.args.c.now ≡ Or b d). ap names is ∙ tests-Or (condition_of b.value) (condition_of d.value))
    c.in-And.is in
    let first : one ≡ either start (names b.value) =
    c.in_ok-add_cond-in-And.ensures ∙ ap (λ (e : Cond). either start (names e)) c.deref-in-And.ensures in
    on_ok c.add_cond-in-And-2.result c.add_cond-in-And-2.ensures
    (λ more.
    added_two start one (members c.add_cond-in-And-2.new.names) (names b.value) (names d.value) (names c.args.c.now) first parts
    (more ∙ ap (λ (e : Cond). either one (names e)) c.deref-in-And-2.ensures))
