use Rattle.sm_deps.proofs.Imports.{◌≡◌, ℕ, Bool, ap, ◌∙◌, ⊎_elim, Expr, Add, Sub, Mul, expression_of, mentions, members, either}
use Rattle.sm_deps.proofs.MembersLemmas.{mentions-Plus, mentions-Minus, mentions-Times, added_two, on_ok}
use Rattle.sm_deps.proofs.names.+add_expr.Goals as goal

-- the names of the two parts, whichever operation it is
pub returns-in_ok-add_expr-in-Add : goal.returns-in_ok-add_expr-in-Add
returns-in_ok-add_expr-in-Add t c =
    let d = c.in-Add.d in
    let f = c.in-Add.f in
    let names : Expr → ℕ → Bool = λ (e : Expr). mentions (expression_of e) in
    let start = members c.args.names.now in
    let one = members c.add_expr-in-Add.new.names in
    let parts : names c.args.e.now ≡ either (names d.value) (names f.value) =
    ⊎_elim (λ (is : c.args.e.now ≡ Add d f). ap names is ∙ mentions-Plus (expression_of d.value) (expression_of f.value))
    (λ others.
    ⊎_elim (λ (is : c.args.e.now ≡ Sub d f). ap names is ∙ mentions-Minus (expression_of d.value) (expression_of f.value))
    (λ (is : c.args.e.now ≡ Mul d f). ap names is ∙ mentions-Times (expression_of d.value) (expression_of f.value)) others)
    c.in-Add.is in
    let first : one ≡ either start (names d.value) =
    c.in_ok-add_expr-in-Add.ensures ∙ ap (λ (e : Expr). either start (names e)) c.deref-in-Add.ensures in
    on_ok c.add_expr-in-Add-2.result c.add_expr-in-Add-2.ensures
    (λ more.
    added_two start one (members c.add_expr-in-Add-2.new.names) (names d.value) (names f.value) (names c.args.e.now) first parts
    (more ∙ ap (λ (e : Expr). either one (names e)) c.deref-in-Add-2.ensures))
