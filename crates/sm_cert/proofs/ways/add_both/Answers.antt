use Rattle.sm_cert.proofs.Imports.{◌≡◌, ◌++◌, ◌∷◌, [], List, true, sym, ap, subst, ◌∙◌, NumberedFormula, And, numbered, Fact, followed, formula_at, both_parts, GoesOn}
use Rattle.sm_theory.specs.declared.fact.Fact.TheVariants as fact
use Rattle.sm_cert.proofs.WaysLemmas.{both_go_on}
use Rattle.sm_cert.proofs.ways.add_both.Goals as goal

pub returns-clause-ways : goal.returns-clause-ways
returns-clause-ways c = λ sorts trees facts added all.
    let path = c.args.path.now.list.items in
    let whole = c.in-Some-And.field-0.now in
    let f = c.in_ok-copy_formula-in-Some-And.field-0 in
    let g = c.in_ok-copy_formula-in-Some-And-2.field-0 in
    let first : numbered c.in-Some-And.p.value ≡ numbered f =
    ap numbered (sym c.deref.ensures) ∙ sym c.in_ok-copy_formula-in-Some-And.ensures in
    let second : numbered c.in-Some-And.q.value ≡ numbered g =
    ap numbered (sym c.deref-in-Some-And.ensures) ∙ sym c.in_ok-copy_formula-in-Some-And-2.ensures in
    let same : numbered whole ≡ And (numbered f) (numbered g) =
    ap numbered c.in-Some-And.field-0-is
    ∙ (ap (λ (h : NumberedFormula). And h (numbered c.in-Some-And.q.value)) first
    ∙ ap (λ (h : NumberedFormula). And (numbered f) h) second) in
    let items : c.push-2.new.self.items ≡ (path ++ (fact.Form f ∷ [])) ++ (fact.Form g ∷ []) =
    c.in_ok-push-2.ensures.items ∙ ap (λ (fs : List Fact). fs ++ (fact.Form g ∷ [])) c.in_ok-push.ensures.items in
    subst (λ (fs : List Fact). GoesOn sorts trees true fs facts (followed (formula_at facts c.args.n) both_parts)) (sym items)
    (both_go_on sorts trees path facts whole f g (formula_at facts c.args.n) all same (c.in-Some-And.ensures sorts trees facts all))
