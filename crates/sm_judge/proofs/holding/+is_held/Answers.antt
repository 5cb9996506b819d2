-- A comparison is held where it is a fact, a conjunction or a disjunction by its parts.
use Rattle.sm_judge.proofs.Imports.{◌≡◌, ap, refl, trees_in, sorts_in, Assertion, numbered, assertion_in, Formula, seen_in}
use Rattle.sm_term.specs.declared.formula.Formula.TheVariants as tree
use Rattle.sm_term.specs.Assertions.{And, Or}
use Rattle.sm_judge.proofs.HoldingLemmas.{comparison_held, part_is, and_first, and_second, or_first, or_second, fact_first, held_then}
use Rattle.sm_judge.proofs.holding.+is_held.Goals as goal

pub is_held-returns-in-Le : goal.is_held-returns-in-Le
is_held-returns-in-Le g t c = λ terms.
    let sorts = sorts_in c.args.table.now in
    let trees = trees_in c.args.table.now in
    let equal = g.S.Sees.equal c.args.sees.now in
    let apart = g.S.Sees.apart c.args.sees.now in
    let b = seen_in sorts trees terms c.args.facts.now equal apart in
    let says : Formula → Assertion = λ f. assertion_in sorts trees (numbered f) in
    comparison_held b says c.args.f.now (tree.Le c.in-Le.field-0 c.in-Le.field-1) c.is_fact.result c.in-Le.is refl
    (c.is_fact.ensures terms equal apart)

pub is_held-returns-in-Lt : goal.is_held-returns-in-Lt
is_held-returns-in-Lt g t c = λ terms.
    let sorts = sorts_in c.args.table.now in
    let trees = trees_in c.args.table.now in
    let equal = g.S.Sees.equal c.args.sees.now in
    let apart = g.S.Sees.apart c.args.sees.now in
    let b = seen_in sorts trees terms c.args.facts.now equal apart in
    let says : Formula → Assertion = λ f. assertion_in sorts trees (numbered f) in
    comparison_held b says c.args.f.now (tree.Lt c.in-Lt.field-0 c.in-Lt.field-1) c.is_fact-in-Lt.result c.in-Lt.is refl
    (c.is_fact-in-Lt.ensures terms equal apart)

pub is_held-returns-then-is_part_held : goal.is_held-returns-then-is_part_held
is_held-returns-then-is_part_held g t c = λ terms.
    let sorts = sorts_in c.args.table.now in
    let trees = trees_in c.args.table.now in
    let equal = g.S.Sees.equal c.args.sees.now in
    let apart = g.S.Sees.apart c.args.sees.now in
    let b = seen_in sorts trees terms c.args.facts.now equal apart in
    let says : Formula → Assertion = λ f. assertion_in sorts trees (numbered f) in
    let p = c.in-And.p.value in
    let q = c.in-And.q.value in
    let one = part_is b says p c.deref.result.now c.is_part_held.result (c.is_part_held.ensures terms) c.deref.ensures in
    let two = part_is b says q c.deref-then-is_part_held.result.now c.is_part_held-then-is_part_held.result (c.is_part_held-then-is_part_held.ensures terms) c.deref-then-is_part_held.ensures in
    let same : says c.args.f.now ≡ And (says p) (says q) = ap says c.in-And.is in
    and_second b (says c.args.f.now) (says p) (says q) c.is_part_held.result c.is_part_held-then-is_part_held.result same one two
    c.if-is_part_held.true

pub is_held-returns-else-is_part_held : goal.is_held-returns-else-is_part_held
is_held-returns-else-is_part_held g t c = λ terms.
    let sorts = sorts_in c.args.table.now in
    let trees = trees_in c.args.table.now in
    let equal = g.S.Sees.equal c.args.sees.now in
    let apart = g.S.Sees.apart c.args.sees.now in
    let b = seen_in sorts trees terms c.args.facts.now equal apart in
    let says : Formula → Assertion = λ f. assertion_in sorts trees (numbered f) in
    let p = c.in-And.p.value in
    let q = c.in-And.q.value in
    let one = part_is b says p c.deref.result.now c.is_part_held.result (c.is_part_held.ensures terms) c.deref.ensures in
    let same : says c.args.f.now ≡ And (says p) (says q) = ap says c.in-And.is in
    and_first b (says c.args.f.now) (says p) (says q) c.is_part_held.result same one c.if-is_part_held.false

pub is_held-returns-then-is_part_held-2 : goal.is_held-returns-then-is_part_held-2
is_held-returns-then-is_part_held-2 g t c = λ terms.
    let sorts = sorts_in c.args.table.now in
    let trees = trees_in c.args.table.now in
    let equal = g.S.Sees.equal c.args.sees.now in
    let apart = g.S.Sees.apart c.args.sees.now in
    let b = seen_in sorts trees terms c.args.facts.now equal apart in
    let says : Formula → Assertion = λ f. assertion_in sorts trees (numbered f) in
    let p = c.in-Or.p.value in
    let q = c.in-Or.q.value in
    let one = part_is b says p c.deref-in-Or.result.now c.is_part_held-in-Or.result (c.is_part_held-in-Or.ensures terms) c.deref-in-Or.ensures in
    let same : says c.args.f.now ≡ Or (says p) (says q) = ap says c.in-Or.is in
    or_first b (says c.args.f.now) (says p) (says q) c.is_part_held-in-Or.result same one c.if-is_part_held-2.true

pub is_held-returns-else-is_part_held-2 : goal.is_held-returns-else-is_part_held-2
is_held-returns-else-is_part_held-2 g t c = λ terms.
    let sorts = sorts_in c.args.table.now in
    let trees = trees_in c.args.table.now in
    let equal = g.S.Sees.equal c.args.sees.now in
    let apart = g.S.Sees.apart c.args.sees.now in
    let b = seen_in sorts trees terms c.args.facts.now equal apart in
    let says : Formula → Assertion = λ f. assertion_in sorts trees (numbered f) in
    let p = c.in-Or.p.value in
    let q = c.in-Or.q.value in
    let one = part_is b says p c.deref-in-Or.result.now c.is_part_held-in-Or.result (c.is_part_held-in-Or.ensures terms) c.deref-in-Or.ensures in
    let two = part_is b says q c.deref-else-is_part_held-2.result.now c.is_part_held-else-is_part_held-2.result (c.is_part_held-else-is_part_held-2.ensures terms) c.deref-else-is_part_held-2.ensures in
    let same : says c.args.f.now ≡ Or (says p) (says q) = ap says c.in-Or.is in
    or_second b (says c.args.f.now) (says p) (says q) c.is_part_held-in-Or.result c.is_part_held-else-is_part_held-2.result same one two
    c.if-is_part_held-2.false

pub is_part_held-returns-then-is_fact : goal.is_part_held-returns-then-is_fact
is_part_held-returns-then-is_fact g t c = λ terms.
    let sorts = sorts_in c.args.table.now in
    let trees = trees_in c.args.table.now in
    let equal = g.S.Sees.equal c.args.sees.now in
    let apart = g.S.Sees.apart c.args.sees.now in
    let b = seen_in sorts trees terms c.args.facts.now equal apart in
    let says : Formula → Assertion = λ f. assertion_in sorts trees (numbered f) in
    fact_first b (says c.args.f.now) c.is_fact.result (c.is_fact.ensures terms equal apart) c.if-is_fact.true

pub is_part_held-returns-else-is_fact : goal.is_part_held-returns-else-is_fact
is_part_held-returns-else-is_fact g t c = λ terms.
    let sorts = sorts_in c.args.table.now in
    let trees = trees_in c.args.table.now in
    let equal = g.S.Sees.equal c.args.sees.now in
    let apart = g.S.Sees.apart c.args.sees.now in
    let b = seen_in sorts trees terms c.args.facts.now equal apart in
    let says : Formula → Assertion = λ f. assertion_in sorts trees (numbered f) in
    held_then b (says c.args.f.now) c.is_fact.result c.is_held.result (c.is_fact.ensures terms equal apart) c.if-is_fact.false
    (c.is_held.ensures terms)
