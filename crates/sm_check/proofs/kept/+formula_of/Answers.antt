-- Formulas made of rows, row by row.
use Rattle.sm_check.proofs.Imports.{◌<◌, length, refl, sym, subst, arith, numbered, assertion_in, tree_sort, tree_at, IsFormReady, NamesEarlier}
use Rattle.sm_term.specs.Assertions as plain
use Rattle.sm_proof.specs.declared.line.FormLine.TheVariants as line
use Rattle.sm_check.proofs.KeptLemmas.{row_made, both_made, made_ready, same_ready, numbers_ready}
use Rattle.sm_check.proofs.kept.+formula_of.Goals as goal

pub boxed_formula-returns-clause-ready : goal.boxed_formula-returns-clause-ready
boxed_formula-returns-clause-ready t c = λ sorts trees sorted ready.
    subst (IsFormReady sorts trees) (sym c.in_ok-new.ensures.ok) (c.in_ok-formula_of.ensures.ready sorts trees sorted ready)

pub formula_of-returns-in-Yes-clause-made : goal.formula_of-returns-in-Yes-clause-made
formula_of-returns-in-Yes-clause-made t c = λ sorts trees forms f stand form.
    row_made sorts trees c.args.rows.now forms c.args.n c.row_of.result line.Yes plain.Yes f stand c.row_of.ensures c.in-Yes.is form refl

pub formula_of-returns-in-No-clause-made : goal.formula_of-returns-in-No-clause-made
formula_of-returns-in-No-clause-made t c = λ sorts trees forms f stand form.
    row_made sorts trees c.args.rows.now forms c.args.n c.row_of.result line.No plain.No f stand c.row_of.ensures c.in-No.is form refl

pub formula_of-returns-in-Eq-clause-made : goal.formula_of-returns-in-Eq-clause-made
formula_of-returns-in-Eq-clause-made t c = λ sorts trees forms f stand form.
    row_made sorts trees c.args.rows.now forms c.args.n c.row_of.result (line.Eq c.in-Eq.t c.in-Eq.u)
    (plain.Eq (tree_sort sorts (tree_at trees c.in-Eq.t)) (tree_at trees c.in-Eq.t) (tree_at trees c.in-Eq.u)) f stand c.row_of.ensures c.in-Eq.is form refl

pub formula_of-returns-in-Eq-clause-ready : goal.formula_of-returns-in-Eq-clause-ready
formula_of-returns-in-Eq-clause-ready t c = λ sorts trees sorted ready.
    same_ready sorts trees sorted c.in-Eq.t c.in-Eq.u
    (made_ready sorts trees c.args.rows.now c.args.n c.row_of.result (line.Eq c.in-Eq.t c.in-Eq.u) ready c.row_of.ensures c.in-Eq.is)

pub formula_of-returns-in-Ne-clause-made : goal.formula_of-returns-in-Ne-clause-made
formula_of-returns-in-Ne-clause-made t c = λ sorts trees forms f stand form.
    row_made sorts trees c.args.rows.now forms c.args.n c.row_of.result (line.Ne c.in-Ne.t c.in-Ne.u)
    (plain.Ne (tree_sort sorts (tree_at trees c.in-Ne.t)) (tree_at trees c.in-Ne.t) (tree_at trees c.in-Ne.u)) f stand c.row_of.ensures c.in-Ne.is form refl

pub formula_of-returns-in-Ne-clause-ready : goal.formula_of-returns-in-Ne-clause-ready
formula_of-returns-in-Ne-clause-ready t c = λ sorts trees sorted ready.
    same_ready sorts trees sorted c.in-Ne.t c.in-Ne.u
    (made_ready sorts trees c.args.rows.now c.args.n c.row_of.result (line.Ne c.in-Ne.t c.in-Ne.u) ready c.row_of.ensures c.in-Ne.is)

pub formula_of-returns-in-Le-clause-made : goal.formula_of-returns-in-Le-clause-made
formula_of-returns-in-Le-clause-made t c = λ sorts trees forms f stand form.
    row_made sorts trees c.args.rows.now forms c.args.n c.row_of.result (line.Le c.in-Le.t c.in-Le.u)
    (plain.Le (tree_at trees c.in-Le.t) (tree_at trees c.in-Le.u)) f stand c.row_of.ensures c.in-Le.is form refl

pub formula_of-returns-in-Le-clause-ready : goal.formula_of-returns-in-Le-clause-ready
formula_of-returns-in-Le-clause-ready t c = λ sorts trees sorted ready.
    numbers_ready sorts trees sorted c.in-Le.t c.in-Le.u
    (made_ready sorts trees c.args.rows.now c.args.n c.row_of.result (line.Le c.in-Le.t c.in-Le.u) ready c.row_of.ensures c.in-Le.is)

pub formula_of-returns-in-Lt-clause-made : goal.formula_of-returns-in-Lt-clause-made
formula_of-returns-in-Lt-clause-made t c = λ sorts trees forms f stand form.
    row_made sorts trees c.args.rows.now forms c.args.n c.row_of.result (line.Lt c.in-Lt.t c.in-Lt.u)
    (plain.Lt (tree_at trees c.in-Lt.t) (tree_at trees c.in-Lt.u)) f stand c.row_of.ensures c.in-Lt.is form refl

pub formula_of-returns-in-Lt-clause-ready : goal.formula_of-returns-in-Lt-clause-ready
formula_of-returns-in-Lt-clause-ready t c = λ sorts trees sorted ready.
    numbers_ready sorts trees sorted c.in-Lt.t c.in-Lt.u
    (made_ready sorts trees c.args.rows.now c.args.n c.row_of.result (line.Lt c.in-Lt.t c.in-Lt.u) ready c.row_of.ensures c.in-Lt.is)

pub formula_of-returns-in_ok-boxed_formula-in-And-clause-made :
    goal.formula_of-returns-in_ok-boxed_formula-in-And-clause-made
formula_of-returns-in_ok-boxed_formula-in-And-clause-made t c = λ sorts trees forms f stand form.
    let rows = c.args.rows.now in
    let row = c.row_of.result in
    let k = c.in-And in
    let there = c.row_of.ensures in
    let before = subst (NamesEarlier c.args.n) k.is (c.requires.earlier c.args.n row there) in
    let within = c.requires.there in
    let p : k.p < length rows = omega (arith, before.0) in
    let q : k.q < length rows = omega (arith, before.1) in
    both_made sorts trees rows forms c.args.n k.p k.q row (line.And k.p k.q) plain.And
    (assertion_in sorts trees (numbered c.in_ok-f-in-And.f.value))
    (assertion_in sorts trees (numbered c.in_ok-boxed_formula-in-And.field-0.value)) f stand there k.is form refl p q
    (λ g e. c.in_ok-f-in-And.ensures.made sorts trees forms g stand e)
    (λ g e. c.in_ok-boxed_formula-in-And.ensures.made sorts trees forms g stand e)

pub formula_of-returns-in_ok-boxed_formula-in-And-clause-ready :
    goal.formula_of-returns-in_ok-boxed_formula-in-And-clause-ready
formula_of-returns-in_ok-boxed_formula-in-And-clause-ready t c = λ sorts trees sorted ready.
    let one = c.in_ok-f-in-And.ensures.ready sorts trees sorted ready in
    let other = c.in_ok-boxed_formula-in-And.ensures.ready sorts trees sorted ready in
    ((one.0, other.0), (one.1, other.1))

pub formula_of-returns-in_ok-boxed_formula-in-Or-clause-made :
    goal.formula_of-returns-in_ok-boxed_formula-in-Or-clause-made
formula_of-returns-in_ok-boxed_formula-in-Or-clause-made t c = λ sorts trees forms f stand form.
    let rows = c.args.rows.now in
    let row = c.row_of.result in
    let k = c.in-Or in
    let there = c.row_of.ensures in
    let before = subst (NamesEarlier c.args.n) k.is (c.requires.earlier c.args.n row there) in
    let within = c.requires.there in
    let p : k.p < length rows = omega (arith, before.0) in
    let q : k.q < length rows = omega (arith, before.1) in
    both_made sorts trees rows forms c.args.n k.p k.q row (line.Or k.p k.q) plain.Or
    (assertion_in sorts trees (numbered c.in_ok-f-in-Or.f.value))
    (assertion_in sorts trees (numbered c.in_ok-boxed_formula-in-Or.field-0.value)) f stand there k.is form refl p q
    (λ g e. c.in_ok-f-in-Or.ensures.made sorts trees forms g stand e)
    (λ g e. c.in_ok-boxed_formula-in-Or.ensures.made sorts trees forms g stand e)

pub formula_of-returns-in_ok-boxed_formula-in-Or-clause-ready :
    goal.formula_of-returns-in_ok-boxed_formula-in-Or-clause-ready
formula_of-returns-in_ok-boxed_formula-in-Or-clause-ready t c = λ sorts trees sorted ready.
    let one = c.in_ok-f-in-Or.ensures.ready sorts trees sorted ready in
    let other = c.in_ok-boxed_formula-in-Or.ensures.ready sorts trees sorted ready in
    ((one.0, other.0), (one.1, other.1))
