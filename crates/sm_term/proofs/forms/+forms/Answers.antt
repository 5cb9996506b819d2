-- The second of two is made over the table with the first, and the first stays.
use Rattle.sm_term.proofs.Imports.{rules, length, ap, sym, subst, ◌∙◌, condition_of, store_in, numbered, assertion_in, IsFormulaWithin, trees_in, sorts_in}
use Rattle.sm_term.specs.Assertions as plain
use Rattle.sm_term.specs.Symbolic as symbolic
use Rattle.sm_term.proofs.FormulasLemmas.{contrary_negates}
use Rattle.sm_term.proofs.ExpressionLemmas.{within_more, sorted_more}
use Rattle.sm_term.proofs.FormsLemmas.{contrary_within, tested_more, assertion-more, form_kept, formed-more}
use Rattle.sm_term.proofs.forms.+forms.Goals as goal

pub made_form-returns-in_ok-g-in-Not-clause-made : goal.made_form-returns-in_ok-g-in-Not-clause-made
made_form-returns-in_ok-g-in-Not-clause-made t c =
    let v1 = c.made_form.new.table in
    let f = store_in (trees_in c.args.table.now) c.args.s.now in
    ap (assertion_in (sorts_in v1) (trees_in v1)) c.in_ok-g-in-Not.ensures
    ∙ contrary_negates (sorts_in v1) (trees_in v1) (numbered c.in_ok-f-in-Not.f)
    ∙ ap plain.negate c.in_ok-f-in-Not.ensures.made
    ∙ ap (λ b. plain.negate (symbolic.form_of (condition_of b) f)) c.deref.ensures
    ∙ ap (λ b. symbolic.form_of (condition_of b) f) (sym c.in-Not.is)

pub made_form-returns-in_ok-g-in-Not-clause-within : goal.made_form-returns-in_ok-g-in-Not-clause-within
made_form-returns-in_ok-g-in-Not-clause-within t c =
    let count = length (trees_in c.made_form.new.table) in
    subst (IsFormulaWithin count) (sym c.in_ok-g-in-Not.ensures) (contrary_within count (numbered c.in_ok-f-in-Not.f) c.in_ok-f-in-Not.ensures.within)

pub made_form-returns-in_ok-p-in-And-clause-made : goal.made_form-returns-in_ok-p-in-And-clause-made
made_form-returns-in_ok-p-in-And-clause-made t c =
    let f = store_in (trees_in c.args.table.now) c.args.s.now in
    let first = c.in_ok-p-in-And.ensures.first ∙ ap (λ b. symbolic.form_of (condition_of b) f) c.deref-in-And.ensures in
    let second = c.in_ok-p-in-And.ensures.second ∙ ap (λ b. symbolic.form_of (condition_of b) f) c.deref-in-And-2.ensures in
    (λ k. plain.And (first k) (second k)) ∙ ap (λ b. symbolic.form_of (condition_of b) f) (sym c.in-And.is)

pub made_form-returns-in_ok-p-in-And-clause-within : goal.made_form-returns-in_ok-p-in-And-clause-within
made_form-returns-in_ok-p-in-And-clause-within t c = c.in_ok-p-in-And.ensures.within

pub made_form-returns-in_ok-p-in-Or-clause-made : goal.made_form-returns-in_ok-p-in-Or-clause-made
made_form-returns-in_ok-p-in-Or-clause-made t c =
    let f = store_in (trees_in c.args.table.now) c.args.s.now in
    let first = c.in_ok-p-in-Or.ensures.first ∙ ap (λ b. symbolic.form_of (condition_of b) f) c.deref-in-Or.ensures in
    let second = c.in_ok-p-in-Or.ensures.second ∙ ap (λ b. symbolic.form_of (condition_of b) f) c.deref-in-Or-2.ensures in
    (λ k. plain.Or (first k) (second k)) ∙ ap (λ b. symbolic.form_of (condition_of b) f) (sym c.in-Or.is)

pub made_form-returns-in_ok-p-in-Or-clause-within : goal.made_form-returns-in_ok-p-in-Or-clause-within
made_form-returns-in_ok-p-in-Or-clause-within t c = c.in_ok-p-in-Or.ensures.within

pub made_forms-made_form-requires-2 : goal.made_forms-made_form-requires-2
made_forms-made_form-requires-2 t c =
    let v0 = c.args.table.now in
    let s = c.args.s.now in
    let v1 = c.made_form.new.table in
    let g1 = c.made_form.ensures.grows in
    (search rules, (tested_more v0 v1 g1 (condition_of c.args.c.now) c.requires.second, (within_more v0 v1 g1 s c.requires.within, sorted_more v0 v1 g1 s c.requires.within c.requires.store)))

pub made_forms-returns-clause-first : goal.made_forms-returns-clause-first
made_forms-returns-clause-first t c =
    let v1 = c.made_form.new.table in
    let v2 = c.made_form-2.new.table in
    ap (λ f. assertion_in (sorts_in v2) (trees_in v2) (numbered f)) c.in_ok-first.ensures.ok ∙ assertion-more v1 v2 c.made_form-2.ensures.grows (numbered c.in_ok-p.p) c.in_ok-p.ensures.within ∙ c.in_ok-p.ensures.made

pub made_forms-returns-clause-second : goal.made_forms-returns-clause-second
made_forms-returns-clause-second t c =
    let v0 = c.args.table.now in
    let v1 = c.made_form.new.table in
    let v2 = c.made_form-2.new.table in
    ap (λ f. assertion_in (sorts_in v2) (trees_in v2) (numbered f)) c.in_ok-second.ensures.ok ∙ c.in_ok-q.ensures.made ∙ formed-more v0 v1 c.made_form.ensures.grows c.args.s.now c.requires.within (condition_of c.args.c.now)

pub made_forms-returns-clause-within : goal.made_forms-returns-clause-within
made_forms-returns-clause-within t c =
    let v1 = c.made_form.new.table in
    let v2 = c.made_form-2.new.table in
    let first = form_kept v1 v2 c.made_form-2.ensures.grows (numbered c.in_ok-p.p) c.in_ok-p.ensures.within in
    (subst (λ f. IsFormulaWithin (length (trees_in v2)) (numbered f)) (sym c.in_ok-first.ensures.ok) first, subst (λ f. IsFormulaWithin (length (trees_in v2)) (numbered f)) (sym c.in_ok-second.ensures.ok) c.in_ok-q.ensures.within)
