use Rattle.sm_prune.proofs.Imports.{◌≡◌, ◌∙◌, ℕ, List, [], map, sym, subst, false, nil_from_length, line_of, Line, Told, AreMarks, IsTelling, terms_past, forms_past}
use Rattle.sm_prune.proofs.ToldLemmas.{all_told, none_told, told_more}
use Rattle.sm_prune.proofs.told.tell_each.Goals as goal

pub loop-line-init : goal.loop-line-init
loop-line-init c =
    let all = c.args.lines.items in
    let marks = c.in_ok-terms.terms.items in
    let form_marks = c.in_ok-terms.forms.items in
    let same = c.as_slice.ensures.value in
    subst (λ (ts : List Told). IsTelling all all ts marks form_marks) (sym c.new-told.ensures.items)
    (none_told all marks form_marks
    (subst (λ (ls : List Line). AreMarks (terms_past 0 (map line_of ls)) (λ (n : ℕ). false) marks) same c.in_ok-terms.ensures.terms)
    (subst (λ (ls : List Line). AreMarks (forms_past 0 (map line_of ls)) (λ (n : ℕ). false) form_marks) same
    c.in_ok-terms.ensures.forms))

pub loop-line-preserved : goal.loop-line-preserved
loop-line-preserved c =
    let i = c.loop-line in
    told_more c.args.lines.items i.before.items c.pop.new.self.items c.in-Some.line c.tell-left.result i.told.items
    c.push.new.self.items i.terms.items i.forms.items c.tell-left.new.terms.items c.tell-left.new.forms.items
    c.in-Some.ensures.items c.in_ok-push.ensures.items c.tell-left.ensures i.invariant

pub returns : goal.returns
returns c =
    let i = c.loop-line in
    let none : i.before.items ≡ [] = nil_from_length i.before.items (sym i.before.ok.0 ∙ c.in_default.ensures.cases.0) in
    let all = all_told c.args.lines.items i.before.items i.told.items i.terms.items i.forms.items none i.invariant in
    record { same = all.0; told = all.1 }
