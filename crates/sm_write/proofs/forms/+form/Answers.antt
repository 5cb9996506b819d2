-- By the kind of the formula.
use Rattle.sm_write.proofs.Imports.{rules, sym, subst, numbered, Formula, WritesForm, value_of}
use Rattle.std.specs.Prelude.{IfOk}
use Rattle.sm_term.specs.Formulas.{Yes, No, Eq, Ne, Le, Lt, And, Or}
use Rattle.sm_proof.specs.declared.line.FormLine.TheVariants as line
use Rattle.sm_write.proofs.FormSteps.{form_written, yes_makes, no_makes, eq_makes, ne_makes, le_makes, lt_makes, and_makes, or_makes}
use Rattle.sm_write.proofs.forms.+form.Goals as goal

pub returns-in-Yes : goal.returns-in-Yes
returns-in-Yes t c =
    let v = c.args.table.now in
    let old = value_of c.args.w.now in
    let new = value_of c.add_form.new.w in
    subst (λ (g : Formula). IfOk c.add_form.result (WritesForm v old new (numbered g))) (sym c.in-Yes.is)
    (form_written c.add_form.result v old old new Yes line.Yes c.add_form.ensures.stands c.add_form.ensures.number c.add_form.ensures.names (yes_makes v old))

pub returns-in-No : goal.returns-in-No
returns-in-No t c =
    let v = c.args.table.now in
    let old = value_of c.args.w.now in
    let new = value_of c.add_form-in-No.new.w in
    subst (λ (g : Formula). IfOk c.add_form-in-No.result (WritesForm v old new (numbered g))) (sym c.in-No.is)
    (form_written c.add_form-in-No.result v old old new No line.No c.add_form-in-No.ensures.stands c.add_form-in-No.ensures.number c.add_form-in-No.ensures.names (no_makes v old))

pub returns-in_ok-a-in-Eq : goal.returns-in_ok-a-in-Eq
returns-in_ok-a-in-Eq t c =
    let v = c.args.table.now in
    let base = value_of c.args.w.now in
    let old = value_of c.name_pair.new.w in
    let new = value_of c.add_form-in-Eq.new.w in
    subst (λ (g : Formula). IfOk c.add_form-in-Eq.result (WritesForm v base new (numbered g))) (sym c.in-Eq.is)
    (form_written c.add_form-in-Eq.result v base old new (Eq c.in-Eq.t.0 c.in-Eq.u.0) (line.Eq c.in_ok-a-in-Eq.a c.in_ok-a-in-Eq.b) c.add_form-in-Eq.ensures.stands c.add_form-in-Eq.ensures.number
    c.add_form-in-Eq.ensures.names (eq_makes v base old c.in-Eq.t c.in-Eq.u c.in_ok-a-in-Eq.a c.in_ok-a-in-Eq.b c.in_ok-a-in-Eq.ensures))

pub returns-in_ok-a-in-Ne : goal.returns-in_ok-a-in-Ne
returns-in_ok-a-in-Ne t c =
    let v = c.args.table.now in
    let base = value_of c.args.w.now in
    let old = value_of c.name_pair-in-Ne.new.w in
    let new = value_of c.add_form-in-Ne.new.w in
    subst (λ (g : Formula). IfOk c.add_form-in-Ne.result (WritesForm v base new (numbered g))) (sym c.in-Ne.is)
    (form_written c.add_form-in-Ne.result v base old new (Ne c.in-Ne.t.0 c.in-Ne.u.0) (line.Ne c.in_ok-a-in-Ne.a c.in_ok-a-in-Ne.b) c.add_form-in-Ne.ensures.stands c.add_form-in-Ne.ensures.number
    c.add_form-in-Ne.ensures.names (ne_makes v base old c.in-Ne.t c.in-Ne.u c.in_ok-a-in-Ne.a c.in_ok-a-in-Ne.b c.in_ok-a-in-Ne.ensures))

pub returns-in_ok-a-in-Le : goal.returns-in_ok-a-in-Le
returns-in_ok-a-in-Le t c =
    let v = c.args.table.now in
    let base = value_of c.args.w.now in
    let old = value_of c.name_pair-in-Le.new.w in
    let new = value_of c.add_form-in-Le.new.w in
    subst (λ (g : Formula). IfOk c.add_form-in-Le.result (WritesForm v base new (numbered g))) (sym c.in-Le.is)
    (form_written c.add_form-in-Le.result v base old new (Le c.in-Le.t.0 c.in-Le.u.0) (line.Le c.in_ok-a-in-Le.a c.in_ok-a-in-Le.b) c.add_form-in-Le.ensures.stands c.add_form-in-Le.ensures.number
    c.add_form-in-Le.ensures.names (le_makes v base old c.in-Le.t c.in-Le.u c.in_ok-a-in-Le.a c.in_ok-a-in-Le.b c.in_ok-a-in-Le.ensures))

pub returns-in_ok-a-in-Lt : goal.returns-in_ok-a-in-Lt
returns-in_ok-a-in-Lt t c =
    let v = c.args.table.now in
    let base = value_of c.args.w.now in
    let old = value_of c.name_pair-in-Lt.new.w in
    let new = value_of c.add_form-in-Lt.new.w in
    subst (λ (g : Formula). IfOk c.add_form-in-Lt.result (WritesForm v base new (numbered g))) (sym c.in-Lt.is)
    (form_written c.add_form-in-Lt.result v base old new (Lt c.in-Lt.t.0 c.in-Lt.u.0) (line.Lt c.in_ok-a-in-Lt.a c.in_ok-a-in-Lt.b) c.add_form-in-Lt.ensures.stands c.add_form-in-Lt.ensures.number
    c.add_form-in-Lt.ensures.names (lt_makes v base old c.in-Lt.t c.in-Lt.u c.in_ok-a-in-Lt.a c.in_ok-a-in-Lt.b c.in_ok-a-in-Lt.ensures))

pub returns-in_ok-b-in-And : goal.returns-in_ok-b-in-And
returns-in_ok-b-in-And t c =
    let v = c.args.table.now in
    let base = value_of c.args.w.now in
    let mid = value_of c.write_form.new.w in
    let old = value_of c.write_form-in-And.new.w in
    let new = value_of c.add_form-in-And.new.w in
    let f = numbered c.in-And.p.value in
    let g = numbered c.in-And.q.value in
    let first = subst (λ (h : Formula). WritesForm v base mid (numbered h) c.in_ok-a-in-And.a) c.deref.ensures c.in_ok-a-in-And.ensures in
    let second = subst (λ (h : Formula). WritesForm v mid old (numbered h) c.in_ok-b-in-And.b) c.deref-in-And.ensures c.in_ok-b-in-And.ensures in
    subst (λ (h : Formula). IfOk c.add_form-in-And.result (WritesForm v base new (numbered h))) (sym c.in-And.is)
    (form_written c.add_form-in-And.result v base old new (And f g) (line.And c.in_ok-a-in-And.a c.in_ok-b-in-And.b) c.add_form-in-And.ensures.stands c.add_form-in-And.ensures.number c.add_form-in-And.ensures.names
    (and_makes v base mid old f g c.in_ok-a-in-And.a c.in_ok-b-in-And.b first second (search rules) (search rules)))

pub returns-in_ok-b-in-Or : goal.returns-in_ok-b-in-Or
returns-in_ok-b-in-Or t c =
    let v = c.args.table.now in
    let base = value_of c.args.w.now in
    let mid = value_of c.write_form-in-Or.new.w in
    let old = value_of c.write_form-in-Or-2.new.w in
    let new = value_of c.add_form-in-Or.new.w in
    let f = numbered c.in-Or.p.value in
    let g = numbered c.in-Or.q.value in
    let first = subst (λ (h : Formula). WritesForm v base mid (numbered h) c.in_ok-a-in-Or.a) c.deref-in-Or.ensures c.in_ok-a-in-Or.ensures in
    let second = subst (λ (h : Formula). WritesForm v mid old (numbered h) c.in_ok-b-in-Or.b) c.deref-in-Or-2.ensures c.in_ok-b-in-Or.ensures in
    subst (λ (h : Formula). IfOk c.add_form-in-Or.result (WritesForm v base new (numbered h))) (sym c.in-Or.is)
    (form_written c.add_form-in-Or.result v base old new (Or f g) (line.Or c.in_ok-a-in-Or.a c.in_ok-b-in-Or.b) c.add_form-in-Or.ensures.stands c.add_form-in-Or.ensures.number c.add_form-in-Or.ensures.names
    (or_makes v base mid old f g c.in_ok-a-in-Or.a c.in_ok-b-in-Or.b first second (search rules) (search rules)))
