-- A line of a certificate where a branch is due.
use Rattle.sm_check.proofs.Imports.{◌≡◌, Some, List, sym, subst, ap, ◌∙◌, sorts_in, Cert, numbered_line, Pending, taken, taken_at, WalkValue, Walks}
use Rattle.sm_check.specs.declared.pending.Due.TheVariants as due
use Rattle.sm_check.proofs.CertTaken.{at_branch}
use Rattle.sm_check.proofs.TellsLemmas.{tells_along}
use Rattle.sm_check.proofs.branches.take_cert.Goals as goal

pub returns-in-Some-Branch-clause-tells : goal.returns-in-Some-Branch-clause-tells
returns-in-Some-Branch-clause-tells c = λ p walks.
    let i = c.walk.inside in
    let w : WalkValue = record {
      table = i.table;
      declared = i.declared;
      nodes = i.nodes;
      terms = i.terms.items;
      forms = i.forms.items;
      path = i.path.list.items;
      due = i.due;
      waiting = i.waiting.items;
    } in
    let s = c.in-Some-Branch in
    let here : Walks w p = subst (λ (v : WalkValue). Walks v p) (sym c.walk.view_is) walks in
    let is : i.due ≡ Some (due.Branch s.stores s.splits) = cc (c.take.ensures.value, s.is, s.field-0-is) in
    let a = at_branch w p here c.take.new.self s.stores s.splits is in
    tells_along _ c.cert_at.result _ _
    (ap (λ (v : WalkValue). taken (sorts_in v.table) p (Cert (numbered_line c.args.line.now))) (sym c.walk.view_is)
    ∙ ap (λ (ps : List Pending). taken_at (sorts_in i.table) p ps (Cert (numbered_line c.args.line.now))) a.2)
    (c.cert_at.ensures.tells p a.0 a.1 a.3)
