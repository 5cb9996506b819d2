-- A name that isn't declared has no lines.
use Rattle.sm_explain.proofs.Imports.{[], Option, sym, subst, append-nil, unwrap_or, Sort, Num, end_in, HaveSort, Grows, AreOutputRows}
use Rattle.sm_explain.proofs.TableOutputs.{undeclared_rows}
use Rattle.sm_explain.proofs.tables.put_sorted.Goals as goal

pub returns-in-None : goal.returns-in-None
returns-in-None c =
    let names = c.args.names.now in
    let ends = c.args.ends.now in
    let x = c.args.x.0 in
    let text = c.args.out.now.items in
    subst (λ (sort : Option Sort). Grows (AreOutputRows names (end_in ends) x (unwrap_or sort Num)) text text) (sym c.in-None.is)
    ([], undeclared_rows names ends x (subst (HaveSort ends x) c.in-None.is c.requires), sym (append-nil text))
