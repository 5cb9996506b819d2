-- By the form of the term.
use Rattle.sm_judge.proofs.Imports.{sym, ◌∙◌, trees_in, sorts_in, tree_at}
use Rattle.sm_judge.proofs.TornLemmas.{form_at, no_number}
use Rattle.sm_judge.proofs.torn.partner_of.Goals as goal

pub returns-then-not-is_numeric : goal.returns-then-not-is_numeric
returns-then-not-is_numeric c = λ labels count linked m h e.
    let trees = trees_in c.args.table.now in
    no_number (sorts_in c.args.table.now) (tree_at trees c.args.t.0) (tree_at trees m) (sym c.is_numeric.ensures ∙ c.if-not-is_numeric.true)

pub partner-requires-clause-number : goal.partner-requires-clause-number
partner-requires-clause-number c = sym c.is_numeric.ensures ∙ c.if-not-is_numeric.false

pub partner-requires-clause-form : goal.partner-requires-clause-form
partner-requires-clause-form c =
    form_at (trees_in c.args.table.now) c.args.forms.now c.args.t.0 c.index-forms-t.result c.requires.forms c.requires.within
    c.index-forms-t.is
