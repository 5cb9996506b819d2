use Rattle.sm_term.proofs.Imports.{sym, ap, ◌∙◌, unwrap_or, option_copied, Num, sort_named, sorts_in}
use Rattle.sm_term.proofs.table.TermTable.sort_named.Goals as goal

-- what the map has is what is declared
pub returns-in-Some : goal.returns-in-Some
returns-in-Some c =
    let x = c.args.name.0 in
    ap (λ o. unwrap_or o Num) (ap option_copied (sym c.in-Some.is) ∙ c.get.ensures.value ∙ ap (λ f. f x) c.self.invariant.0)
    ∙ ap (λ v. sort_named (sorts_in v) x) c.self.view_is

pub returns-in-None : goal.returns-in-None
returns-in-None c =
    let x = c.args.name.0 in
    ap (λ o. unwrap_or o Num) (ap option_copied (sym c.in-None.is) ∙ c.get.ensures.value ∙ ap (λ f. f x) c.self.invariant.0)
    ∙ ap (λ v. sort_named (sorts_in v) x) c.self.view_is
