-- A formula over its limits.
use Rattle.sm_check.proofs.Imports.{ℕ, Option, sym, subst, ◌∙◌, IsKeptForm}
use Rattle.sm_check.proofs.KeptLemmas.{over_limits, opens_nothing}
use Rattle.sm_check.proofs.kept.kept_formula.Goals as goal

pub returns-else-row-le200000-clause-made : goal.returns-else-row-le200000-clause-made
returns-else-row-le200000-clause-made c = λ sorts trees forms f stand form k st.
    let n = c.in-Some.n in
    let keeps = sym c.kept_number.ensures ∙ c.in-Some.is in
    opens_nothing f c.args.line.now n k st keeps
    (over_limits sorts trees c.args.rows.now forms n c.row_of-row.result f stand c.row_of-row.ensures
    (subst (λ (o : Option ℕ). IsKeptForm forms o f) keeps form) c.else-row-le200000.either)
