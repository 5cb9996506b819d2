-- The line has the trees of its numbers; what isn't there leaves none.
use Rattle.sm_check.proofs.Imports.{◌≡◌, None, length, refl, sym, ◌∙◌, trees_in, numbered_line}
use Rattle.sm_check.proofs.NamesLemmas.{line_made, line_within, line_without_term, line_without_fact}
use Rattle.sm_check.proofs.names.named_line.Goals as goal
use Rattle.sm_check.proofs.names.named_line.Goals.{else-has_terms-via-then-has_terms+else-has_facts, else-has_terms-via-else-has_terms}

pub returns-in_ok-line_under-clause-there : goal.returns-in_ok-line_under-clause-there
returns-in_ok-line_under-clause-there c =
    line_made (trees_in c.args.table.now) c.args.terms.now c.args.count (numbered_line c.args.line.now) c.in_ok-line_under.field-0
    (sym c.has_terms.ensures ∙ c.if-has_terms.true) (sym c.has_facts.ensures ∙ c.if-has_facts.true) c.in_ok-line_under.ensures

pub returns-in_ok-line_under-clause-within : goal.returns-in_ok-line_under-clause-within
returns-in_ok-line_under-clause-within c =
    line_within (length (trees_in c.args.table.now)) c.args.terms.now c.requires (numbered_line c.args.line.now) c.in_ok-line_under.field-0
    (sym c.has_terms.ensures ∙ c.if-has_terms.true) c.in_ok-line_under.ensures

pub returns-else-has_terms-clause-missing : goal.returns-else-has_terms-clause-missing
returns-else-has_terms-clause-missing c =
    let trees = trees_in c.args.table.now in
    let l = numbered_line c.args.line.now in (
      refl,
      elim c.else-has_terms.branch [
        | else-has_terms-via-then-has_terms+else-has_facts w ↦ line_without_fact trees c.args.terms.now c.args.count l
            (sym w.has_facts.ensures ∙ w.if-has_facts.false)
        | else-has_terms-via-else-has_terms w ↦ line_without_term trees c.args.terms.now c.args.count l
            (sym c.has_terms.ensures ∙ w.if-has_terms.false)
      ],
    )
