use Rattle.sm_prune.proofs.Imports.{map, take, line_of, terms_past, forms_past}
use Rattle.sm_prune.proofs.ToldLemmas.{terms_so_far, forms_so_far}
use Rattle.sm_prune.proofs.told.no_marks.Goals as goal

pub loop-line-preserved : goal.loop-line-preserved
loop-line-preserved c =
    let all = c.args.lines.now in
    let i = c.loop-line.line-index in
    let front = map line_of (take i all) in
    record {
      terms = terms_so_far all i c.line-item.result c.add_line.new.terms.items c.loop-line-test.true c.line-item.is
          (c.in_ok-add_line.ensures.terms (terms_past 0 front) c.loop-line.invariant.terms);
      forms = forms_so_far all i c.line-item.result c.add_line.new.forms.items c.loop-line-test.true c.line-item.is
          (c.in_ok-add_line.ensures.forms (forms_past 0 front) c.loop-line.invariant.forms);
    }
