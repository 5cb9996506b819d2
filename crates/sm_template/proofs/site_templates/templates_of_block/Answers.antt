-- The templates of the names that the code writes, of which none stands twice.
use Rattle.sm_template.proofs.Imports.{sym, subst, Copy, Code, of_copy, declared_of, sorts_in, AreOutputsDeclared, rest_code}
use Rattle.sm_template.proofs.SitesLemmas.{written_declared, block_made}
use Rattle.sm_template.proofs.site_templates.templates_of_block.Goals as goal

pub put_names-requires : goal.put_names-requires
put_names-requires c =
    let sorts = sorts_in c.args.table.now in
    let declared = declared_of c.args.site.now.decls.now in
    let code : Copy → Code = λ (d : Copy). rest_code (of_copy c.args.code.now d) in
    let declares = subst (AreOutputsDeclared sorts) (sym (c.in_ok-names.ensures code c.in_ok-written.ensures))
    (written_declared sorts declared c.requires.site.as_declared c.requires.site.numbered code) in
    record { declared = declares }

pub returns-clause-made : goal.returns-clause-made
returns-clause-made c t of =
    let code : Copy → Code = λ (d : Copy). rest_code (of_copy c.args.code.now d) in
    block_made c.args.table.now c.put_names.new.table t c.args.site.now c.new-list.result.items c.put_names.new.list.items
    (declared_of c.in_ok-names.names) c.deref.result.now code of c.requires.site.numbered
    (c.in_ok-names.ensures code c.in_ok-written.ensures) c.deref.ensures.value c.new-list.ensures.items c.in_ok-put_names.ensures.added
