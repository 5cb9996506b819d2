use Rattle.std.proofs.Common.{sym, subst, ◌∙◌}
use Rattle.sm_solve.proofs.ReadingLemmas.{LeadTo, closed_names}
use Rattle.sm_solve.proofs.reading.names_what_it_reads.Goals as goal

pub returns-else-reads_all : goal.returns-else-reads_all
returns-else-reads_all c = λ same.
    closed_names c.args.tree.now c.in-Close.line c.in-Close.is (subst LeadTo c.deref.ensures.value (c.name_what_they_read.ensures same))
    (λ trees. sym c.if-reads_all.false ∙ c.reads_all.ensures trees)
