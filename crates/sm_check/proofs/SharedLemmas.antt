-- What the jobs read may be read by several threads at once.
use denote.Param.Send.{IsSync, sendable}
use Rattle.std.proofs.Crossing.{crosses}
use Rattle.std.proofs.MapsCrossing as maps
use Rattle.std.proofs.alloc.Global.TheSendSync as heap
use Rattle.std.proofs.hash.BuildHasherDefault.TheSendSync as builder
use Rattle.std.proofs.hash.FoldHasher.TheSendSync as hasher
use Rattle.std.proofs.option.Option.TheSendSync as option
use Rattle.sm_numbering.proofs.numbering.Numbering.TheSendSync as set
use Rattle.sm_num.proofs.form.LinForm.TheSendSync as form
use Rattle.sm_syntax.proofs.program.Decls.TheSendSync as decls
use Rattle.sm_syntax.proofs.tree.Cmp.TheSendSync as cmp
use Rattle.sm_syntax.proofs.tree.Cond.TheLaws.TheKnot as cond
use Rattle.sm_syntax.proofs.tree.Expr.TheLaws.TheKnot as expr
use Rattle.sm_syntax.proofs.tree.Name.TheSendSync as name
use Rattle.sm_syntax.proofs.tree.Sort.TheSendSync as sort
use Rattle.sm_syntax.proofs.tree.Stmt.TheLaws.TheKnot as stmt
use Rattle.sm_term.proofs.formula.Formula.TheLaws.TheKnot as formula
use Rattle.sm_term.proofs.term.Term.TheSendSync as term
use Rattle.sm_term.proofs.term.TermId.TheSendSync as id
use Rattle.sm_term.specs.contracts.table.TermTable as TermTable
use Rattle.sm_theory.specs.contracts.fact.Branch as Branch
use Rattle.sm_theory.specs.contracts.fact.Fact as Fact
use Rattle.sm_check.specs.contracts.openings.Opening as Opening
use Rattle.sm_check.specs.contracts.raw_lines.RawLines as RawLines

-- facts of a branch
pub fact_sync : IsSync Fact.the_row
fact_sync = search (sendable, crosses, formula.crosses, form.the_sync, id.the_field_sync) depth 40

-- a branch
pub branch_sync : IsSync Branch.the_row
branch_sync = search (fact_sync, sendable, crosses) depth 40

-- where certificates begin
pub opening_sync : IsSync Opening.the_row
opening_sync = search (fact_sync, option.the_field_sync, sendable, crosses) depth 40

-- certificates
pub raw_sync : IsSync RawLines.the_row
raw_sync = search (sendable, crosses) depth 40

-- the names of a table and its terms, and the bodies of its summaries
ruleset parts = (decls.the_field_sync, sort.the_field_sync, cmp.the_field_sync, name.the_field_sync, term.the_field_sync)

ruleset bodies = (stmt.crosses, cond.crosses, expr.crosses)

ruleset tables = (set.the_sync, hasher.the_sync, builder.the_sync, heap.the_sync, maps.crosses)

-- a table of terms
pub table_sync : IsSync TermTable.the_row
table_sync = search (tables, parts, bodies, sendable, crosses) depth 40 fits 3000
