use Rattle.sm_text.proofs.Imports.{sym, ap, ◌∙◌, subst, List, map, plain, Symbol, IsTask, Lexed, AreTasks, whole_text, parts_of}
use Rattle.sm_text.specs.rules.Reading as r
use Rattle.sm_text.proofs.Complete.Tasks.{parts_read, not_refused}
use Rattle.sm_text.proofs.Sound.Sections.{whole_told}
use Rattle.sm_text.proofs.FirstFault.Judged.{task_judges, task_viable}
use Rattle.sm_text.proofs.FirstFault.Ordered.{lexed-ascends, symbols-map}
use Rattle.sm_text.proofs.FirstFault.Texts.{fault_behind, refused_whole}
use Rattle.sm_text.proofs.parsing.text.read_task.Goals as goal

pub returns-in-None-clause-ok : goal.returns-in-None-clause-ok
returns-in-None-clause-ok c =
    let names = c.in_ok-symbols.symbols.names in
    let F : List Symbol → Type 0 = λ ts. IsTask (map plain ts) (parts_of c.in-Ok.task) in
    let told = whole_told names _ _ c.in-Ok.ensures in
    record {
      tokens = ap (λ l. l.1) (sym c.in_ok-tokens.ensures) ∙ c.in-None.is;
      names = told.1 ∙ c.in_ok-symbols.ensures.names;
      grammar = subst F (c.deref-2.ensures.value ∙ c.in_ok-symbols.ensures.list) told.0;
    }

pub returns-in-None-clause-only : goal.returns-in-None-clause-only
returns-in-None-clause-only c t p =
    parts_read c.args.bytes.now t c.in_ok-symbols.symbols.names _ (parts_of c.in-Ok.task) p c.in_ok-symbols.ensures.names
    (c.deref-2.ensures.value ∙ c.in_ok-symbols.ensures.list) c.in-Ok.ensures

pub returns-in-Err-Fault-clause-only : goal.returns-in-Err-Fault-clause-only
returns-in-Err-Fault-clause-only c t p =
    absurd (not_refused c.args.bytes.now t c.in_ok-symbols.symbols.names _ _ p c.in_ok-symbols.ensures.names (c.deref-2.ensures.value
    ∙ c.in_ok-symbols.ensures.list) (rw c.in-Err-Fault.field-0-is at c.in-Err-Fault.ensures))

pub returns-in-Ok-clause-place : goal.returns-in-Ok-clause-place
returns-in-Ok-clause-place c =
    let names = c.in_ok-symbols.symbols.names in
    fault_behind (r.whole names) AreTasks (task_judges names) (whole_text c.args.bytes.now) (lexed-ascends c.args.bytes.now) _
    (c.deref-2.ensures.value ∙ c.in_ok-symbols.ensures.list ∙ symbols-map c.args.bytes.now) _ c.in-Ok.ensures
    (task_viable names _ _ c.in-Ok.ensures) c.in-Some.fault (ap (λ (l : Lexed). l.1) (sym c.in_ok-tokens.ensures) ∙ c.in-Some.is)
    c.lexical_error.result c.lexical_error.ensures

pub returns-in-Err-Fault-clause-place : goal.returns-in-Err-Fault-clause-place
returns-in-Err-Fault-clause-place c =
    let names = c.in_ok-symbols.symbols.names in
    refused_whole (r.whole names) AreTasks (task_judges names) c.args.bytes.now c.in_ok-tokens.tokens c.in_ok-tokens.ensures _
    (c.deref-2.ensures.value ∙ c.in_ok-symbols.ensures.list ∙ symbols-map c.args.bytes.now) c.in-Err-Fault.fault
    (rw c.in-Err-Fault.field-0-is at c.in-Err-Fault.ensures) c.refused.result c.refused.ensures
