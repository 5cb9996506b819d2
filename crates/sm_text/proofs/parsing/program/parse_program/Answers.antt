use Rattle.sm_text.proofs.Imports.{sym, ap, ◌∙◌, subst, List, map, plain, Symbol, Lexed, IsProgram, ArePrograms, whole_text, program_parts}
use Rattle.sm_text.specs.parsing.Program as p
use Rattle.sm_text.proofs.FirstFault.Judged.{program_judges, program_viable}
use Rattle.sm_text.proofs.RoundTrip.Parts.{program_has_names}
use Rattle.sm_text.proofs.Sound.Programs.{whole_program_told, program_same, program_not_refused}
use Rattle.sm_text.proofs.FirstFault.Ordered.{lexed-ascends, symbols-map}
use Rattle.sm_text.proofs.FirstFault.Texts.{fault_behind, refused_whole}
use Rattle.sm_text.proofs.parsing.program.parse_program.Goals as goal

pub returns-in-None-clause-ok : goal.returns-in-None-clause-ok
returns-in-None-clause-ok c =
    let names = c.in_ok-symbols.symbols.names in
    let F : List Symbol → Type 0 = λ ts. IsProgram (map plain ts) (program_parts c.in-Ok.program) in
    let told = whole_program_told names _ _ c.in-Ok.ensures in
    record {
      tokens = ap (λ l. l.1) (sym c.in_ok-tokens.ensures) ∙ c.in-None.is;
      names = told.1 ∙ c.in_ok-symbols.ensures.names;
      grammar = subst F (c.deref-2.ensures.value ∙ c.in_ok-symbols.ensures.list) told.0;
    }

pub returns-in-None-clause-printable : goal.returns-in-None-clause-printable
returns-in-None-clause-printable c = (c.args.bytes.now, returns-in-None-clause-ok c)

pub returns-in-None-clause-named : goal.returns-in-None-clause-named
returns-in-None-clause-named c = program_has_names _ (returns-in-None-clause-printable c)

pub returns-in-None-clause-only : goal.returns-in-None-clause-only
returns-in-None-clause-only c t spells =
    program_same c.args.bytes.now t c.in_ok-symbols.symbols.names _ (program_parts c.in-Ok.program) spells c.in_ok-symbols.ensures.names
    (c.deref-2.ensures.value ∙ c.in_ok-symbols.ensures.list) c.in-Ok.ensures

pub returns-in-Err-Fault-clause-only : goal.returns-in-Err-Fault-clause-only
returns-in-Err-Fault-clause-only c t spells =
    absurd (program_not_refused c.args.bytes.now t c.in_ok-symbols.symbols.names _ _ spells c.in_ok-symbols.ensures.names
    (c.deref-2.ensures.value ∙ c.in_ok-symbols.ensures.list) (rw c.in-Err-Fault.field-0-is at c.in-Err-Fault.ensures))

pub returns-in-Ok-clause-place : goal.returns-in-Ok-clause-place
returns-in-Ok-clause-place c =
    let names = c.in_ok-symbols.symbols.names in
    fault_behind (p.whole_program names) ArePrograms (program_judges names) (whole_text c.args.bytes.now) (lexed-ascends c.args.bytes.now) _
    (c.deref-2.ensures.value ∙ c.in_ok-symbols.ensures.list ∙ symbols-map c.args.bytes.now) _ c.in-Ok.ensures
    (program_viable names _ _ c.in-Ok.ensures) c.in-Some.fault (ap (λ (l : Lexed). l.1) (sym c.in_ok-tokens.ensures) ∙ c.in-Some.is)
    c.lexical_error.result c.lexical_error.ensures

pub returns-in-Err-Fault-clause-place : goal.returns-in-Err-Fault-clause-place
returns-in-Err-Fault-clause-place c =
    let names = c.in_ok-symbols.symbols.names in
    refused_whole (p.whole_program names) ArePrograms (program_judges names) c.args.bytes.now c.in_ok-tokens.tokens c.in_ok-tokens.ensures _
    (c.deref-2.ensures.value ∙ c.in_ok-symbols.ensures.list ∙ symbols-map c.args.bytes.now) c.in-Err-Fault.fault
    (rw c.in-Err-Fault.field-0-is at c.in-Err-Fault.ensures) c.refused.result c.refused.ensures
