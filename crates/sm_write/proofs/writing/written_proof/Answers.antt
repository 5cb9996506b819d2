-- The version line is put before what was written.
use Rattle.sm_write.proofs.Imports.{◌≡◌, ℕ, Bool, List, ◌∷◌, ◌++◌, sym, ap, ◌∙◌, subst, IfOk-weaker, Header, subject_of, spelled_back, parts_of, Leads, line_text, value_of, version_where, some_mapped}
use Rattle.std.proofs.Common.{IfOk}
use Rattle.sm_proof.proofs.CasesLemmas.{files_are_lines}
use Rattle.sm_proof.proofs.ExactLines.{exact_read}
use Rattle.sm_write.proofs.TextLemmas.{IsFile, leads_pass}
use Rattle.sm_write.proofs.writing.written_proof.Goals as goal

pub returns : goal.returns
returns c =
    let task = c.args.task.now in
    let t = parts_of task in
    let s = subject_of t in
    let whole = c.in_ok-write_task.ensures.written (c.fresh_writer-w.ensures s) in
    let done = value_of c.write_task.new.w in
    let assumes : c.is_some.result ≡ s.assumes = c.is_some.ensures ∙ sym (some_mapped task.assumed) in
    let lean =
    c.in_ok-lean.ensures s done.exact whole.last
    (subst (λ (b : List ℕ). Leads s b done.exact whole.last) (sym c.as_slice.ensures.value) whole.leads) in
    let text = c.in_ok-lean.lean.items in
    let file : IfOk c.finished.result (λ bytes. IsFile t lean.leads.lines bytes.items) =
    IfOk-weaker c.finished.result _ _
    (λ bytes is.
    leads_pass spelled_back files_are_lines exact_read t text done.exact lean.after lean.leads (lean.same ∙ whole.done) bytes.items
    (is
    ∙ (ap (λ (b : Bool). line_text (Header (version_where done.exact b)) ++ c.as_slice-2.result.now) assumes
    ∙ ap (λ (b : List ℕ). line_text (Header (version_where done.exact s.assumes)) ++ b) c.as_slice-2.ensures.value)))
    c.finished.ensures in
    record {
      passes = IfOk-weaker c.finished.result _ _ (λ bytes is. is.passes) file;
      version = IfOk-weaker c.finished.result _ _ (λ bytes is. is.version) file;
      named = IfOk-weaker c.finished.result _ _ (λ bytes is. (Header is.first ∷ lean.leads.lines, is.read, lean.named)) file;
      widens = c.in_ok-write_task.ensures.widens;
    }
