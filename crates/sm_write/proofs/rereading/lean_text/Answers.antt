-- What is left of the lines leads where they led.
use Rattle.sm_write.proofs.Imports.{◌≡◌, List, map, ap, sym, subst, ◌∙◌, list_any, IfOk-weaker, ProofLine, is_exact, AreReadable, bytes_of}
use Rattle.std.proofs.Common.{IfOk}
use Rattle.sm_proof.specs.Lines.{line_of}
use Rattle.sm_prune.specs.Laws.{LeadAlike}
use Rattle.sm_write.specs.Lean.{IsLean}
use Rattle.sm_write.proofs.rereading.lean_text.Goals as goal

pub returns : goal.returns
returns c = λ s exact p leads.
    let all : map line_of c.in_ok-lines.lines.items ≡ leads.lines = c.in_ok-lines.ensures leads.lines leads.spells leads.readable in
    let left = map line_of c.in_ok-left.left.items in
    let alike : LeadAlike leads.lines left = subst (λ (v : List ProofLine). LeadAlike v left) all c.in_ok-left.ensures.leads in
    let to = alike s.sorts s.start p leads.comes in
    IfOk-weaker c.text_of.result _ (λ text. IsLean s exact p text.items)
    (λ text is. record {
      after = to.0;
      leads = record {
        lines = left;
        spells = is ∙ ap (λ v. bytes_of (map line_of v)) c.as_slice.ensures.value;
        told = leads.told ∙ sym (c.in_ok-left.ensures.exact ∙ ap (list_any is_exact) all);
        readable = c.in_ok-left.ensures.readable (subst AreReadable (sym all) leads.readable);
        comes = to.1;
      };
      same = to.3;
      named = c.in_ok-left.ensures.named;
    }) c.text_of.ensures
