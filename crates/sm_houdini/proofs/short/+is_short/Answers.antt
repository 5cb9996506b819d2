-- A certificate is short where its lines are, and those below a split.
use Rattle.sm_houdini.proofs.Imports.{sym, subst, ◌∙◌, certificate_in, CertTree, IsShort}
use Rattle.sm_houdini.proofs.ShortLemmas.{split_short, not_both}
use Rattle.sm_houdini.proofs.short.+is_short.Goals as goal
use Rattle.sm_houdini.proofs.short.+is_short.Goals.{then-is_short_line, else-is_short_line}

pub returns-then-is_short : goal.returns-then-is_short
returns-then-is_short t c = λ trees e.
    elim c.if-is_short_line.branch [
      | then-is_short_line w ↦
          split_short trees c.args.tree.now c.in-Split.line c.in-Split.first c.in-Split.second c.deref.result.now c.in-Split.is
          c.deref.ensures.value (λ k s. c.are_short_lines.ensures trees k c.if-not-are_short_lines.false s)
          ((c.is_short_line-in-Split.ensures trees).0 w.if-is_short_line.true)
          (subst (λ (u : CertTree). IsShort (certificate_in trees u)) w.deref-then-is_short_line.ensures
          (w.is_short.ensures trees (sym w.value-is ∙ c.if-is_short.true)))
          (subst (λ (u : CertTree). IsShort (certificate_in trees u)) c.deref-then-is_short.ensures
          (c.is_short-then-is_short.ensures trees e))
      | else-is_short_line w ↦ not_both c.if-is_short_line.value (w.value-is ∙ w.if-is_short_line.false) c.if-is_short.true
    ]
