-- The lines that are left lead where all lines lead, and each that makes something is named.
use Rattle.sm_prune.proofs.Imports.{◌≡◌, refl, List, map, reverse, subst, sym, ap, ◌∙◌, IfOk, list_any, ProofLine, line_of, is_exact, LeadAlike, left_lines, no_numbers, answers_of, lines_told, AreReadable, AreNamed}
use Rattle.std.proofs.lemmas.Result.{IfOk-weaker}
use Rattle.sm_prune.proofs.LeftNamed.{left_named, left_exact}
use Rattle.sm_prune.proofs.PruneLemmas.{left_alike, left_read}
use Rattle.sm_prune.proofs.prune.pruned.Goals as goal

pub returns : goal.returns
returns c =
    let told = reverse c.in_ok-told.told.items in
    let bs = answers_of told in
    let ls = lines_told told in
    let all = map line_of c.args.lines.items in
    let same = c.in_ok-told.ensures.same in
    let is = c.in_ok-told.ensures.told in
    let left = left_lines no_numbers bs ls in
    record {
      leads = IfOk-weaker c.numbered.result _ (λ l. LeadAlike all (map line_of l.items))
          (λ l e. subst (λ (v : List ProofLine). LeadAlike v (map line_of l.items)) same
          (subst (λ (v : List ProofLine). LeadAlike ls v) (sym e) (left_alike bs ls is))) c.numbered.ensures;
      named = IfOk-weaker c.numbered.result _ (λ l. AreNamed 0 0 (map line_of l.items))
          (λ l e. subst (λ (v : List ProofLine). AreNamed 0 0 v) (sym e) (left_named 0 0 no_numbers bs ls is refl refl))
          c.numbered.ensures;
      exact = IfOk-weaker c.numbered.result _ (λ l. list_any is_exact (map line_of l.items) ≡ list_any is_exact all)
          (λ l e. ap (list_any is_exact) e ∙ (left_exact 0 0 no_numbers bs ls is ∙ ap (list_any is_exact) same)) c.numbered.ensures;
      readable = λ are.
          IfOk-weaker c.numbered.result _ (λ l. AreReadable (map line_of l.items))
          (λ l e. subst AreReadable (sym e) (left_read bs ls (subst AreReadable (sym same) are))) c.numbered.ensures;
    }
