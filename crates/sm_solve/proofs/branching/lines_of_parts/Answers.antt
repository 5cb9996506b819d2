-- Each turn puts the line of one more formula last.
use Rattle.sm_solve.proofs.Imports.{◌+◌, ◌≤◌, ◌++◌, List, length, map, drop, sym, ap, ◌∙◌, arith, append_assoc, numbered, CertificateLine, line_in, both_line, both_lines, all_numbered}
use Rattle.sm_solve.proofs.LeadingLemmas.{lines_next, lines_end}
use Rattle.sm_solve.proofs.branching.lines_of_parts.Goals as goal

pub loop-at-preserved : goal.loop-at-preserved
loop-at-preserved c =
    let n = c.loop-at.at in
    let fs = c.args.facts.now in
    let f = c.index-facts-at.result in
    let left = both_lines (n + 1) (drop (n + 1) (all_numbered fs)) in
    record {
      inside = omega arith;
      lines = λ trees.
          let old = map (line_in trees) c.loop-at.lines.items in
          ap (λ (ls : List CertificateLine). ls ++ left) (c.in_ok-push_line.ensures.lines trees)
          ∙ append_assoc old (both_line n (numbered f)) left
          ∙ ap (λ (ls : List CertificateLine). old ++ ls) (sym (lines_next fs n f (omega arith) c.index-facts-at.is))
          ∙ c.loop-at.invariant.lines trees;
      within = λ count. c.in_ok-push_line.ensures.within count (c.loop-at.invariant.within count);
    }

pub returns-clause-lines : goal.returns-clause-lines
returns-clause-lines c = λ trees.
    let past : length c.args.facts.now ≤ c.loop-at.at = omega arith in
    sym (lines_end (map (line_in trees) c.loop-at.lines.items) c.loop-at.at c.args.facts.now past) ∙ c.loop-at.invariant.lines trees
