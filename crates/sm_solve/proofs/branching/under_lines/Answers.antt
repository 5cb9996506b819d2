use Rattle.sm_solve.proofs.Imports.{refl, CertTree, CertTree-F, CertEnd}
use Rattle.sm_solve.proofs.LeadingLemmas.{under_is, under_within}
use Rattle.sm_solve.proofs.branching.under_lines.Goals as goal

pub returns-clause-tree : goal.returns-clause-tree
returns-clause-tree c = λ trees.
    let x : CertTree-F CertEnd CertTree = record { lines = record { list = c.append.new.self }; last = c.args.tree.last } in
    under_is trees c.args.lines.items c.args.tree x c.in_ok-append.ensures.items refl

pub returns-clause-within : goal.returns-clause-within
returns-clause-within c = λ count own all.
    let x : CertTree-F CertEnd CertTree = record { lines = record { list = c.append.new.self }; last = c.args.tree.last } in
    under_within count c.args.lines.items c.args.tree x c.in_ok-append.ensures.items refl own all
