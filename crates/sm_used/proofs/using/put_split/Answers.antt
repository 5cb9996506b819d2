-- The names of both parts, and those of the line, are those of the branch.
use Rattle.sm_used.proofs.Imports.{◌||◌, suc, ◌∙◌, ap, ProofLine, line_names_fact, is_in}
use Rattle.sm_used.proofs.BranchLemmas.{split_known, both_known}
use Rattle.sm_used.proofs.using.put_split.Goals as goal

pub returns-clause-know : goal.returns-clause-know
returns-clause-know c = λ l lines is splits know.
    let old = c.args.branches.now.items in
    let mid = c.first_of-first.new.branches.items in
    let rest = c.first_of-second.new.branches.items in
    split_known old rest c.push.new.self.items c.add_line.new.names l lines c.in_ok-push.ensures.items splits know
    (λ n. both_known old mid c.first_of-first.result c.first_of-second.result c.in_ok-names.names c.add_line.new.names l n
    (c.first_of-first.ensures.first n) (c.first_of-second.ensures.first n) (c.first_of-first.ensures.others 0 n)
    (c.in_ok-names.ensures n)
    (c.in_ok-add_line.ensures n ∙ ap (λ (line : ProofLine). line_names_fact n line || is_in c.in_ok-names.names n) is))
    (λ j n. c.first_of-second.ensures.others j n ∙ c.first_of-first.ensures.others (suc j) n)
