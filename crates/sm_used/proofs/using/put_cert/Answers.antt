-- A line of each kind is used, by what its function tells.
use Rattle.sm_used.proofs.Imports.{◌≡◌, true, ◌∙◌, sym, if◌then◌else◌, IsTrue, Cert, numbered_line, IsCertUsed, Know}
use Rattle.std.proofs.Common.{IfOk}
use Rattle.sm_used.proofs.UsedLemmas.{both_told, closing_used, split_used, plain_used, known_behind}
use Rattle.sm_used.proofs.using.put_cert.Goals as goal

pub returns-in_ok-put_closing : goal.returns-in_ok-put_closing
returns-in_ok-put_closing c = λ lines know.
    let l = numbered_line c.args.cert.now in
    let closes = sym c.closes_branch.ensures ∙ c.if-closes_branch.true in
    (c.in_ok-put_closing.ensures l lines c.requires closes know, λ e. closing_used c.args.facts l lines closes)

pub returns-then-splits_branch : goal.returns-then-splits_branch
returns-then-splits_branch c = λ lines know.
    let l = numbered_line c.args.cert.now in
    let splits = sym c.splits_branch.ensures ∙ c.if-splits_branch.true in
    both_told _ c.put_split.result (c.put_split.ensures.know l lines c.requires splits know) (c.put_split.ensures.used lines know)
    (λ used told e. split_used c.args.facts l lines splits (told e))

pub returns-else-splits_branch : goal.returns-else-splits_branch
returns-else-splits_branch c = λ lines know.
    let l = numbered_line c.args.cert.now in
    let opens = sym c.closes_branch.ensures ∙ c.if-closes_branch.false in
    let one = sym c.splits_branch.ensures ∙ c.if-splits_branch.false in
    both_told _ c.put_plain.result
    (known_behind c.put_plain.result c.put_plain.new.branches.items l lines c.requires opens one
    (λ goes. c.put_plain.ensures.know lines goes know)) (c.put_plain.ensures.used lines know)
    (λ used told e. plain_used c.args.facts (if c.adds_two.result then 2 else 1) l lines opens one c.adds_two.ensures (told e))
