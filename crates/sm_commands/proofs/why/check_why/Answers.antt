-- The answer with its words behind it, or without them.
use Rattle.sm_commands.proofs.Imports.{◌≡◌, ◌++◌, rules, parts_of}
use Rattle.sm_commands.proofs.WhySaid.{explained, plain_answer}
use Rattle.sm_commands.proofs.why.check_why.Goals as goal

pub returns-then-effort-clause-answers : goal.returns-then-effort-clause-answers
returns-then-effort-clause-answers g c =
    let t = parts_of c.args.read.now.task in
    let d = c.in_ok-decided.decided in
    let s = c.in_ok-shown.shown in
    let printed : s.reply.text.items ≡ d.reply.text.items ++ c.in_ok-more.more.items = search rules in
    explained t c.args.effort d.reply.status s.reply.status d.reply.text.items c.in_ok-more.more.items s.reply.text.items
    c.if-effort.true c.in_ok-shown.ensures.status c.in_ok-decided.ensures.answers c.in_ok-more.ensures printed

pub returns-clause-answers : goal.returns-clause-answers
returns-clause-answers g c =
    let t = parts_of c.args.read.now.task in
    let d = c.in_ok-decided.decided in
    plain_answer t c.args.effort d.reply.status d.reply.text.items c.if-effort.false c.in_ok-decided.ensures.answers
