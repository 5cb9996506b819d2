use Rattle.sm_batch.proofs.Imports.{◌∙◌, ◌+◌, ◌-◌, ◌^◌, ℕ, min, ap, Vec, Global, parts_of, IsReply}
use Rattle.sm_batch.proofs.SettleLemmas.{steps_safe, settled, hits_counted}
use Rattle.sm_batch.proofs.TellLemmas.{all_free}
use Rattle.sm_batch.proofs.ZipLemmas.{zip_map}
use Rattle.sm_batch.proofs.batch.Batch.group.Goals as goal

pub settle-requires : goal.settle-requires
settle-requires g c =
    let b = c.args.self.now in
    let w = b.worker in
    steps_safe (g.W.Worker.replies w) (g.W.Worker.accepts w) (g.W.Worker.takes w) b.entries c.args.tasks.now c.in_ok-replies.steps.items
    c.in_ok-replies.ensures.steps c.requires.spelled

pub returns-clause-replies : goal.returns-clause-replies
returns-clause-replies g c =
    let w = c.args.self.now.worker in
    zip_map parts_of (λ (v : Vec ℕ Global). v.items) (IsReply (g.W.Worker.replies w) (g.W.Worker.accepts w) (g.W.Worker.takes w))
    (g.W.Worker.replies w) (λ t r is. is.is) c.args.tasks.now c.in_ok-replies.replies.items c.in_ok-replies.ensures.replies

pub returns-clause-free : goal.returns-clause-free
returns-clause-free g c =
    let b = c.args.self.now in
    let w = b.worker in
    all_free (g.W.Worker.replies w) (g.W.Worker.accepts w) (g.W.Worker.takes w) c.args.tasks.now
    c.in_ok-replies.replies.items c.requires.spelled c.in_ok-replies.ensures.replies

pub returns-clause-entries : goal.returns-clause-entries
returns-clause-entries g c =
    let b = c.args.self.now in
    let w = b.worker in
    settled (g.W.Worker.replies w) (g.W.Worker.accepts w) (g.W.Worker.takes w) b.entries b.capacity c.args.tasks.now c.in_ok-replies.steps.items
    c.settle.new.self.entries c.in_ok-replies.ensures.steps c.settle.ensures.entries

pub returns-clause-hits : goal.returns-clause-hits
returns-clause-hits g c =
    let b = c.args.self.now in
    let w = b.worker in
    c.settle.ensures.hits
    ∙ ap (λ n. min (b.hits + n) (2 ^ 64 - 1))
    (hits_counted (g.W.Worker.replies w) (g.W.Worker.accepts w) (g.W.Worker.takes w) b.entries c.args.tasks.now c.in_ok-replies.steps.items
    c.in_ok-replies.ensures.steps)
