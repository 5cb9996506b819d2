use Rattle.sm_batch.proofs.worker.taken_is_free.Goals as goal

pub returns : goal.returns
returns g c = g.met.W.Worker.is_free c.args.worker.now
