use Rattle.sm_term.proofs.Imports.{◌∙◌, ap, fold}
use Rattle.std.specs.Hash as fed
use Rattle.sm_term.specs.Bodies.{hashed_body}
use Rattle.sm_term.proofs.bodies.BodyHash.hash.Goals as goal

pub returns : goal.returns
unfolding hashed_body
returns g c = c.hash.ensures ∙ ap (λ n. fold g.H.Hasher.write c.args.state.now (fed.u64 n)) c.args.self.now.counted
