-- One node more before what follows.
use Rattle.std.proofs.Common.{refl}
use Rattle.sm_sketch.proofs.SketchesDrawn.{put_drawn, put_ready}
use Rattle.sm_sketch.proofs.drawing.put.Goals as goal

pub returns-clause-drawn : goal.returns-clause-drawn
returns-clause-drawn c = λ sorts trees node is.
    put_drawn sorts trees _ c.args.next c.args.simple node c.in_ok-push.ensures.items refl is

pub returns-clause-ready : goal.returns-clause-ready
returns-clause-ready c = λ sorts trees node is flat ready.
    put_ready sorts trees _ c.args.next c.args.simple node c.in_ok-push.ensures.items refl is flat c.in_ok-extent.ensures.nodes
    c.in_ok-extent.ensures.branches ready
