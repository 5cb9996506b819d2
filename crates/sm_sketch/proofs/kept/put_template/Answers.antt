-- The template is there, or it isn't.
use Rattle.sm_sketch.proofs.KeptFormulas.{put_some, put_none}
use Rattle.sm_sketch.proofs.kept.put_template.Goals as goal

pub returns-in_ok-push-in-Some : goal.returns-in_ok-push-in-Some
returns-in_ok-push-in-Some c =
    let f = c.in-Some.template in
    put_some c.args.list.now.items c.push.new.self.items f c.args.templates.now c.args.number c.in_ok-push-in-Some.ensures.items
    c.in-Some.ensures.lookup.3.0 (c.in-Some.ensures.lookup.3.1 f.now)

pub returns-in-None : goal.returns-in-None
returns-in-None c = put_none c.args.list.now.items c.args.templates.now c.args.number c.in-None.ensures.lookup.3
