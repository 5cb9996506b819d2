use Rattle.sm_batch.specs.Keys.{key_of}
use Rattle.sm_batch.proofs.batch.Batch.look_up.Goals as goal

pub kept_reply-requires-clause-key : goal.kept_reply-requires-clause-key
unfolding key_of
kept_reply-requires-clause-key g c = c.in_ok-key.ensures.text

pub returns : goal.returns
unfolding key_of
returns g c = record {
  key = c.in_ok-key.ensures.text;
  hit = c.in_ok-reply.ensures.hit;
  reply = c.in_ok-reply.ensures.reply;
}
