use Rattle.std.proofs.Common.{◌∙◌}
use Rattle.sm_batch.proofs.telling.kept_of.Goals as goal

pub returns-in_ok-from_slice-in-Some-2 : goal.returns-in_ok-from_slice-in-Some-2
returns-in_ok-from_slice-in-Some-2 c = record {
  given = c.in-Some.cert;
  some = c.in-Some.is;
  cert = c.in_ok-from_slice-in-Some-2.ensures.items ∙ c.deref-in-Some.ensures.value;
  reply = c.in_ok-from_slice-in-Some.ensures.items ∙ c.deref.ensures.value;
}
