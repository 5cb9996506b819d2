use Rattle.std.proofs.Common.{refl}
use Rattle.sm_batch.proofs.telling.tell_one.Goals as goal

pub returns-in_ok-fresh-in-Some-next : goal.returns-in_ok-fresh-in-Some-next
returns-in_ok-fresh-in-Some-next c =
    rw c.in-None.is (
      c.in-Some-next.answer,
      c.in-Some-next.ensures.items,
      record {
        key = refl;
        hit = refl;
        fresh = c.in_ok-fresh-in-Some-next.ensures;
        reply = refl;
      },
    )
