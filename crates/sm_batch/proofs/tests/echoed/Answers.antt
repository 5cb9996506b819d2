use Rattle.std.proofs.Common.{◌∙◌, refl, sym}
use Rattle.sm_batch.specs.Keys.{key_of}
use Rattle.sm_batch.proofs.tests.echoed.Goals as goal

pub returns-then-accepts : goal.returns-then-accepts
unfolding key_of
returns-then-accepts c =
    let yes = sym c.accepts.ensures ∙ c.if-accepts.true in
    record {
      reply = c.in_ok-reply.ensures.text;
      accepts = (λ _. yes, λ _. refl);
      taken = yes;
    }

pub returns : goal.returns
unfolding key_of
returns c =
    let no = sym c.accepts.ensures ∙ c.if-accepts.false in
    record {
      reply = c.in_ok-reply.ensures.text;
      accepts = (λ some. absurd (cc), λ yes. absurd (cc));
      taken = tt;
    }
