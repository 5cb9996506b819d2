-- No fault leaves a task.
use Rattle.sm_follow.proofs.Imports.{subst, AreTasks, IsRefusal, TextError, whole_text}
use Rattle.sm_text.specs.declared.error.TextError.TheVariants as error
use Rattle.sm_follow.proofs.Judged.{falls_short}
use Rattle.sm_follow.proofs.following.falls_short.Goals as goal

pub returns-in-Expected : goal.returns-in-Expected
returns-in-Expected c =
    falls_short c.args.text.now (error.Expected c.in-Expected.place)
    (subst (λ (e : TextError). IsRefusal AreTasks (whole_text c.args.text.now) e) c.in-Expected.is c.requires.refused) c.requires.nests

pub returns-in-Nested : goal.returns-in-Nested
returns-in-Nested c =
    falls_short c.args.text.now (error.Nested c.in-Nested.place)
    (subst (λ (e : TextError). IsRefusal AreTasks (whole_text c.args.text.now) e) c.in-Nested.is c.requires.refused) c.requires.nests
