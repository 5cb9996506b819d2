-- What each fault tells.
use Rattle.sm_follow.proofs.Imports.{subst, AreTasks, IsRefusal, TextError, whole_text}
use Rattle.sm_follow.proofs.Judged.{expected_decides, nested_decides}
use Rattle.sm_follow.proofs.following.goes_on.Goals as goal

pub returns-in-Expected : goal.returns-in-Expected
returns-in-Expected c =
    expected_decides c.args.text.now c.in-Expected.place
    (subst (λ (e : TextError). IsRefusal AreTasks (whole_text c.args.text.now) e) c.in-Expected.is c.requires.refused)

pub returns-in-Nested : goal.returns-in-Nested
returns-in-Nested c =
    nested_decides c.args.text.now c.in-Nested.place
    (subst (λ (e : TextError). IsRefusal AreTasks (whole_text c.args.text.now) e) c.in-Nested.is c.requires.refused) c.requires.last
