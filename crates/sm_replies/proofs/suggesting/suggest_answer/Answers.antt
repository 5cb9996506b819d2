use Rattle.sm_replies.proofs.Imports.{◌≡◌, Bool, Some, None, rules, subst, AllRefused, IsFirst, Parts, Task, Decides}
use Rattle.sm_suggest.proofs.FitTasks.{spelled_are_fit}
use Rattle.sm_task.specs.Tasks.{parts_of}
use Rattle.sm_replies.proofs.SuggestedSafe.{none_answered, none_by, some_answered, some_by}
use Rattle.sm_replies.proofs.suggesting.suggest_answer.Goals as goal

pub suggest-requires-clause-fit : goal.suggest-requires-clause-fit
suggest-requires-clause-fit g c = spelled_are_fit (parts_of c.args.task.now) c.requires.spelled

pub returns-in-Ok-Some : goal.returns-in-Ok-Some
returns-in-Ok-Some g c =
    let t = parts_of c.args.task.now in
    let same : c.in-Ok-Some.field-0 ≡ Some c.in-Ok-Some.k = search rules in
    let first : IsFirst (λ (u : Parts) (answer : Bool). Decides u c.args.effort answer) t c.in-Ok-Some.k =
    some_by (λ (u : Parts) (answer : Bool). Decides u c.args.effort answer) t c.in-Ok-Some.field-0 c.in-Ok-Some.k same c.in-Ok-Some.ensures.some
    (λ u b may. subst (λ (p : Parts). Decides p c.args.effort b) may.is
    (subst (λ (x : Task). Decides (parts_of x) c.args.effort b) may.says.shows (search (rules, may.says.says.met)))) in
    some_answered t c.args.effort c.in-Ok-Some.k c.suggestion.result c.in-Ok-Some.ensures.few first c.suggestion.ensures

pub returns-in-Ok-None : goal.returns-in-Ok-None
returns-in-Ok-None g c =
    let t = parts_of c.args.task.now in
    let same : c.in-Ok-None.field-0 ≡ None = search rules in
    let all : AllRefused (λ (u : Parts) (answer : Bool). Decides u c.args.effort answer) t =
    none_by (λ (u : Parts) (answer : Bool). Decides u c.args.effort answer) t c.in-Ok-None.field-0 same c.in-Ok-None.ensures.none
    (λ u b may. subst (λ (p : Parts). Decides p c.args.effort b) may.is
    (subst (λ (x : Task). Decides (parts_of x) c.args.effort b) may.says.shows (search (rules, may.says.says.met)))) in
    none_answered t c.args.effort c.none_suggested.result c.in-Ok-None.ensures.few all c.none_suggested.ensures
