use Rattle.sm_batch.proofs.Imports.{◌≡◌, ◌∙◌, length, map, All, sym, ap, subst, Bor, List, ℕ, true, AllZip, ConflictFree, Parts, task_of, HasText, parts_of, Task, IsAnswer, MayAnswer, IsLookedUp, missed}
use Rattle.sm_batch.proofs.JobLemmas.{all_unmap}
use Rattle.sm_batch.proofs.TellLemmas.{missed_all, missed_length, all_told, answers_told}
use Rattle.sm_batch.proofs.batch.Batch.replies_and_steps.Goals as goal
use Rattle.sm_lemmas.proofs.Lists.{zip_length}

pub missed-requires : goal.missed-requires
missed-requires g c =
    let w = c.args.self.now.worker in
    zip_length (IsLookedUp (g.W.Worker.replies w) (g.W.Worker.accepts w) (g.W.Worker.takes w) c.args.self.now.entries) c.args.tasks.now
    c.in_ok-looked.looked.items c.in_ok-looked.ensures ∙ ap length (sym c.deref.ensures.value)

pub answer_all-requires-clause-spelled : goal.answer_all-requires-clause-spelled
answer_all-requires-clause-spelled g c κs within =
    let now = λ (b : Bor Task). b.now in
    let all = missed_all (λ (t : Task). HasText (parts_of t)) c.args.tasks.now c.deref.result.now c.requires.spelled in
    let wanted =
    all_unmap now (λ (t : Task). HasText (parts_of t)) c.in_ok-wanted.wanted.items
    (subst (All (λ (t : Task). HasText (parts_of t))) (sym c.in_ok-wanted.ensures) all) in
    subst (All (λ (b : Bor Task). HasText (parts_of b.now))) (sym c.deref-2.ensures.value) wanted

pub tell-requires : goal.tell-requires
tell-requires g c =
    let w = c.args.self.now.worker in
    let tasks = c.args.tasks.now in
    let looked = c.in_ok-looked.looked.items in
    let now = λ (b : Bor Task). b.now in
    let long =
    zip_length (IsLookedUp (g.W.Worker.replies w) (g.W.Worker.accepts w) (g.W.Worker.takes w) c.args.self.now.entries) tasks looked
    c.in_ok-looked.ensures in
    let asked : map now c.deref-2.result.now ≡ missed tasks looked =
    ap (map now) c.deref-2.ensures.value ∙ c.in_ok-wanted.ensures ∙ ap (missed tasks) c.deref.ensures.value in
    sym (missed_length tasks looked long) ∙ sym (ap length asked)
    ∙ zip_length (MayAnswer g.A.Fn c.args.answer.now) (map now c.deref-2.result.now) c.in_ok-answers.answers.items c.in_ok-answers.ensures

pub returns-clause-replies : goal.returns-clause-replies
returns-clause-replies g c =
    let w = c.args.self.now.worker in
    let tasks = c.args.tasks.now in
    let looked = c.in_ok-looked.looked.items in
    let answers = c.in_ok-answers.answers.items in
    let now = λ (b : Bor Task). b.now in
    let asked : map now c.deref-2.result.now ≡ missed tasks looked =
    ap (map now) c.deref-2.ensures.value ∙ c.in_ok-wanted.ensures ∙ ap (missed tasks) c.deref.ensures.value in
    let free =
    subst (λ v. (t : Parts) (l : List ℕ) → HasText t → g.W.Worker.takes v.worker t l ≡ true → ConflictFree (task_of t)) c.self.view_is
    c.taken_is_free.ensures in
    let texts = missed_all (λ (t : Task). HasText (parts_of t)) tasks looked c.requires.spelled in
    let answered =
    answers_told (MayAnswer g.A.Fn c.args.answer.now) (IsAnswer (g.W.Worker.replies w) (g.W.Worker.accepts w) (g.W.Worker.takes w)) c.requires.told
    (missed tasks looked) answers texts (subst (λ (l : List Task). AllZip (MayAnswer g.A.Fn c.args.answer.now) l answers) asked c.in_ok-answers.ensures) in
    (all_told (g.W.Worker.replies w) (g.W.Worker.accepts w) (g.W.Worker.takes w) free c.args.self.now.entries tasks
    looked answers c.in_ok-told.told.0.items c.in_ok-told.told.1.items c.in_ok-looked.ensures answered c.in_ok-told.ensures).0

pub returns-clause-steps : goal.returns-clause-steps
returns-clause-steps g c =
    let w = c.args.self.now.worker in
    let tasks = c.args.tasks.now in
    let looked = c.in_ok-looked.looked.items in
    let answers = c.in_ok-answers.answers.items in
    let now = λ (b : Bor Task). b.now in
    let asked : map now c.deref-2.result.now ≡ missed tasks looked =
    ap (map now) c.deref-2.ensures.value ∙ c.in_ok-wanted.ensures ∙ ap (missed tasks) c.deref.ensures.value in
    let free =
    subst (λ v. (t : Parts) (l : List ℕ) → HasText t → g.W.Worker.takes v.worker t l ≡ true → ConflictFree (task_of t)) c.self.view_is
    c.taken_is_free.ensures in
    let texts = missed_all (λ (t : Task). HasText (parts_of t)) tasks looked c.requires.spelled in
    let answered =
    answers_told (MayAnswer g.A.Fn c.args.answer.now) (IsAnswer (g.W.Worker.replies w) (g.W.Worker.accepts w) (g.W.Worker.takes w)) c.requires.told
    (missed tasks looked) answers texts (subst (λ (l : List Task). AllZip (MayAnswer g.A.Fn c.args.answer.now) l answers) asked c.in_ok-answers.ensures) in
    (all_told (g.W.Worker.replies w) (g.W.Worker.accepts w) (g.W.Worker.takes w) free c.args.self.now.entries tasks
    looked answers c.in_ok-told.told.0.items c.in_ok-told.told.1.items c.in_ok-looked.ensures answered c.in_ok-told.ensures).1
