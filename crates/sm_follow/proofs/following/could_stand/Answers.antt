-- What the reading of a text with a sample behind it tells of the kind.
use Rattle.sm_follow.proofs.Imports.{sym, subst, Decides, IfOk, behind_line, CouldStand, IsBegun, sample, NestsLast, Kind}
use Rattle.sm_follow.proofs.Samples.{mark_nests_last, name_nests_last, number_nests_last, text_nests_nowhere}
use Rattle.sm_follow.proofs.following.could_stand.Goals as goal

pub is_begun_with-requires-clause-last : goal.is_begun_with-requires-clause-last
is_begun_with-requires-clause-last c =
    subst (λ (k : Kind). NestsLast (behind_line c.args.text.now (sample k))) (sym c.in-Mark.is)
    (mark_nests_last c.args.text.now c.requires.front c.in-Mark.field-0)

pub is_begun_with-requires-in-Name-clause-last : goal.is_begun_with-requires-in-Name-clause-last
is_begun_with-requires-in-Name-clause-last c =
    subst (λ (k : Kind). NestsLast (behind_line c.args.text.now (sample k))) (sym c.in-Name.is)
    (name_nests_last c.args.text.now c.requires.front)

pub is_begun_with-requires-in-Number-clause-last : goal.is_begun_with-requires-in-Number-clause-last
is_begun_with-requires-in-Number-clause-last c =
    subst (λ (k : Kind). NestsLast (behind_line c.args.text.now (sample k))) (sym c.in-Number.is)
    (number_nests_last c.args.text.now c.requires.front)

pub is_complete-requires-clause-nests : goal.is_complete-requires-clause-nests
is_complete-requires-clause-nests c = text_nests_nowhere c.args.text.now c.requires.front

pub returns-in-Mark : goal.returns-in-Mark
returns-in-Mark c =
    subst (λ (k : Kind). IfOk c.is_begun_with.result (λ could. Decides could (CouldStand c.args.text.now k))) (sym c.in-Mark.is)
    (subst (λ (k : Kind). IfOk c.is_begun_with.result (λ begun. Decides begun (IsBegun (behind_line c.args.text.now (sample k)))))
    c.in-Mark.is c.is_begun_with.ensures)

pub returns-in-Name : goal.returns-in-Name
returns-in-Name c =
    subst (λ (k : Kind). IfOk c.is_begun_with-in-Name.result (λ could. Decides could (CouldStand c.args.text.now k))) (sym c.in-Name.is)
    (subst (λ (k : Kind). IfOk c.is_begun_with-in-Name.result (λ begun. Decides begun (IsBegun (behind_line c.args.text.now (sample k)))))
    c.in-Name.is c.is_begun_with-in-Name.ensures)

pub returns-in-Number : goal.returns-in-Number
returns-in-Number c =
    subst (λ (k : Kind). IfOk c.is_begun_with-in-Number.result (λ could. Decides could (CouldStand c.args.text.now k))) (sym c.in-Number.is)
    (subst (λ (k : Kind). IfOk c.is_begun_with-in-Number.result (λ begun. Decides begun (IsBegun (behind_line c.args.text.now (sample k)))))
    c.in-Number.is c.is_begun_with-in-Number.ensures)

pub returns-in-End : goal.returns-in-End
returns-in-End c =
    subst (λ (k : Kind). IfOk c.is_complete.result (λ could. Decides could (CouldStand c.args.text.now k))) (sym c.in-End.is)
    c.is_complete.ensures
