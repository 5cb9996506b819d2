use Rattle.sm_cc.proofs.Imports.{subst, slice_get_within, Cause, IsCauseOf, placed_of, are_together}
use Rattle.sm_cc.specs.declared.cause.Cause.TheVariants.{Arguments, Hit, Miss}
use Rattle.sm_cc.proofs.derive.derive.Goals as goal

pub by_arguments-requires-clause-arguments : goal.by_arguments-requires-clause-arguments
by_arguments-requires-clause-arguments c =
    let old = c.args.c.now in
    let h : IsCauseOf (placed_of old) (are_together old.roots.items) Arguments c.args.i c.args.j =
    subst (λ (x : Cause). IsCauseOf (placed_of old) (are_together old.roots.items) x c.args.i c.args.j) c.in-Arguments.is
    c.requires.cause in
    record { first = h.first; second = h.second; at_first = h.at_first; at_second = h.at_second; head = h.cause.0; arguments = h.cause.1 }

pub by_hit-requires-clause-element : goal.by_hit-requires-clause-element
by_hit-requires-clause-element c =
    let old = c.args.c.now in
    let h : IsCauseOf (placed_of old) (are_together old.roots.items) (Hit c.in-Hit.e) c.args.i c.args.j =
    subst (λ (x : Cause). IsCauseOf (placed_of old) (are_together old.roots.items) x c.args.i c.args.j) c.in-Hit.is c.requires.cause in
    (h.first, h.at_first, h.cause.0)

pub by_hit-requires-clause-there : goal.by_hit-requires-clause-there
by_hit-requires-clause-there c =
    slice_get_within c.args.c.now.rows.items c.args.j c.requires.cause.second c.requires.cause.at_second

pub by_miss-requires-clause-element : goal.by_miss-requires-clause-element
by_miss-requires-clause-element c =
    let old = c.args.c.now in
    let h : IsCauseOf (placed_of old) (are_together old.roots.items) (Miss c.in-Miss.e c.in-Miss.w) c.args.i c.args.j =
    subst (λ (x : Cause). IsCauseOf (placed_of old) (are_together old.roots.items) x c.args.i c.args.j) c.in-Miss.is c.requires.cause in
    (h.first, h.at_first, h.cause.0)

pub by_miss-requires-clause-there : goal.by_miss-requires-clause-there
by_miss-requires-clause-there c =
    slice_get_within c.args.c.now.rows.items c.args.j c.requires.cause.second c.requires.cause.at_second
