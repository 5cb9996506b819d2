-- At the end each name has its value.
use Rattle.sm_replay.proofs.Imports.{◌≡◌, ℕ, Option, None, sym, ap, ◌∙◌, view, Sort, sort_of, declared_of, meaning, zero_of, given, member_of, store_of}
use Rattle.sm_replay.proofs.UpdatesSound.{end_filled}
use Rattle.sm_replay.proofs.input.give_members.Goals as goal

pub returns-clause-value : goal.returns-clause-value
returns-clause-value c =
    end_filled (sort_of (declared_of c.args.decls.now)) (λ (x : ℕ). zero_of (sort_of (declared_of c.args.decls.now) x))
    (store_of c.args.names.now (sort_of (declared_of c.args.decls.now)) (view c.args.input.now))
    c.deref-d-items.result.now c.loop-d.d-index (meaning c.loop-d.s) c.loop-d-test.false c.loop-d.invariant.filling
    (λ (x : ℕ) (none : sort_of (declared_of c.args.decls.now) x ≡ None). ap zero_of none ∙
    sym (ap (λ (o : Option Sort). given o (member_of c.args.names.now (view c.args.input.now) x)) none))
