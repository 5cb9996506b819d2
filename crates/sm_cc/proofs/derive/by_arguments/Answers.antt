use Rattle.sm_cc.proofs.Imports.{◌≡◌, ℕ, List, Some, slice_get, ap, subst, sym, SayEqual, Noted, arguments_at}
use Rattle.sm_cc.specs.declared.row.Row.{Row}
use Rattle.sm_cc.proofs.ClosuresLemmas.{arguments_of}
use Rattle.sm_cc.proofs.derive.by_arguments.Goals as goal

pub equate-requires-clause-follows : goal.equate-requires-clause-follows
equate-requires-clause-follows c =
    let old = c.args.c.now in
    let new = c.premises.new.c in
    let h = c.requires.arguments in
    let added = c.in_ok-numbers.ensures in
    let numbers = c.in_ok-numbers.numbers.items in
    let rows : old.rows.items ≡ new.rows.items = ap (λ r. r.items) (sym added.grows.rows) in (
      h.first,
      h.second,
      subst (λ (l : List Row). slice_get l c.args.i ≡ Some h.first) rows h.at_first,
      subst (λ (l : List Row). slice_get l c.args.j ≡ Some h.second) rows h.at_second,
      h.head,
      subst (λ (l : List ℕ). SayEqual (Noted new.entries.items) numbers l h.second.arguments.items) (sym (arguments_of old c.args.i
          h.first h.at_first))
          (subst (λ (l : List ℕ). SayEqual (Noted new.entries.items) numbers (arguments_at old c.args.i) l)
          (sym (arguments_of old c.args.j h.second h.at_second)) added.say),
    )
