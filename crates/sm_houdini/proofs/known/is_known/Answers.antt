use Rattle.sm_houdini.proofs.Imports.{◌≡◌, ℕ, List, sym, ap, ◌∙◌, slice_get-get_or, Vec, unwrap_or, Global, trees_in, sorts_in, due_in, owner_in, is_there, Marked}
use Rattle.std.proofs.Common.{Option, Some, None, slice_get}
use Rattle.sm_expand.specs.declared.due.Due.{Due}
use Rattle.sm_houdini.proofs.KnownLemmas.{asked_closes}
use Rattle.sm_houdini.proofs.known.is_known.Goals as goal

pub returns-in-Some-get : goal.returns-in-Some-get
returns-in-Some-get c = λ v reach asked is.
    let old = c.in-Some.old.now in
    let m = c.in-Some-get.marks.now in
    let there : slice_get c.args.before.now.dues.items c.args.at ≡ Some old =
    ap (λ (ds : List Due). slice_get ds c.args.at) (sym c.deref.ensures.value)
    ∙ slice_get-get_or c.deref.result.now c.args.at old c.in-Some.ensures.lookup.3.0
    ∙ ap (λ (d : Due). Some d) (sym (c.in-Some.ensures.lookup.3.1 old)) in
    let row : slice_get c.args.before.now.marks.sites.items c.in-Some-owner.site ≡ Some m =
    ap (λ (vs : List (Vec Marked Global)). slice_get vs c.in-Some-owner.site) (sym c.deref-2.ensures.value)
    ∙ slice_get-get_or c.deref-2.result.now c.in-Some-owner.site m c.in-Some-get.ensures.lookup.3.0
    ∙ ap (λ (w : Vec Marked Global). Some w) (sym (c.in-Some-get.ensures.lookup.3.1 m)) in
    let owned : owner_in c.args.owners.now (due_in (sorts_in v) (trees_in v) old) ≡ Some c.in-Some-owner.site =
    ap (λ (n : ℕ). let none : Option ℕ = None in unwrap_or (slice_get c.args.owners.now n) none) c.if-old-due.false
    ∙ sym c.owner.ensures ∙ c.in-Some-owner.is in
    c.is_asked_again.ensures v reach
    (λ j marked.
    asked_closes v reach c.args.owners.now c.args.before.now c.args.at old c.in-Some-owner.site m asked there owned row j
    (ap (λ (ms : List Marked). is_there (slice_get ms j)) (sym c.deref-in-Some-get.ensures.value) ∙ marked))
    is
