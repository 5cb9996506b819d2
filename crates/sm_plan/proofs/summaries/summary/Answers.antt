-- The inputs are declared, and each has its term.
use Rattle.sm_plan.proofs.Imports.{◌≡◌, List, Some, length, slice_get, sym, ap, subst, ◌∙◌, Name, is_in, code_of, inputs, inputs_declared, Tree, Fun, arguments_fit, store_in, trees_in, sorts_in, codes_in, code_at, arguments_in, AreNamesDeclared, AreBefore, TermId, slice_get_within, get_or_from_slice_get, End, terms_named, AreNamesBelow, present}
use Rattle.std.proofs.Common.{IfOk}
use Rattle.sm_plan.proofs.SummariesLemmas.{numbers, all_declared, names_below, terms_before, terms_present, terms_fit}
use Rattle.sm_plan.proofs.summaries.summary.Goals as goal

pub present-requires : goal.present-requires
present-requires c =
    let v = c.args.table.now in
    let sorts = sorts_in v in
    let s = c.args.store.now in
    let code = code_of c.args.block.now in
    let x = c.args.x.0 in
    let from : List Name = c.in_ok-from.from.list.items in
    let of_from : numbers from ≡ inputs code x = c.in_ok-from.ensures in
    let all : AreNamesDeclared sorts from =
    all_declared sorts from
    (λ y h. inputs_declared sorts code x y c.requires.well c.requires.declared (ap (λ l. is_in l y) (sym of_from) ∙ h)) in
    subst (AreNamesBelow (length s.list.items)) (sym c.deref.ensures.value) (names_below sorts s c.requires.full from all)

pub made-requires-clause-within : goal.made-requires-clause-within
made-requires-clause-within c =
    let v = c.args.table.now in
    let sorts = sorts_in v in
    let s = c.args.store.now in
    let code = code_of c.args.block.now in
    let x = c.args.x.0 in
    let from : List Name = c.in_ok-from.from.list.items in
    let of_from : numbers from ≡ inputs code x = c.in_ok-from.ensures in
    let all : AreNamesDeclared sorts from =
    all_declared sorts from
    (λ y h. inputs_declared sorts code x y c.requires.well c.requires.declared (ap (λ l. is_in l y) (sym of_from) ∙ h)) in
    let terms : c.in_ok-args.args.list.items ≡ terms_named s.list.items from =
    c.in_ok-args.ensures ∙ ap (terms_named s.list.items) c.deref.ensures.value in (
      slice_get_within (codes_in v) c.args.body.0 code c.requires.body,
      c.requires.declared,
      all,
      subst (AreBefore (length (trees_in v))) (sym terms) (terms_before sorts (trees_in v) s c.requires.ready c.requires.full from all),
    )

pub made-requires-clause-fits : goal.made-requires-clause-fits
made-requires-clause-fits c =
    let v = c.args.table.now in
    let sorts = sorts_in v in
    let s = c.args.store.now in
    let code = code_of c.args.block.now in
    let x = c.args.x.0 in
    let from : List Name = c.in_ok-from.from.list.items in
    let of_from : numbers from ≡ inputs code x = c.in_ok-from.ensures in
    let all : AreNamesDeclared sorts from =
    all_declared sorts from
    (λ y h. inputs_declared sorts code x y c.requires.well c.requires.declared (ap (λ l. is_in l y) (sym of_from) ∙ h)) in
    let terms : c.in_ok-args.args.list.items ≡ terms_named s.list.items from =
    c.in_ok-args.ensures ∙ ap (terms_named s.list.items) c.deref.ensures.value in
    ap (arguments_fit sorts (trees_in v) from) terms ∙ terms_fit sorts (trees_in v) s c.requires.ready c.requires.full from all

pub returns-clause-made : goal.returns-clause-made
returns-clause-made c =
    let v = c.args.table.now in
    let sorts = sorts_in v in
    let s = c.args.store.now in
    let code = code_of c.args.block.now in
    let x = c.args.x.0 in
    let from : List Name = c.in_ok-from.from.list.items in
    let of_from : numbers from ≡ inputs code x = c.in_ok-from.ensures in
    let all : AreNamesDeclared sorts from =
    all_declared sorts from
    (λ y h. inputs_declared sorts code x y c.requires.well c.requires.declared (ap (λ l. is_in l y) (sym of_from) ∙ h)) in
    let terms : c.in_ok-args.args.list.items ≡ terms_named s.list.items from =
    c.in_ok-args.ensures ∙ ap (terms_named s.list.items) c.deref.ensures.value in
    let f = store_in (trees_in v) s in
    let body : code_at (codes_in v) c.args.body.0 ≡ code = get_or_from_slice_get (codes_in v) c.args.body.0 code End c.requires.body in
    let given : arguments_in (trees_in v) from c.in_ok-args.args.list.items ≡ present f (inputs code x) =
    ap (arguments_in (trees_in v) from) terms ∙ terms_present sorts (trees_in v) s c.requires.ready c.requires.full from all
    ∙ ap (present f) of_from in
    let same : Fun (code_at (codes_in v) c.args.body.0) x (arguments_in (trees_in v) from c.in_ok-args.args.list.items)
    ≡ Fun code x (present f (inputs code x)) =
    λ i. Fun (body i) x (given i) in
    subst (λ (t : Tree). IfOk c.made.result (λ (id : TermId). slice_get (trees_in c.made.new.table) id.0 ≡ Some t)) same
    c.made.ensures.stored
