-- The form's place is listed where the form is put after the others.
use Rattle.sm_fm.proofs.Imports.{◌≡◌, ℕ, List, length, Result, Ok, Err, sym, ap, subst, ◌∙◌, arith, OnOk, OnErr, Linear, beginnings, BeginsAt}
use Rattle.sm_fm.proofs.FirstLemmas.{put_listed, put_nothing, put_past, lists_count, listed_grows}
use Rattle.sm_fm.proofs.entry.enter.Goals as goal

-- what follows both from success and from failure is so
either : {X Y : Type 0} {A B C P : Type 0} (r : Result X Y) → OnOk r A → OnOk r B → OnErr r C → (A → B → P) → (C → P) → P
either (Ok x) first second third success failure = success first second
either (Err y) first second third success failure = failure third

pub returns-then-atom-len-clause-firsts : goal.returns-then-atom-len-clause-firsts
returns-then-atom-len-clause-firsts c = λ atoms lists.
    let vs = c.args.firsts.now.items in
    let fs = c.args.forms.now.items in
    let h = c.args.form in
    let a = c.first_atom-atom.result in
    let v = c.index_mut.result.now in
    let w = c.list_and_store.new.places in
    let many = lists_count vs fs atoms lists in
    let count : c.len.result ≡ atoms = omega arith in
    let begins : BeginsAt atoms a h = subst (λ n. BeginsAt n a h) count c.first_atom-atom.ensures in
    either c.list_and_store.result c.list_and_store.ensures.places c.list_and_store.ensures.forms c.list_and_store.ensures.err
    (λ placed forms.
    put_listed vs a (length fs) v w (omega arith) c.index_mut.ensures.value placed
    ∙ listed_grows vs fs h atoms a lists begins
    ∙ ap (λ (l : List (Linear ℕ)). beginnings l atoms) (sym forms))
    (λ same.
    put_nothing vs a v w (omega arith) c.index_mut.ensures.value same.0
    ∙ lists
    ∙ ap (λ (l : List (Linear ℕ)). beginnings l atoms) (sym same.1))

pub returns-else-atom-len-clause-firsts : goal.returns-else-atom-len-clause-firsts
returns-else-atom-len-clause-firsts c = λ atoms lists.
    let vs = c.args.firsts.now.items in
    let fs = c.args.forms.now.items in
    let h = c.args.form in
    let a = c.first_atom-atom.result in
    let many = lists_count vs fs atoms lists in
    let count : c.len.result ≡ atoms = omega arith in
    let begins : BeginsAt atoms a h = subst (λ n. BeginsAt n a h) count c.first_atom-atom.ensures in
    either c.store.result c.store.ensures.forms c.store.ensures.forms c.store.ensures.err
    (λ forms again.
    sym (put_past vs a (length fs) (omega arith))
    ∙ listed_grows vs fs h atoms a lists begins
    ∙ ap (λ (l : List (Linear ℕ)). beginnings l atoms) (sym forms))
    (λ same. lists ∙ ap (λ (l : List (Linear ℕ)). beginnings l atoms) (sym same.0))
