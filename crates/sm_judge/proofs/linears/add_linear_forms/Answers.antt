-- Each form goes behind those of the terms before it.
use Rattle.sm_judge.proofs.Imports.{◌≡◌, List, [], ◌∷◌, ◌++◌, sym, ap, subst, ◌∙◌, length, arith, rules, length-append, length_push, Linear, trees_in, tree_at, linear_of, AreLinearForms, IsKeptFor}
use Rattle.std.proofs.Common.{ℕ}
use Rattle.std.proofs.lemmas.List.{append_assoc}
use Rattle.sm_judge.proofs.LinearsLemmas.{form_added, forms_later}
use Rattle.sm_judge.proofs.linears.add_linear_forms.Goals as goal

pub loop-alloc-init : goal.loop-alloc-init
loop-alloc-init c =
    let trees = trees_in c.args.table.now in
    let forms = c.args.forms.now.items in
    let first = c.requires.0 in
    let more = c.requires.1 in
    let are = c.requires.2 in
    let all = c.requires.3 in
    let long = ap length are ∙ length-append first more in
    let end : (forms ++ []) ≡ forms = search rules in
    record {
      each = forms_later trees first more forms c.len-count.ensures.apart are all;
      few = omega (arith, long, all.counted);
      more = ([], sym end);
    }

pub next_lin-requires-clause-there : goal.next_lin-requires-clause-there
next_lin-requires-clause-there c =
    let same = ap length c.as_slice.ensures.value in
    omega (arith, same, c.len-count.ensures.len)

pub next_lin-requires-clause-forms : goal.next_lin-requires-clause-forms
next_lin-requires-clause-forms c =
    subst (AreLinearForms (trees_in c.args.table.now)) (sym c.as_slice.ensures.value) c.loop-alloc.invariant.each

pub loop-alloc-preserved : goal.loop-alloc-preserved
loop-alloc-preserved c =
    let trees = trees_in c.args.table.now in
    let forms = c.loop-alloc.forms.items in
    let f = c.in_ok-form.form in
    let kept = c.loop-alloc.invariant in
    let items : c.push.new.self.items ≡ forms ++ f ∷ [] = c.in_ok-push.ensures.items in
    let keeps = subst (λ (fs : List (Linear ℕ)). IsKeptFor trees f (linear_of (tree_at trees (length fs)))) c.as_slice.ensures.value
    c.in_ok-form.ensures in
    let long = ap length items ∙ length_push forms f in
    record {
      each = subst (AreLinearForms trees) (sym items) (form_added trees forms f kept.each keeps);
      few = omega (arith, long, c.len-count.ensures.len);
      more = (
        kept.more.0 ++ f ∷ [],
        items
            ∙ ap (λ (fs : List (Linear ℕ)). fs ++ f ∷ []) kept.more.1
            ∙ append_assoc c.args.forms.now.items kept.more.0 (f ∷ []),
      );
    }

pub returns-clause-all : goal.returns-clause-all
returns-clause-all c = record {
  each = c.loop-alloc.invariant.each;
  counted = omega (arith, c.loop-alloc.invariant.few, c.len-count.ensures.len);
}
