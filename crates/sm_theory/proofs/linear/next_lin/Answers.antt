-- By the kind of the term. Its parts stand before it.
use Rattle.sm_theory.proofs.Imports.{◌≡◌, ℕ, ◌<◌, pos, negsuc, if◌then◌else◌, List, length, get_or, slice_get, Some, subst, sym, ap, ◌∙◌, slice_get-get_or, IfOk-weaker, Linear, combined, fits_form, trees_in, sorts_in, codes_in, tree_in, tree_at, IsTermWithin, Term, linear_of, constant_form, atom_form, or_atom, scaled_form, product_form, IsKeptFor}
use Rattle.sm_num.specs.declared.kind.Kind.TheVariants.{Eq}
use Rattle.sm_theory.proofs.FormsOfTermsLemmas.{lit_kept, neg_kept, add_kept, sub_kept, mul_kept, atom_kept, is_atom}
use Rattle.sm_theory.proofs.linear.next_lin.Goals as goal

-- what an index below the length gives stands there
at_index : (forms : List (Linear ℕ)) (n : ℕ) (f : Linear ℕ) → n < length forms → f ≡ get_or forms n f → slice_get forms n ≡ Some f
at_index forms n f below is = slice_get-get_or forms n f below ∙ ap Some (sym is)

pub returns-in-Lit : goal.returns-in-Lit
returns-in-Lit c =
    let table = c.args.table.now in
    let trees = trees_in table in
    let n = length c.args.forms.now in
    let tree = subst (λ (v : Term). tree_in (codes_in table) trees v ≡ tree_at trees n) c.in-Lit.is c.get.ensures.tree in
    IfOk-weaker c.literal.result (λ (h : Linear ℕ). h ≡ (if fits_form c.in-Lit.z then constant_form c.in-Lit.z else atom_form n))
    (λ (h : Linear ℕ). IsKeptFor trees h (linear_of (tree_at trees n)))
    (λ (h : Linear ℕ) (is : h ≡ (if fits_form c.in-Lit.z then constant_form c.in-Lit.z else atom_form n)).
    lit_kept trees c.len-count.ensures.apart n c.requires.there c.in-Lit.z h tree is)
    c.literal.ensures

pub returns-in-Neg : goal.returns-in-Neg
returns-in-Neg c =
    let table = c.args.table.now in
    let trees = trees_in table in
    let n = length c.args.forms.now in
    let tree = subst (λ (v : Term). tree_in (codes_in table) trees v ≡ tree_at trees n) c.in-Neg.is c.get.ensures.tree in
    let before = subst (λ (v : Term). IsTermWithin (sorts_in table) (length (codes_in table)) n v) c.in-Neg.is c.get.ensures.before in
    let part = c.requires.forms c.in-Neg.a.0 c.index-forms-a.result (at_index c.args.forms.now c.in-Neg.a.0 c.index-forms-a.result before c.index-forms-a.is) in
    IfOk-weaker c.multiple.result (λ (h : Linear ℕ). h ≡ or_atom n (scaled_form (negsuc 0) c.index-forms-a.result))
    (λ (h : Linear ℕ). IsKeptFor trees h (linear_of (tree_at trees n)))
    (λ (h : Linear ℕ) (is : h ≡ or_atom n (scaled_form (negsuc 0) c.index-forms-a.result)).
    neg_kept trees c.len-count.ensures.apart n c.requires.there (tree_at trees c.in-Neg.a.0) c.index-forms-a.result h tree part is)
    c.multiple.ensures

pub returns-in-Add : goal.returns-in-Add
returns-in-Add c =
    let table = c.args.table.now in
    let trees = trees_in table in
    let n = length c.args.forms.now in
    let tree = subst (λ (v : Term). tree_in (codes_in table) trees v ≡ tree_at trees n) c.in-Add.is c.get.ensures.tree in
    let before = subst (λ (v : Term). IsTermWithin (sorts_in table) (length (codes_in table)) n v) c.in-Add.is c.get.ensures.before in
    let left = c.requires.forms c.in-Add.a.0 c.index-forms-a-in-Add.result (at_index c.args.forms.now c.in-Add.a.0 c.index-forms-a-in-Add.result before.0 c.index-forms-a-in-Add.is) in
    let right = c.requires.forms c.in-Add.b.0 c.index-forms-b.result (at_index c.args.forms.now c.in-Add.b.0 c.index-forms-b.result before.1 c.index-forms-b.is) in
    IfOk-weaker c.sum.result (λ (h : Linear ℕ). h ≡ or_atom n (combined c.index-forms-a-in-Add.result (pos 1) c.index-forms-b.result (pos 1) Eq))
    (λ (h : Linear ℕ). IsKeptFor trees h (linear_of (tree_at trees n)))
    (λ (h : Linear ℕ) (is : h ≡ or_atom n (combined c.index-forms-a-in-Add.result (pos 1) c.index-forms-b.result (pos 1) Eq)).
    add_kept trees c.len-count.ensures.apart n c.requires.there (tree_at trees c.in-Add.a.0) (tree_at trees c.in-Add.b.0)
    c.index-forms-a-in-Add.result c.index-forms-b.result h tree left right is)
    c.sum.ensures

pub returns-in-Sub : goal.returns-in-Sub
returns-in-Sub c =
    let table = c.args.table.now in
    let trees = trees_in table in
    let n = length c.args.forms.now in
    let tree = subst (λ (v : Term). tree_in (codes_in table) trees v ≡ tree_at trees n) c.in-Sub.is c.get.ensures.tree in
    let before = subst (λ (v : Term). IsTermWithin (sorts_in table) (length (codes_in table)) n v) c.in-Sub.is c.get.ensures.before in
    let left = c.requires.forms c.in-Sub.a.0 c.index-forms-a-in-Sub.result (at_index c.args.forms.now c.in-Sub.a.0 c.index-forms-a-in-Sub.result before.0 c.index-forms-a-in-Sub.is) in
    let right = c.requires.forms c.in-Sub.b.0 c.index-forms-b-in-Sub.result (at_index c.args.forms.now c.in-Sub.b.0 c.index-forms-b-in-Sub.result before.1 c.index-forms-b-in-Sub.is) in
    IfOk-weaker c.difference.result (λ (h : Linear ℕ). h ≡ or_atom n (combined c.index-forms-a-in-Sub.result (pos 1) c.index-forms-b-in-Sub.result (negsuc 0) Eq))
    (λ (h : Linear ℕ). IsKeptFor trees h (linear_of (tree_at trees n)))
    (λ (h : Linear ℕ) (is : h ≡ or_atom n (combined c.index-forms-a-in-Sub.result (pos 1) c.index-forms-b-in-Sub.result (negsuc 0) Eq)).
    sub_kept trees c.len-count.ensures.apart n c.requires.there (tree_at trees c.in-Sub.a.0) (tree_at trees c.in-Sub.b.0)
    c.index-forms-a-in-Sub.result c.index-forms-b-in-Sub.result h tree left right is)
    c.difference.ensures

pub returns-in-Mul : goal.returns-in-Mul
returns-in-Mul c =
    let table = c.args.table.now in
    let trees = trees_in table in
    let n = length c.args.forms.now in
    let tree = subst (λ (v : Term). tree_in (codes_in table) trees v ≡ tree_at trees n) c.in-Mul.is c.get.ensures.tree in
    let before = subst (λ (v : Term). IsTermWithin (sorts_in table) (length (codes_in table)) n v) c.in-Mul.is c.get.ensures.before in
    let left = c.requires.forms c.in-Mul.a.0 c.index-forms-a-in-Mul.result (at_index c.args.forms.now c.in-Mul.a.0 c.index-forms-a-in-Mul.result before.0 c.index-forms-a-in-Mul.is) in
    let right = c.requires.forms c.in-Mul.b.0 c.index-forms-b-in-Mul.result (at_index c.args.forms.now c.in-Mul.b.0 c.index-forms-b-in-Mul.result before.1 c.index-forms-b-in-Mul.is) in
    IfOk-weaker c.product.result (λ (h : Linear ℕ). h ≡ product_form n c.index-forms-a-in-Mul.result c.index-forms-b-in-Mul.result)
    (λ (h : Linear ℕ). IsKeptFor trees h (linear_of (tree_at trees n)))
    (λ (h : Linear ℕ) (is : h ≡ product_form n c.index-forms-a-in-Mul.result c.index-forms-b-in-Mul.result).
    mul_kept trees c.len-count.ensures.apart n c.requires.there (tree_at trees c.in-Mul.a.0) (tree_at trees c.in-Mul.b.0)
    c.index-forms-a-in-Mul.result c.index-forms-b-in-Mul.result h tree left right is)
    c.product.ensures

pub returns-in_default : goal.returns-in_default
returns-in_default c =
    let table = c.args.table.now in
    let trees = trees_in table in
    let n = length c.args.forms.now in
    let row = c.get.result.now in
    IfOk-weaker c.atom.result (λ (h : Linear ℕ). h ≡ atom_form n) (λ (h : Linear ℕ). IsKeptFor trees h (linear_of (tree_at trees n)))
    (λ (h : Linear ℕ) (is : h ≡ atom_form n).
    atom_kept trees c.len-count.ensures.apart n c.requires.there (tree_in (codes_in table) trees row) h c.get.ensures.tree
    (is_atom (codes_in table) trees row c.in_default.not-Lit c.in_default.not-Neg c.in_default.not-Add c.in_default.not-Sub
    c.in_default.not-Mul)
    is)
    c.atom.ensures
