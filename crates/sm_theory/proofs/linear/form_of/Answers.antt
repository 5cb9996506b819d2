-- By the kind of the term.
use Rattle.sm_theory.proofs.Imports.{◌≡◌, ℕ, pos, negsuc, nat_eq, if◌then◌else◌, subst, sym, get, IfOk-weaker, Linear, combined, fits_form, trees_in, codes_in, tree_in, tree_at, Term, linear_of, constant_form, atom_form, or_atom, scaled_form, product_form, IsKeptFor}
use Rattle.sm_num.specs.declared.kind.Kind.TheVariants.{Eq}
use Rattle.sm_theory.proofs.FormsOfTermsLemmas.{lit_kept, neg_kept, add_kept, sub_kept, mul_kept, atom_kept, is_atom}
use Rattle.sm_theory.proofs.linear.form_of.Goals as goal

pub returns-in-Lit : goal.returns-in-Lit
returns-in-Lit c =
    let table = c.args.table.now in
    let trees = trees_in table in
    let n = c.args.t.0 in
    let tree = subst (λ (v : Term). tree_in (codes_in table) trees v ≡ tree_at trees n) c.in-Lit.is c.get.ensures.tree in
    c.found_form.ensures trees (get nat_eq c.args.forms.now) n
    (IfOk-weaker c.literal.result (λ (h : Linear ℕ). h ≡ (if fits_form c.in-Lit.z then constant_form c.in-Lit.z else atom_form n)) (λ (h : Linear ℕ). IsKeptFor trees h (linear_of (tree_at trees n)))
    (λ (h : Linear ℕ) (is : h ≡ (if fits_form c.in-Lit.z then constant_form c.in-Lit.z else atom_form n)).
    lit_kept trees c.len-count.ensures.apart n c.requires.within c.in-Lit.z h tree is)
    c.literal.ensures)

pub returns-in-Some : goal.returns-in-Some
returns-in-Some c =
    let table = c.args.table.now in
    let trees = trees_in table in
    let n = c.args.t.0 in
    let tree = subst (λ (v : Term). tree_in (codes_in table) trees v ≡ tree_at trees n) c.in-Neg.is c.get.ensures.tree in
    let part = c.requires.forms c.in-Neg.a.0 c.in-Some.f.now (sym c.in-Some.ensures.value) in
    c.found_form-in-Some.ensures trees (get nat_eq c.args.forms.now) n
    (IfOk-weaker c.multiple.result (λ (h : Linear ℕ). h ≡ or_atom n (scaled_form (negsuc 0) c.in-Some.f.now)) (λ (h : Linear ℕ). IsKeptFor trees h (linear_of (tree_at trees n)))
    (λ (h : Linear ℕ) (is : h ≡ or_atom n (scaled_form (negsuc 0) c.in-Some.f.now)).
    neg_kept trees c.len-count.ensures.apart n c.requires.within (tree_at trees c.in-Neg.a.0) c.in-Some.f.now h tree part is)
    c.multiple.ensures)

pub returns-in-Ok : goal.returns-in-Ok
returns-in-Ok c =
    let table = c.args.table.now in
    let trees = trees_in table in
    let n = c.args.t.0 in
    let tree = subst (λ (v : Term). tree_in (codes_in table) trees v ≡ tree_at trees n) c.in-Add.is c.get.ensures.tree in
    let left = c.requires.forms c.in-Add.a.0 c.in-Ok.f.now c.in-Ok.ensures.ok.0 in
    let right = c.requires.forms c.in-Add.b.0 c.in-Ok.g.now c.in-Ok.ensures.ok.1 in
    c.found_form-in-Ok.ensures trees (get nat_eq c.args.forms.now) n
    (IfOk-weaker c.sum.result (λ (h : Linear ℕ). h ≡ or_atom n (combined c.in-Ok.f.now (pos 1) c.in-Ok.g.now (pos 1) Eq)) (λ (h : Linear ℕ). IsKeptFor trees h (linear_of (tree_at trees n)))
    (λ (h : Linear ℕ) (is : h ≡ or_atom n (combined c.in-Ok.f.now (pos 1) c.in-Ok.g.now (pos 1) Eq)).
    add_kept trees c.len-count.ensures.apart n c.requires.within (tree_at trees c.in-Add.a.0) (tree_at trees c.in-Add.b.0)
    c.in-Ok.f.now c.in-Ok.g.now h tree left right is)
    c.sum.ensures)

pub returns-in-Ok-parts : goal.returns-in-Ok-parts
returns-in-Ok-parts c =
    let table = c.args.table.now in
    let trees = trees_in table in
    let n = c.args.t.0 in
    let tree = subst (λ (v : Term). tree_in (codes_in table) trees v ≡ tree_at trees n) c.in-Sub.is c.get.ensures.tree in
    let left = c.requires.forms c.in-Sub.a.0 c.in-Ok-parts.f.now c.in-Ok-parts.ensures.ok.0 in
    let right = c.requires.forms c.in-Sub.b.0 c.in-Ok-parts.g.now c.in-Ok-parts.ensures.ok.1 in
    c.found_form-in-Ok-parts.ensures trees (get nat_eq c.args.forms.now) n
    (IfOk-weaker c.difference.result (λ (h : Linear ℕ). h ≡ or_atom n (combined c.in-Ok-parts.f.now (pos 1) c.in-Ok-parts.g.now (negsuc 0) Eq)) (λ (h : Linear ℕ). IsKeptFor trees h (linear_of (tree_at trees n)))
    (λ (h : Linear ℕ) (is : h ≡ or_atom n (combined c.in-Ok-parts.f.now (pos 1) c.in-Ok-parts.g.now (negsuc 0) Eq)).
    sub_kept trees c.len-count.ensures.apart n c.requires.within (tree_at trees c.in-Sub.a.0) (tree_at trees c.in-Sub.b.0)
    c.in-Ok-parts.f.now c.in-Ok-parts.g.now h tree left right is)
    c.difference.ensures)

pub returns-in-Ok-parts-2 : goal.returns-in-Ok-parts-2
returns-in-Ok-parts-2 c =
    let table = c.args.table.now in
    let trees = trees_in table in
    let n = c.args.t.0 in
    let tree = subst (λ (v : Term). tree_in (codes_in table) trees v ≡ tree_at trees n) c.in-Mul.is c.get.ensures.tree in
    let left = c.requires.forms c.in-Mul.a.0 c.in-Ok-parts-2.f.now c.in-Ok-parts-2.ensures.ok.0 in
    let right = c.requires.forms c.in-Mul.b.0 c.in-Ok-parts-2.g.now c.in-Ok-parts-2.ensures.ok.1 in
    c.found_form-in-Ok-parts-2.ensures trees (get nat_eq c.args.forms.now) n
    (IfOk-weaker c.product.result (λ (h : Linear ℕ). h ≡ product_form n c.in-Ok-parts-2.f.now c.in-Ok-parts-2.g.now) (λ (h : Linear ℕ). IsKeptFor trees h (linear_of (tree_at trees n)))
    (λ (h : Linear ℕ) (is : h ≡ product_form n c.in-Ok-parts-2.f.now c.in-Ok-parts-2.g.now).
    mul_kept trees c.len-count.ensures.apart n c.requires.within (tree_at trees c.in-Mul.a.0) (tree_at trees c.in-Mul.b.0)
    c.in-Ok-parts-2.f.now c.in-Ok-parts-2.g.now h tree left right is)
    c.product.ensures)

pub returns-in_default : goal.returns-in_default
returns-in_default c =
    let table = c.args.table.now in
    let trees = trees_in table in
    let n = c.args.t.0 in
    let row = c.get.result.now in
    c.found_form-in_default.ensures trees (get nat_eq c.args.forms.now) n
    (IfOk-weaker c.atom.result (λ (h : Linear ℕ). h ≡ atom_form n) (λ (h : Linear ℕ). IsKeptFor trees h (linear_of (tree_at trees n)))
    (λ (h : Linear ℕ) (is : h ≡ atom_form n).
    atom_kept trees c.len-count.ensures.apart n c.requires.within (tree_in (codes_in table) trees row) h c.get.ensures.tree
    (is_atom (codes_in table) trees row c.in_default.not-Lit c.in_default.not-Neg c.in_default.not-Add c.in_default.not-Sub
    c.in_default.not-Mul)
    is)
    c.atom.ensures)
