-- A tree has its lines and those under its end under the other numbers.
use Rattle.sm_list.proofs.Imports.{◌≡◌, List, length, refl, sym, subst, CertLine, EachTerm, certificate_in, lines_of, AreLinesWithin, CertTree, roll-CertTree, IsOneOf, AreLinesUnder}
use Rattle.sm_cert.specs.declared.tree.CertEnd.TheVariants as ends
use Rattle.sm_list.proofs.RenumberTreeLemmas.{TreeStands, closed_stands, split_stands}
use Rattle.sm_list.proofs.renumber_lines.+renumber_tree.Goals as goal

pub boxed_tree-returns-clause-same : goal.boxed_tree-returns-clause-same
boxed_tree-returns-clause-same t c = λ trees others are within.
    subst (λ (u : CertTree). certificate_in others u ≡ certificate_in trees c.args.tree.now) (sym c.in_ok-new.ensures.ok)
    (c.in_ok-renumbered_tree.ensures.same trees others are within)

pub boxed_tree-returns-clause-within : goal.boxed_tree-returns-clause-within
boxed_tree-returns-clause-within t c = λ trees others are within.
    subst (λ (u : CertTree). AreLinesWithin (length others) (lines_of u)) (sym c.in_ok-new.ensures.ok)
    (c.in_ok-renumbered_tree.ensures.within trees others are within)

pub boxed_tree-returns-clause-names : goal.boxed_tree-returns-clause-names
boxed_tree-returns-clause-names t c = λ trees others are within.
    subst (λ (u : CertTree). EachTerm (IsOneOf trees) (certificate_in others u)) (sym c.in_ok-new.ensures.ok)
    (c.in_ok-renumbered_tree.ensures.names trees others are within)

pub renumbered_tree-returns-in_ok-last-in-Close-clause-same : goal.renumbered_tree-returns-in_ok-last-in-Close-clause-same
renumbered_tree-returns-in_ok-last-in-Close-clause-same t c = λ trees others are within.
    let numbers = c.args.numbers.now in
    let m = c.in_ok-last-in-Close.last in
    let u = roll-CertTree (record { lines = record { list = c.in_ok-list.list }; last = ends.Close m }) in
    let lines = subst (λ (ls : List CertLine). AreLinesUnder numbers ls c.in_ok-list.list.items) c.deref.ensures.value
    c.in_ok-list.ensures in
    (closed_stands trees others numbers are c.args.tree.now u c.in-Close.line m c.in-Close.is refl lines c.in_ok-last-in-Close.ensures
    within).same

pub renumbered_tree-returns-in_ok-last-in-Close-clause-within : goal.renumbered_tree-returns-in_ok-last-in-Close-clause-within
renumbered_tree-returns-in_ok-last-in-Close-clause-within t c = λ trees others are within.
    let numbers = c.args.numbers.now in
    let m = c.in_ok-last-in-Close.last in
    let u = roll-CertTree (record { lines = record { list = c.in_ok-list.list }; last = ends.Close m }) in
    let lines = subst (λ (ls : List CertLine). AreLinesUnder numbers ls c.in_ok-list.list.items) c.deref.ensures.value
    c.in_ok-list.ensures in
    (closed_stands trees others numbers are c.args.tree.now u c.in-Close.line m c.in-Close.is refl lines c.in_ok-last-in-Close.ensures
    within).there

pub renumbered_tree-returns-in_ok-last-in-Close-clause-names : goal.renumbered_tree-returns-in_ok-last-in-Close-clause-names
renumbered_tree-returns-in_ok-last-in-Close-clause-names t c = λ trees others are within.
    let numbers = c.args.numbers.now in
    let m = c.in_ok-last-in-Close.last in
    let u = roll-CertTree (record { lines = record { list = c.in_ok-list.list }; last = ends.Close m }) in
    let lines = subst (λ (ls : List CertLine). AreLinesUnder numbers ls c.in_ok-list.list.items) c.deref.ensures.value
    c.in_ok-list.ensures in
    (closed_stands trees others numbers are c.args.tree.now u c.in-Close.line m c.in-Close.is refl lines c.in_ok-last-in-Close.ensures
    within).names

pub renumbered_tree-returns-in_ok-second-in-Split-clause-same : goal.renumbered_tree-returns-in_ok-second-in-Split-clause-same
renumbered_tree-returns-in_ok-second-in-Split-clause-same t c = λ trees others are within.
    let numbers = c.args.numbers.now in
    let m = c.in_ok-last-in-Split.last in
    let p = c.in_ok-first-in-Split.first in
    let q = c.in_ok-second-in-Split.second in
    let u = roll-CertTree (record { lines = record { list = c.in_ok-list.list }; last = ends.Split m p q }) in
    let lines = subst (λ (ls : List CertLine). AreLinesUnder numbers ls c.in_ok-list.list.items) c.deref.ensures.value
    c.in_ok-list.ensures in
    (split_stands trees others numbers are c.args.tree.now u c.in-Split.line m c.in-Split.first c.in-Split.second p q c.in-Split.is refl
    lines
    c.in_ok-last-in-Split.ensures
    (λ h. subst (λ (s : CertTree). TreeStands trees others s p.value) c.deref-in-Split.ensures
    (let h = subst (λ (s : CertTree). AreLinesWithin (length trees) (lines_of s)) (sym c.deref-in-Split.ensures) h in
    record {
      same = c.in_ok-first-in-Split.ensures.same trees others are h;
      there = c.in_ok-first-in-Split.ensures.within trees others are h;
      names = c.in_ok-first-in-Split.ensures.names trees others are h;
    }))
    (λ h. subst (λ (s : CertTree). TreeStands trees others s q.value) c.deref-in-Split-2.ensures
    (let h = subst (λ (s : CertTree). AreLinesWithin (length trees) (lines_of s)) (sym c.deref-in-Split-2.ensures) h in
    record {
      same = c.in_ok-second-in-Split.ensures.same trees others are h;
      there = c.in_ok-second-in-Split.ensures.within trees others are h;
      names = c.in_ok-second-in-Split.ensures.names trees others are h;
    }))
    within).same

pub renumbered_tree-returns-in_ok-second-in-Split-clause-within : goal.renumbered_tree-returns-in_ok-second-in-Split-clause-within
renumbered_tree-returns-in_ok-second-in-Split-clause-within t c = λ trees others are within.
    let numbers = c.args.numbers.now in
    let m = c.in_ok-last-in-Split.last in
    let p = c.in_ok-first-in-Split.first in
    let q = c.in_ok-second-in-Split.second in
    let u = roll-CertTree (record { lines = record { list = c.in_ok-list.list }; last = ends.Split m p q }) in
    let lines = subst (λ (ls : List CertLine). AreLinesUnder numbers ls c.in_ok-list.list.items) c.deref.ensures.value
    c.in_ok-list.ensures in
    (split_stands trees others numbers are c.args.tree.now u c.in-Split.line m c.in-Split.first c.in-Split.second p q c.in-Split.is refl
    lines
    c.in_ok-last-in-Split.ensures
    (λ h. subst (λ (s : CertTree). TreeStands trees others s p.value) c.deref-in-Split.ensures
    (let h = subst (λ (s : CertTree). AreLinesWithin (length trees) (lines_of s)) (sym c.deref-in-Split.ensures) h in
    record {
      same = c.in_ok-first-in-Split.ensures.same trees others are h;
      there = c.in_ok-first-in-Split.ensures.within trees others are h;
      names = c.in_ok-first-in-Split.ensures.names trees others are h;
    }))
    (λ h. subst (λ (s : CertTree). TreeStands trees others s q.value) c.deref-in-Split-2.ensures
    (let h = subst (λ (s : CertTree). AreLinesWithin (length trees) (lines_of s)) (sym c.deref-in-Split-2.ensures) h in
    record {
      same = c.in_ok-second-in-Split.ensures.same trees others are h;
      there = c.in_ok-second-in-Split.ensures.within trees others are h;
      names = c.in_ok-second-in-Split.ensures.names trees others are h;
    }))
    within).there

pub renumbered_tree-returns-in_ok-second-in-Split-clause-names : goal.renumbered_tree-returns-in_ok-second-in-Split-clause-names
renumbered_tree-returns-in_ok-second-in-Split-clause-names t c = λ trees others are within.
    let numbers = c.args.numbers.now in
    let m = c.in_ok-last-in-Split.last in
    let p = c.in_ok-first-in-Split.first in
    let q = c.in_ok-second-in-Split.second in
    let u = roll-CertTree (record { lines = record { list = c.in_ok-list.list }; last = ends.Split m p q }) in
    let lines = subst (λ (ls : List CertLine). AreLinesUnder numbers ls c.in_ok-list.list.items) c.deref.ensures.value
    c.in_ok-list.ensures in
    (split_stands trees others numbers are c.args.tree.now u c.in-Split.line m c.in-Split.first c.in-Split.second p q c.in-Split.is refl
    lines
    c.in_ok-last-in-Split.ensures
    (λ h. subst (λ (s : CertTree). TreeStands trees others s p.value) c.deref-in-Split.ensures
    (let h = subst (λ (s : CertTree). AreLinesWithin (length trees) (lines_of s)) (sym c.deref-in-Split.ensures) h in
    record {
      same = c.in_ok-first-in-Split.ensures.same trees others are h;
      there = c.in_ok-first-in-Split.ensures.within trees others are h;
      names = c.in_ok-first-in-Split.ensures.names trees others are h;
    }))
    (λ h. subst (λ (s : CertTree). TreeStands trees others s q.value) c.deref-in-Split-2.ensures
    (let h = subst (λ (s : CertTree). AreLinesWithin (length trees) (lines_of s)) (sym c.deref-in-Split-2.ensures) h in
    record {
      same = c.in_ok-second-in-Split.ensures.same trees others are h;
      there = c.in_ok-second-in-Split.ensures.within trees others are h;
      names = c.in_ok-second-in-Split.ensures.names trees others are h;
    }))
    within).names
