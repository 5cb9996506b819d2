-- One copy after the other.
use Rattle.sm_audit.proofs.Imports.{List, sym, subst, O, A, B, M, TermId, AreNamedFrom}
use Rattle.sm_audit.proofs.noting.note_stores.Goals as goal

pub returns : goal.returns
returns c = λ sorts states trees all named.
    let each = AreNamedFrom sorts states trees c.args.node in
    c.note_terms-4.ensures sorts states trees
    (c.note_terms-3.ensures sorts states trees
    (c.note_terms-2.ensures sorts states trees
    (c.note_terms.ensures sorts states trees all (subst each (sym c.as_slice.ensures.value) (named O)))
    (subst each (sym c.as_slice-2.ensures.value) (named A)))
    (subst each (sym c.as_slice-3.ensures.value) (named B)))
    (subst each (sym c.as_slice-4.ensures.value) (named M))
