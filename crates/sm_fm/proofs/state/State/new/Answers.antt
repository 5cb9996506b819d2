-- The forms are listed, and the pairs are those of atom 0.
use Rattle.sm_fm.proofs.Imports.{◌≡◌, ◌<◌, length, sym, subst, ◌∙◌, arith, tests, All, All-nil, beginning, beginnings, ListsFirsts, KnowsAll, place_pairs, IsPairOf}
use Rattle.sm_fm.proofs.FirstLemmas.{lists_count, vector_of}
use Rattle.sm_fm.proofs.StateLemmas.{started, within_same, pairs_of_atom}
use Rattle.sm_fm.proofs.state.State.new.Goals as goal

pub returns-then-is_empty-clause-sound : goal.returns-then-is_empty-clause-sound
returns-then-is_empty-clause-sound c =
    let forms = c.args.forms.items in
    let atoms = length c.args.atoms.list.items in
    let count : c.len.result ≡ atoms = omega arith in
    record {
      later = λ more. absurd (omega arith);
      firsts = c.in_ok-firsts.ensures ∙ (λ k. beginnings (c.deref.ensures.value k) (count k));
      known = subst (KnowsAll c.in_ok-known.known.keys) c.deref-2.ensures.value c.in_ok-known.ensures;
      pairs = subst (All (IsPairOf forms atoms 0)) (sym c.none.ensures) (All-nil (IsPairOf forms atoms 0));
    }

pub index-requires : goal.index-requires
index-requires c =
    let forms = c.args.forms.items in
    let atoms = length c.args.atoms.list.items in
    let some : 0 < atoms = grind (arith, tests) in
    let count : c.len.result ≡ atoms = omega arith in
    let lists : ListsFirsts c.in_ok-firsts.firsts.items forms atoms =
    c.in_ok-firsts.ensures ∙ (λ k. beginnings (c.deref.ensures.value k) (count k)) in
    let many = lists_count c.in_ok-firsts.firsts.items forms atoms lists in
    omega arith

pub pairs_of-requires : goal.pairs_of-requires
pairs_of-requires c =
    let forms = c.args.forms.items in
    let atoms = length c.args.atoms.list.items in
    let some : 0 < atoms = grind (arith, tests) in
    let count : c.len.result ≡ atoms = omega arith in
    let lists : ListsFirsts c.in_ok-firsts.firsts.items forms atoms =
    c.in_ok-firsts.ensures ∙ (λ k. beginnings (c.deref.ensures.value k) (count k)) in
    within_same forms c.deref-3.result.now 0 c.deref-4.result.now c.deref-3.ensures.value
    (c.deref-4.ensures.value ∙ vector_of c.in_ok-firsts.firsts.items forms atoms 0 c.index.result.now lists some c.index.ensures)

pub returns-clause-sound : goal.returns-clause-sound
returns-clause-sound c =
    let forms = c.args.forms.items in
    let atoms = length c.args.atoms.list.items in
    let some : 0 < atoms = grind (arith, tests) in
    let count : c.len.result ≡ atoms = omega arith in
    let lists : ListsFirsts c.in_ok-firsts.firsts.items forms atoms =
    c.in_ok-firsts.ensures ∙ (λ k. beginnings (c.deref.ensures.value k) (count k)) in
    let places : c.deref-4.result.now ≡ beginning forms 0 =
    c.deref-4.ensures.value ∙ vector_of c.in_ok-firsts.firsts.items forms atoms 0 c.index.result.now lists some c.index.ensures in
    record {
      later = λ more. omega arith;
      firsts = lists;
      known = subst (KnowsAll c.in_ok-known.known.keys) c.deref-2.ensures.value c.in_ok-known.ensures;
      pairs = pairs_of_atom forms atoms 0 c.in_ok-pairs.pairs some
          (c.in_ok-pairs.ensures ∙ (λ k. place_pairs 0 (c.deref-3.ensures.value k) (places k)));
    }

pub returns-clause-left : goal.returns-clause-left
returns-clause-left c =
    let forms = c.args.forms.items in
    let atoms = length c.args.atoms.list.items in
    let some : 0 < atoms = grind (arith, tests) in
    let count : c.len.result ≡ atoms = omega arith in
    let lists : ListsFirsts c.in_ok-firsts.firsts.items forms atoms =
    c.in_ok-firsts.ensures ∙ (λ k. beginnings (c.deref.ensures.value k) (count k)) in
    let places : c.deref-4.result.now ≡ beginning forms 0 =
    c.deref-4.ensures.value ∙ vector_of c.in_ok-firsts.firsts.items forms atoms 0 c.index.result.now lists some c.index.ensures in
    started forms atoms _ c.in_ok-pairs.pairs some (omega arith)
    (c.in_ok-pairs.ensures ∙ (λ k. place_pairs 0 (c.deref-3.ensures.value k) (places k)))
