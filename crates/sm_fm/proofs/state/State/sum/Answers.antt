-- The pair's forms are in the list, and the atom cancels in them.
use Rattle.sm_fm.proofs.Imports.{◌≡◌, ℕ, IsTrue, Some, sym, ap, subst, ◌∙◌, get_or_read, Linear, same_atom, can_cancel, eliminated, Outcome, no_form, form_at, Lacks, Finishes, slice_get-get_or}
use Rattle.sm_fm.proofs.KnowingLemmas.{sum_lacks}
use Rattle.sm_fm.proofs.StepLemmas.{gives_sum}
use Rattle.sm_fm.proofs.state.State.sum.Goals as goal

pub elim-sum-requires : goal.elim-sum-requires
elim-sum-requires c =
    let mid = c.take_pair-pair.new.self in
    let p = c.take_pair-pair.result in
    let pair = c.take_pair-pair.ensures.takes.pair.pair in
    let first : c.index-f.result.now ≡ form_at mid.forms.items p.0 =
    get_or_read mid.forms.items p.0 c.index-f.result.now pair.first c.index-f.ensures no_form in
    let second : c.index-g.result.now ≡ form_at mid.forms.items p.1 =
    get_or_read mid.forms.items p.1 c.index-g.result.now pair.second c.index-g.ensures no_form in
    subst (λ (b : Linear ℕ × Linear ℕ). IsTrue (can_cancel same_atom b.0 b.1 mid.atom)) (sym (λ k. (first k, second k))) pair.cancels

pub finish-requires-clause-lacks : goal.finish-requires-clause-lacks
finish-requires-clause-lacks c =
    let mid = c.take_pair-pair.new.self in
    let p = c.take_pair-pair.result in
    let pair = c.take_pair-pair.ensures.takes.pair in
    let first : c.index-f.result.now ≡ form_at mid.forms.items p.0 =
    get_or_read mid.forms.items p.0 c.index-f.result.now pair.pair.first c.index-f.ensures no_form in
    let second : c.index-g.result.now ≡ form_at mid.forms.items p.1 =
    get_or_read mid.forms.items p.1 c.index-g.result.now pair.pair.second c.index-g.ensures no_form in
    sum_lacks c.index-f.result.now c.index-g.result.now mid.atom c.elim-sum.result c.parts-first.ensures.kept c.parts-second.ensures.kept
    (subst (Lacks mid.atom) (sym first) pair.first_lacks) (subst (Lacks mid.atom) (sym second) pair.second_lacks) c.elim-sum.ensures

pub returns-clause-gives : goal.returns-clause-gives
returns-clause-gives c =
    let mid = c.take_pair-pair.new.self in
    let p = c.take_pair-pair.result in
    let takes = c.take_pair-pair.ensures.takes in
    let first : c.index-f.result.now ≡ form_at mid.forms.items p.0 =
    get_or_read mid.forms.items p.0 c.index-f.result.now takes.pair.pair.first c.index-f.ensures no_form in
    let second : c.index-g.result.now ≡ form_at mid.forms.items p.1 =
    get_or_read mid.forms.items p.1 c.index-g.result.now takes.pair.pair.second c.index-g.ensures no_form in
    gives_sum c.args.self.now mid c.finish.new.self p c.index-atom.result.now c.finish.result takes
    (slice_get-get_or mid.atoms.list.items mid.atom c.index-atom.result.now takes.pair.atom ∙ ap Some (sym c.index-atom.ensures))
    (subst (λ (o : Outcome (Linear ℕ)). Finishes mid c.finish.new.self p c.index-atom.result.now o c.finish.result)
    (λ k. eliminated (first k) (second k) mid.atom)
    (c.finish.ensures.finishes (eliminated c.index-f.result.now c.index-g.result.now mid.atom) c.elim-sum.ensures))
