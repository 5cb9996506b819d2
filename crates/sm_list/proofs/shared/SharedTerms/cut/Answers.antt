-- The first terms have the first numbers.
use Rattle.sm_list.proofs.Imports.{◌≡◌, ℕ, length, take, ap, sym, ◌∙◌, refl, trees_in}
use Rattle.sm_list.proofs.SharedLemmas.{shared_front}
use Rattle.sm_list.proofs.shared.SharedTerms.cut.Goals as goal

pub returns : goal.returns
returns c = λ table terms more shared many closed.
    let old = c.args.self.now in
    let len : c.args.len ≡ length terms = sym many in
    shared_front table terms more old _ shared closed (c.cut.ensures.trees ∙ ap (λ (n : ℕ). take n (trees_in old.own)) len)
    c.cut.ensures.sorts c.cut.ensures.codes
    (c.truncate.ensures ∙ ap (λ (n : ℕ). take n old.listed) len) refl
