-- The next body is put in behind the copies of those before it.
use Rattle.sm_term.proofs.Imports.{◌+◌, ◌<◌, map, length, take, sym, ap, subst, ◌∙◌, arith, IsWellSorted, sort_of, declared_of, code_of, block_of, sorts_in, codes_in, with_code}
use Rattle.sm_term.proofs.CopiesLemmas.{item_code, length-codes, code_next}
use Rattle.sm_term.proofs.table.TermTable.copied_bodies.Goals as goal

pub body-requires : goal.body-requires
body-requires c =
    let sorts = sort_of (declared_of c.self.inside.decls) in
    let bodies = c.self.inside.bodies in
    let codes = map code_of (map block_of bodies) in
    let i = c.loop-body.body-index in
    let many = ap length c.as_slice-body-items.ensures.values in
    let long = length-codes bodies in
    let here : i < length codes = omega (arith, many, long, c.loop-body-test.true) in
    let item = item_code c.as_slice-body-items.result.now bodies c.as_slice-body-items.ensures.values i c.loop-body-test.true c.body-item.result c.body-item.is in
    let well = subst (IsWellSorted sorts) item (c.self.invariant.1.codes_sorted i here) in
    subst (λ s. IsWellSorted s (code_of c.body-item.result.block)) (ap sorts_in c.self.view_is ∙ sym c.loop-body.invariant.sorts) well

pub loop-body-preserved : goal.loop-body-preserved
loop-body-preserved c =
    let sorts = sort_of (declared_of c.self.inside.decls) in
    let bodies = c.self.inside.bodies in
    let codes = map code_of (map block_of bodies) in
    let i = c.loop-body.body-index in
    let many = ap length c.as_slice-body-items.ensures.values in
    let long = length-codes bodies in
    let here : i < length codes = omega (arith, many, long, c.loop-body-test.true) in
    let item = item_code c.as_slice-body-items.result.now bodies c.as_slice-body-items.ensures.values i c.loop-body-test.true c.body-item.result c.body-item.is in
    let before = c.loop-body.invariant.codes ∙ sym (ap (λ v. take i (codes_in v)) c.self.view_is) in
    record {
      sorts = c.in_ok-body.ensures.sorts ∙ c.loop-body.invariant.sorts;
      codes =
          c.in_ok-body.ensures.codes
          ∙ ap (λ l. with_code l (code_of c.body-item.result.block)) before
          ∙ ap (with_code (take i codes)) (sym item)
          ∙ code_next codes c.self.invariant.1.codes_apart i here
          ∙ ap (λ v. take (i + 1) (codes_in v)) c.self.view_is;
      trees = c.in_ok-body.ensures.trees ∙ c.loop-body.invariant.trees;
    }
