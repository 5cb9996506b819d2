-- The next body is put in behind those before it.
use Rattle.sm_term.proofs.Imports.{◌+◌, ◌++◌, ◌∷◌, [], Some, length, map, drop, slice_get, sym, ap, subst, ◌∙◌, arith, ◌<◌, length-map, take_all, drop_all, End, sort_of, IsWellSorted, code_of, BodyId, sorts_in, codes_in, with_codes, codes_numbered}
use Rattle.sm_term.proofs.AdoptionLemmas.{next_item, codes-kept, keeps-twice, numbered_push, codes_step}
use Rattle.sm_term.proofs.table.TermTable.numbers.Goals as goal

pub body-requires : goal.body-requires
body-requires c =
    let i = c.loop-block.block-index in
    let blocks = c.args.blocks.now in
    let item = next_item code_of blocks i End c.block-item.result c.loop-block-test.true c.block-item.is in
    let long = length-map blocks code_of in
    let well = c.requires i (omega (arith, long, c.loop-block-test.true)) in
    subst (λ s. IsWellSorted s (code_of c.block-item.result)) (sym (ap sort_of c.loop-block.invariant.rows.declared)) (subst (IsWellSorted (sorts_in c.args.self.now)) item well)

pub loop-block-preserved : goal.loop-block-preserved
loop-block-preserved c =
    let i = c.loop-block.block-index in
    let blocks = c.args.blocks.now in
    let cs = map code_of blocks in
    let item = next_item code_of blocks i End c.block-item.result c.loop-block-test.true c.block-item.is in
    let long = length-map blocks code_of in
    let h : i < length cs = omega (arith, long, c.loop-block-test.true) in
    let codes = codes_in c.loop-block.self in
    let more = codes-kept c.loop-block.self c.body.new.self c.body.ensures.rows in
    let found = ap (λ l. slice_get l c.in_ok-id.id.0) (sym more.1) ∙ c.in_ok-id.ensures.stored ∙ ap Some (sym item) in
    let pushed = numbered_push (λ (b : BodyId). b.0) codes more.0 c.loop-block.numbers.items c.in_ok-id.id cs i End c.loop-block.invariant.stored h found in
    record {
      stored =
          ap (codes_numbered (codes_in c.body.new.self)) c.in_ok-push.ensures.items
          ∙ ap (λ l. codes_numbered l (c.loop-block.numbers.items ++ c.in_ok-id.id ∷ [])) more.1
          ∙ pushed;
      codes = ap (λ l. with_codes l (drop (i + 1) cs)) c.in_ok-id.ensures.codes ∙ codes_step codes cs i (code_of c.block-item.result) h item ∙ c.loop-block.invariant.codes;
      trees = c.body.ensures.trees ∙ c.loop-block.invariant.trees;
      rows = keeps-twice c.args.self.now c.loop-block.self c.body.new.self c.loop-block.invariant.rows c.body.ensures.rows;
    }

pub returns-in_err-id-clause-trees : goal.returns-in_err-id-clause-trees
returns-in_err-id-clause-trees c = c.body.ensures.trees ∙ c.loop-block.invariant.trees

pub returns-in_err-id-clause-rows : goal.returns-in_err-id-clause-rows
returns-in_err-id-clause-rows c = keeps-twice c.args.self.now c.loop-block.self c.body.new.self c.loop-block.invariant.rows c.body.ensures.rows

pub returns-in_err-push-clause-trees : goal.returns-in_err-push-clause-trees
returns-in_err-push-clause-trees c = c.body.ensures.trees ∙ c.loop-block.invariant.trees

pub returns-in_err-push-clause-rows : goal.returns-in_err-push-clause-rows
returns-in_err-push-clause-rows c = keeps-twice c.args.self.now c.loop-block.self c.body.new.self c.loop-block.invariant.rows c.body.ensures.rows

pub returns-clause-stored : goal.returns-clause-stored
returns-clause-stored c =
    let blocks = c.args.blocks.now in
    let long = length-map blocks code_of in
    c.loop-block.invariant.stored ∙ ap (map Some) (take_all c.loop-block.block-index (map code_of blocks) (omega (arith, long, c.loop-block-test.false)))

pub returns-clause-codes : goal.returns-clause-codes
returns-clause-codes c =
    let blocks = c.args.blocks.now in
    let long = length-map blocks code_of in
    sym (ap (with_codes (codes_in c.loop-block.self)) (drop_all c.loop-block.block-index (map code_of blocks) (omega (arith, long, c.loop-block-test.false)))) ∙ c.loop-block.invariant.codes

pub returns-clause-trees : goal.returns-clause-trees
returns-clause-trees c = c.loop-block.invariant.trees

pub returns-clause-rows : goal.returns-clause-rows
returns-clause-rows c = c.loop-block.invariant.rows
