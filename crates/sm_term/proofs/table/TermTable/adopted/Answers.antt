-- The next row is put in over those before it.
use Rattle.sm_term.proofs.Imports.{◌≡◌, true, ◌+◌, ◌<◌, ◌++◌, ◌∷◌, [], Some, length, map, take, drop, slice_get, pos, sym, ap, subst, ◌∙◌, arith, take_all, drop_all, append-nil, sort_of, parts_in_list, term_fits, trees_in, sorts_in, codes_in, tree_in, trees_behind, IsTermWithin, with_trees, row_codes, trees_numbered, moved_part, moved_body, bodies_in_list, moved_contents, codes_numbered}
use Rattle.sm_term.specs.Terms as tree
use Rattle.sm_term.specs.Tables.{TermId}
use Rattle.sm_term.proofs.TreesLemmas.{length-trees}
use Rattle.sm_term.proofs.CopiesLemmas.{item_row}
use Rattle.sm_term.proofs.AdoptionLemmas.{keeps-twice, widens, more_twice, numbered_push, trees_step, moved_row}
use Rattle.sm_term.proofs.table.TermTable.adopted.Goals as goal

pub add-requires-clause-within : goal.add-requires-clause-within
add-requires-clause-within c =
    let older = trees_in c.args.self.now in
    let there = row_codes c.args.rows.now in
    let rows = c.args.rows.now.list.items in
    let made = trees_behind there (take c.args.from older) rows in
    let i = c.loop-term.term-index in
    let many = ap length c.deref-term-items.ensures.value in
    let h : i < length rows = omega (arith, many, c.loop-term-test.true) in
    let item = item_row c.deref-term-items.result.now rows c.deref-term-items.ensures.value i c.loop-term-test.true c.term-item.result c.term-item.is in
    let u = c.in_ok-row.row in
    let codes = codes_in c.loop-term.self in
    let trees = trees_in c.loop-term.self in
    let kept = c.loop-term.invariant in
    let answers = c.loop-term.list.items in
    let numbers = c.in_ok-numbers.numbers.items in
    let held =
    c.in_ok-row.ensures
    ∙ ap (λ l. moved_contents (moved_part c.args.from (parts_in_list l)) (moved_body (bodies_in_list c.deref-in-loop-term-2.result.now)) c.term-item.result) c.deref-in-loop-term.ensures.value
    ∙ ap (λ l. moved_contents (moved_part c.args.from (parts_in_list answers)) (moved_body (bodies_in_list l)) c.term-item.result) c.deref-in-loop-term-2.ensures.value
    ∙ ap (moved_contents (moved_part c.args.from (parts_in_list answers)) (moved_body (bodies_in_list numbers))) (sym item) in
    let moved = moved_row (sorts_in c.args.self.now) codes there older kept.more.0 trees c.args.from c.requires.behind kept.more.1 rows c.requires.sound.0 i h answers kept.stored numbers kept.bodies u held in
    let same_sorts = ap sort_of kept.rows.declared in
    subst (λ s. IsTermWithin s (length codes) (length trees) u) (sym same_sorts) moved.within

pub add-requires-clause-fits : goal.add-requires-clause-fits
add-requires-clause-fits c =
    let older = trees_in c.args.self.now in
    let there = row_codes c.args.rows.now in
    let rows = c.args.rows.now.list.items in
    let made = trees_behind there (take c.args.from older) rows in
    let i = c.loop-term.term-index in
    let many = ap length c.deref-term-items.ensures.value in
    let h : i < length rows = omega (arith, many, c.loop-term-test.true) in
    let item = item_row c.deref-term-items.result.now rows c.deref-term-items.ensures.value i c.loop-term-test.true c.term-item.result c.term-item.is in
    let u = c.in_ok-row.row in
    let codes = codes_in c.loop-term.self in
    let trees = trees_in c.loop-term.self in
    let kept = c.loop-term.invariant in
    let answers = c.loop-term.list.items in
    let numbers = c.in_ok-numbers.numbers.items in
    let held =
    c.in_ok-row.ensures
    ∙ ap (λ l. moved_contents (moved_part c.args.from (parts_in_list l)) (moved_body (bodies_in_list c.deref-in-loop-term-2.result.now)) c.term-item.result) c.deref-in-loop-term.ensures.value
    ∙ ap (λ l. moved_contents (moved_part c.args.from (parts_in_list answers)) (moved_body (bodies_in_list l)) c.term-item.result) c.deref-in-loop-term-2.ensures.value
    ∙ ap (moved_contents (moved_part c.args.from (parts_in_list answers)) (moved_body (bodies_in_list numbers))) (sym item) in
    let moved = moved_row (sorts_in c.args.self.now) codes there older kept.more.0 trees c.args.from c.requires.behind kept.more.1 rows c.requires.sound.0 i h answers kept.stored numbers kept.bodies u held in
    let same_sorts = ap sort_of kept.rows.declared in
    subst (λ s. term_fits s trees u ≡ true) (sym same_sorts) moved.fit

pub returns-in_err-numbers-clause-widens : goal.returns-in_err-numbers-clause-widens
returns-in_err-numbers-clause-widens c =
    widens c.args.self.now c.numbers.new.self c.numbers.ensures.rows ([], c.numbers.ensures.trees ∙ sym (append-nil (trees_in c.args.self.now)))

pub returns-in_err-row-clause-widens : goal.returns-in_err-row-clause-widens
returns-in_err-row-clause-widens c = widens c.args.self.now c.loop-term.self c.loop-term.invariant.rows c.loop-term.invariant.more

pub returns-in_err-id-clause-rows : goal.returns-in_err-id-clause-rows
returns-in_err-id-clause-rows c = keeps-twice c.args.self.now c.loop-term.self c.add.new.self c.loop-term.invariant.rows c.add.ensures.rows

pub returns-in_err-id-clause-widens : goal.returns-in_err-id-clause-widens
returns-in_err-id-clause-widens c =
    let kept = c.loop-term.invariant in
    let grown = c.add.ensures.grows.trees in
    widens c.args.self.now c.add.new.self (keeps-twice c.args.self.now c.loop-term.self c.add.new.self kept.rows c.add.ensures.rows) (more_twice _ _ _ kept.more grown)

pub returns-in_err-push-clause-widens : goal.returns-in_err-push-clause-widens
returns-in_err-push-clause-widens c =
    let kept = c.loop-term.invariant in
    let grown = c.add.ensures.grows.trees in
    widens c.args.self.now c.add.new.self (keeps-twice c.args.self.now c.loop-term.self c.add.new.self kept.rows c.add.ensures.rows) (more_twice _ _ _ kept.more grown)

pub returns-in_err-push-clause-rows : goal.returns-in_err-push-clause-rows
returns-in_err-push-clause-rows c = keeps-twice c.args.self.now c.loop-term.self c.add.new.self c.loop-term.invariant.rows c.add.ensures.rows

pub loop-term-preserved : goal.loop-term-preserved
loop-term-preserved c =
    let older = trees_in c.args.self.now in
    let there = row_codes c.args.rows.now in
    let rows = c.args.rows.now.list.items in
    let made = trees_behind there (take c.args.from older) rows in
    let i = c.loop-term.term-index in
    let many = ap length c.deref-term-items.ensures.value in
    let h : i < length rows = omega (arith, many, c.loop-term-test.true) in
    let item = item_row c.deref-term-items.result.now rows c.deref-term-items.ensures.value i c.loop-term-test.true c.term-item.result c.term-item.is in
    let u = c.in_ok-row.row in
    let codes = codes_in c.loop-term.self in
    let trees = trees_in c.loop-term.self in
    let kept = c.loop-term.invariant in
    let answers = c.loop-term.list.items in
    let numbers = c.in_ok-numbers.numbers.items in
    let held =
    c.in_ok-row.ensures
    ∙ ap (λ l. moved_contents (moved_part c.args.from (parts_in_list l)) (moved_body (bodies_in_list c.deref-in-loop-term-2.result.now)) c.term-item.result) c.deref-in-loop-term.ensures.value
    ∙ ap (λ l. moved_contents (moved_part c.args.from (parts_in_list answers)) (moved_body (bodies_in_list l)) c.term-item.result) c.deref-in-loop-term-2.ensures.value
    ∙ ap (moved_contents (moved_part c.args.from (parts_in_list answers)) (moved_body (bodies_in_list numbers))) (sym item) in
    let moved = moved_row (sorts_in c.args.self.now) codes there older kept.more.0 trees c.args.from c.requires.behind kept.more.1 rows c.requires.sound.0 i h answers kept.stored numbers kept.bodies u held in
    let same_sorts = ap sort_of kept.rows.declared in
    let grown = c.add.ensures.grows.trees in
    let long = length-trees there (take c.args.from older) rows in
    let inside : i < length made = omega (arith, h, long) in
    let found = ap (λ l. slice_get l c.in_ok-id.id.0) (sym grown.1) ∙ c.in_ok-id.ensures.stored ∙ ap Some moved.tree in
    let pushed = numbered_push (λ (t : TermId). t.0) trees grown.0 answers c.in_ok-id.id made i (tree.Lit (pos 0)) kept.stored inside found in
    record {
      rows = keeps-twice c.args.self.now c.loop-term.self c.add.new.self kept.rows c.add.ensures.rows;
      codes = c.add.ensures.grows.codes ∙ kept.codes;
      bodies = ap (λ l. codes_numbered l numbers) c.add.ensures.grows.codes ∙ kept.bodies;
      more = more_twice _ _ _ kept.more grown;
      trees = ap (λ l. with_trees l (drop (i + 1) made)) c.in_ok-id.ensures.trees ∙ trees_step trees made i (tree_in codes trees u) inside (sym moved.tree) ∙ kept.trees;
      stored =
          ap (trees_numbered (trees_in c.add.new.self)) c.in_ok-push.ensures.items
          ∙ ap (λ l. trees_numbered l (answers ++ c.in_ok-id.id ∷ [])) grown.1
          ∙ pushed;
    }

pub returns-clause-stored : goal.returns-clause-stored
returns-clause-stored c =
    let there = row_codes c.args.rows.now in
    let first = take c.args.from (trees_in c.args.self.now) in
    let rows = c.args.rows.now.list.items in
    let many = ap length c.deref-term-items.ensures.value in
    let long = length-trees there first rows in
    c.loop-term.invariant.stored ∙ ap (map Some) (take_all c.loop-term.term-index (trees_behind there first rows) (omega (arith, many, long)))

pub returns-clause-trees : goal.returns-clause-trees
returns-clause-trees c =
    let there = row_codes c.args.rows.now in
    let first = take c.args.from (trees_in c.args.self.now) in
    let rows = c.args.rows.now.list.items in
    let many = ap length c.deref-term-items.ensures.value in
    let long = length-trees there first rows in
    sym (ap (with_trees (trees_in c.loop-term.self)) (drop_all c.loop-term.term-index (trees_behind there first rows) (omega (arith, many, long)))) ∙ c.loop-term.invariant.trees

pub returns-clause-widens : goal.returns-clause-widens
returns-clause-widens c = widens c.args.self.now c.loop-term.self c.loop-term.invariant.rows c.loop-term.invariant.more
