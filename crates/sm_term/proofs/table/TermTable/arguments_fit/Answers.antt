use Rattle.sm_term.proofs.Imports.{◌&&◌, ◌+◌, drop, get_or, sym, ap, ◌∙◌, arith, slice_get-get_or, has_sort, arguments_fit, trees_in, sorts_in}
use Rattle.sm_term.proofs.TermsLemmas.{other_length, part_before, fit_step, fit_end}
use Rattle.sm_term.proofs.table.TermTable.arguments_fit.Goals as goal

pub returns-then-from-args : goal.returns-then-from-args
returns-then-from-args c = other_length (sorts_in c.args.self.now) (trees_in c.args.self.now) _ _ c.if-from-args.true

pub has_sort-requires : goal.has_sort-requires
has_sort-requires c =
    let args = c.args.args.now in
    let long = c.loop-i.invariant.long in
    part_before _ args c.loop-i.i _ c.requires (slice_get-get_or args c.loop-i.i (record { 0 = 0 }) (omega arith))

pub returns-then-not-has_sort : goal.returns-then-not-has_sort
returns-then-not-has_sort c =
    let sorts = sorts_in c.args.self.now in
    let trees = trees_in c.args.self.now in
    let i = c.loop-i.i in
    let long = c.loop-i.invariant.long in
    let x = slice_get-get_or c.args.from.now i (record { 0 = 0 }) (omega arith) in
    let t = slice_get-get_or c.args.args.now i (record { 0 = 0 }) (omega arith) in
    let step = fit_step sorts trees c.args.from.now c.args.args.now i _ _ x t in
    let has = ap (has_sort sorts trees (get_or c.args.args.now i (record { 0 = 0 }))) (sym c.sort_named.ensures) ∙ sym c.has_sort.ensures ∙ c.if-not-has_sort.true in
    sym (c.loop-i.invariant.rest ∙ step ∙ ap (λ b. b && arguments_fit sorts trees (drop (i + 1) c.args.from.now) (drop (i + 1) c.args.args.now)) has)

pub loop-i-preserved : goal.loop-i-preserved
loop-i-preserved c =
    let sorts = sorts_in c.args.self.now in
    let trees = trees_in c.args.self.now in
    let i = c.loop-i.i in
    let long = c.loop-i.invariant.long in
    let x = slice_get-get_or c.args.from.now i (record { 0 = 0 }) (omega arith) in
    let t = slice_get-get_or c.args.args.now i (record { 0 = 0 }) (omega arith) in
    let step = fit_step sorts trees c.args.from.now c.args.args.now i _ _ x t in
    let has = ap (has_sort sorts trees (get_or c.args.args.now i (record { 0 = 0 }))) (sym c.sort_named.ensures) ∙ sym c.has_sort.ensures ∙ c.if-not-has_sort.false in
    record {
      long = long;
      rest = c.loop-i.invariant.rest ∙ step ∙ ap (λ b. b && arguments_fit sorts trees (drop (i + 1) c.args.from.now) (drop (i + 1) c.args.args.now)) has;
    }

pub returns : goal.returns
returns c =
    let long = c.loop-i.invariant.long in
    sym (c.loop-i.invariant.rest ∙ fit_end (sorts_in c.args.self.now) (trees_in c.args.self.now) c.args.from.now c.args.args.now c.loop-i.i (omega arith) long)
