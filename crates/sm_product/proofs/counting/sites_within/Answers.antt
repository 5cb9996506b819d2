-- As many as the choice of all templates has lists, which is one for each site.
use Rattle.sm_product.proofs.Imports.{List, ℕ, length, sym, ap, ◌∙◌, length-map, Vec, range_with_len, Assertion, trees_in, sorts_in, parts_of, ProductError, all_chosen, sites_of, sketch_of, TellsTask}
use Rattle.std.specs.declared.alloc.Global.{Global}
use Rattle.sm_sketch.specs.declared.error.ProductError.TheVariants as error
use Rattle.sm_sketch.specs.Sketches.{Sketch}
use Rattle.sm_product.proofs.DrawnLemmas.{err_is}
use Rattle.sm_product.proofs.counting.sites_within.Goals as goal

pub returns-in_err-is_task_small-clause-err : goal.returns-in_err-is_task_small-clause-err
returns-in_err-is_task_small-clause-err c =
    err_is (λ (e : ProductError). TellsTask e (parts_of c.args.task.now)) c.from_residual-in_err-is_task_small.result error.Memory
    c.from_residual-in_err-is_task_small.ensures.1 tt

pub returns-clause-ok : goal.returns-clause-ok
returns-clause-ok c =
    let v = c.args.table.now in
    let all = sites_of (sketch_of (parts_of c.args.task.now)) in
    let chosen =
    c.in_ok-full.ensures (sorts_in v) (trees_in v) ∙ ap (λ (p : Sketch). all_chosen (sites_of p)) c.requires.sketch in
    c.len.ensures ∙ c.in_ok-full.full.sites.ok.0
    ∙ sym (length-map c.in_ok-full.full.sites.items (λ (s : Vec ℕ Global). s.items)) ∙ ap (λ (l : List (List ℕ)). length l) chosen
    ∙ length-map all (λ (ts : List Assertion). range_with_len 0 (length ts))
