use Rattle.sm_proof.proofs.Imports.{◌≡◌, ◌∷◌, ◌++◌, ◌<◌, ◌∙◌, [], ℕ, List, length, option_map, ap, sym, rules, behind, any, numbers_in}
use Rattle.sm_proof.proofs.ReadLemmas.{all_read, bad_fact, empty_front, fact_fault, next_fact}
use Rattle.sm_proof.proofs.read.fact_numbers.Goals as goal

pub returns-in_err-n-clause-err : goal.returns-in_err-n-clause-err
returns-in_err-n-clause-err c =
    let e = c.in_err-n.field-0.0 in
    let some : 0 < length c.loop-left.left.now = search rules in
    let bad = bad_fact c.loop-left.left.now e c.loop-left.list.items some c.in_err-n.ensures.found in
    fact_fault c.from_residual.result e _ (search rules) bad.0 (c.loop-left.invariant ∙ bad.1)

pub loop-left-init : goal.loop-left-init
loop-left-init c =
    empty_front (numbers_in any (behind c.args.rest.now))
    ∙ ap (λ (items : List ℕ). option_map (λ (ns : List ℕ). items ++ ns) (numbers_in any (behind c.args.rest.now)))
    (sym c.new-list.ensures.items)

pub loop-left-preserved : goal.loop-left-preserved
loop-left-preserved c =
    let items : c.push.new.self.items ≡ c.loop-left.list.items ++ (c.in_ok-n.n ∷ []) = search rules in
    c.loop-left.invariant
    ∙ next_fact c.loop-left.left.now c.in_ok-n.n (behind c.in_ok-n.more.now) c.loop-left.list.items c.in_ok-n.ensures.found
    ∙ ap (λ (is : List ℕ). option_map (λ (ns : List ℕ). is ++ ns) (numbers_in any (behind c.in_ok-n.more.now))) (sym items)

pub returns-clause-ok : goal.returns-clause-ok
returns-clause-ok c =
    let none : length c.loop-left.left.now ≡ 0 = search rules in
    all_read c.loop-left.list.items c.loop-left.left.now _ none c.loop-left.invariant
