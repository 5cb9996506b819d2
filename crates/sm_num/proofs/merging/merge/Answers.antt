-- Where one list has ended, the other is put after.
use Rattle.sm_num.proofs.Imports.{◌≡◌, ◌⊎◌, inl, inr, List, ℕ, ℤ, [], drop, subst, err_from_is_err_and, Fits, scaled, Explains, behind}
use Rattle.std.proofs.Math.ListN.{drop_of_length-le}
use Rattle.sm_num.proofs.Merges.{ends, first_fails, rest_from}
use Rattle.sm_num.proofs.merging.merge.Goals as goal
use Rattle.sm_num.proofs.merging.merge.Goals.{then-loop-i-test+else-j-g, else-loop-i-test}

pub returns-in_err-put_products-clause-err : goal.returns-in_err-put_products-clause-err
returns-in_err-put_products-clause-err c =
    let fs : List (ℕ × ℤ) = drop c.loop-i.i c.args.f.now in
    let gs : List (ℕ × ℤ) = drop c.loop-i.j c.args.g.now in
    let ended : (fs ≡ []) ⊎ (gs ≡ []) = elim c.loop-i-test.branch as (λ x. (fs ≡ []) ⊎ (gs ≡ [])) [
      | then-loop-i-test+else-j-g w ↦ inr (drop_of_length-le c.args.g.now w.if-j-g.false)
      | else-loop-i-test w ↦ inl (drop_of_length-le c.args.f.now w.loop-i-test.false)
    ] in
    let fails = subst (λ (l : List (ℕ × ℤ)). Explains (scaled c.args.p.now l) c.in_err-put_products.field-0.0)
    (rest_from c.loop-i.i c.args.f.now) c.in_err-put_products.ensures.err in
    let p = err_from_is_err_and c.from_residual-in_err-put_products.result c.from_residual-in_err-put_products.ensures.1 in
    rw (p.1, p.2)
    (first_fails c.args.p.now c.args.q.now fs gs ended _ c.loop-i.out.items c.loop-i.invariant.sum c.in_err-put_products.field-0.0 fails)

pub returns-clause-ok : goal.returns-clause-ok
returns-clause-ok c =
    let fs : List (ℕ × ℤ) = drop c.loop-i.i c.args.f.now in
    let gs : List (ℕ × ℤ) = drop c.loop-i.j c.args.g.now in
    let ended : (fs ≡ []) ⊎ (gs ≡ []) = elim c.loop-i-test.branch as (λ x. (fs ≡ []) ⊎ (gs ≡ [])) [
      | then-loop-i-test+else-j-g w ↦ inr (drop_of_length-le c.args.g.now w.if-j-g.false)
      | else-loop-i-test w ↦ inl (drop_of_length-le c.args.f.now w.loop-i-test.false)
    ] in
    let once : List (ℕ × ℤ) = c.put_products.new.out.items in
    let twice : List (ℕ × ℤ) = c.put_products-2.new.out.items in
    let first = subst (λ (l : List (ℕ × ℤ)). behind c.loop-i.out.items (scaled c.args.p.now l) ≡ Fits once)
    (rest_from c.loop-i.i c.args.f.now) c.in_ok-put_products.ensures.ok in
    let second = subst (λ (l : List (ℕ × ℤ)). behind once (scaled c.args.q.now l) ≡ Fits twice) (rest_from c.loop-i.j c.args.g.now)
    c.in_ok-put_products-2.ensures.ok in
    ends c.args.p.now c.args.q.now fs gs ended _ c.loop-i.out.items c.loop-i.invariant.sum once twice first second
