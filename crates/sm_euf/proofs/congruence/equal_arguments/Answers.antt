use Rattle.sm_euf.proofs.Imports.{Bool, true, false, not, ◌≡◌, ◌&&◌, ◌+◌, arith, drop, length, refl, sym, ap, ◌∙◌, slice_get, is_none, trees_in, say_equal, argument_numbers, trees_of}
use Rattle.std.proofs.lemmas.Option.{slice_get-get_or, slice_get_past}
use Rattle.sm_term.proofs.TermsLemmas.{part_before}
use Rattle.sm_euf.proofs.ArgumentsLemmas.{say_step, say_left, say_right, say_end}
use Rattle.sm_euf.proofs.congruence.equal_arguments.Goals as goal

-- a test that says the contrary of another
turned : (a b : Bool) → a ≡ not b → b ≡ not a
turned true true e = absurd cc
turned true false e = refl
turned false true e = refl
turned false false e = absurd cc

pub returns-in_default : goal.returns-in_default
returns-in_default c = λ facts all.
    let i = c.loop-i.i in
    let numbers = c.args.numbers.now in
    let n = slice_get-get_or numbers i 0 c.loop-i-test.true in
    let none = sym c.argument.ensures ∙ c.in_default.is in
    let ts = argument_numbers c.args.t.now in
    let us = argument_numbers c.args.u.now in
    let fails = say_left facts (trees_in c.args.table.now) numbers ts us i _ n none in
    sym (c.loop-i.invariant facts all ∙ fails)

pub returns-in_default-argument : goal.returns-in_default-argument
returns-in_default-argument c = λ facts all.
    let i = c.loop-i.i in
    let numbers = c.args.numbers.now in
    let n = slice_get-get_or numbers i 0 c.loop-i-test.true in
    let a = sym c.argument.ensures ∙ c.in-Some.is in
    let none = sym c.argument-in-loop-i.ensures ∙ c.in_default-argument.is in
    let ts = argument_numbers c.args.t.now in
    let us = argument_numbers c.args.u.now in
    let fails = say_right facts (trees_in c.args.table.now) numbers ts us i _ _ n a none in
    sym (c.loop-i.invariant facts all ∙ fails)

pub returns-then-not-says_equal : goal.returns-then-not-says_equal
returns-then-not-says_equal c = λ facts all.
    let i = c.loop-i.i in
    let numbers = c.args.numbers.now in
    let ts = argument_numbers c.args.t.now in
    let us = argument_numbers c.args.u.now in
    let trees = trees_in c.args.table.now in
    let n = slice_get-get_or numbers i 0 c.loop-i-test.true in
    let a = sym c.argument.ensures ∙ c.in-Some.is in
    let b = sym c.argument-in-loop-i.ensures ∙ c.in-Some-argument.is in
    let left = part_before _ ts i _ c.requires.left a in
    let right = part_before _ us i _ c.requires.right b in
    let says = sym (c.says_equal.ensures facts all left right) ∙ c.if-not-says_equal.true in
    let rest = say_equal facts (drop (i + 1) numbers) (trees_of trees (drop (i + 1) ts)) (trees_of trees (drop (i + 1) us)) in
    let step = say_step facts trees numbers ts us i _ _ _ n a b in
    sym (c.loop-i.invariant facts all ∙ step ∙ ap (λ (e : Bool). e && rest) says)

pub loop-i-preserved : goal.loop-i-preserved
loop-i-preserved c = λ facts all.
    let i = c.loop-i.i in
    let numbers = c.args.numbers.now in
    let ts = argument_numbers c.args.t.now in
    let us = argument_numbers c.args.u.now in
    let trees = trees_in c.args.table.now in
    let n = slice_get-get_or numbers i 0 c.loop-i-test.true in
    let a = sym c.argument.ensures ∙ c.in-Some.is in
    let b = sym c.argument-in-loop-i.ensures ∙ c.in-Some-argument.is in
    let left = part_before _ ts i _ c.requires.left a in
    let right = part_before _ us i _ c.requires.right b in
    let says = sym (c.says_equal.ensures facts all left right) ∙ c.if-not-says_equal.false in
    let rest = say_equal facts (drop (i + 1) numbers) (trees_of trees (drop (i + 1) ts)) (trees_of trees (drop (i + 1) us)) in
    let step = say_step facts trees numbers ts us i _ _ _ n a b in
    c.loop-i.invariant facts all ∙ step ∙ ap (λ (e : Bool). e && rest) says

pub returns-then-is_none : goal.returns-then-is_none
returns-then-is_none c = λ facts all.
    let i = c.loop-i.i in
    let numbers = c.args.numbers.now in
    let ts = argument_numbers c.args.t.now in
    let us = argument_numbers c.args.u.now in
    let last : length numbers ≡ i = omega (arith, c.loop-i-test.false, c.loop-i.auto.i-end) in
    let ended = say_end facts (trees_in c.args.table.now) numbers ts us i (slice_get_past numbers i c.loop-i-test.false) in
    let one = turned _ _ c.is_none.ensures ∙ ap is_none (c.argument-2.ensures ∙ ap (slice_get ts) last) in
    let no_other = c.argument-then-is_none.ensures ∙ ap (slice_get us) last in
    let other = turned _ _ c.is_none-then-is_none.ensures ∙ ap is_none no_other in
    let first = ap (λ (e : Bool). e && is_none (slice_get us i)) (sym one ∙ c.if-is_none.true) in
    other ∙ sym (c.loop-i.invariant facts all ∙ ended ∙ first)

pub returns-else-is_none : goal.returns-else-is_none
returns-else-is_none c = λ facts all.
    let i = c.loop-i.i in
    let numbers = c.args.numbers.now in
    let ts = argument_numbers c.args.t.now in
    let us = argument_numbers c.args.u.now in
    let last : length numbers ≡ i = omega (arith, c.loop-i-test.false, c.loop-i.auto.i-end) in
    let ended = say_end facts (trees_in c.args.table.now) numbers ts us i (slice_get_past numbers i c.loop-i-test.false) in
    let one = turned _ _ c.is_none.ensures ∙ ap is_none (c.argument-2.ensures ∙ ap (slice_get ts) last) in
    let first = ap (λ (e : Bool). e && is_none (slice_get us i)) (sym one ∙ c.if-is_none.false) in
    c.if-is_none.false ∙ sym (c.loop-i.invariant facts all ∙ ended ∙ first)
