-- The term is one that a line made.
use Rattle.sm_check.proofs.Imports.{Ok, length, refl, sym, trees_in, tree_at, Tree, part_before, found_or, BadNumber, First, with_tree, IsTerm, terms_in}
use Rattle.std.specs.Prelude.{slice_get}
use Rattle.sm_term.specs.Heads.{arguments_of}
use Rattle.sm_proof.specs.declared.word.Head.TheVariants as head
use Rattle.sm_check.proofs.TellsLemmas.{same_word, tells_along}
use Rattle.sm_check.proofs.TermsLemmas.{with_there, with_missing}
use Rattle.sm_check.proofs.terms.argument.Goals as goal

pub argument_at-requires : goal.argument_at-requires
argument_at-requires c =
    part_before (length (trees_in c.args.table.now)) c.args.terms.now c.args.n c.in-Some.t c.requires (sym c.in-Some.ensures)

pub returns-in-Some-clause-tells : goal.returns-in-Some-clause-tells
returns-in-Some-clause-tells c =
    let trees = trees_in c.args.table.now in
    let next = (λ (t : Tree). found_or (slice_get (arguments_of t) c.args.place) (First head.T) Ok) in
    tells_along (IsTerm trees) c.argument_at.result (next (tree_at trees c.in-Some.t.0)) (with_tree (terms_in trees c.args.terms.now) c.args.n next)
    (with_there trees c.args.terms.now c.args.n c.in-Some.t next (sym c.in-Some.ensures))
    c.argument_at.ensures.tells

pub returns-in-None-clause-tells : goal.returns-in-None-clause-tells
returns-in-None-clause-tells c =
    let trees = trees_in c.args.table.now in
    let next = (λ (t : Tree). found_or (slice_get (arguments_of t) c.args.place) (First head.T) Ok) in
    same_word (IsTerm trees) _ (with_tree (terms_in trees c.args.terms.now) c.args.n next) BadNumber refl
    (with_missing trees c.args.terms.now c.args.n next (sym c.in-None.ensures))
