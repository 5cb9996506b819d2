-- The first terms have been copied.
use Rattle.sm_term.proofs.Imports.{◌≡◌, map, take, contents_of}
use Rattle.sm_term.proofs.tails.copied_terms.Given as goal

abbrev pub invariant-loop-term : goal.invariant-loop-term
invariant-loop-term l = map contents_of l.list.items ≡ map contents_of (take l.term-index l.terms)
