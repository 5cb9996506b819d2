-- What proofs of this crate name of definitions and of the lemmas of other crates.
pub use Rattle.std.proofs.Common.{Bool, List, [], ap, arith, drop, false, get_or, if◌then◌else◌, inl, inr, length, nat_eq, refl, subst, suc, sym, true, zero, ℕ, ◌++◌, ◌+◌, ◌<◌, ◌||◌, ◌∙◌, ◌∷◌, ◌≡◌, ◌≤◌, ◌⊎◌}
pub use Rattle.std.specs.List.{list_any}
pub use Rattle.sm_term.specs.Heads.{arguments_of, terms_given}
pub use Rattle.sm_term.specs.SameTerms.{same_tree}
pub use Rattle.sm_term.specs.Tables.{AreBefore, codes_in, sorts_in, tree_at, trees_in}
pub use Rattle.sm_term.specs.Terms.{Add, Arguments, Cell, Fun, Given, Havoc, Lit, Mul, Neg, Over, Read, Slot, Start, Sub, Tree, Write}
pub use Rattle.sm_theory.specs.TermsOfFormulas.{is_among, put, with_arguments, with_formula, with_formulas, with_term}
pub use Rattle.sm_euf.specs.Arguments.{argument_numbers, trees_of}
pub use Rattle.sm_terms.specs.Listing.{AllAmong, AreBelow, AreReady, AreStepsWithin, IsClosed, IsReady, Leads, after, after_all, cost_of, cost_of_arguments, cost_of_step, cost_of_steps, trees_at, visits}
pub use Rattle.sm_terms.specs.declared.listing.Step.{Step}
pub use Rattle.sm_terms.specs.declared.listing.Step.TheVariants.{Put, Visit}
