-- What proofs of this crate name of definitions and of the lemmas of other crates.
pub use Rattle.std.proofs.Common.{Bool, List, None, Option, Some, [], ap, arith, drop, false, length, nat_eq, not, refl, slice_get, subst, suc, sym, true, zero, ℕ, ◌&&◌, ◌+◌, ◌<◌, ◌==◌, ◌∙◌, ◌∷◌, ◌≡◌, ◌≤◌}
pub use Rattle.std.specs.Option.{is_none}
pub use Rattle.sm_syntax.specs.declared.tree.Name.{Name}
pub use Rattle.sm_syntax.specs.text.Sorts.{Sorts}
pub use Rattle.sm_term.proofs.SameTermsLemmas.{same_code_is, same_tree_is}
pub use Rattle.sm_term.specs.Heads.{arguments_of, same_head, same_names, terms_given}
pub use Rattle.sm_term.specs.SameTerms.{same_code, same_tree}
pub use Rattle.sm_term.specs.Tables.{AreBefore, IsTermWithin, arguments_in, code_at, codes_in, sorts_in, tree_at, tree_in, trees_in}
pub use Rattle.sm_term.specs.Terms.{Tree}
pub use Rattle.sm_term.specs.declared.term.TermId.{TermId}
pub use Rattle.sm_theory.specs.Equality.{equality_adds, formula_if, is_inhabited_list, or_other, say_equal, says_equal, substituted, turned_contrary, turned_equation}
pub use Rattle.sm_theory.specs.Facts.{BranchFact, Formal}
pub use Rattle.sm_theory.specs.Lines.{Cong, Sides, Subst, Sym, contrary_at, equation_at, followed}
pub use Rattle.sm_theory.specs.Sides.{OptionStands, SidesStand}
pub use Rattle.sm_theory.specs.Views.{AllStand, FactStands, StandsIf}
pub use Rattle.sm_euf.specs.Arguments.{argument_numbers, have_one_head, trees_of}
