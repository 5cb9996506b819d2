-- What proofs of this crate name of definitions and of the lemmas of other crates.
pub use Rattle.std.proofs.Common.{Bool, IsTrue, List, None, Option, Some, [], ap, arith, drop, eq-eqb, false, get_or, if◌then◌else◌, length, map, refl, subst, suc, sym, take, true, zero, ℕ, ◌++◌, ◌+◌, ◌<◌, ◌==◌, ◌∙◌, ◌∷◌, ◌≡◌}
pub use Rattle.std.proofs.lemmas.Bool.{OnTrue_at, OnTrue_from}
pub use Rattle.std.proofs.lemmas.List.{drop_all, drop_more, take_at}
pub use Rattle.std.specs.Option.{is_some}
pub use Rattle.sm_syntax.specs.declared.tree.Name.{Name}
pub use Rattle.sm_syntax.specs.declared.tree.Sort.{Sort}
pub use Rattle.sm_syntax.specs.declared.tree.Sort.TheVariants.{Num}
pub use Rattle.sm_syntax.specs.text.Parts.{Parts, sort_of, task_of}
pub use Rattle.sm_syntax.specs.text.Sorts.{IsWellSorted, Sorts}
pub use Rattle.sm_term.specs.Sorted.{AreFormsSorted, IsDeclaredIn, IsFormSorted, tree_sort}
pub use Rattle.sm_term.specs.Tables.{TableValue, sorts_in, tree_at, trees_in}
pub use Rattle.sm_term.specs.Terms.{Tree}
pub use Rattle.sm_term.specs.declared.formula.Formula.{Formula}
pub use Rattle.sm_theory.specs.Views.{IsLineWithin}
pub use Rattle.sm_cert.specs.Views.{AreLinesWithin, lines_of}
pub use Rattle.sm_cert.specs.declared.tree.CertTree.{CertTree}
pub use Rattle.sm_check.proofs.SpelledCheckable.{all_declared, spelled_checkable}
pub use Rattle.sm_list.specs.Parts.{AreFormulasWithin, all_numbered, assertions_in}
