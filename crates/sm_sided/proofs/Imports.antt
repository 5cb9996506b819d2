-- What proofs of this crate name of definitions and of the lemmas of other crates.
pub use Rattle.std.proofs.Common.{Bool, Err, IsTrue, List, MatchOption, None, Ok, Some, [], add-one, ap, arith, false, if◌then◌else◌, inl, inr, is_some, length, map, max, nat_le, nat_lt, pos, refl, slice_get, subst, suc, sym, true, zero, ℕ, ◌&&◌, ◌++◌, ◌+◌, ◌-◌, ◌<◌, ◌==◌, ◌||◌, ◌↔◌, ◌∙◌, ◌∷◌, ◌≡◌, ◌⊎◌}
pub use Rattle.std.proofs.lemmas.Bool.{and_from, and_parts, cases_Bool, le-leb, or_cases, or_left, or_right}
pub use Rattle.std.proofs.lemmas.List.{append-nil, append_assoc, length-map, map-append}
pub use Rattle.std.specs.List.{AllByRecursion, flat_map}
pub use Rattle.sm_syntax.specs.claim.ConflictFree.{A, B, Copy, M, O, Task, program_of}
pub use Rattle.sm_syntax.specs.claim.Syntax.{Assign, Code, Compare, Condition, End, Hole, If, Lit, Minus, Skip, Var, While, Write}
pub use Rattle.sm_syntax.specs.declared.tree.Sort.{Sort}
pub use Rattle.sm_syntax.specs.declared.tree.Sort.TheVariants.{Arr, Num}
pub use Rattle.sm_syntax.specs.text.Parts.{by_copy, sort_of, sorted_outputs}
pub use Rattle.sm_syntax.specs.text.Sorts.{Sorts}
pub use Rattle.sm_syntax.specs.trees.Copies.{of_copy}
pub use Rattle.sm_syntax.specs.trees.Views.{code_of, sequence, statement_layer, statement_of}
pub use Rattle.sm_term.proofs.SameTermsLemmas.{is_copy_is, same_tree_is}
pub use Rattle.sm_term.specs.Assertions.{Assertion, Eq, Ne}
pub use Rattle.sm_term.specs.SameTerms.{is_copy, same_tree}
pub use Rattle.sm_term.specs.Slots.{all_at_stores, fill_term}
pub use Rattle.sm_term.specs.Tables.{sorts_in, trees_in}
pub use Rattle.sm_term.specs.Terms.{Cell, Read, Tree}
pub use Rattle.sm_plan.specs.Nodes.{Abs, Node, asks, follows, where_true}
pub use Rattle.sm_plan.specs.Plans.{Fault, Wrong, branches, due, expand, expand_all, joined, nodes_of, obligations, opened}
pub use Rattle.sm_plan.specs.Statements.{front, is_long, is_over, rest_after}
pub use Rattle.sm_plan.specs.States.{State, keeps_goals, place, start_of, start_store}
pub use Rattle.sm_plan.specs.Successors.{summarized, summary_state}
pub use Rattle.sm_expand.specs.Views.{dues_in, numbered_last, plan_in, simple_node, straight_before}
pub use Rattle.sm_expand.specs.declared.plan.Simple.{Simple}
pub use Rattle.sm_theory.specs.Facts.{BranchFact, Formal, as_facts}
pub use Rattle.sm_cert.specs.Certificates.{Certificate, Closed, Closes, Next, Theories, bad_line, first_bad, in_no_way, in_one_way}
pub use Rattle.sm_cert.specs.Views.{certificate_in, lines_before}
pub use Rattle.sm_moves.specs.CodeShapes.{own_statements}
pub use Rattle.sm_sided.specs.OneSided.{IsOneSided, IsOnly, agree, is_one_sided}
pub use Rattle.sm_sided.specs.WholeCertificates.{NamesNoTerm, by_clash, by_first, by_second, by_turned, certificates_of, whole_certificates}
pub use Rattle.sm_sided.specs.WholePlan.{AreClosed, IsShown, KeepsNone, denied, denied_goals, facts_before, summary_before, whole_plan}
