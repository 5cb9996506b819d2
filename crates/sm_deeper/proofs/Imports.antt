-- What proofs of this crate name of definitions and of the lemmas of other crates.
pub use Rattle.std.proofs.Common.{Err, List, Ok, Option, Some, ap, arith, get_or, length, map, rules, slice_get, subst, sym, take, ℕ, ◌+◌, ◌<◌, ◌∙◌, ◌≡◌, ◌≤◌}
pub use Rattle.std.proofs.Crossing.{crosses}
pub use Rattle.std.specs.Prelude.{IfOk, OnOk, Vec}
pub use Rattle.sm_term.specs.TableLaws.{ExtendsTable}
pub use Rattle.sm_term.specs.Tables.{TableValue, sorts_in, trees_in}
pub use Rattle.sm_term.specs.Tails.{AreRowsSound}
pub use Rattle.sm_term.specs.declared.formula.Formula.{Formula}
pub use Rattle.sm_plan.proofs.TablesWiden.{form_ready, forms_ready, widens_twice}
pub use Rattle.sm_expand.proofs.PlansWiden.{dues_ready}
pub use Rattle.sm_expand.specs.Views.{AreDuesReady, plan_in}
pub use Rattle.sm_goals.proofs.FormsLemmas.{forms_sorted, forms_within, goals_ready, ready_found}
pub use Rattle.sm_goals.proofs.NodesLemmas.{facts_at, node_over, ready_over}
pub use Rattle.sm_goals.proofs.SharedLemmas.{due_sync, table_sync}
pub use Rattle.sm_goals.proofs.TablesLemmas.{first_within, front_stays, front_within}
pub use Rattle.sm_goals.specs.Nodes.{IsNodeOf}
pub use Rattle.sm_deeper.specs.declared.end_jobs.JobEnd.{JobEnd}
pub use Rattle.sm_deeper.specs.declared.rounds.Asked.{Asked}
