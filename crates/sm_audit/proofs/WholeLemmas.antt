-- What was found of a plan and its certificates makes it writable.
use Rattle.sm_audit.proofs.Imports.{◌≡◌, ℕ, Option, Result, Ok, Err, List, map, subst, Parts, sort_of, task_of, Sorts, Tree, certificate_in, CertTree, Node, nodes_of, obligations, State, start_state, node_in, NodeRow, plan_states, AreKeptNameable, AreShown, IsWritable, all_goals, AreGoalsFit, AreRowsKnown, AreSince}
use Rattle.std.specs.Result.{OnOk}
use Rattle.sm_plan.specs.Plans.{Due, Plan}
use Rattle.sm_audit.proofs.FitLemmas.{goals_shown, goals_short}
use Rattle.sm_audit.proofs.KnownLemmas.{rows_named}

-- what is so anyway, and what follows of what is found on success
pub if_any : {T E P : Type 0} (r : Result T E) → P → OnOk r P
if_any (Ok t) p = p
if_any (Err e) p = tt

pub if_found : {T E P Q : Type 0} (r : Result T E) → (P → Q) → OnOk r P → OnOk r Q
if_found (Ok t) f p = f p
if_found (Err e) f p = tt

pub if_both_found : {T E P Q R : Type 0} (r : Result T E) → (P → Q → R) → OnOk r P → OnOk r Q → OnOk r R
if_both_found (Ok t) f p q = f p q
if_both_found (Err e) f p q = tt

-- the plan can be written with the certificates
pub found_writable : (t : Parts) (sorts : Sorts) (trees : List Tree) (p : Plan) (rows : List NodeRow) (since : List (Option ℕ))
    (dues : List Due) (certs : List CertTree) → sorts ≡ sort_of t.declared → obligations (task_of t) p ≡ Ok dues →
    map (node_in sorts trees) rows ≡ nodes_of p →
    AreSince sorts (plan_states 0 (start_state (task_of t)) p) trees since → AreRowsKnown since 0 rows →
    AreGoalsFit sorts (plan_states 0 (start_state (task_of t)) p) trees (all_goals dues) certs →
    IsWritable t p (map (certificate_in trees) certs)
found_writable t sorts trees p rows since dues certs declared asks met all known fit =
    let states = plan_states 0 (start_state (task_of t)) p in
    let cs = map (certificate_in trees) certs in
    record {
      dues = dues;
      expands = asks;
      kept =
          subst (λ (f : Sorts). AreKeptNameable f states 0 (nodes_of p)) declared
          (subst (AreKeptNameable sorts states 0) met (rows_named since sorts states trees all 0 rows known));
      shown =
          subst (λ (f : Sorts). AreShown f states (all_goals dues) cs) declared
          (goals_shown sorts states trees (all_goals dues) certs fit);
      short = goals_short sorts states trees (all_goals dues) certs fit;
    }
