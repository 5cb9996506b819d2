use Rattle.sm_deps.proofs.Imports.{◌≡◌, ℕ, Bool, List, sym, ap, subst, ◌∙◌, IsStrictlyIncreasing-from_sorted, IsStrictlyIncreasing, Outputs, assigns, is_in, outputs_of, code_of, members, either}
use Rattle.sm_deps.proofs.MembersLemmas.{none-either, members-empty, listed-members, if_ok}
use Rattle.sm_deps.proofs.assigned.writes.Goals as goal

-- the list is the set's
pub returns-clause-ascending : goal.returns-clause-ascending
returns-clause-ascending c =
    let keys = c.add_block.new.names.keys in
    if_ok c.list_of.result (λ (o : Outputs). outputs_of o ≡ keys)
    (λ (o : Outputs). IsStrictlyIncreasing (outputs_of o)) c.list_of.ensures.listed
    (λ (o : Outputs) (same : outputs_of o ≡ keys).
    subst IsStrictlyIncreasing (sym same) (IsStrictlyIncreasing-from_sorted keys c.list_of.ensures.ordered))

pub returns-clause-names : goal.returns-clause-names
returns-clause-names c =
    let set = c.add_block.new.names in
    let code = code_of c.args.b.now in
    let all : members set ≡ assigns code =
    c.in_ok-add_block.ensures ∙
    ap (λ (s : ℕ → Bool). either s (assigns code)) (members-empty c.new-names.result c.new-names.ensures.empty) ∙
    none-either (assigns code) in
    if_ok c.list_of.result (λ (o : Outputs). outputs_of o ≡ set.keys)
    (λ (o : Outputs). (x : ℕ) → is_in (outputs_of o) x ≡ assigns code x) c.list_of.ensures.listed
    (λ (o : Outputs) (same : outputs_of o ≡ set.keys) (x : ℕ).
    ap (λ (l : List ℕ). is_in l x) same ∙ listed-members set x ∙ ap (λ (s : ℕ → Bool). s x) all)
