use Rattle.sm_deps.proofs.Imports.{◌≡◌, ℕ, Bool, ap, ◌∙◌, Outputs, outputs_of, code_of, needed, inputs, members, either, only}
use Rattle.sm_deps.proofs.LoopsExact.{over_all}
use Rattle.sm_deps.proofs.NeededLemmas.{list_is_inputs}
use Rattle.sm_deps.proofs.MembersLemmas.{none-either, members-empty, if_ok}
use Rattle.sm_deps.proofs.backward.inputs.Goals as goal

-- the set's list is the list of inputs, since both rise and have the same names
pub returns : goal.returns
returns c =
    let set = c.before_block.new.names in
    let code = code_of c.args.b.now in
    let w = c.args.wanted.0 in
    let start : members c.add_name.new.names ≡ only w =
    c.in_ok-add_name.ensures ∙ ap (λ (s : ℕ → Bool). either s (only w)) (members-empty c.new-names.result c.new-names.ensures.empty) ∙
    none-either (only w) in
    let found =
    over_all code (members c.add_name.new.names)
    (members set) c.no_loops-loops.result c.before_block.new.loops c.no_loops-loops.ensures.sets c.in_ok-before_block.ensures in
    let all : members set ≡ needed code (only w) = found ∙ ap (needed code) start in
    if_ok c.list_of.result (λ (o : Outputs). outputs_of o ≡ set.keys)
    (λ (o : Outputs). outputs_of o ≡ inputs code w) c.list_of.ensures.listed
    (λ (o : Outputs) (same : outputs_of o ≡ set.keys). same ∙ list_is_inputs code w set c.list_of.ensures.ordered all)
