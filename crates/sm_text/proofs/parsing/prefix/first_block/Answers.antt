use Rattle.sm_text.proofs.Imports.{◌≡◌, ◌+◌, ◌-◌, ◌≤◌, Bool, true, false, refl, arith, rules, Err, length, nat_lt, take, nat_tests, length-take-le, IsBlock, code_of, token_symbols}
use Rattle.sm_text.specs.rules.Reading as r
use Rattle.sm_text.proofs.Prefix.BlockEnds.{none_at_end}
use Rattle.sm_text.proofs.Prefix.FirstTokens.{first_of_all, first_within, refused_of_all, refused_within}
use Rattle.sm_text.proofs.Prefix.Exact.{any_block_told}
use Rattle.sm_text.proofs.parsing.prefix.first_block.Goals as goal

pub overflow_add-result : goal.overflow_add-result
overflow_add-result c =
    let ts = c.args.tokens.now in
    let within = c.block_end-end.ensures.within in
    let few = first_within c.args.bytes.now c.args.names.now c.args.groups (take c.block_end-end.result ts) c.block_of.new.names
    (code_of c.in-Ok.block) c.in-Ok.left c.in-Ok.ensures.ok in
    let size = length-take-le c.block_end-end.result ts within in
    let most : c.in-Ok.left + (length ts - c.block_end-end.result) ≤ length ts = omega (arith, few, size, within) in
    search rules

pub overflow_add-result-in-Err-Fault : goal.overflow_add-result-in-Err-Fault
overflow_add-result-in-Err-Fault c =
    let bytes = c.args.bytes.now in
    let before = c.args.names.now in
    let ts = c.args.tokens.now in
    let m = c.block_end-end.result in
    let within = c.block_end-end.ensures.within in
    let refused : r.block (64 - c.args.groups) (token_symbols bytes before (take m ts)) ≡ Err c.in-Err-Fault.fault =
    rw c.in-Err-Fault.field-0-is at c.in-Err-Fault.ensures.fault in
    let few = refused_within bytes before c.args.groups (take m ts) c.in-Err-Fault.fault refused in
    let size = length-take-le m ts within in
    let most : c.in-Err-Fault.fault.left + (length ts - m) ≤ length ts = omega (arith, few, size, within) in
    search rules

pub returns-in-Ok-clause-ok : goal.returns-in-Ok-clause-ok
returns-in-Ok-clause-ok c =
    let ts = c.args.tokens.now in
    first_of_all c.args.bytes.now c.args.names.now c.args.groups c.block_end-end.result ts c.block_of.new.names (code_of c.in-Ok.block)
    c.in-Ok.left (c.in-Ok.left + (length ts - c.block_end-end.result)) c.block_end-end.ensures.within c.in-Ok.ensures.ok refl

pub returns-in-Err-Fault-clause-fault : goal.returns-in-Err-Fault-clause-fault
returns-in-Err-Fault-clause-fault c =
    let bytes = c.args.bytes.now in
    let before = c.args.names.now in
    let ts = c.args.tokens.now in
    let m = c.block_end-end.result in
    let f = c.in-Err-Fault.fault in
    let refused : r.block (64 - c.args.groups) (token_symbols bytes before (take m ts)) ≡ Err f =
    rw c.in-Err-Fault.field-0-is at c.in-Err-Fault.ensures.fault in
    refused_of_all (r.block (64 - c.args.groups)) (IsBlock c.args.groups) (any_block_told c.args.groups) bytes before m ts f refused
    (λ none. omega (arith, all_closed none))
  where
    all_closed : c.in-Err-Fault.fault.left ≡ 0 → length c.args.tokens.now ≤ c.block_end-end.result
    all_closed none = by (nat_lt c.block_end-end.result (length c.args.tokens.now)) refl
      where
        by : (b : Bool) → nat_lt c.block_end-end.result (length c.args.tokens.now) ≡ b → length c.args.tokens.now ≤ c.block_end-end.result
        by true less = absurd (none_at_end c.args.bytes.now c.args.names.now c.args.groups c.block_end-end.result c.args.tokens.now
            c.block_end-end.ensures (grind (arith, nat_tests)) c.in-Err-Fault.fault
            (rw c.in-Err-Fault.field-0-is at c.in-Err-Fault.ensures.fault) none)
        by false most = grind (arith, nat_tests)
