use Rattle.sm_text.proofs.Imports.{◌≡◌, ℕ, ◌-◌, ◌≤◌, sym, ap, ◌∙◌, subst, arith, Err, List, length, take, drop, AllByRecursion, IsBlock, Lexed, lexed, code_of, token_symbols, IsFirstBlock, AreBlocks, IsTokenOf}
use Rattle.std.proofs.lemmas.List.{length-drop}
use Rattle.sm_syntax.specs.declared.token.Token.{Token}
use Rattle.sm_text.specs.rules.Reading as r
use Rattle.sm_text.proofs.Prefix.FirstTokens.{first_within, first_spelled, first_same}
use Rattle.sm_text.proofs.Cut.Lexing.{IsTokenOf-after}
use Rattle.sm_text.proofs.RoundTrip.Parts.{block_has_names}
use Rattle.sm_text.proofs.Prefix.Judged.{block_judges}
use Rattle.sm_text.proofs.Prefix.Exact.{block_reads}
use Rattle.sm_text.proofs.Prefix.Sound.{rest_of, read_not_refused}
use Rattle.sm_text.proofs.Prefix.Spaced.{block_has_text}
use Rattle.sm_text.proofs.FirstFault.Texts.{refused_from}
use Rattle.sm_text.proofs.parsing.prefix.block_at.Goals as goal

pub first_block-requires : goal.first_block-requires
first_block-requires c =
    let P : List Token → Type 0 = λ ts. AllByRecursion (IsTokenOf c.args.bytes.now) ts in
    let all = c.deref.ensures.value ∙ ap (λ (l : Lexed). l.0) c.requires.cut in
    subst P (sym (rest_of c.args.at c.deref.result.now ∙ ap (drop c.args.at) all)) (IsTokenOf-after c.args.bytes.now c.args.at)

pub overflow_sub-result : goal.overflow_sub-result
overflow_sub-result c =
    let bytes = c.args.bytes.now in
    let all : c.deref.result.now ≡ (lexed bytes).0 = c.deref.ensures.value ∙ ap (λ (l : Lexed). l.0) c.requires.cut in
    let part = take (length c.deref.result.now - c.args.at) (drop c.args.at c.deref.result.now) in
    let cut : part ≡ drop c.args.at (lexed bytes).0 = rest_of c.args.at c.deref.result.now ∙ ap (drop c.args.at) all in
    let few = first_within bytes c.args.names.now c.args.groups part c.first_block.new.names (code_of c.in-Ok.block) c.in-Ok.left
    c.in-Ok.ensures.ok in
    let size = ap (λ (l : List Token). length l) cut ∙ length-drop c.args.at (lexed bytes).0 in
    let total = c.len.ensures ∙ sym c.deref.ensures.len ∙ ap (λ (l : List Token). length l) all in
    omega (arith, few, size, total)

pub returns-in-Ok-clause-ok : goal.returns-in-Ok-clause-ok
returns-in-Ok-clause-ok c =
    let bytes = c.args.bytes.now in
    let all : c.deref.result.now ≡ (lexed bytes).0 = c.deref.ensures.value ∙ ap (λ (l : Lexed). l.0) c.requires.cut in
    let part = take (length c.deref.result.now - c.args.at) (drop c.args.at c.deref.result.now) in
    let cut : part ≡ drop c.args.at (lexed bytes).0 = rest_of c.args.at c.deref.result.now ∙ ap (drop c.args.at) all in
    let First : List Token → Type 0 =
    λ ts. IsFirstBlock bytes c.args.names.now c.args.groups ts c.first_block.new.names (code_of c.in-Ok.block) c.in-Ok.left in
    let within : c.args.at ≤ length (lexed bytes).0 = let tokens = ap (λ (l : Lexed). length l.0) c.requires.cut in let h =
    c.requires.within in omega (arith, h, tokens) in
    first_spelled bytes c.args.names.now c.args.groups c.args.at c.in-Ok.left (c.len.result - c.in-Ok.left) c.first_block.new.names
    (code_of c.in-Ok.block) within (subst First cut c.in-Ok.ensures.ok)
    (ap (λ (k : ℕ). k - c.in-Ok.left) (c.len.ensures ∙ sym c.deref.ensures.len ∙ ap (λ (l : List Token). length l) all))

pub returns-in-Ok-clause-printable : goal.returns-in-Ok-clause-printable
returns-in-Ok-clause-printable c =
    block_has_text c.args.bytes.now c.args.at c.args.groups _ c.args.names.now c.first_block.new.names (code_of c.in-Ok.block)
    (returns-in-Ok-clause-ok c)

pub returns-in-Ok-clause-named : goal.returns-in-Ok-clause-named
returns-in-Ok-clause-named c = block_has_names c.first_block.new.names (code_of c.in-Ok.block) (returns-in-Ok-clause-printable c)

pub returns-in-Ok-clause-only : goal.returns-in-Ok-clause-only
returns-in-Ok-clause-only c n after code spells =
    let bytes = c.args.bytes.now in
    let all : c.deref.result.now ≡ (lexed bytes).0 = c.deref.ensures.value ∙ ap (λ (l : Lexed). l.0) c.requires.cut in
    let part = take (length c.deref.result.now - c.args.at) (drop c.args.at c.deref.result.now) in
    let cut : part ≡ drop c.args.at (lexed bytes).0 = rest_of c.args.at c.deref.result.now ∙ ap (drop c.args.at) all in
    let First : List Token → Type 0 =
    λ ts. IsFirstBlock bytes c.args.names.now c.args.groups ts c.first_block.new.names (code_of c.in-Ok.block) c.in-Ok.left in
    first_same bytes c.args.names.now c.args.groups c.args.at c.in-Ok.left (c.len.result - c.in-Ok.left) n c.first_block.new.names after
    (code_of c.in-Ok.block) code (subst First cut c.in-Ok.ensures.ok)
    (ap (λ (k : ℕ). k - c.in-Ok.left) (c.len.ensures ∙ sym c.deref.ensures.len ∙ ap (λ (l : List Token). length l) all)) spells

pub returns-in-Err-Fault-clause-only : goal.returns-in-Err-Fault-clause-only
returns-in-Err-Fault-clause-only c n after code spells =
    let bytes = c.args.bytes.now in
    let all : c.deref.result.now ≡ (lexed bytes).0 = c.deref.ensures.value ∙ ap (λ (l : Lexed). l.0) c.requires.cut in
    let part = take (length c.deref.result.now - c.args.at) (drop c.args.at c.deref.result.now) in
    let cut : part ≡ drop c.args.at (lexed bytes).0 = rest_of c.args.at c.deref.result.now ∙ ap (drop c.args.at) all in
    let parser = r.block (64 - c.args.groups) in
    let read : parser (token_symbols bytes c.args.names.now part) ≡ Err c.in-Err-Fault.fault =
    rw c.in-Err-Fault.field-0-is at c.in-Err-Fault.ensures.fault in
    absurd (read_not_refused parser (IsBlock c.args.groups) bytes c.args.names.now c.args.at n after code c.in-Err-Fault.fault
    (block_reads c.args.groups) spells (ap (λ (ts : List Token). parser (token_symbols bytes c.args.names.now ts)) (sym cut) ∙ read))

pub returns-in-Err-Fault-clause-place : goal.returns-in-Err-Fault-clause-place
returns-in-Err-Fault-clause-place c =
    let bytes = c.args.bytes.now in
    let all : c.deref.result.now ≡ (lexed bytes).0 = c.deref.ensures.value ∙ ap (λ (l : Lexed). l.0) c.requires.cut in
    let part = take (length c.deref.result.now - c.args.at) (drop c.args.at c.deref.result.now) in
    let cut : part ≡ drop c.args.at (lexed bytes).0 = rest_of c.args.at c.deref.result.now ∙ ap (drop c.args.at) all in
    let parser = r.block (64 - c.args.groups) in
    let read : parser (token_symbols bytes c.args.names.now part) ≡ Err c.in-Err-Fault.fault =
    rw c.in-Err-Fault.field-0-is at c.in-Err-Fault.ensures.fault in
    refused_from parser (AreBlocks c.args.groups) (block_judges c.args.groups) bytes c.args.tokens.now c.requires.cut c.args.at
    c.args.names.now (token_symbols bytes c.args.names.now part) (ap (token_symbols bytes c.args.names.now) cut) c.in-Err-Fault.fault
    read c.refused.result c.refused.ensures
