use Rattle.sm_text.proofs.Imports.{◌≡◌, ℕ, ◌-◌, refl, sym, ap, ◌∙◌, arith, Ok, List, length, take, length-map, Symbol, IsBlock, symbol_of, names_after, code_of, token_symbols, names_counted}
use Rattle.sm_text.specs.rules.Reading as r
use Rattle.sm_text.proofs.Prefix.FirstTokens.{first_read}
use Rattle.sm_text.proofs.Numbering.Symbols.{kept-on_err}
use Rattle.sm_text.proofs.Prefix.Exact.{any_block_told}
use Rattle.sm_text.proofs.Prefix.Sound.{signs-of, left_within}
use Rattle.sm_text.proofs.parsing.prefix.block_of.Goals as goal

pub overflow_sub-used : goal.overflow_sub-used
overflow_sub-used c =
    let bytes = c.args.bytes.now in
    let before = c.args.names.now in
    let ts = c.args.tokens.now in
    let same : c.deref.result.now ≡ token_symbols bytes before ts =
    c.deref.ensures.value ∙ signs-of bytes before c.symbols_after.new.names ts ts c.in_ok-symbols.symbols.items
    c.in_ok-symbols.ensures.names c.in_ok-symbols.ensures.list refl in
    let parser = r.block (64 - c.args.groups) in
    let read : parser c.deref.result.now ≡ Ok (code_of c.in_ok-block.block, c.in_ok-block.after.now) =
    ap (λ (k : ℕ). r.block k c.deref.result.now) (sym c.saturating_sub.ensures) ∙ c.in_ok-block.ensures in
    let size = c.len.ensures ∙ sym c.deref.ensures.len ∙ ap (λ (l : List Symbol). length l) same
    ∙ length-map ts (symbol_of bytes (names_after bytes before ts)) in
    let fewer = left_within parser (IsBlock c.args.groups) bytes before ts (code_of c.in_ok-block.block) c.in_ok-block.after.now
    (any_block_told c.args.groups) (ap parser (sym same) ∙ read) in
    omega (arith, size, fewer)

pub returns-in_err-block-clause-kept : goal.returns-in_err-block-clause-kept
returns-in_err-block-clause-kept c =
    kept-on_err c.from_residual-in_err-block.result c.args.bytes.now c.args.names.now c.symbols_after.new.names c.args.tokens.now
    c.in_ok-symbols.ensures.names

pub returns-clause-ok : goal.returns-clause-ok
returns-clause-ok c =
    let bytes = c.args.bytes.now in
    let before = c.args.names.now in
    let ts = c.args.tokens.now in
    let table = c.symbols_after.new.names in
    let symbols = c.deref.result.now in
    let used = c.len.result - length c.in_ok-block.after.now in
    first_read bytes before c.args.groups ts (code_of c.in_ok-block.block) c.in_ok-block.after.now symbols table c.cut.new.self used
    (c.deref.ensures.value ∙ signs-of bytes before table ts ts c.in_ok-symbols.symbols.items c.in_ok-symbols.ensures.names
    c.in_ok-symbols.ensures.list refl)
    (ap (λ (k : ℕ). r.block k symbols) (sym c.saturating_sub.ensures) ∙ c.in_ok-block.ensures)
    (ap (λ (k : ℕ). k - length c.in_ok-block.after.now) (c.len.ensures ∙ sym c.deref.ensures.len))
    c.in_ok-symbols.ensures.names
    (c.cut.ensures
    ∙ ap (λ (k : ℕ). take k table) (c.count_names.ensures ∙ ap (λ (l : List Symbol). names_counted c.len-count.result (take used l))
    (c.deref-2.ensures.value ∙ sym c.deref.ensures.value)
    ∙ ap (λ (k : ℕ). names_counted k (take used symbols)) c.len-count.ensures.len))
