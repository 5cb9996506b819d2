use Rattle.sm_text.proofs.Imports.{ℕ, ◌+◌, List, get_or, take, sym, ap, subst, ◌∙◌, Symbol, Word, symbol_by, IsText, IsTokenOf}
use Rattle.sm_syntax.specs.declared.token.Token.{Token}
use Rattle.sm_text.proofs.Cut.Lexing.{all_at}
use Rattle.sm_text.proofs.Numbering.Symbols.{names_with, IsRead, IsRead-more, IsRead-next, kept-on_err}
use Rattle.sm_text.proofs.resolving.resolve.symbols_after.Goals as goal

-- what stands for an element past the end
abbrev blank : Token
blank = record { kind = Word; place = 0; size = 0 }

pub text_of-text-requires : goal.text_of-text-requires
text_of-text-requires c =
    (all_at (IsTokenOf c.args.bytes.now) c.args.tokens.now c.requires c.loop-token.token-index blank c.loop-token-test.true).within

pub symbol_of-requires : goal.symbol_of-requires
symbol_of-requires c =
    let Text : List ℕ → Type 0 = λ text. IsText (get_or c.args.tokens.now c.loop-token.token-index blank).kind text in
    subst Text (sym c.text_of-text.ensures)
    (all_at (IsTokenOf c.args.bytes.now) c.args.tokens.now c.requires c.loop-token.token-index blank c.loop-token-test.true).text

pub loop-token-preserved : goal.loop-token-preserved
loop-token-preserved c =
    let bytes = c.args.bytes.now in
    let before = c.args.names.now in
    let tokens = c.args.tokens.now in
    let i = c.loop-token.token-index in
    let token = get_or tokens i blank in
    let added = c.in_ok-symbol.ensures.names ∙ ap (λ text. names_with c.loop-token.names token.kind text) c.text_of-text.ensures in
    let made = c.in_ok-symbol.ensures.symbol ∙ ap (symbol_by token.kind c.symbol_of.new.names) c.text_of-text.ensures in
    let next = IsRead-next bytes before tokens i c.loop-token.names c.symbol_of.new.names c.loop-token.list.items blank
    c.in_ok-symbol.symbol c.loop-token.invariant c.loop-token-test.true added made in
    let Read : List Symbol → Type 0 = λ symbols. IsRead bytes before tokens (i + 1) c.symbol_of.new.names symbols in
    subst Read (sym c.in_ok-push.ensures.items) next

pub returns-in_err-symbol-clause-kept : goal.returns-in_err-symbol-clause-kept
returns-in_err-symbol-clause-kept c =
    kept-on_err c.from_residual.result c.args.bytes.now c.args.names.now c.symbol_of.new.names
    (take c.loop-token.token-index c.args.tokens.now) (c.in_err-symbol.ensures.err ∙ c.loop-token.invariant.names_are)

pub returns-in_err-push-clause-kept : goal.returns-in_err-push-clause-kept
returns-in_err-push-clause-kept c =
    let i = c.loop-token.token-index in
    let token = get_or c.args.tokens.now i blank in
    let added = c.in_ok-symbol.ensures.names ∙ ap (λ text. names_with c.loop-token.names token.kind text) c.text_of-text.ensures in
    let names_are = IsRead-more c.args.bytes.now c.args.names.now c.args.tokens.now i c.loop-token.names c.symbol_of.new.names
    c.loop-token.list.items blank c.loop-token.invariant c.loop-token-test.true added in
    kept-on_err c.from_residual-in_err-push.result c.args.bytes.now c.args.names.now c.symbol_of.new.names (take (i + 1) c.args.tokens.now)
    names_are
