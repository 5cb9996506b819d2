use Rattle.sm_text.proofs.Imports.{List, subst, sym, ap, ◌∙◌, AllByRecursion, names_after, IsTokenOf}
use Rattle.sm_syntax.specs.declared.token.Token.{Token}
use Rattle.sm_text.proofs.Cut.Lexing.{IsTokenOf-lexed}
use Rattle.sm_text.proofs.Numbering.Symbols.{names_of-all, symbols_of-all}
use Rattle.sm_text.proofs.resolving.resolve.symbols.Goals as goal

pub symbols_after-requires : goal.symbols_after-requires
symbols_after-requires c =
    let P : List Token → Type 0 = λ ts. AllByRecursion (IsTokenOf c.args.bytes.now) ts in
    subst P (sym c.requires.cut) (IsTokenOf-lexed c.args.bytes.now)

pub returns-clause-list : goal.returns-clause-list
returns-clause-list c =
    symbols_of-all c.args.bytes.now c.args.tokens.now c.symbols_after.new.names c.in_ok-list.list.items c.requires.cut
    (c.in_ok-list.ensures.names ∙ ap (λ l. names_after c.args.bytes.now l c.args.tokens.now) c.new-names.ensures)
    c.in_ok-list.ensures.list

pub returns-clause-names : goal.returns-clause-names
returns-clause-names c =
    names_of-all c.args.bytes.now c.args.tokens.now c.symbols_after.new.names c.requires.cut (c.in_ok-list.ensures.names
    ∙ ap (λ l. names_after c.args.bytes.now l c.args.tokens.now) c.new-names.ensures)
