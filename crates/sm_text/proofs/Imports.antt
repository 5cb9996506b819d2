-- What proofs of this crate name of definitions and of the lemmas of other crates.
pub use Rattle.std.proofs.Common.{Bool, Err, List, None, Ok, Option, Result, Some, [], ap, append_assoc, ap₂, arith, codes, cond, drop, drop-drop, eq-eqb, false, get_or, get_or-take, inl, inr, is_some, length, length-take, lit<, map, max, nat_lt, negsuc, not, one-add, pos, refl, rules, subst, suc, sym, take, take_all, true, true≢false, zero, ℕ, ℤ, ◌%◌, ◌&&◌, ◌*◌, ◌++◌, ◌+◌, ◌-◌, ◌<◌, ◌==◌, ◌^◌, ◌||◌, ◌∙◌, ◌∷◌, ◌≡◌, ◌≤◌, ◌⊎◌}
pub use Rattle.std.proofs.Math.Path.{fun_ext}
pub use Rattle.std.proofs.Math.Seq.{drop-append_seam, drop-cons, take-append_seam}
pub use Rattle.std.proofs.lemmas.Bool.Decides.{nat_tests}
pub use Rattle.std.proofs.lemmas.Fmt.{decimal_by_steps_wide, decimal_is_IsNumeral_wide}
pub use Rattle.std.proofs.lemmas.Grind.{common_steps, flat_map-append}
pub use Rattle.std.proofs.lemmas.List.{length-map, length-take-le, length_push, map-append, map_more, take-map, take-take, take_more}
pub use Rattle.std.proofs.lemmas.List.Folds.{list_all-append, list_any-append}
pub use Rattle.std.proofs.lemmas.List.Sums.{prefix_len-le-length, prefix_len_passes, sum_by-cons}
pub use Rattle.std.proofs.lemmas.Result.{err_from_is_err_and}
pub use Rattle.std.specs.Char.{digit_value, is_ascii_digit}
pub use Rattle.std.specs.Fmt.{decimal}
pub use Rattle.std.specs.List.{AllByRecursion, AllPass, count_by, list_all, position_or_len, prefix_len, range_with_len}
pub use Rattle.std.specs.Option.{option_or}
pub use Rattle.std.specs.Prelude.{slice_get}
pub use Rattle.std.specs.Result.{IfErr, IfOk, IsOk, MatchResult, OnErr}
pub use Rattle.std.specs.Str.{IsAscii, bytes_eq}
pub use Rattle.std.specs.Str.Parse.{digits_value}
pub use Rattle.sm_syntax.proofs.Numbering.{grown-with_text, is_among-with_text, number-append, number-last, slice_get-number, with_text-among, with_text-new}
pub use Rattle.sm_syntax.proofs.Statements.{statement_of-Assign, statement_of-Hole, statement_of-If, statement_of-Store, statement_of-While}
pub use Rattle.sm_syntax.specs.claim.ConflictFree.{A, B, Copy, M, O}
pub use Rattle.sm_syntax.specs.claim.Fill.{Fillings, fill, filling}
pub use Rattle.sm_syntax.specs.claim.Syntax.{And, Assign, Code, Compare, Condition, End, Expression, Hole, If, Lit, Minus, Neg, No, Not, Or, Plus, Read, Skip, Times, Var, While, Write, Yes, append}
pub use Rattle.sm_syntax.specs.declared.symbol.Mark.{Mark}
pub use Rattle.sm_syntax.specs.declared.symbol.Mark.TheVariants.{CloseCurly, Comma, OpenCurly, Question, Semicolon}
pub use Rattle.sm_syntax.specs.declared.symbol.Symbol.{Symbol}
pub use Rattle.sm_syntax.specs.declared.token.LexFault.{LexFault}
pub use Rattle.sm_syntax.specs.declared.token.LexKind.{LexKind}
pub use Rattle.sm_syntax.specs.declared.token.LexKind.TheVariants.{BadByte, BadToken, WideNumber}
pub use Rattle.sm_syntax.specs.declared.token.TokenKind.{TokenKind}
pub use Rattle.sm_syntax.specs.declared.token.TokenKind.TheVariants.{Number, Sign, Word}
pub use Rattle.sm_syntax.specs.declared.tree.Cmp.{Cmp}
pub use Rattle.sm_syntax.specs.declared.tree.Cmp.TheVariants.{Eq, Ge, Gt, Le, Lt, Ne}
pub use Rattle.sm_syntax.specs.declared.tree.Sort.{Sort}
pub use Rattle.sm_syntax.specs.declared.tree.Sort.TheVariants.{Arr, Num}
pub use Rattle.sm_syntax.specs.declared.tree.Stmt.{Stmt, size-Stmt}
pub use Rattle.sm_syntax.specs.text.ConditionGrammar.{IsCondition, Literal, Rank, Test, comparison}
pub use Rattle.sm_syntax.specs.text.Conditions.{DoubleHole, DoubleName, ListOf, Refusal, Shared, TooDeep, TooMany, UnknownHole, at_hole, code_depth, code_nodes, condition_depth, condition_nodes, double_hole, double_name, expression_depth, filled_holes, first_of_all, first_of_lists, first_output_fault, first_outside, first_repeated, first_sort_fault, hole_in_filling, holes_of, ill_assumed, is_in, missing_filling, over, unknown_hole}
pub use Rattle.sm_syntax.specs.text.ExpressionGrammar.{Atom, IsExpression, Level, Unary}
pub use Rattle.sm_syntax.specs.text.MarkedSymbols.{Marked, joins, opens, plain, word}
pub use Rattle.sm_syntax.specs.text.Parts.{Parts, by_copy, sort_of}
pub use Rattle.sm_syntax.specs.text.Spells.{IsInGrammar, Spells}
pub use Rattle.sm_syntax.specs.text.StatementGrammar.{AreStatements, IsBlock, IsHoleNumber}
pub use Rattle.sm_syntax.specs.text.Symbols.{is_among, is_name, mark_or, names_after, names_of, symbol_by, symbol_of, symbols_of, text_of, with_text}
pub use Rattle.sm_syntax.specs.text.TaskGrammar.{AreDeclarations, AreFillings, AreNames, AreOutputs, IsAssumption, IsList, IsShared, IsTask, declares, task, with_sort}
pub use Rattle.sm_syntax.specs.text.Tokens.{Front, Lexed, Table, by_front, entry, front_of, is_hash, is_in_line, is_space, is_word_byte, is_word_start, lexed, lexed_after, mark_of_sign, mark_of_word, with_token}
pub use Rattle.sm_syntax.specs.text.Uses.{names_in, names_tested, names_used}
pub use Rattle.sm_syntax.specs.trees.Programs.{declared_of, fillings_of, outputs_of}
pub use Rattle.sm_syntax.specs.trees.Views.{code_of, condition_of, expression_of, sequence, statement_of}
pub use Rattle.sm_text.specs.Laws.{DeclaredInOrder, NoFaultInGrammar, OneFirstFault, OneParse, TokensAreCut}
pub use Rattle.sm_text.specs.Tasks.{HeadParts, ProgramParts, head_parts, lists_of, parts_of, program_parts}
pub use Rattle.sm_text.specs.declared.rules.conditions.CondChain.{CondChain}
pub use Rattle.sm_text.specs.declared.rules.expressions.ExprChain.{ExprChain}
pub use Rattle.sm_text.specs.declared.rules.reading.ReadError.{ReadError}
pub use Rattle.sm_text.specs.lexing.Cutting.{Ends, HasNumber, IsCutInto, IsFaultOf, IsNumber, IsStuck, IsToken, begins, comment, end, is_half, token}
pub use Rattle.sm_text.specs.parsing.BlockTokens.{IsFirstBlock, IsGroup, is_mark, is_sign, many, token_symbols}
pub use Rattle.sm_text.specs.parsing.ErrorPlaces.{IsErrorOf, IsPlaceWith, at_fault}
pub use Rattle.sm_text.specs.parsing.Fragments.{HasBlockText, HasConditionText, HasProgramText, IsCutUnder, IsKnown, IsNamedProgram, IsProgram, SpellsBlock, SpellsCondition, SpellsProgram, program, symbols_under}
pub use Rattle.sm_text.specs.parsing.Places.{ArePrograms, AreTasks, Grammar, IsFault, IsFirstFault, IsRefusal, IsUnexpected, IsViable, IsWhole, NestsTooDeep, Source, Stands, TextError, all_symbols, place_of, rank_of, text_from, unmarked, whole_text}
pub use Rattle.sm_text.specs.parsing.Prefix.{AreBlocks, AreHeads, AreTokensOf, AssumesDeclared, IsHead, IsNamedHead, SpellsBlockAt, SpellsFrom, SpellsHead, head, tokens_between}
pub use Rattle.sm_text.specs.parsing.Text.{lexical_fault, rule_fault}
pub use Rattle.sm_text.specs.printing.Canonical.{assumption_pieces, between, block_pieces, code_pieces, condition_pieces, declaration_pieces, element_pieces, expression_pieces, filling_pieces, is_atom, is_test, lists_pieces, more_names_pieces, names_pieces, operand, output_pieces, part, shared_pieces, task_pieces}
pub use Rattle.sm_text.specs.printing.Named.{AreDeclaredIn, AreFilledIn, AreOutputsIn, HasText, IsAssumedIn, IsNamedIn, IsTestedIn, IsUsedIn}
pub use Rattle.sm_text.specs.printing.Pieces.{bytes_of, deeper, line, line_end, margin_at, mark_piece, name_piece, number_piece, pieces_text, spelling, symbols_in}
pub use Rattle.sm_text.specs.resolving.NameCounts.{names_counted}
pub use Rattle.sm_text.specs.resolving.TokenTexts.{IsText, IsTokenOf, sign_by}
pub use Rattle.sm_text.specs.rules.Answers.{Fails, Gives, Parses}
pub use Rattle.sm_text.specs.rules.Parsers.{Expected, FaultKind, Nested, Operators, Parser, chain, chain_by, chain_in, expect, expect_by, first, gather, gather_in, go_on, grouped_by, inside_group, next_operand, peek, pure, refuse, rest, skip, stands, ◌>>=◌, ◌>>◌}
pub use Rattle.sm_text.specs.rules.Written.{connected_by, entries_for, entries_of, joined_by, numbers_of, statements_before}
