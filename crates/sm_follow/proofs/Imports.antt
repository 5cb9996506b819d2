-- What proofs of this crate name of definitions and of the lemmas of other crates.
pub use Rattle.std.proofs.Common.{Bool, List, None, Option, Result, Some, [], ap, append-nil, append_assoc, ap₂, arith, codes, drop, eq-eqb, eqb-true, false, get_or, if◌then◌else◌, inl, inr, is_some, length, length-append, map, nat_le, option_map, refl, subst, suc, sym, take, take_all, true, true≢false, ℕ, ◌++◌, ◌+◌, ◌<◌, ◌==◌, ◌^◌, ◌∙◌, ◌∷◌, ◌≡◌, ◌≤◌, ◌⊎◌}
pub use Rattle.std.proofs.lemmas.List.{drop-append-le, length-drop, take-append-le, take_more}
pub use Rattle.std.specs.List.{AllByRecursion, find, list_all}
pub use Rattle.std.specs.Prelude.{Decides, IfOk}
pub use Rattle.std.specs.declared.alloc.AllocError.{AllocError}
pub use Rattle.sm_syntax.specs.declared.symbol.Symbol.{Symbol}
pub use Rattle.sm_syntax.specs.declared.token.LexFault.{LexFault}
pub use Rattle.sm_syntax.specs.declared.token.Token.{Token}
pub use Rattle.sm_syntax.specs.declared.token.TokenKind.{TokenKind}
pub use Rattle.sm_syntax.specs.declared.token.TokenKind.TheVariants.{Number, Sign, Word}
pub use Rattle.sm_syntax.specs.text.Symbols.{is_among, is_name, names_after, names_of, symbol_by, symbol_of, symbols_of, text_of}
pub use Rattle.sm_syntax.specs.text.Tokens.{Lexed, Table, entry, is_in_line, is_word_byte, is_word_start, lexed}
pub use Rattle.sm_text.proofs.Cut.Exact.{tokens_are_cut}
pub use Rattle.sm_text.proofs.FirstFault.Ordered.{Ascends, before_end, behind-ascends, length-map-of, lexed-ascends, map-append, same_split, some_one, symbols-map}
pub use Rattle.sm_text.proofs.FirstFault.Refusals.{nested-viable, shorter-viable}
pub use Rattle.sm_text.proofs.RoundTrip.PieceTokens.{both-left, both-right, mark_kind}
pub use Rattle.sm_text.specs.Tasks.{parts_of}
pub use Rattle.sm_text.specs.declared.error.TextError.{TextError}
pub use Rattle.sm_text.specs.lexing.Cutting.{Ends, IsCutInto, IsToken, begins, comment, end, fault, space, token}
pub use Rattle.sm_text.specs.parsing.Places.{AreTasks, IsFault, IsFirstFault, IsNestedAt, IsRefusal, IsUnexpected, IsViable, IsWhole, NestsTooDeep, Stands, at_end, at_token, place_of}
pub use Rattle.sm_text.specs.parsing.Places.Sources.{all_symbols, whole_text}
pub use Rattle.sm_follow.specs.Following.{AreThose, CouldStand, EndsAtFault, IsBegun, IsComplete, IsFollowLine, behind_line, could, could_not, none}
pub use Rattle.sm_follow.specs.Kinds.{kinds, sample, shown}
pub use Rattle.sm_follow.specs.Views.{NestsLast, NestsNowhere}
pub use Rattle.sm_follow.specs.declared.kinds.Kind.{Kind}
