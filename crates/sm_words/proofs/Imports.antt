-- What proofs of this crate name of definitions and of the lemmas of other crates.
pub use Rattle.std.proofs.Common.{Bool, Err, IfOk, IsErrOf, List, None, Ok, Option, Result, Some, [], add-one, ap, arith, codes, drop, drop-cons, false, get_or, if◌then◌else◌, inl, inr, is_some, length, map, not, option_map, refl, subst, suc, sym, true, true≢false, zero, ℕ, ◌&&◌, ◌+◌, ◌<◌, ◌∙◌, ◌∷◌, ◌≡◌, ◌≢◌, ◌≤◌, ◌⊎◌}
pub use Rattle.std.proofs.lemmas.Slice.Eq.{bytes_eq-Decides}
pub use Rattle.std.specs.Prelude.{MatchResult, option_and_then, slice_get, unwrap_or}
pub use Rattle.std.specs.Str.{all_ascii_digits, bytes_eq}
pub use Rattle.std.specs.String.{string_bytes}
pub use Rattle.clap.proofs.WalkLemmas.{both, first_value-rows}
pub use Rattle.clap.specs.Simple.{App, HasMatchesOf, has_simple_rules, matches_of, with_rule}
pub use Rattle.clap.specs.Walk.{Rule, Text, first_of, is_empty, is_free_arg, is_simple_arg, rows_of, rule_of}
pub use Rattle.clap.specs.declared.builder.command.Command.{Command}
pub use Rattle.sm_words.specs.Command.{command_of, required_word, rule_by, with_rules}
pub use Rattle.sm_words.specs.Numbers.{HasBadNumber, cache_by, copy_by, effort_by, is_number, seed_by, size_by, turns_by, workers_by}
pub use Rattle.sm_words.specs.Words.{Asked, Effort, HasBadOption, HasRequired, IsRefused, IsUsage, Words, argument_text, asked, asked_by, asked_where, batch, batch_by, check, check_by, effort_in, explain_by, gen, gen_by, print_by, replay, replay_by, suggest_by, trim, trim_by, unless, verb_of, verify_by, word_faults}
pub use Rattle.sm_words.specs.declared.about.About.TheVariants.{Help, Version}
pub use Rattle.sm_words.specs.declared.command.Verb.TheVariants.{About}
pub use Rattle.sm_words.specs.declared.words.WordsError.TheVariants.{Usage}
