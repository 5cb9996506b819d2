-- What proofs of this crate name of definitions and of the lemmas of other crates.
pub use Rattle.std.proofs.Common.{All, Bool, Bor, Contains, Err, Global, IfOk, IfSome, IsSome, List, MatchOption, None, Ok, Option, Result, Some, Vec, [], ap, append-nil, append_assoc, arith, cond, drop, false, get_or, if◌then◌else◌, inl, inr, is_some, length, map, min, not, refl, rules, slice_get, slice_index_or, subst, suc, sym, take, true, zero, zero-add, ℕ, ◌++◌, ◌+◌, ◌-◌, ◌<◌, ◌^◌, ◌∙◌, ◌∷◌, ◌≡◌, ◌⊎◌}
pub use Rattle.std.proofs.lemmas.List.{drop_more, length-map, nil_from_length, take_more}
pub use Rattle.std.proofs.lemmas.List.Elements.{All-cons, All-head, All-nil, All-tail}
pub use Rattle.std.specs.List.{AllZip, count_by}
pub use Rattle.std.specs.Map.{lookup, lookup_entry, remove_entry}
pub use Rattle.std.specs.Option.{option_map, option_map_or}
pub use Rattle.std.specs.Str.{bytes_eq}
pub use Rattle.std.specs.Vec.Iter.{into_iter_items}
pub use Rattle.lru.specs.LruCache.{LruCache, lru_cache, promoted, put_entries}
pub use Rattle.sm_syntax.specs.claim.ConflictFree.{ConflictFree}
pub use Rattle.sm_syntax.specs.text.Parts.{Parts, task_of}
pub use Rattle.sm_text.specs.Tasks.{parts_of}
pub use Rattle.sm_text.specs.declared.task.Task.{Task}
pub use Rattle.sm_text.specs.printing.Named.{HasText}
pub use Rattle.sm_batch.specs.Answers.{IsAnswer, MayAnswer}
pub use Rattle.sm_batch.specs.Entries.{AreAccepted, Entries, Entry, IsAccepted}
pub use Rattle.sm_batch.specs.Groups.{ArePut, IsKept, IsLeftOut, Settles, is_hit, looked_up, wanted}
pub use Rattle.sm_batch.specs.Keys.{is_key_of, key_of}
pub use Rattle.sm_batch.specs.Steps.{ArePutOrNot, AreSafe, AreTold, IsKeptOf, IsLookedUp, IsPutOrNot, IsReply, IsStep, IsStepOfAnswer, IsStepOfHit, IsTold, after_look, after_looks, missed, misses, with_kept}
pub use Rattle.sm_batch.specs.Views.{entries_of, entry_of}
pub use Rattle.sm_batch.specs.declared.batch.Kept.{Kept}
pub use Rattle.sm_batch.specs.declared.looking.Looked.{Looked}
pub use Rattle.sm_batch.specs.declared.telling.Step.{Step}
pub use Rattle.sm_batch.specs.declared.worker.Answered.{Answered}
