use Rattle.sm_text.proofs.Imports.{◌≡◌, ◌-◌, ℕ, refl, sym, ap, ◌∙◌, subst, arith, List, [], length, take, length-map, AllByRecursion, Symbol, symbol_of, names_after, Lexed, lexed, names_counted, all_symbols, AreHeads, head_parts, IsTokenOf}
use Rattle.sm_syntax.specs.declared.token.Token.{Token}
use Rattle.sm_text.specs.rules.Reading as r
use Rattle.sm_text.proofs.Sound.Sections.{IsHeadUnder, head_told}
use Rattle.sm_text.proofs.Prefix.HeadText.{head_named, head_has_text}
use Rattle.sm_text.proofs.Cut.Lexing.{IsTokenOf-lexed}
use Rattle.sm_text.proofs.Prefix.Judged.{head_judges}
use Rattle.sm_text.proofs.Prefix.Exact.{head_under, is_under, head_reads, head_same}
use Rattle.sm_text.proofs.Prefix.Sound.{respelled, signs-of, taken, left_within, answered, read_same, read_not_refused}
use Rattle.sm_text.proofs.FirstFault.Texts.{whole_from, refused_whole}
use Rattle.sm_text.proofs.parsing.prefix.parse_head.Goals as goal

pub symbols_after-requires : goal.symbols_after-requires
symbols_after-requires c =
    let P : List Token → Type 0 = λ ts. AllByRecursion (IsTokenOf c.args.bytes.now) ts in
    subst P (sym (c.deref.ensures.value ∙ ap (λ (l : Lexed). l.0) c.requires)) (IsTokenOf-lexed c.args.bytes.now)

pub overflow_sub-used : goal.overflow_sub-used
overflow_sub-used c =
    let bytes = c.args.bytes.now in
    let names = c.symbols_after.new.names in
    let h = head_parts c.in-Ok.front.0 c.in-Ok.front.1 in
    let after = c.in-Ok.after.now in
    let cut : c.deref.result.now ≡ (lexed bytes).0 = c.deref.ensures.value ∙ ap (λ (l : Lexed). l.0) c.requires in
    let numbered = c.in_ok-symbols.ensures.names ∙ ap (λ l. names_after bytes l c.deref.result.now) c.new-names.ensures in
    let same = c.deref-2.ensures.value
    ∙ signs-of bytes [] names c.deref.result.now (lexed bytes).0 c.in_ok-symbols.symbols.items numbered c.in_ok-symbols.ensures.list cut in
    let size : c.len.result ≡ length (lexed bytes).0 = c.len.ensures ∙ sym c.deref-2.ensures.len ∙ ap (λ (l : List Symbol). length l) same
    ∙ length-map (lexed bytes).0 (symbol_of bytes (names_after bytes [] (lexed bytes).0)) in
    let read = ap (r.head names) (sym same) ∙ c.in-Ok.ensures in
    let fewer = left_within (r.head names) (IsHeadUnder names) bytes [] (lexed bytes).0 h after (head_told names) read in
    omega (arith, size, fewer)

pub returns-in-Ok-clause-ok : goal.returns-in-Ok-clause-ok
returns-in-Ok-clause-ok c =
    let bytes = c.args.bytes.now in
    let names = c.symbols_after.new.names in
    let h = head_parts c.in-Ok.front.0 c.in-Ok.front.1 in
    let after = c.in-Ok.after.now in
    let cut : c.deref.result.now ≡ (lexed bytes).0 = c.deref.ensures.value ∙ ap (λ (l : Lexed). l.0) c.requires in
    let numbered = c.in_ok-symbols.ensures.names ∙ ap (λ l. names_after bytes l c.deref.result.now) c.new-names.ensures in
    let same = c.deref-2.ensures.value
    ∙ signs-of bytes [] names c.deref.result.now (lexed bytes).0 c.in_ok-symbols.symbols.items numbered c.in_ok-symbols.ensures.list cut in
    let size : c.len.result ≡ length (lexed bytes).0 = c.len.ensures ∙ sym c.deref-2.ensures.len ∙ ap (λ (l : List Symbol). length l) same
    ∙ length-map (lexed bytes).0 (symbol_of bytes (names_after bytes [] (lexed bytes).0)) in
    let read = ap (r.head names) (sym same) ∙ c.in-Ok.ensures in
    let kept : h.program.names ≡ names =
    (taken (r.head names) (IsHeadUnder names) bytes [] (lexed bytes).0 h after (head_told names) read).fits.1 in
    let used = c.len.result - length after in
    let count = c.count_names.ensures
    ∙ ap (λ (l : List Symbol). names_counted 0 (take used l)) (c.deref-in-Ok.ensures.value ∙ sym c.deref-2.ensures.value) in
    respelled (λ us k. is_under c.cut.new.self k.0) (answered (r.head names) (IsHeadUnder names)
    bytes [] 0 h after c.deref-2.result.now names c.cut.new.self used used (head_told names) (omega arith) same c.in-Ok.ensures
    (ap (λ (k : ℕ). k - length after) (c.len.ensures ∙ sym c.deref-2.ensures.len))
    (ap (λ (k : ℕ). k - length after) size)
    (numbered ∙ ap (names_after bytes []) cut)
    (c.cut.ensures ∙ ap (take c.count_names.result) kept ∙ ap (λ (k : ℕ). take k names) count))

pub returns-in-Ok-clause-named : goal.returns-in-Ok-clause-named
returns-in-Ok-clause-named c = head_named _ _ _ (returns-in-Ok-clause-ok c)

pub returns-in-Ok-clause-printable : goal.returns-in-Ok-clause-printable
returns-in-Ok-clause-printable c declared = head_has_text _ _ _ (returns-in-Ok-clause-ok c) declared

pub returns-in-Ok-clause-only : goal.returns-in-Ok-clause-only
returns-in-Ok-clause-only c n other spells =
    let bytes = c.args.bytes.now in
    let names = c.symbols_after.new.names in
    let h = head_parts c.in-Ok.front.0 c.in-Ok.front.1 in
    let after = c.in-Ok.after.now in
    let cut : c.deref.result.now ≡ (lexed bytes).0 = c.deref.ensures.value ∙ ap (λ (l : Lexed). l.0) c.requires in
    let numbered = c.in_ok-symbols.ensures.names ∙ ap (λ l. names_after bytes l c.deref.result.now) c.new-names.ensures in
    let same = c.deref-2.ensures.value
    ∙ signs-of bytes [] names c.deref.result.now (lexed bytes).0 c.in_ok-symbols.symbols.items numbered c.in_ok-symbols.ensures.list cut in
    let size : c.len.result ≡ length (lexed bytes).0 = c.len.ensures ∙ sym c.deref-2.ensures.len ∙ ap (λ (l : List Symbol). length l) same
    ∙ length-map (lexed bytes).0 (symbol_of bytes (names_after bytes [] (lexed bytes).0)) in
    let read = ap (r.head names) (sym same) ∙ c.in-Ok.ensures in
    let given = respelled (λ us k. (is_under names k, refl)) spells in
    let it = read_same (r.head names) (IsHeadUnder names)
    bytes [] 0 n other.program.names (head_under names other) h after (head_reads names) given read in
    head_same bytes (c.len.result - length after) n c.cut.new.self names h other (returns-in-Ok-clause-ok c) spells
    (it.0, ap (λ (k : ℕ). k - length after) size ∙ it.1)

pub returns-in-Err-Fault-clause-only : goal.returns-in-Err-Fault-clause-only
returns-in-Err-Fault-clause-only c n h spells =
    let bytes = c.args.bytes.now in
    let names = c.symbols_after.new.names in
    let cut : c.deref.result.now ≡ (lexed bytes).0 = c.deref.ensures.value ∙ ap (λ (l : Lexed). l.0) c.requires in
    let numbered = c.in_ok-symbols.ensures.names ∙ ap (λ l. names_after bytes l c.deref.result.now) c.new-names.ensures in
    let same = c.deref-2.ensures.value
    ∙ signs-of bytes [] names c.deref.result.now (lexed bytes).0 c.in_ok-symbols.symbols.items numbered c.in_ok-symbols.ensures.list cut in
    let given = respelled (λ us k. (is_under names k, refl)) spells in
    let refused = ap (r.head names) (sym same) ∙ (rw c.in-Err-Fault.field-0-is at c.in-Err-Fault.ensures) in
    absurd (read_not_refused (r.head names) (IsHeadUnder names)
    bytes [] 0 n h.program.names (head_under names h) c.in-Err-Fault.fault (head_reads names) given refused)

pub returns-in-Err-Fault-clause-place : goal.returns-in-Err-Fault-clause-place
returns-in-Err-Fault-clause-place c =
    let bytes = c.args.bytes.now in
    let names = c.symbols_after.new.names in
    let cut : c.deref.result.now ≡ (lexed bytes).0 = c.deref.ensures.value ∙ ap (λ (l : Lexed). l.0) c.requires in
    let numbered = c.in_ok-symbols.ensures.names ∙ ap (λ l. names_after bytes l c.deref.result.now) c.new-names.ensures in
    let same = c.deref-2.ensures.value
    ∙ signs-of bytes [] names c.deref.result.now (lexed bytes).0 c.in_ok-symbols.symbols.items numbered c.in_ok-symbols.ensures.list cut in
    refused_whole (r.head names) AreHeads (head_judges names) bytes c.args.tokens.now c.requires c.deref-2.result.now
    (same ∙ ap all_symbols (whole_from bytes)) c.in-Err-Fault.fault (rw c.in-Err-Fault.field-0-is at c.in-Err-Fault.ensures)
    c.refused.result c.refused.ensures
