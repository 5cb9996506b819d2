-- Bytes that are no task: the offset at which they are refused lies in the text, and the answer to them.
use Rattle.sm_display.proofs.Imports.{◌≡◌, ◌≢◌, ◌≤◌, ◌+◌, ◌-◌, ◌++◌, inl, inr, ℕ, zero, suc, List, [], ◌∷◌, Option, Some, None, length, take, refl, sym, ap, subst, ◌∙◌, append_assoc, arith, TaskError, task_or_refusal, Refused, ShowsNoTask, misfit_of, offset_of, ShowsOffset, ShowsTokens}
use Rattle.sm_syntax.specs.declared.symbol.Symbol.{Symbol}
use Rattle.sm_syntax.specs.text.Conditions as refusal
use Rattle.sm_syntax.specs.text.Conditions.{Refusal}
use Rattle.sm_syntax.specs.text.Symbols.{names_of}
use Rattle.sm_syntax.specs.text.Tokens.{by_front, front_of, lexed, lexed_after, lexed_from, Front, Gap, Piece, Fault, Lexed}
use Rattle.sm_syntax.specs.declared.token.Token.{Token}
use Rattle.sm_syntax.specs.declared.token.LexFault.{LexFault}
use Rattle.sm_text.specs.declared.error.TextError.TheVariants as text
use Rattle.sm_text.specs.parsing.Places.{AreTasks, IsFault, IsFirstFault, Stands, at_end, at_token}
use Rattle.sm_text.specs.declared.error.TextError.{TextError}
use Rattle.sm_text.specs.parsing.Places.Sources.{whole_text}
use Rattle.sm_task.specs.Errors.{error_of, from_text, IsRefusedWith}
use Rattle.sm_task.specs.declared.error.TaskError.TheVariants as no_task
use Rattle.sm_follow.specs.Following.{EndsAtFault}
use Rattle.sm_answers.specs.Lines.{refusal_line}
use Rattle.sm_lemmas.proofs.Options.{same_number, none_some}

-- ---- places lie in the text

-- no token begins behind an end
abbrev TokensWithin : ℕ → List Token → Type 0
TokensWithin end [] = Unit {0}
TokensWithin end (t ∷ ts) = (t.place ≤ end) × TokensWithin end ts

-- no fault stands behind an end
abbrev FaultWithin : ℕ → Option LexFault → Type 0
FaultWithin end None = Unit {0}
FaultWithin end (Some f) = f.place ≤ end

record LiesWithin (end : ℕ) (l : Lexed) : Type 0 where
  pub tokens : TokensWithin end l.0
  pub fault : FaultWithin end l.1

lexed_within : (left place end : ℕ) (bytes : List ℕ) → place + length bytes ≡ end → LiesWithin end (lexed_after left place bytes)
lexed_within left place end [] is = record { tokens = tt; fault = tt }
lexed_within (suc left) place end (b ∷ bytes) is = lexed_within left (place + 1) end bytes (omega arith)
lexed_within zero place end (b ∷ bytes) is =
    by (front_of b (b ∷ bytes)) (λ left. lexed_within left (place + 1) end bytes (omega arith)) (omega arith)
  where
    by : (f : Front) → ((left : ℕ) → LiesWithin end (lexed_after left (place + 1) bytes)) → place ≤ end →
        LiesWithin end (by_front f place (λ left. lexed_after left (place + 1) bytes))
    by (Gap size) more here = more (size - 1)
    by (Piece kind size) more here =
        let h = more (size - 1) in record { tokens = (here, h.tokens); fault = h.fault }
    by (Fault kind) more here = record { tokens = tt; fault = here }

text_within : (bytes : List ℕ) → LiesWithin (length bytes) (lexed bytes)
unfolding lexed lexed_from
text_within bytes = lexed_within 0 0 (length bytes) bytes (omega arith)

split_within : (end : ℕ) (before behind : List Token) (t : Token) → TokensWithin end (before ++ t ∷ behind) → t.place ≤ end
split_within end [] behind t h = h.0
split_within end (b ∷ bs) behind t h = split_within end bs behind t h.1

stands_within : (bytes : List ℕ) (place : ℕ) (before : List Symbol) (next : Option Symbol) → Stands (whole_text bytes) place before next
    → place ≤ length bytes
stands_within bytes place before next (at_token us vs u cut) =
    split_within (length bytes) us vs u (subst (TokensWithin (length bytes)) cut (text_within bytes).tokens)
stands_within bytes place before next (at_end none) = omega arith

fault_within : (bytes : List ℕ) (f : LexFault) → (lexed bytes).1 ≡ Some f → f.place ≤ length bytes
fault_within bytes f is = subst (FaultWithin (length bytes)) is (text_within bytes).fault

-- the place of a fault of the text
fault_offset : (bytes : List ℕ) (x : TextError) (k : ℕ) → IsFault AreTasks (whole_text bytes) x → offset_of (from_text x) ≡ Some k
    → k ≤ length bytes
fault_offset bytes (text.BadByte place) k fault is =
    subst (λ (j : ℕ). j ≤ length bytes) (same_number place k is) (fault_within bytes _ fault)
fault_offset bytes (text.WideNumber place) k fault is =
    subst (λ (j : ℕ). j ≤ length bytes) (same_number place k is) (fault_within bytes _ fault)
fault_offset bytes (text.BadToken place) k fault is =
    subst (λ (j : ℕ). j ≤ length bytes) (same_number place k is) (fault_within bytes _ fault)
fault_offset bytes (text.Expected place) k fault is =
    subst (λ (j : ℕ). j ≤ length bytes) (same_number place k is) (stands_within bytes place fault.before fault.next fault.stands)
fault_offset bytes (text.Nested place) k fault is =
    subst (λ (j : ℕ). j ≤ length bytes) (same_number place k is) (stands_within bytes place fault.before (Some fault.next) fault.stands)
fault_offset bytes text.Memory k fault is = absurd fault

-- a condition has none
no_offset : (r : Refusal) → offset_of (error_of r) ≡ None
no_offset (refusal.DoubleHole section hole) = refl
no_offset (refusal.HoleInFilling section hole) = refl
no_offset (refusal.UnknownHole section hole) = refl
no_offset (refusal.MissingFilling section hole) = refl
no_offset (refusal.DoubleName x) = refl
no_offset (refusal.UnknownName x) = refl
no_offset (refusal.WrongSort x) = refl
no_offset refusal.TooMany = refl
no_offset refusal.TooDeep = refl

pub offset_within : (bytes : List ℕ) (e : TaskError) (k : ℕ) → IsRefusedWith bytes e → offset_of e ≡ Some k → k ≤ length bytes
offset_within bytes e k (inl fault) is =
    fault_offset bytes fault.0 k fault.1.stands (sym (ap offset_of fault.2) ∙ is)
offset_within bytes e k (inr condition) is =
    absurd (none_some k (sym (no_offset condition.0) ∙ sym (ap offset_of condition.2) ∙ is))

-- ---- what stands before

-- where nothing stands that could, the text before goes up to the first fault
misfit_front : (bytes : List ℕ) (x : TextError) (k : ℕ) → IsFirstFault AreTasks (whole_text bytes) x → misfit_of (from_text x) ≡ Some k
    → EndsAtFault (take k bytes)
misfit_front bytes (text.BadByte place) k first is =
    record { bytes = bytes; error = text.BadByte place; first = first; front = ap (λ (n : ℕ). take n bytes) (sym (same_number place k is)) }
misfit_front bytes (text.WideNumber place) k first is =
    record { bytes = bytes; error = text.WideNumber place; first = first; front = ap (λ (n : ℕ). take n bytes) (sym (same_number place k is)) }
misfit_front bytes (text.BadToken place) k first is =
    record { bytes = bytes; error = text.BadToken place; first = first; front = ap (λ (n : ℕ). take n bytes) (sym (same_number place k is)) }
misfit_front bytes (text.Expected place) k first is =
    record { bytes = bytes; error = text.Expected place; first = first; front = ap (λ (n : ℕ). take n bytes) (sym (same_number place k is)) }
misfit_front bytes (text.Nested place) k first is = absurd (none_some k is)
misfit_front bytes text.Memory k first is = absurd (none_some k is)

-- a condition has no such place
no_misfit : (r : Refusal) → misfit_of (error_of r) ≡ None
no_misfit (refusal.DoubleHole section hole) = refl
no_misfit (refusal.HoleInFilling section hole) = refl
no_misfit (refusal.UnknownHole section hole) = refl
no_misfit (refusal.MissingFilling section hole) = refl
no_misfit (refusal.DoubleName x) = refl
no_misfit (refusal.UnknownName x) = refl
no_misfit (refusal.WrongSort x) = refl
no_misfit refusal.TooMany = refl
no_misfit refusal.TooDeep = refl

pub front_at_fault : (bytes : List ℕ) (e : TaskError) (k : ℕ) → IsRefusedWith bytes e → misfit_of e ≡ Some k → EndsAtFault (take k bytes)
front_at_fault bytes e k (inl fault) is = misfit_front bytes fault.0 k fault.1 (sym (ap misfit_of fault.2) ∙ is)
front_at_fault bytes e k (inr condition) is =
    absurd (none_some k (sym (no_misfit condition.0) ∙ sym (ap misfit_of condition.2) ∙ is))

misfit_text : (x : TextError) (k : ℕ) → misfit_of (from_text x) ≡ Some k → offset_of (from_text x) ≡ Some k
misfit_text (text.BadByte place) k is = is
misfit_text (text.WideNumber place) k is = is
misfit_text (text.BadToken place) k is = is
misfit_text (text.Expected place) k is = is
misfit_text (text.Nested place) k is = absurd (none_some k is)
misfit_text text.Memory k is = is

pub misfit_within : (bytes : List ℕ) (e : TaskError) (k : ℕ) → IsRefusedWith bytes e → misfit_of e ≡ Some k → k ≤ length bytes
misfit_within bytes e k (inl fault) is =
    offset_within bytes e k (inl fault)
    (ap offset_of fault.2 ∙ misfit_text fault.0 k (sym (ap misfit_of fault.2) ∙ is))
misfit_within bytes e k (inr condition) is =
    absurd (none_some k (sym (no_misfit condition.0) ∙ sym (ap misfit_of condition.2) ∙ is))

-- ---- the answer

pub shows_no_task : (bytes : List ℕ) (e : TaskError) (names : List (List ℕ)) (line place tokens with_place text : List ℕ)
    → e ≢ no_task.Memory → IsRefusedWith bytes e → names ≡ names_of bytes → line ≡ refusal_line names e
    → ShowsOffset bytes (offset_of e) place → ShowsTokens bytes (misfit_of e) tokens → with_place ≡ line ++ place
    → text ≡ with_place ++ tokens → ShowsNoTask bytes Refused text
shows_no_task bytes e names line place tokens with_place text some first same is shown could one two = record {
  line = line;
  refuses = record {
    error = e;
    cause = some;
    first = first;
    spells_none = λ t s. task_or_refusal bytes t e s first;
    says = record { ended = refl; printed = is ∙ ap (λ (ns : List (List ℕ)). refusal_line ns e) same };
  };
  place = place;
  shows = shown;
  tokens = tokens;
  could = could;
  printed = two ∙ ap (λ (x : List ℕ). x ++ tokens) one ∙ append_assoc line place tokens;
}
