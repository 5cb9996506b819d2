-- What the reads of a proof file gave, and what is answered to that.
use Rattle.sm_check.proofs.Imports.{◌≡◌, ◌<◌, ◌≤◌, ◌+◌, ◌++◌, ℕ, List, [], ◌∷◌, length, take, drop, Result, Ok, Err, IsErrOf, inl, inr, refl, sym, ap, ◌∙◌, subst, arith, length-take, length-append, take_all, take-take, ReadsFrom, Read, ReadsOn, ReadsWhole, reads_none, Subject, file_answer, TellsAnswer, Checked, Pass, CheckError, ReadFault, stopped_answer}
use Rattle.sm_check.specs.Files.{Memory}
use Rattle.sm_check.specs.FilesRead.{AnswersRead}
use Rattle.sm_check.specs.declared.fault.Stopped.{Stopped}
use Rattle.sm_check.specs.declared.fault.Stopped.TheVariants as stopped

-- what stands behind the bytes read before
drop_read : (read more : List ℕ) → drop (length read) (read ++ more) ≡ more
drop_read [] more = refl
drop_read (b ∷ bs) more = drop_read bs more

-- a read is one of the bytes that came before it and by it
pub own_read : (read piece : List ℕ) (place count : ℕ) → length read ≡ place → count ≤ length piece →
    ReadsFrom (read ++ take count piece) place count piece
own_read read piece place count at fits =
    let behind : drop place (read ++ take count piece) ≡ take count piece =
    ap (λ (n : ℕ). drop n (read ++ take count piece)) (sym at) ∙ drop_read read (take count piece) in
    let long = length-append read (take count piece) in
    let cut = length-take count piece in
    record {
      given = sym (ap (take count) behind ∙ take-take count count piece (omega arith));
      end = λ some. (λ none. omega (arith, long, cut, at, none), λ past. omega (arith, long, cut, at, past));
    }

-- bytes are the first of themselves, as many as they are
pub own_front : (bytes : List ℕ) (place : ℕ) → length bytes ≡ place → bytes ≡ take place bytes
own_front bytes place at = sym (take_all place bytes (omega (arith, at)))

-- bytes are the first of themselves with more behind them, as many as they are
pub front_of : (bytes more : List ℕ) (place : ℕ) → length bytes ≡ place → bytes ≡ take place (bytes ++ more)
front_of [] more place at = rw (← at) refl
front_of (b ∷ bs) more place at = rw (← at) (ap (λ (x : List ℕ). b ∷ x) (front_of bs more (length bs) refl))

-- a read that gave some bytes
pub some_given : (piece : List ℕ) (count : ℕ) → (count ≡ 0 → ⊥) → count ≤ length piece → 0 < length (take count piece)
some_given piece count some fits = rw (length-take count piece) (omega (arith, some, fits))

-- how many bytes are taken then
pub taken_long : (read piece : List ℕ) (place count taken : ℕ) → length read ≡ place → count ≤ length piece → taken ≤ count →
    length (read ++ take taken piece) ≡ place + taken
taken_long read piece place count taken at fits less =
    rw (length-append read (take taken piece), length-take taken piece) (omega (arith, at, fits, less))

-- lines that stop don't pass
pub stopped_no_pass : (e : Stopped) → stopped_answer e ≡ Ok Pass → ⊥
stopped_no_pass (stopped.Wrong line word) is = cc
stopped_no_pass stopped.Memory is = cc

-- want of memory before the first read
pub none_given : (name : List ℕ) (reads : List Read) (limit : ℕ) (s : Subject) (r : Result Checked CheckError) → IsErrOf r Memory →
    AnswersRead name reads reads limit s r
none_given name reads limit s r is =
    subst (λ (x : Result Checked CheckError). AnswersRead name reads reads limit s x) (sym is)
    (record {
      bytes = [];
      read = inl (reads_none name reads);
      whole = λ passes. absurd (cc);
      part = λ _. reads_none name reads;
      tells = tt;
    })

-- a pass that isn't at its end
pub part_given : (name : List ℕ) (before now : List Read) (limit : ℕ) (s : Subject) (r : Result Checked CheckError) (bytes : List ℕ)
    → ReadsOn name before now bytes → (r ≡ Ok Pass → ⊥) → TellsAnswer r (file_answer limit s bytes)
    → AnswersRead name before now limit s r
part_given name before now limit s r bytes on none tells =
    record { bytes = bytes; read = inl on; whole = λ is. absurd (none is); part = λ _. on; tells = tells }

-- one that is, by a read that gave nothing
pub whole_given : (name : List ℕ) (before between now : List Read) (limit : ℕ) (s : Subject) (r : Result Checked CheckError)
    (bytes piece : List ℕ) (place count : ℕ) → ReadsOn name before between bytes → length bytes ≡ place → count ≡ 0
    → now ≡ between ++ (name, place, take count piece) ∷ [] → (r ≡ Err ReadFault → ⊥) → TellsAnswer r (file_answer limit s bytes)
    → AnswersRead name before now limit s r
whole_given name before between now limit s r bytes piece place count on at none is no_fault tells =
    let whole : ReadsWhole name before now bytes = record {
      between = between;
      on = on;
      end = is ∙ ap (λ (n : ℕ). between ++ (name, place, take n piece) ∷ []) none
          ∙ ap (λ (p : ℕ). between ++ (name, p, []) ∷ []) (sym at);
    } in
    record { bytes = bytes; read = inr whole; whole = λ _. whole; part = λ fails. absurd (no_fault fails); tells = tells }
