-- The verdict on bytes that lie in memory.
use Rattle.sm_check.proofs.Imports.{◌≡◌, ◌<◌, ◌+◌, ◌-◌, ℕ, Bool, true, false, ◌==◌, Some, None, length, take, List, [], ◌∷◌, ◌++◌, refl, sym, ap, ◌∙◌, subst, Result, Ok, Err, IfOk, Decides, get_or, arith, nat_tests, take_all, take_more, slice_get-get_or, slice_get_within, get_or_from_slice_get, Word, Subject, Unopened, Reached, Refused, Verdict, verdict, verdict_at_end, FileLines, lines_in, reached, TakenLines, ComesTo, verdict_of, Checked, Pass, Rejected, ended_in, AreEndedTaken}
use Rattle.std.proofs.Common.{slice_get}
use Rattle.std.specs.declared.alloc.AllocError.{AllocError}
use Rattle.sm_proof.specs.Verdicts as proof
use Rattle.sm_check.specs.Pieces.{StandsAt, reach}
use Rattle.sm_check.proofs.AsideSteps.{begun_comes}
use Rattle.sm_check.proofs.EndLemmas.{verdict-reach}
use Rattle.sm_check.proofs.LineLemmas.{lines_in-end, lines_in-rest}

-- none of the ended lines of bytes was taken yet
pub all_left : (lines : TakenLines) (s : Subject) (bytes : List ℕ) → StandsAt lines s Unopened → lines.number ≡ 1 →
    ComesTo lines (ended_in bytes ++ []) s (reach s bytes)
unfolding reach
all_left lines s bytes stands first =
    begun_comes lines (ended_in bytes) s (reached s 1 Unopened (ended_in bytes))
    (record {
      at = Unopened;
      stands = stands;
      is = ap (λ (n : ℕ). reached s n Unopened (ended_in bytes)) (sym first);
    })

-- all of them were
pub none_left : (lines : TakenLines) (s : Subject) (bytes : List ℕ) → ComesTo lines [] s (reach s bytes) → AreEndedTaken lines s bytes
none_left lines s bytes t = record { at = t.at; stands = t.stands; reached = t.is }

-- one of them is bad
pub bad_line : (s : Subject) (bytes : List ℕ) (line : ℕ) (word : Word) → reach s bytes ≡ Refused line word →
    proof.Rejected line word ≡ verdict s bytes
bad_line s bytes line word stops =
    sym (verdict-reach s bytes ∙ ap (λ (r : Reached). verdict_at_end r (lines_in bytes).rest) stops)

-- an answer that bytes pass tells that they do
pub passes_by : (r : Result Checked AllocError) (v : Verdict) → r ≡ Ok Pass → IfOk r (λ (c : Checked). verdict_of c ≡ v) → v ≡ proof.Pass
passes_by (Ok Pass) v is told = sym told
passes_by (Ok (Rejected line word)) v is told = absurd (cc)
passes_by (Err e) v is told = absurd (cc)

-- bytes by the last of them
last_is : (bytes : List ℕ) (b : ℕ) → slice_get bytes (length bytes - 1) ≡ Some b → bytes ≡ take (length bytes - 1) bytes ++ b ∷ []
last_is bytes b found =
    let n = length bytes - 1 in
    let within : n < length bytes = slice_get_within bytes n b found in
    let here : get_or bytes n b ≡ b = get_or_from_slice_get bytes n b b found in
    sym (take_all (n + 1) bytes (omega arith)) ∙ take_more bytes n b within ∙ ap (λ (x : ℕ). take n bytes ++ x ∷ []) here

not_none : (xs : List ℕ) (b : ℕ) → xs ++ b ∷ [] ≡ [] → ⊥
not_none [] b none = cc
not_none (x ∷ xs) b none = cc

-- whether bytes end with a line end, by the last of them
pub ends_by_last : (bytes : List ℕ) (b : ℕ) → slice_get bytes (length bytes - 1) ≡ Some b → Decides (b == 10) ((lines_in bytes).rest ≡ [])
ends_by_last bytes b found =
    subst (λ (x : List ℕ). Decides (b == 10) ((lines_in x).rest ≡ [])) (sym (last_is bytes b found)) (by (b == 10) refl)
  where
    front : List ℕ
    front = take (length bytes - 1) bytes

    by : (ends : Bool) → (b == 10) ≡ ends → Decides ends ((lines_in (front ++ b ∷ [])).rest ≡ [])
    by true is =
        let ten : b ≡ 10 = grind (arith, nat_tests) in (
          λ _. ap (λ (x : ℕ). (lines_in (front ++ x ∷ [])).rest) ten ∙ ap (λ (ls : FileLines). ls.rest) (lines_in-end front [] tt),
          λ _. refl,
        )
    by false is = (
      λ never. absurd (cc),
      λ none. absurd
          (not_none (lines_in front).rest b
          (sym (ap (λ (ls : FileLines). ls.rest) (lines_in-rest front (b ∷ []) (is, tt))) ∙ none)),
    )

-- no bytes
pub ends_by_none : (bytes : List ℕ) → slice_get bytes (length bytes - 1) ≡ None → (lines_in bytes).rest ≡ []
ends_by_none [] none = refl
ends_by_none (b ∷ bs) none =
    let some = slice_get-get_or (b ∷ bs) (length (b ∷ bs) - 1) b (omega arith) in absurd (cc)
