-- The verdicts worked by hand.
use Rattle.sm_proof.proofs.Imports.{◌≡◌, ◌<◌, ℕ, zero, suc, Bool, false, not, Ok, Err, List, [], ◌∷◌, ◌++◌, take, refl, ap, ◌∙◌, arith, ne_eqb, reads_all, NumberedLine, ProofLine, Header, Cert, tested_or, Truncated, BadVersion, BadLine, Extra, has_exact, Subject, Standing, Reached, next_standing, reached_after, reached, lines_in, verdict_at_end, Rejected, Unopened, Before, passes_version, opens_if, reached_on, verdict_on, AreRead, FilesAreLines, whole, plain, WholeComesOut, VersionsComeOut, WordsComeOut, ExactComesOut, CasesComeOut}
use Rattle.std.proofs.Common.{Result}
use Rattle.sm_num.specs.Eliminating.{gcd}
use Rattle.sm_omega.specs.Exact.{exact}
use Rattle.sm_plan.specs.Limits.{is_shallow}
use Rattle.sm_proof.specs.Lines.{TermLine, NodeLine, FormLine}
use Rattle.sm_proof.specs.Named.{Word}
use Rattle.sm_proof.proofs.ExactLines.{goes_alike}
use Rattle.sm_proof.proofs.TextCases.{texts_come_out}

-- one more line, where the lines behind it come as far
one_more : (n : ℕ) (r : Result Standing Word) (next other : Standing → Reached) → ((standing : Standing) → next standing ≡ other standing) →
    reached_after n r next ≡ reached_after n r other
one_more n (Err w) next other same = refl
one_more n (Ok standing) next other same = same standing

-- lines come as far as what they spell
lines_come : (s : Subject) (n : ℕ) (standing : Standing) (lines : List (List ℕ)) (spelled : List ProofLine) → AreRead lines spelled →
    reached s n standing lines ≡ reached_on s n standing spelled
lines_come s n standing [] [] are = refl
lines_come s n standing [] (line ∷ spelled) are = absurd are
lines_come s n standing (bytes ∷ lines) [] are = absurd are
lines_come s n standing (bytes ∷ lines) (line ∷ spelled) are =
    let next : Standing → Reached = λ (after : Standing). reached s (suc n) after lines in
    ap (λ (r : Result Standing Word). reached_after n r next) (goes_alike s standing bytes line are.0)
    ∙ one_more n (next_standing s standing (Ok line)) next (λ (after : Standing). reached_on s (suc n) after spelled)
    (λ (after : Standing). lines_come s (suc n) after lines spelled are.1)

-- so the verdict on a file is that on what its lines spell
pub files_are_lines : FilesAreLines
files_are_lines s bytes lines are none =
    ap (λ (r : Reached). verdict_at_end r (lines_in bytes).rest) (lines_come s 1 Unopened (lines_in bytes).ended lines are)
    ∙ ap (verdict_at_end (reached_on s 1 Unopened lines)) none

-- each proper front of the proof is cut short
fronts_fail : (n : ℕ) → n < 9 → verdict_on plain (take n whole) ≡ Rejected (suc n) Truncated
unfolding is_shallow
fronts_fail zero h = refl
fronts_fail (suc zero) h = refl
fronts_fail (suc (suc zero)) h = refl
fronts_fail (suc (suc (suc zero))) h = refl
fronts_fail (suc (suc (suc (suc zero)))) h = refl
fronts_fail (suc (suc (suc (suc (suc zero))))) h = refl
fronts_fail (suc (suc (suc (suc (suc (suc zero)))))) h = refl
fronts_fail (suc (suc (suc (suc (suc (suc (suc zero))))))) h = refl
fronts_fail (suc (suc (suc (suc (suc (suc (suc (suc zero)))))))) h = refl
fronts_fail (suc (suc (suc (suc (suc (suc (suc (suc (suc n))))))))) h = absurd (omega (arith, h))

-- behind the end each line but `exact` is one too many
more_line : (l : NumberedLine) → reads_all l ≡ false → verdict_on plain (whole ++ Cert l ∷ []) ≡ Rejected 10 Extra
unfolding is_shallow
more_line l e =
    ap (λ (b : Bool). verdict_at_end (reached_after 10 (tested_or (not b) BadLine (Err Extra)) (λ (after : Standing). Before 11 after)) []) e

-- the proof, and what stands behind it
whole_comes_out : WholeComesOut
unfolding is_shallow
whole_comes_out = record {
  passes = refl;
  fronts = fronts_fail;
  more_terms = λ (l : TermLine). refl;
  more_forms = λ (l : FormLine). refl;
  more_nodes = λ (l : NodeLine). refl;
  more_lines = more_line;
  more_exact = λ (n : ℕ). refl;
  more_headers = λ (n : ℕ). refl;
  more_bytes = λ (byte : ℕ) (rest : List ℕ). refl;
}

-- a version beyond 3 is none
unknown_version : (n : ℕ) → 3 < n → passes_version plain (Header n) ≡ false
unknown_version n high =
    rw (
      ne_eqb n 3 (λ (e : n ≡ 3). omega (arith, e, high)),
      ne_eqb n 2 (λ (e : n ≡ 2). omega (arith, e, high)),
      ne_eqb n 1 (λ (e : n ≡ 1). omega (arith, e, high)),
    ) refl

other_versions : (n : ℕ) → 3 < n → verdict_on plain (Header n ∷ []) ≡ Rejected 1 BadVersion
other_versions n high =
    ap (λ (b : Bool). verdict_at_end (reached_after 1 (opens_if b (has_exact (Header n)) plain) (λ (after : Standing). Before 2 after)) [])
    (unknown_version n high)

-- versions
versions_come_out : VersionsComeOut
versions_come_out = record {
  first_assuming = refl;
  second_assuming = refl;
  second = refl;
  third_assuming = refl;
  third = refl;
  zeroth = refl;
  others = other_versions;
  none = refl;
}

-- words
words_come_out : WordsComeOut
unfolding is_shallow
words_come_out = record {
  second_version = refl;
  node_in_certificate = refl;
  line_for_node = refl;
  fact_for_node = refl;
  no_fact = refl;
  no_term = refl;
  no_form = refl;
  no_name = refl;
  no_copies = refl;
  many_copies = refl;
  no_statement = refl;
  no_contradiction = refl;
}

-- lines `exact`
exact_comes_out : ExactComesOut
unfolding is_shallow exact gcd
exact_comes_out = record {
  passes = refl;
  passes_assuming = refl;
  more_lines = λ (l : NumberedLine). refl;
  decided_third = refl;
  decided_assuming = refl;
  decided_second = refl;
  decided_first = refl;
  second_for_node = refl;
  for_node = refl;
  for_version = refl;
  no_forms = refl;
  most_steps = refl;
  many_steps = refl;
}

-- all of them
pub come_out : CasesComeOut
come_out = (whole_comes_out, versions_come_out, words_come_out, exact_comes_out, texts_come_out)
