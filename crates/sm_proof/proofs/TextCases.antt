-- The verdicts on files worked by hand.
use Rattle.sm_proof.proofs.Imports.{◌≡◌, ℕ, ◌≤◌, Option, Some, None, Ok, List, [], refl, ap, sym, subst, arith, codes, decimal, AllDigits, decimal_digit, decimal_is_IsNumeral_wide, digit_from_value, any, ProofLine, Exact, Close, Header, Node, Cert, End, found_or, BadNumber, Standing, Unopened, Before, next_standing, reached_after, Verdict, verdict_at_end, plain, TextsComeOut}
use Rattle.std.specs.Prelude.{Result}
use Rattle.sm_num.specs.Eliminating.{gcd}
use Rattle.sm_omega.specs.Exact.{exact}
use Rattle.sm_plan.specs.Limits.{is_shallow}
use Rattle.sm_proof.specs.Fields.{taking}
use Rattle.sm_proof.specs.HeadWords.{head_of}
use Rattle.sm_proof.specs.Named.{Word}
use Rattle.sm_proof.specs.Numbers.{words_of, number_in}
use Rattle.sm_proof.specs.Reading.{read, read_words, read_version}
use Rattle.sm_proof.specs.Versions.{begins_exact}
use Rattle.sm_proof.proofs.DecimalLemmas.{decimal_of_value}
use Rattle.sm_proof.proofs.NumberLemmas.{number_back, number_spelled}

-- the verdict behind a version line and a node, by what the last line was read as
abbrev judged : ℕ → Result ProofLine Word → Verdict
judged version r =
    verdict_at_end (reached_after 1 (next_standing plain Unopened (Ok (Header version))) (λ (first : Standing).
    reached_after 2 (next_standing plain first (Ok (Node End))) (λ (second : Standing).
    reached_after 3 (next_standing plain second r) (λ (third : Standing). Before 4 third)))) []

-- what a number makes of a line
abbrev with_number : (ℕ → ProofLine) → Option ℕ → Result ProofLine Word
with_number made o = found_or o BadNumber (λ (n : ℕ). Ok (made n))

-- a text of a number is read as it
is_read : (n : ℕ) (word : List ℕ) → decimal n ≡ word → n ≤ any → number_in any word ≡ Some n
is_read n word text low = subst (λ (w : List ℕ). number_in any w ≡ Some n) text (number_spelled any n low (omega (arith, low)))

zero_read : number_in any (codes "0") ≡ Some 0
zero_read = is_read 0 (codes "0") (decimal_digit 0 (omega arith)) (omega arith)

many_read : number_in any (codes "1000001") ≡ Some 1000001
many_read =
    is_read 1000001 (codes "1000001") (decimal_of_value (codes "1000001") digits (omega arith) (λ e. absurd (omega (arith, e))) (omega arith))
    (omega arith)
  where
    digits : AllDigits 10 (codes "1000001")
    digits = (omega arith, (omega arith, (omega arith, (omega arith, (omega arith, (omega arith, (omega arith, tt)))))))

-- a letter is no number
letter_read : number_in any (codes "x") ≡ None
letter_read = by (number_in any (codes "x")) refl
  where
    by : (o : Option ℕ) → number_in any (codes "x") ≡ o → o ≡ None
    by None e = refl
    by (Some n) e =
        let b = number_back any n (codes "x") e in
        let d = (decimal_is_IsNumeral_wide n (omega (arith, b.0))).0.1 in
        let x = subst (AllDigits 10) (sym b.1) d in
        absurd (omega (arith, digit_from_value 120 x.0))

-- each text
pub texts_come_out : TextsComeOut
unfolding is_shallow exact gcd read read_words read_version taking words_of number_in head_of begins_exact
texts_come_out = record {
  first = refl;
  second = refl;
  third = ap (λ (o : Option ℕ). judged 3 (with_number (λ (n : ℕ). Cert (Exact n)) o)) zero_read;
  ill_first = refl;
  ill_second = refl;
  ill_third = ap (λ (o : Option ℕ). judged 3 (with_number (λ (n : ℕ). Cert (Exact n)) o)) letter_read;
  ill_other = ap (λ (o : Option ℕ). judged 2 (with_number (λ (n : ℕ). Cert (Close n)) o)) letter_read;
  many_second = refl;
  many_third = ap (λ (o : Option ℕ). judged 3 (with_number (λ (n : ℕ). Cert (Exact n)) o)) many_read;
  great_third = refl;
  no_number = refl;
  no_word = refl;
}
