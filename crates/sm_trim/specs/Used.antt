-- Cited by public clauses: which lines of a certificate are used.
use Rattle.std.specs.Prelude.{ℕ, zero, suc, ◌+◌, Bool, false, ◌&&◌, ◌||◌, nat_eq, nat_lt, IsTrue}
use Rattle.std.specs.List.{list_any}
use Rattle.sm_theory.specs.Lines.{CertificateLine}
use Rattle.sm_theory.specs.Named.{facts_named, reads_all, facts_added}
use Rattle.sm_cert.specs.Certificates.{Certificate, Next, Closed, Split}

-- whether a line names fact n, where `at` facts stand before it: an exact line names all of these
abbrev pub names_fact : ℕ → CertificateLine → ℕ → Bool
names_fact at line n = list_any (nat_eq n) (facts_named line) || (reads_all line && nat_lt n at)

-- whether one of k numbers from n on passes a test
abbrev pub some_pass : ℕ → ℕ → (ℕ → Bool) → Bool
some_pass zero n test = false
some_pass (suc k) n test = test n || some_pass k (suc n) test

-- whether a used line of a certificate names fact n, where `at` facts stand before the certificate
abbrev pub is_used : ℕ → Certificate → ℕ → Bool
is_used at (Next line c) n =
    let later = is_used (at + facts_added line) c in
    (some_pass (facts_added line) at later && names_fact at line n) || later n
is_used at (Closed line) n = names_fact at line n
is_used at (Split line c d) n =
    let first = is_used (suc at) c in
    let second = is_used (suc at) d in
    ((first at && second at) && names_fact at line n) || (first n || second n)

-- each line is used: one that closes is; one that adds facts is where a used line after it names
-- one of them; one that splits is where in either part a used line names the fact that it adds
-- there
abbrev pub IsUsed : ℕ → Certificate → Type 0
IsUsed at (Next line c) =
    IsTrue (some_pass (facts_added line) at (is_used (at + facts_added line) c))
    × IsUsed (at + facts_added line) c
IsUsed at (Closed line) = Unit {0}
IsUsed at (Split line c d) =
    IsTrue (is_used (suc at) c at) × IsTrue (is_used (suc at) d at)
    × IsUsed (suc at) c × IsUsed (suc at) d
