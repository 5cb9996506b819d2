-- Cited by public clauses: certificates over another branch, on which facts have other numbers.
use Rattle.std.specs.Prelude.{ℕ, ◌+◌, ◌-◌, nat_lt, if◌then◌else◌, IsFalse}
use Rattle.sm_theory.specs.Named.{reads_all}
use Rattle.sm_theory.specs.Moved.{moved_line}
use Rattle.sm_cert.specs.Certificates.{Certificate, Next, Closed, Split}

-- a certificate with other numbers of facts
abbrev pub moved_certificate : (ℕ → ℕ) → Certificate → Certificate
moved_certificate move (Next line c) = Next (moved_line move line) (moved_certificate move c)
moved_certificate move (Closed line) = Closed (moved_line move line)
moved_certificate move (Split line c d) =
    Split (moved_line move line) (moved_certificate move c) (moved_certificate move d)

-- each line of a certificate reads only the facts that it names: none is an exact line
abbrev pub NamesWhatItReads : Certificate → Type 0
NamesWhatItReads (Next line c) = IsFalse (reads_all line) × NamesWhatItReads c
NamesWhatItReads (Closed line) = IsFalse (reads_all line)
NamesWhatItReads (Split line c d) =
    IsFalse (reads_all line) × NamesWhatItReads c × NamesWhatItReads d

-- the facts of a branch of so many facts are moved, and those that lines add stand after the facts of
-- the other branch
abbrev pub moved_past : (ℕ → ℕ) → ℕ → ℕ → ℕ → ℕ
moved_past move count other n = if nat_lt n count then move n else other + (n - count)
