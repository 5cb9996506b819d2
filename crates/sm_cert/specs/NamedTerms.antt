-- Cited by public clauses: certificates whose lines name only terms of a kind.
use Rattle.sm_syntax.specs.text.Sorts.{Sorts}
use Rattle.sm_term.specs.Terms.{Tree}
use Rattle.sm_term.specs.Sorted.{IsSorted}
use Rattle.sm_theory.specs.Named.{EachNamed}
use Rattle.sm_cert.specs.Certificates.{Certificate, Next, Closed, Split}

-- something is so of each term that a line of the certificate names
abbrev pub EachTerm : (Tree → Type 0) → Certificate → Type 0
EachTerm P (Next line c) = EachNamed P line × EachTerm P c
EachTerm P (Closed line) = EachNamed P line
EachTerm P (Split line c d) = EachNamed P line × EachTerm P c × EachTerm P d

-- the terms of a certificate are sorted
abbrev pub IsCertificateSorted : Sorts → Certificate → Type 0
IsCertificateSorted sorts = EachTerm (IsSorted sorts)
