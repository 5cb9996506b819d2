-- Private: the terms that a line of a certificate names, of which there are at most two.
use Rattle.std.specs.Prelude.{Option, Some, None}
use Rattle.sm_term.specs.declared.term.TermId.{TermId}
use Rattle.sm_theory.specs.declared.line.CertLine.{CertLine}
use Rattle.sm_theory.specs.declared.line.CertLine.TheVariants as cert

-- the first
abbrev pub first_term : CertLine → Option TermId
first_term (cert.Both n) = None
first_term (cert.Either n) = None
first_term (cert.Cases t u) = Some t
first_term (cert.Order n) = None
first_term (cert.Refl t) = Some t
first_term (cert.Sym n) = None
first_term (cert.Trans m n) = None
first_term (cert.Subst m n) = None
first_term (cert.Cong t u ns) = Some t
first_term (cert.Same t u) = Some t
first_term (cert.Apart t u) = Some t
first_term (cert.Hit t n) = Some t
first_term (cert.Miss t u n) = Some t
first_term (cert.Lin n) = None
first_term (cert.Elim m n t) = Some t
first_term (cert.Tight n) = None
first_term (cert.Exact n) = None
first_term (cert.Close n) = None
first_term (cert.Clash m n) = None

-- the second
abbrev pub second_term : CertLine → Option TermId
second_term (cert.Both n) = None
second_term (cert.Either n) = None
second_term (cert.Cases t u) = Some u
second_term (cert.Order n) = None
second_term (cert.Refl t) = None
second_term (cert.Sym n) = None
second_term (cert.Trans m n) = None
second_term (cert.Subst m n) = None
second_term (cert.Cong t u ns) = Some u
second_term (cert.Same t u) = Some u
second_term (cert.Apart t u) = Some u
second_term (cert.Hit t n) = None
second_term (cert.Miss t u n) = Some u
second_term (cert.Lin n) = None
second_term (cert.Elim m n t) = None
second_term (cert.Tight n) = None
second_term (cert.Exact n) = None
second_term (cert.Close n) = None
second_term (cert.Clash m n) = None
