-- A line is that with the numbers of the terms that it names.
use Rattle.sm_write.proofs.Imports.{◌≡◌, ℕ, refl, CertLine, line_head, first_term, second_term, Names, number_in, number_or, line_with, written}
use Rattle.sm_theory.specs.declared.line.CertLine.TheVariants as cert
use Rattle.sm_proof.specs.Lines.{numbered_line}

pub written_with : (names : Names) (l : CertLine) → line_with l (number_in names (first_term l)) (number_in names (second_term l)) ≡ written names l
written_with names (cert.Both n) = refl
written_with names (cert.Either n) = refl
written_with names (cert.Cases t u) = refl
written_with names (cert.Order n) = refl
written_with names (cert.Refl t) = refl
written_with names (cert.Sym n) = refl
written_with names (cert.Trans m n) = refl
written_with names (cert.Subst m n) = refl
written_with names (cert.Cong t u ns) = refl
written_with names (cert.Same t u) = refl
written_with names (cert.Apart t u) = refl
written_with names (cert.Hit t n) = refl
written_with names (cert.Miss t u n) = refl
written_with names (cert.Lin n) = refl
written_with names (cert.Elim m n t) = refl
written_with names (cert.Tight n) = refl
written_with names (cert.Exact n) = refl
written_with names (cert.Close n) = refl
written_with names (cert.Clash m n) = refl

pub numbered_with : (l : CertLine) → line_with l (number_or (first_term l)) (number_or (second_term l)) ≡ numbered_line l
numbered_with (cert.Both n) = refl
numbered_with (cert.Either n) = refl
numbered_with (cert.Cases t u) = refl
numbered_with (cert.Order n) = refl
numbered_with (cert.Refl t) = refl
numbered_with (cert.Sym n) = refl
numbered_with (cert.Trans m n) = refl
numbered_with (cert.Subst m n) = refl
numbered_with (cert.Cong t u ns) = refl
numbered_with (cert.Same t u) = refl
numbered_with (cert.Apart t u) = refl
numbered_with (cert.Hit t n) = refl
numbered_with (cert.Miss t u n) = refl
numbered_with (cert.Lin n) = refl
numbered_with (cert.Elim m n t) = refl
numbered_with (cert.Tight n) = refl
numbered_with (cert.Exact n) = refl
numbered_with (cert.Close n) = refl
numbered_with (cert.Clash m n) = refl

-- its first word is that of the line
pub head_with : (l : CertLine) (k m : ℕ) → line_head (line_with l k m) ≡ line_head (numbered_line l)
head_with (cert.Both n) k m = refl
head_with (cert.Either n) k m = refl
head_with (cert.Cases t u) k m = refl
head_with (cert.Order n) k m = refl
head_with (cert.Refl t) k m = refl
head_with (cert.Sym n) k m = refl
head_with (cert.Trans i n) k m = refl
head_with (cert.Subst i n) k m = refl
head_with (cert.Cong t u ns) k m = refl
head_with (cert.Same t u) k m = refl
head_with (cert.Apart t u) k m = refl
head_with (cert.Hit t n) k m = refl
head_with (cert.Miss t u n) k m = refl
head_with (cert.Lin n) k m = refl
head_with (cert.Elim i n t) k m = refl
head_with (cert.Tight n) k m = refl
head_with (cert.Exact n) k m = refl
head_with (cert.Close n) k m = refl
head_with (cert.Clash i n) k m = refl
