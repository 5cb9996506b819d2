-- Private: what is written of terms and lines, where terms have numbers in a proof file.
use Rattle.std.specs.Prelude.{◌≡◌, ℕ, ◌<◌, ◌^◌, Option, Some, None, slice_get, length, List}
use Rattle.sm_term.specs.Tables.{tree_at}
use Rattle.sm_term.specs.declared.term.TermId.{TermId}
use Rattle.sm_term.specs.Terms.{Tree}
use Rattle.sm_theory.specs.declared.line.CertLine.TheVariants as cert
use Rattle.sm_theory.specs.Named.{with_terms, EachNamed}
use Rattle.sm_theory.specs.Views.{numbered_line}
use Rattle.sm_theory.specs.declared.line.CertLine.{CertLine}
use Rattle.sm_proof.specs.Lines.{NumberedLine, Both, Either, Cases, Order, Refl, Sym, Trans, Subst, Cong, Same, Apart, Hit, Miss, Lin, Elim, Tight, Exact, Close, Clash}

-- the numbers of terms in a file, by their numbers in a table
abbrev pub Names : Type 0
Names = ℕ → Option TermId

-- each number in the file is that of the term
pub record AreNames (trees : List Tree) (names : Names) (terms : List Tree) : Type 0 where
  pub right :
      (t : ℕ) (n : TermId) → names t ≡ Some n →
      (t < length trees) × (slice_get terms n.0 ≡ Some (tree_at trees t))
  pub few : length terms < 2 ^ 63

-- the number of a term in the file, 0 where it has none
abbrev pub number_or : Option TermId → ℕ
number_or None = 0
number_or (Some n) = n.0

abbrev pub number_at : Names → ℕ → ℕ
number_at names t = number_or (names t)

abbrev pub file_number : Names → TermId → ℕ
file_number names t = number_at names t.0

-- the number of a term in the file, if there is a term, 0 where it has none
abbrev pub number_in : Names → Option TermId → ℕ
number_in names None = 0
number_in names (Some t) = file_number names t

-- a term has a number
abbrev pub IsNumbered : Names → ℕ → Type 0
IsNumbered names t = (n : TermId) × (names t ≡ Some n)

abbrev pub IsNamed : Names → TermId → Type 0
IsNamed names t = IsNumbered names t.0

-- a line as it is written
abbrev pub written : Names → CertLine → NumberedLine
written names l = with_terms (number_at names) (numbered_line l)

-- a line with these numbers for the first term that it names and for the second
abbrev pub line_with : CertLine → ℕ → ℕ → NumberedLine
line_with (cert.Both n) t u = Both n
line_with (cert.Either n) t u = Either n
line_with (cert.Cases a b) t u = Cases t u
line_with (cert.Order n) t u = Order n
line_with (cert.Refl a) t u = Refl t
line_with (cert.Sym n) t u = Sym n
line_with (cert.Trans m n) t u = Trans m n
line_with (cert.Subst m n) t u = Subst m n
line_with (cert.Cong a b ns) t u = Cong t u ns.list.items
line_with (cert.Same a b) t u = Same t u
line_with (cert.Apart a b) t u = Apart t u
line_with (cert.Hit a n) t u = Hit t n
line_with (cert.Miss a b n) t u = Miss t u n
line_with (cert.Lin n) t u = Lin n
line_with (cert.Elim m n a) t u = Elim m n t
line_with (cert.Tight n) t u = Tight n
line_with (cert.Exact n) t u = Exact n
line_with (cert.Close n) t u = Close n
line_with (cert.Clash m n) t u = Clash m n

-- each term that a line names has a number
abbrev pub IsLineNamed : Names → CertLine → Type 0
IsLineNamed names l = EachNamed (IsNumbered names) (numbered_line l)
