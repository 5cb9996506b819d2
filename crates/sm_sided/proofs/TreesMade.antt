-- Trees of certificates, as the program puts them together.
use Rattle.sm_sided.proofs.Imports.{◌≡◌, List, [], ◌∷◌, ◌++◌, map, ap, ◌∙◌, append_assoc, map-append, Tree, Certificate, Next, lines_before}
use Rattle.sm_theory.specs.Views.{line_in}
use Rattle.sm_theory.specs.declared.line.CertLine.{CertLine}

-- lists to which one is put after the other
listed_two : {X : Type 0} (a b : X) (none one two : List X) → none ≡ [] → one ≡ none ++ a ∷ [] → two ≡ one ++ b ∷ [] →
    two ≡ a ∷ b ∷ []
listed_two a b none one two x y z =
    z ∙ ap (λ (l : List _). l ++ b ∷ []) (y ∙ ap (λ (l : List _). l ++ a ∷ []) x)

-- one line, two and three before a certificate
pub one_line : (trees : List Tree) (a : CertLine) (none one : List CertLine) (c : Certificate) → none ≡ [] → one ≡ none ++ a ∷ [] →
    lines_before trees one c ≡ Next (line_in trees a) c
one_line trees a none one c x y =
    ap (λ (l : List CertLine). lines_before trees l c) (y ∙ ap (λ (l : List CertLine). l ++ a ∷ []) x)

pub two_lines : (trees : List Tree) (a b : CertLine) (none one two : List CertLine) (c : Certificate) → none ≡ [] → one ≡ none ++ a ∷ []
    → two ≡ one ++ b ∷ [] →
    lines_before trees two c ≡ Next (line_in trees a) (Next (line_in trees b) c)
two_lines trees a b none one two c x y z = ap (λ (l : List CertLine). lines_before trees l c) (listed_two a b none one two x y z)

pub three_lines : (trees : List Tree) (a b d : CertLine) (none one two three : List CertLine) (c : Certificate) → none ≡ [] →
    one ≡ none ++ a ∷ [] → two ≡ one ++ b ∷ [] → three ≡ two ++ d ∷ [] →
    lines_before trees three c ≡ Next (line_in trees a) (Next (line_in trees b) (Next (line_in trees d) c))
three_lines trees a b d none one two three c x y z w =
    ap (λ (l : List CertLine). lines_before trees l c) (w ∙ ap (λ (l : List CertLine). l ++ d ∷ []) (listed_two a b none one two x y z))

-- what three more stand for
pub three_more : {X Y : Type 0} (v : X → Y) (a b c : X) (p q r : Y) (old one two three : List X) → one ≡ old ++ a ∷ [] → two ≡ one ++ b ∷ []
    → three ≡ two ++ c ∷ [] → v a ≡ p → v b ≡ q → v c ≡ r → map v three ≡ map v old ++ p ∷ q ∷ r ∷ []
three_more v a b c p q r old one two three x y z e f g =
    let all : three ≡ old ++ a ∷ b ∷ c ∷ [] =
    z ∙ ap (λ (l : List _). l ++ c ∷ []) (y ∙ ap (λ (l : List _). l ++ b ∷ []) x ∙ append_assoc old (a ∷ []) (b ∷ []))
    ∙ append_assoc old (a ∷ b ∷ []) (c ∷ []) in
    ap (map v) all ∙ map-append v old (a ∷ b ∷ c ∷ []) ∙ (λ i. map v old ++ e i ∷ f i ∷ g i ∷ [])
