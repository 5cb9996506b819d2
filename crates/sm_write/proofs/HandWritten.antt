-- A task like the one that was worked by hand, whatever the text of its name is.
use Rattle.sm_write.proofs.Imports.{◌≡◌, ℕ, None, List, [], ◌∷◌, ◌++◌, map, sym, ap, ◌∙◌, subst, fun_ext, Copy, End, Num, Parts, Tree, Both, Close, Next, Closed, certificate_in, CertTree, idle_plan, idle_certificates, IsWritable}
use Rattle.sm_write.proofs.ExampleLemmas.{example_is_writable}

-- one number, which is the output, and four programs that do nothing
pub record IsIdle (t : Parts) : Type 0 where
  pub declared : t.declared ≡ (0, Num) ∷ []
  pub outputs : t.outputs ≡ 0 ∷ []
  pub assumed : t.assumed ≡ None
  pub shared : t.shared ≡ End
  pub fillings : (c : Copy) → t.fillings c ≡ []

-- such a task with the texts of these names
abbrev idle_with : List (List ℕ) → Parts
idle_with names = record {
  names = names;
  declared = (0, Num) ∷ [];
  outputs = 0 ∷ [];
  assumed = None;
  shared = End;
  fillings = λ (c : Copy). [];
}

idle_is : (t : Parts) → IsIdle t → idle_with t.names ≡ t
idle_is t h =
    let fillings : t.fillings ≡ (λ (c : Copy). []) = fun_ext h.fillings in
    sym (λ i. record {
      names = t.names;
      declared = h.declared i;
      outputs = h.outputs i;
      assumed = h.assumed i;
      shared = h.shared i;
      fillings = fillings i;
    })

-- its plan can be written
pub idle_writable : (t : Parts) → IsIdle t → IsWritable t idle_plan idle_certificates
idle_writable t h =
    let hand = example_is_writable in
    subst (λ (u : Parts). IsWritable u idle_plan idle_certificates) (idle_is t h)
    (record { dues = hand.dues; expands = hand.expands; kept = hand.kept; shown = hand.shown; short = hand.short })

-- three certificates, put one behind the other
pub three_are : (trees : List Tree) (a b c : CertTree) (none one two three : List CertTree) → none ≡ [] → one ≡ none ++ a ∷ [] →
    two ≡ one ++ b ∷ [] → three ≡ two ++ c ∷ [] → certificate_in trees a ≡ Next (Both 0) (Closed (Close 1)) →
    certificate_in trees b ≡ Next (Both 0) (Closed (Close 1)) →
    certificate_in trees c ≡ Next (Both 0) (Next (Both 2) (Closed (Close 4))) → map (certificate_in trees) three ≡ idle_certificates
three_are trees a b c none one two three start first second third x y z =
    let all : three ≡ a ∷ b ∷ c ∷ [] =
    third ∙ ap (λ (l : List CertTree). l ++ c ∷ [])
    (second ∙ ap (λ (l : List CertTree). l ++ b ∷ []) (first ∙ ap (λ (l : List CertTree). l ++ a ∷ []) start)) in
    ap (map (certificate_in trees)) all ∙ (λ i. x i ∷ y i ∷ z i ∷ [])
