-- The kinds that words name.
use Rattle.sm_proof.proofs.Imports.{◌≡◌, ℕ, Bool, true, false, if◌then◌else◌, Some, List, [], ◌∷◌, refl, subst, bytes_eq, find, bytes_eq-Decides, FormKind, TermKind, version_word, head_word, term_word, form_word, heads, term_kinds, form_kinds}
use Rattle.sm_proof.specs.declared.kind.FormKind.TheVariants as kind
use Rattle.sm_proof.specs.declared.kind.TermKind.TheVariants as kinds
use Rattle.sm_proof.specs.declared.word.Head.{Head}
use Rattle.sm_proof.specs.declared.word.Head.TheVariants as head
use Rattle.sm_proof.specs.HeadWords.{head_of, term_kind_of, form_kind_of}

-- a kind that is found has the word
found_is : {K : Type 0} (word_of : K → List ℕ) (kinds : List K) (word : List ℕ) (k : K)
    → find (λ (j : K). bytes_eq (word_of j) word) kinds ≡ Some k → word_of k ≡ word
found_is word_of [] word k is = cc
found_is {K} word_of (j ∷ js) word k is = by (bytes_eq (word_of j) word) refl is (found_is word_of js word k)
  where
    by : (b : Bool) → bytes_eq (word_of j) word ≡ b → (if b then Some j else find (λ (i : K). bytes_eq (word_of i) word) js) ≡ Some k
        → (find (λ (i : K). bytes_eq (word_of i) word) js ≡ Some k → word_of k ≡ word) → word_of k ≡ word
    by true e h more = let same : j ≡ k = cc in subst (λ (i : K). word_of i ≡ word) same ((bytes_eq-Decides (word_of j) word).0 e)
    by false e h more = more h

pub head_is : (word : List ℕ) (h : Head) → head_of word ≡ Some h → head_word h ≡ word
unfolding head_of
head_is word h is = found_is head_word heads word h is

pub term_kind_is : (word : List ℕ) (k : TermKind) → term_kind_of word ≡ Some k → term_word k ≡ word
unfolding term_kind_of
term_kind_is word k is = found_is term_word term_kinds word k is

pub form_kind_is : (word : List ℕ) (k : FormKind) → form_kind_of word ≡ Some k → form_word k ≡ word
unfolding form_kind_of
form_kind_is word k is = found_is form_word form_kinds word k is

-- each kind is found by its word
pub head_found : (h : Head) → head_of (head_word h) ≡ Some h
unfolding head_of
head_found head.T = refl
head_found head.P = refl
head_found head.Step = refl
head_found head.Abs = refl
head_found head.Fork = refl
head_found head.Loop = refl
head_found head.Block = refl
head_found head.Dead = refl
head_found head.End = refl
head_found head.Both = refl
head_found head.Either = refl
head_found head.Cases = refl
head_found head.Order = refl
head_found head.Refl = refl
head_found head.Sym = refl
head_found head.Trans = refl
head_found head.Subst = refl
head_found head.Cong = refl
head_found head.Same = refl
head_found head.Apart = refl
head_found head.Hit = refl
head_found head.Miss = refl
head_found head.Lin = refl
head_found head.Elim = refl
head_found head.Tight = refl
head_found head.Exact = refl
head_found head.Close = refl
head_found head.Clash = refl

pub term_kind_found : (k : TermKind) → term_kind_of (term_word k) ≡ Some k
unfolding term_kind_of
term_kind_found kinds.Lit = refl
term_kind_found kinds.Start = refl
term_kind_found kinds.Cell = refl
term_kind_found kinds.Slot = refl
term_kind_found kinds.Cur = refl
term_kind_found kinds.Of = refl
term_kind_found kinds.Arg = refl
term_kind_found kinds.Read = refl
term_kind_found kinds.Write = refl
term_kind_found kinds.Neg = refl
term_kind_found kinds.Add = refl
term_kind_found kinds.Sub = refl
term_kind_found kinds.Mul = refl

pub form_kind_found : (k : FormKind) → form_kind_of (form_word k) ≡ Some k
unfolding form_kind_of
form_kind_found kind.Yes = refl
form_kind_found kind.No = refl
form_kind_found kind.Eq = refl
form_kind_found kind.Ne = refl
form_kind_found kind.Le = refl
form_kind_found kind.Lt = refl
form_kind_found kind.And = refl
form_kind_found kind.Or = refl

-- no kind has the word of version lines
pub head_no_version : (h : Head) → bytes_eq version_word (head_word h) ≡ false
head_no_version head.T = refl
head_no_version head.P = refl
head_no_version head.Step = refl
head_no_version head.Abs = refl
head_no_version head.Fork = refl
head_no_version head.Loop = refl
head_no_version head.Block = refl
head_no_version head.Dead = refl
head_no_version head.End = refl
head_no_version head.Both = refl
head_no_version head.Either = refl
head_no_version head.Cases = refl
head_no_version head.Order = refl
head_no_version head.Refl = refl
head_no_version head.Sym = refl
head_no_version head.Trans = refl
head_no_version head.Subst = refl
head_no_version head.Cong = refl
head_no_version head.Same = refl
head_no_version head.Apart = refl
head_no_version head.Hit = refl
head_no_version head.Miss = refl
head_no_version head.Lin = refl
head_no_version head.Elim = refl
head_no_version head.Tight = refl
head_no_version head.Exact = refl
head_no_version head.Close = refl
head_no_version head.Clash = refl
