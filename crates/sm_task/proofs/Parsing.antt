-- What parse_task answers where a condition fails, or where its text does.
use Rattle.sm_task.proofs.Imports.{◌≡◌, inl, inr, refl, sym, ap, ◌∙◌, Option, Some, None, option_map, Result, Err, List, ℕ, Refusal, first_refusal, Parts, AreTasks, IsFirstFault, IsRefusal, whole_text, error_of, from_text, IsRefusedBy, IsRefusedWith, IsReadAs, IsRefusedAs, TaskError}
use Rattle.std.specs.Prelude.{◌≢◌, IfErr}
use Rattle.sm_syntax.specs.text.Spells.{IsInGrammar}
use Rattle.sm_text.specs.declared.error.TextError.TheVariants as text
use Rattle.sm_text.specs.declared.error.TextError.{TextError}
use Rattle.sm_task.specs.declared.error.TaskError.TheVariants as error
use Rattle.sm_text.specs.declared.task.Task.{Task}

-- an error of the conditions is that of the first that fails
abbrev pub Names : Option Refusal → TaskError → Type 0
Names refusal e = e ≢ error.Memory → option_map error_of refusal ≡ Some e

-- what an error says, where it is not want of memory
module _ (P : TaskError → Type 0) where
  pub unless_memory : (e : TaskError) → P error.Memory → (e ≢ error.Memory → P e) → P e
  unless_memory (error.BadByte p) m h = h (λ q. cc)
  unless_memory (error.WideNumber p) m h = h (λ q. cc)
  unless_memory (error.BadToken p) m h = h (λ q. cc)
  unless_memory (error.Expected p) m h = h (λ q. cc)
  unless_memory (error.Nested p) m h = h (λ q. cc)
  unless_memory (error.MissingFilling l x) m h = h (λ q. cc)
  unless_memory (error.UnknownHole l x) m h = h (λ q. cc)
  unless_memory (error.DoubleHole l x) m h = h (λ q. cc)
  unless_memory (error.HoleInFilling l x) m h = h (λ q. cc)
  unless_memory (error.UnknownName x) m h = h (λ q. cc)
  unless_memory (error.WrongSort x) m h = h (λ q. cc)
  unless_memory (error.DoubleName x) m h = h (λ q. cc)
  unless_memory error.TooDeep m h = h (λ q. cc)
  unless_memory error.TooMany m h = h (λ q. cc)
  unless_memory error.Memory m h = m

some_error : (d e : TaskError) → Some d ≡ Some e → e ≡ d
some_error d e p = cc

none_error : (e : TaskError) → (let o : Option TaskError = None in o) ≡ Some e → ⊥
none_error e p = cc

-- the refusal that an error names
which : (o : Option Refusal) (e : TaskError) → option_map error_of o ≡ Some e → (r : Refusal) × (o ≡ Some r) × (e ≡ error_of r)
which None e p = absurd (none_error e p)
which (Some r) e p = (r, refl, some_error (error_of r) e p)

-- the exit at a condition that fails, with the text and its parts
module _ {T : Type 0} (bytes : List ℕ) (t : Parts) (result : Result T TaskError) (e : TaskError)
    (p : (y : TaskError) × (result ≡ Err y) × (y ≡ e)) (g : IsInGrammar bytes t) (n : Names (first_refusal t) e) where
  named : e ≢ error.Memory → (r : Refusal) × IsRefusedBy bytes r × (e ≡ error_of r)
  named other =
      let one = which (first_refusal t) e (n other) in
      (one.0, (t, g, one.1), one.2)

  pub refused-err : IfErr result (λ x. x ≢ error.Memory → IsRefusedWith bytes x)
  refused-err = rw (p.1, p.2) (λ (other : e ≢ error.Memory). inr (named other))

-- where no condition fails, want of memory alone is left
pub valid-fails : (t u : Parts) (result : Result Task TaskError) (e : TaskError) → (y : TaskError) × (result ≡ Err y) ×
    (y ≡ e) → t ≡ u → first_refusal u ≡ None → Names (first_refusal t) e → IsReadAs u result
valid-fails t u result e p same none n =
    rw (p.1, p.2) (unless_memory (λ x. x ≡ error.Memory) e refl
    (λ other. absurd (none_error e (sym (ap (option_map error_of) (ap first_refusal same ∙ none)) ∙ n other))))

-- the exit at the condition that fails
pub refused-fails : (t u : Parts) (r : Refusal) (result : Result Task TaskError) (e : TaskError) → (y : TaskError) ×
    (result ≡ Err y) × (y ≡ e) → t ≡ u → first_refusal u ≡ Some r → Names (first_refusal t) e → IsRefusedAs r result
refused-fails t u r result e p same some n =
    rw (p.1, p.2) (λ (other : e ≢ error.Memory). some_error (error_of r) e
    (sym (ap (option_map error_of) (ap first_refusal same ∙ some)) ∙ n other))

pub none_refusal : (r : Refusal) → (let o : Option Refusal = None in o) ≡ Some r → ⊥
none_refusal r e = cc

-- where all conditions were met, none fails
pub not_refused : (t u : Parts) (r : Refusal) → t ≡ u → first_refusal u ≡ Some r → first_refusal t ≡ None → ⊥
not_refused t u r same some none = none_refusal r (sym none ∙ ap first_refusal same ∙ some)

-- a fault of the text is its first one
first_fault : (bytes : List ℕ) (e : TextError) → IsRefusal AreTasks (whole_text bytes) e → from_text e ≢ error.Memory →
    IsFirstFault AreTasks (whole_text bytes) e
first_fault bytes (text.BadByte place) x other = x
first_fault bytes (text.WideNumber place) x other = x
first_fault bytes (text.BadToken place) x other = x
first_fault bytes (text.Expected place) x other = x
first_fault bytes (text.Nested place) x other = x
first_fault bytes text.Memory x other = absurd (other refl)

-- the exit at the text
module _ {T : Type 0} (bytes : List ℕ) (result : Result T TaskError) (e : TextError)
    (p : (y : TaskError) × (result ≡ Err y) × (y ≡ from_text e)) (x : IsRefusal AreTasks (whole_text bytes) e) where
  pub text_fails-err : IfErr result (λ y. y ≢ error.Memory → IsRefusedWith bytes y)
  text_fails-err = rw (p.1, p.2) (λ (other : from_text e ≢ error.Memory). inl (e, first_fault bytes e x other, refl))
