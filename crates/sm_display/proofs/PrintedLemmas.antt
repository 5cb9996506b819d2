-- Each name of a copy's program has a text, where some text spells the task.
use Rattle.sm_display.proofs.Imports.{◌≡◌, ℕ, ◌==◌, true, false, if◌then◌else◌, List, [], ◌∷◌, length, refl, Copy, copy_of, program_of, Sort, copy_named, number_of, Parts, task_of, ProgramParts}
use Rattle.sm_syntax.specs.claim.Fill.{Fillings, filling, fill}
use Rattle.sm_syntax.specs.claim.Syntax.{Code, End, Skip, Assign, Write, If, While, Hole, append}
use Rattle.sm_syntax.specs.declared.copies.CopyName.{CopyName}
use Rattle.sm_syntax.specs.declared.copies.CopyName.TheVariants as copy
use Rattle.sm_syntax.specs.text.Uses.{EachUsed}
use Rattle.sm_text.proofs.RoundTrip.Tasks.{spelled_named}
use Rattle.sm_text.specs.parsing.Fragments.{IsNamedProgram}
use Rattle.sm_text.specs.printing.Canonical.{program_pieces}
use Rattle.sm_text.specs.printing.Named.{AreFilledIn, HasNumberBelow, HasText, IsUsedIn}
use Rattle.sm_text.specs.printing.Pieces.{pieces_text}

module _ (P : ℕ → Sort → Type 0) where
  -- what holds of each name of two pieces of code holds of each of one after the other
  joined : (c r : Code) → EachUsed P c → EachUsed P r → EachUsed P (append c r)
  joined End r first second = second
  joined (Skip k) r first second = joined k r first second
  joined (Assign x e k) r first second = (first.0, first.1, joined k r first.2 second)
  joined (Write a i e k) r first second = (first.0, first.1, first.2, joined k r first.3 second)
  joined (If b c d k) r first second = (first.0, first.1, first.2, joined k r first.3 second)
  joined (While b c k) r first second = (first.0, first.1, joined k r first.2 second)
  joined (Hole h k) r first second = joined k r first second

  -- what holds of each name of code and of its fillings holds of each where the holes are filled
  filled : (fs : Fillings) → ((h : ℕ) → EachUsed P (filling fs h)) → (code : Code) → EachUsed P code → EachUsed P (fill fs code)
  filled fs each End own = tt
  filled fs each (Skip k) own = filled fs each k own
  filled fs each (Assign x e k) own = (own.0, own.1, filled fs each k own.2)
  filled fs each (Write a i e k) own = (own.0, own.1, own.2, filled fs each k own.3)
  filled fs each (If b c d k) own = (own.0, filled fs each c own.1, filled fs each d own.2, filled fs each k own.3)
  filled fs each (While b c k) own = (own.0, filled fs each c own.1, filled fs each k own.2)
  filled fs each (Hole h k) own = joined (filling fs h) (fill fs k) (each h) (filled fs each k own)

filling_used : (n : ℕ) (fs : Fillings) → AreFilledIn n fs → (h : ℕ) → IsUsedIn n (filling fs h)
filling_used n [] all h = tt
filling_used n (f ∷ fs) all h =
    elim (f.0 == h) as (λ b. IsUsedIn n (if b then f.1 else filling fs h)) [ true ↦ all.0 | false ↦ filling_used n fs all.1 h ]

pub filled_named : (t : Parts) → HasText t → (c : Copy) →
    IsNamedProgram (record { names = t.names; declared = t.declared; outputs = t.outputs; body = program_of (task_of t) c })
filled_named t has c =
    let named = spelled_named t has in
    record {
      declared = named.declared;
      outputs = named.outputs;
      body =
          filled (HasNumberBelow (length t.names)) (t.fillings c)
          (filling_used (length t.names) (t.fillings c) (named.fillings c)) t.shared named.shared;
    }

-- a program of equal parts is named, too
pub named_alike : (p : ProgramParts) (names : List (List ℕ)) (declared : List (ℕ × Sort)) (outputs : List ℕ) (body : Code) →
    p.names ≡ names → p.declared ≡ declared → p.outputs ≡ outputs → p.body ≡ body →
    IsNamedProgram (record { names = names; declared = declared; outputs = outputs; body = body }) → IsNamedProgram p
named_alike p names declared outputs body a b c d h =
    record { declared = rw (a, b) h.declared; outputs = rw (a, c) h.outputs; body = rw (a, d) h.body }

-- a program of equal parts has the same text
pub printed_alike : (p : ProgramParts) (names : List (List ℕ)) (declared : List (ℕ × Sort)) (outputs : List ℕ) (body : Code) →
    p.names ≡ names → p.declared ≡ declared → p.outputs ≡ outputs → p.body ≡ body →
    pieces_text p.names (program_pieces p.declared p.outputs p.body) ≡ pieces_text names (program_pieces declared outputs body)
printed_alike p names declared outputs body a b c d = rw (a, b, c, d) refl

-- a copy has its number
pub by_number : (c : CopyName) → copy_of (number_of (copy_named c)) ≡ copy_named c
by_number copy.O = refl
by_number copy.A = refl
by_number copy.B = refl
by_number copy.M = refl
