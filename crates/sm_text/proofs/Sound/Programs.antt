-- A program is read exactly where the grammar spells it.
use Rattle.sm_text.proofs.Imports.{◌≡◌, ℕ, refl, sym, ap, ◌∙◌, subst, Result, Ok, Err, List, [], ◌++◌, map, Sort, Code, Marked, plain, Symbol, AreDeclarations, AreOutputs, IsShared, names_of, symbols_of, IsProgram, program, SpellsProgram, Parser, ◌>>=◌, pure, unmarked, ProgramParts}
use Rattle.std.proofs.lemmas.List.{append-nil}
use Rattle.sm_text.specs.rules.Parsers.{Fault}
use Rattle.sm_text.specs.parsing.Program as p
use Rattle.sm_text.specs.rules.Reading as r
use Rattle.sm_text.proofs.Complete.Parsers.{reach, next, reads-then, unmarked-plain, reach-plain}
use Rattle.sm_text.proofs.Complete.Tasks.{declarations_read, outputs_read, outputs_begin, shared_read}
use Rattle.sm_text.proofs.Sound.Names.{declarations_told, outputs_told}
use Rattle.sm_text.proofs.Sound.Sections.{shared_told}
use Rattle.sm_text.proofs.Sound.Parsers.{all_read, Describes, Both, Is, bind, weaken, give}

-- a program, where these are the texts of its names
abbrev pub IsProgramUnder : List (List ℕ) → List Marked → ProgramParts → Type 0
IsProgramUnder names us x = IsProgram us x × (x.names ≡ names)

is_program : (names : List (List ℕ)) (us : List Marked) (x : ProgramParts) →
    Both AreDeclarations (λ ds. Both AreOutputs
    (λ xs. Both IsShared (λ c. Is (record { names = names; declared = ds; outputs = xs; body = c })))) us x → IsProgramUnder names us x
is_program names us x b = subst F b.two.two.two.same (subst G (sym line) (program it b.one b.two.one b.two.two.one), refl)
  where
    it : ProgramParts
    it = record { names = names; declared = b.value; outputs = b.two.value; body = b.two.two.value }

    F : ProgramParts → Type 0
    F y = IsProgramUnder names us y

    G : List Marked → Type 0
    G l = IsProgram l it

    line : us ≡ b.front ++ (b.two.front ++ b.two.two.front)
    line = b.parts ∙ ap (λ (l : List Marked). b.front ++ l)
        (b.two.parts ∙ ap (λ (l : List Marked). b.two.front ++ l)
        (b.two.two.parts ∙ ap (λ (l : List Marked). b.two.two.front ++ l) b.two.two.two.none ∙ append-nil b.two.two.front))

pub program_told : (names : List (List ℕ)) → Describes (p.program names) (IsProgramUnder names)
unfolding p.program
program_told names = weaken (is_program names)
    (bind declarations_told (λ ds. bind outputs_told
    (λ xs. bind shared_told (λ c. give (record { names = names; declared = ds; outputs = xs; body = c })))))

not_err : {f : Fault} {x : ProgramParts} → (let a : Result ProgramParts Fault = Err f in a) ≡ Ok x → ⊥
not_err q = cc

-- what is read to the end is a program
pub whole_program_told : (names : List (List ℕ)) (ts : List Symbol) (x : ProgramParts) → p.whole_program names ts ≡ Ok x →
    IsProgramUnder names (map plain ts) x
unfolding p.whole_program
whole_program_told names ts x e = all_read (program_told names) ts x e

-- a program is read
pub program_read : {ts : List Marked} {t : ProgramParts} → IsProgram ts t → (z : List Symbol) →
    p.program t.names (unmarked ts ++ z) ≡ reach ts z (Ok (t, z))
unfolding p.program
program_read (program {ts = ts} {us = us} {vs = vs} t declared named code) z =
    next r.declarations ts (us ++ vs) z (Ok (t.declared, unmarked (us ++ vs) ++ z)) with_outputs (Ok (t, z))
    (declarations_read declared (unmarked (us ++ vs) ++ z) (outputs_begin named vs z))
    (next r.outputs us vs z (Ok (t.outputs, unmarked vs ++ z)) (with_body t.declared) (Ok (t, z)) (outputs_read named (unmarked vs ++ z))
    (reads-then vs z (Ok (t.body, z)) (whole t.declared t.outputs) (shared_read code z)))
  where
    whole : List (ℕ × Sort) → List ℕ → Code → Parser ProgramParts
    whole ds xs c = pure (record { names = t.names; declared = ds; outputs = xs; body = c })

    with_body : List (ℕ × Sort) → List ℕ → Parser ProgramParts
    with_body ds xs = r.shared >>= whole ds xs

    with_outputs : List (ℕ × Sort) → Parser ProgramParts
    with_outputs ds = r.outputs >>= with_body ds

-- to its end
program_complete : (ts : List Symbol) (t : ProgramParts) → IsProgram (map plain ts) t → p.whole_program t.names ts ≡ Ok t
unfolding p.whole_program
program_complete ts t it =
    let end : Result (ProgramParts × List Symbol) Fault → Result ProgramParts Fault = λ a. r.to_end a in
    ap (λ (l : List Symbol). end (p.program t.names l)) (sym (append-nil (unmarked (map plain ts)) ∙ unmarked-plain ts))
    ∙ ap end (program_read it [])
    ∙ ap end (reach-plain ts [] (Ok (t, [])))

-- the program that a text spells is read to its end
spelled_read : (bytes : List ℕ) (t : ProgramParts) (names : List (List ℕ)) (ts : List Symbol) → SpellsProgram bytes t →
    names ≡ names_of bytes → ts ≡ symbols_of bytes → p.whole_program names ts ≡ Ok t
spelled_read bytes t names ts spells n e =
    let G : List Symbol → Type 0 = λ l. IsProgram (map plain l) t in
    ap (λ (l : List (List ℕ)). p.whole_program l ts) (n ∙ sym spells.names) ∙ program_complete ts t (subst G (sym e) spells.grammar)

ok_same : (x y : ProgramParts) → (let a : Result ProgramParts Fault = Ok x in a) ≡ Ok y → x ≡ y
ok_same x y e = cc

-- what is read of a text is the program that it spells
pub program_same : (bytes : List ℕ) (t : ProgramParts) (names : List (List ℕ)) (ts : List Symbol) (x : ProgramParts) →
    SpellsProgram bytes t → names ≡ names_of bytes → ts ≡ symbols_of bytes → p.whole_program names ts ≡ Ok x → x ≡ t
program_same bytes t names ts x spells n e f = ok_same x t (sym f ∙ spelled_read bytes t names ts spells n e)

-- a text that is refused spells no program
pub program_not_refused : (bytes : List ℕ) (t : ProgramParts) (names : List (List ℕ)) (ts : List Symbol) (f : Fault) →
    SpellsProgram bytes t → names ≡ names_of bytes → ts ≡ symbols_of bytes → p.whole_program names ts ≡ Err f → ⊥
program_not_refused bytes t names ts f spells n e g = not_err (sym g ∙ spelled_read bytes t names ts spells n e)
