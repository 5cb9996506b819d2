-- Cited by public clauses: programs of which the candidate has the only change of the base.
use Rattle.std.specs.Prelude.{◌≡◌, Bool, ◌&&◌, ◌||◌}
use Rattle.sm_syntax.specs.claim.Syntax.{Code}
use Rattle.sm_syntax.specs.claim.ConflictFree.{Copy, O, A, B, M}
use Rattle.sm_term.specs.SameTerms.{same_code}
use Rattle.sm_sided.specs.declared.sided.Change.{Change}
use Rattle.sm_sided.specs.declared.sided.Change.TheVariants.{OfA, OfB, OfBoth}

-- of what each copy has: the candidate has the change of one variant, where the other is as the base,
-- or that of both, where they are the same
abbrev pub IsOnly : {T : Type 0} → (Copy → T) → Change → Type 0
IsOnly f OfA = (f B ≡ f O) × (f M ≡ f A)
IsOnly f OfB = (f A ≡ f O) × (f M ≡ f B)
IsOnly f OfBoth = (f M ≡ f A) × (f A ≡ f B)

-- one of the three is so
abbrev pub IsOneSided : (Copy → Code) → Type 0
IsOneSided program = (change : Change) × IsOnly program change

-- whether the programs of two copies are the same tree
abbrev pub agree : (Copy → Code) → Copy → Copy → Bool
agree program c d = same_code (program c) (program d)

-- whether one of the three is so
abbrev pub is_one_sided : (Copy → Code) → Bool
is_one_sided program =
    (agree program B O && agree program M A)
    || ((agree program A O && agree program M B) || (agree program M A && agree program A B))
