-- What a first fault has to be, and what no refusal can be.
use Rattle.sm_text.proofs.Imports.{◌≡◌, ◌≤◌, refl, subst, arith, Option, Some, None, Result, Ok, Err, List, [], ◌∷◌, length, Symbol, LexFault, Grammar, Source, IsFirstFault, IsRefusal, TextError}
use Rattle.sm_text.specs.declared.error.TextError.TheVariants as error
use Rattle.sm_text.specs.declared.rules.reading.Fault as reading

pub no_fault : {f : LexFault} → (let o : Option LexFault = None in o) ≡ Some f → ⊥
no_fault e = cc

pub none_some : (u : Symbol) → (let p : Option Symbol = None in p) ≡ Some u → ⊥
none_some u p = cc

pub same_fault : (f g : LexFault) → Some f ≡ Some g → f ≡ g
same_fault f g e = cc

pub err_left : {A : Type 0} (f g : reading.Fault) → (let a : Result A reading.Fault = Err f in a) ≡ Err g → g.left ≤ f.left
err_left f g e = let same : f ≡ g = cc in let F : reading.Fault → Type 0 = λ h. h.left ≤ f.left in subst F same (omega arith)

-- a first fault is what a refusal has to be
pub first_refusal : (spells : Grammar) (source : Source) (e : TextError) → IsFirstFault spells source e → IsRefusal spells source e
first_refusal spells source (error.BadByte place) x = x
first_refusal spells source (error.WideNumber place) x = x
first_refusal spells source (error.BadToken place) x = x
first_refusal spells source (error.Expected place) x = x
first_refusal spells source (error.Nested place) x = x
first_refusal spells source error.Memory x = tt

pub nothing_left : (us : List Symbol) → length us ≡ 0 → us ≡ []
nothing_left [] e = refl
nothing_left (u ∷ us) e = absurd (omega (arith, e))

pub ok_err : {A : Type 0} {x : A} {f : reading.Fault} → (let a : Result A reading.Fault = Ok x in a) ≡ Err f → ⊥
ok_err e = cc
