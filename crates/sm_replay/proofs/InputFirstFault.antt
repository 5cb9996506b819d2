-- What a read of bytes answers.
use Rattle.sm_replay.proofs.Imports.{◌≡◌, ◌≢◌, ℕ, ℤ, Option, Some, None, Result, Ok, Err, List, sym, ap, subst, option_or, IfOk, IfErr, Data, Members, no_members, member, as_object, Sorts, Sort, Num, Arr, meaning, sorts_of, Texts, name_of, declared_name, missing, cells_fault, array_fault, value_fault, members_fault, input_fault, store_of, IsJson, Reads, reported, InputError, BadJson, NotObject, UnknownKey, BadValue, BadIndex, number_of_text, json_number}
use Rattle.sm_eval.specs.declared.store.Store as code
use Rattle.sm_replay.specs.Input.{Memory}

-- an error that was reported is the fault
pub reported_err : (o : Option InputError) (e : InputError) → Err e ≡ reported o → o ≡ Some e
reported_err None e is = cc
reported_err (Some f) e is = let same : e ≡ f = cc in ap Some (sym same)

-- a fault of members, or none
abbrev IsOfMembers : Option InputError → Type 0
IsOfMembers None = Unit {0}
IsOfMembers (Some UnknownKey) = Unit {0}
IsOfMembers (Some (BadValue x)) = Unit {0}
IsOfMembers (Some (BadIndex x)) = Unit {0}
IsOfMembers (Some NotObject) = Unit {0}
IsOfMembers (Some BadJson) = ⊥
IsOfMembers (Some Memory) = ⊥

either : (a b : Option InputError) → IsOfMembers a → IsOfMembers b → IsOfMembers (option_or a b)
either None b p q = q
either (Some e) b p q = p

of_missing : (o : Option ℤ) (e : InputError) → IsOfMembers (Some e) → IsOfMembers (missing o e)
of_missing None e p = p
of_missing (Some z) e p = tt

of_cells : (x : ℕ) (ms : Members) → IsOfMembers (cells_fault x ms)
of_cells x no_members = tt
of_cells x (member key d rest) =
    either (missing (number_of_text key) (BadIndex (name_of x))) _ (of_missing (number_of_text key) (BadIndex (name_of x)) tt)
    (either (missing (json_number d) (BadValue (name_of x))) _ (of_missing (json_number d) (BadValue (name_of x)) tt) (of_cells x rest))

of_array : (x : ℕ) (o : Option Members) → IsOfMembers (array_fault x o)
of_array x None = tt
of_array x (Some ms) = of_cells x ms

of_value : (o : Option (ℕ × Sort)) (d : Data) → IsOfMembers (value_fault o d)
of_value None d = tt
of_value (Some (x, Num)) d = of_missing (json_number d) (BadValue (name_of x)) tt
of_value (Some (x, Arr)) d = of_array x (as_object d)

of_members : (names : Texts) (sorts : Sorts) (ms : Members) → IsOfMembers (members_fault names sorts ms)
of_members names sorts no_members = tt
of_members names sorts (member key d rest) =
    either (value_fault (declared_name names sorts key) d) (members_fault names sorts rest) (of_value (declared_name names sorts key) d)
    (of_members names sorts rest)

of_input : (names : Texts) (sorts : Sorts) (o : Option Members) → IsOfMembers (input_fault names sorts o)
of_input names sorts None = tt
of_input names sorts (Some ms) = of_members names sorts ms

-- the answer to the bytes of a value
pub reads_value : (names : Texts) (sorts : Sorts) (bytes : List ℕ) (d : Data) (r : Result code.Store InputError) → IsJson bytes d
    → IfOk r (λ (s : code.Store). input_fault names sorts (as_object d) ≡ None)
    → IfOk r (λ (s : code.Store). meaning s ≡ store_of names sorts d)
    → IfOk r (λ (s : code.Store). sorts_of s ≡ sorts)
    → IfErr r (λ (e : InputError). e ≢ Memory → input_fault names sorts (as_object d) ≡ Some e)
    → Reads names sorts bytes r
reads_value names sorts bytes d (Ok s) json faultless gives declared err =
    record { value = d; json = json; faultless = faultless; gives = gives; declared = declared }
reads_value names sorts bytes d (Err BadJson) json faultless gives declared err =
    absurd (subst IsOfMembers (err (λ (e : BadJson ≡ Memory). cc)) (of_input names sorts (as_object d)))
reads_value names sorts bytes d (Err NotObject) json faultless gives declared err =
    record { value = d; json = json; fault = err (λ (e : NotObject ≡ Memory). cc) }
reads_value names sorts bytes d (Err UnknownKey) json faultless gives declared err =
    record { value = d; json = json; fault = err (λ (e : UnknownKey ≡ Memory). cc) }
reads_value names sorts bytes d (Err (BadValue x)) json faultless gives declared err =
    record { value = d; json = json; fault = err (λ (e : BadValue x ≡ Memory). cc) }
reads_value names sorts bytes d (Err (BadIndex x)) json faultless gives declared err =
    record { value = d; json = json; fault = err (λ (e : BadIndex x ≡ Memory). cc) }
reads_value names sorts bytes d (Err Memory) json faultless gives declared err = tt
