-- Lists on their way: a form that enters stands behind those before it.
use Rattle.sm_exact.proofs.Imports.{◌≡◌, ◌+◌, ◌<◌, ◌≤◌, ◌==◌, nat_lt, ℕ, suc, ℤ, Bool, true, false, if◌then◌else◌, Some, None, List, [], ◌∷◌, ◌++◌, map, length, get_or, drop, refl, sym, ap, subst, ◌∙◌, arith, Ok, Err, Vec, Global, add-one, Decides-ltb, Explains, Returns, NumError, Linear, Outcome, Fits, Op, tightened, is_contradictory, has_no_part, Done, Passed, Outside, Item, Stay, Enter, Count, Entered, led, entering, entered, with_result, standing, Entry, shown, before, going, TellsError, false_from_ne_true}
use Rattle.std.proofs.Common.{Result}
use Rattle.std.specs.Result.{IfOk}
use Rattle.std.proofs.Math.Dec.{eqb-suc-zero}
use Rattle.std.proofs.Math.Seq.{drop-cons}
use Rattle.std.proofs.Math.ListN.{drop_of_length-le}
use Rattle.sm_num.specs.declared.error.NumError.TheVariants as error
use Rattle.sm_exact.specs.declared.entry.Entry.TheVariants as entry

-- a form more behind others
pub before_more : (fs : List (Linear ℕ)) (f : Linear ℕ) (rest : Entered) → before (fs ++ f ∷ []) rest ≡ before fs (led f rest)
before_more [] f rest = refl
before_more (g ∷ fs) f rest = ap (led g) (before_more fs f rest)

-- what is no list stays as it is
pub before_none : (fs : List (Linear ℕ)) (c : ℕ) → before fs (Done c None) ≡ Done c None
before_none [] c = refl
before_none (g ∷ fs) c = ap (led g) (before_none fs c)

pub before_passed : (fs : List (Linear ℕ)) → before fs Passed ≡ Passed
before_passed [] = refl
before_passed (g ∷ fs) = ap (led g) (before_passed fs)

pub before_outside : (fs : List (Linear ℕ)) (op : Op) (y z : ℤ) → before fs (Outside op y z) ≡ Outside op y z
before_outside [] op y z = refl
before_outside (g ∷ fs) op y z = ap (led g) (before_outside fs op y z)

-- with nothing behind
pub before_done : (fs : List (Linear ℕ)) (c : ℕ) → before fs (Done c (Some [])) ≡ Done c (Some fs)
before_done [] c = refl
before_done (g ∷ fs) c = ap (led g) (before_done fs c)

-- forms that stand go in front
pub standing_before : (limit : ℕ) (fs : List (Linear ℕ)) (items : List Item) (c : ℕ) →
    entered limit (standing fs ++ items) c ≡ before fs (entered limit items c)
standing_before limit [] items c = refl
standing_before limit (f ∷ fs) items c = ap (led f) (standing_before limit fs items c)

-- an entry that isn't a list is as it is shown
pub going_other : (limit : ℕ) (e : Entry) (items : List Item) →
    ((fs : Vec (Linear ℕ) Global) (c : ℕ) → e ≡ entry.List fs c → ⊥) → going limit e items ≡ shown e
going_other limit (entry.List fs c) items other = absurd (other fs c refl)
going_other limit (entry.Refuted c) items other = refl
going_other limit entry.Steps items other = refl
going_other limit (entry.Beyond op y z) items other = refl

-- with nothing behind, each is
pub going_ends : (limit : ℕ) (e : Entry) → going limit e [] ≡ shown e
going_ends limit (entry.List fs c) = before_done fs.items c
going_ends limit (entry.Refuted c) = refl
going_ends limit entry.Steps = refl
going_ends limit (entry.Beyond op y z) = refl

-- what fits is one
fits_one : {A : Type 0} (g h : A) → Fits g ≡ Fits h → g ≡ h
fits_one g h same = cc

-- the form that enters is a contradiction
pub enters_refuted : (out : List (Linear ℕ)) (c : ℕ) (g h : Linear ℕ) (rest : Entered) → Fits g ≡ Fits h →
    is_contradictory h ≡ true → before out (entering c g rest) ≡ Done c None
enters_refuted out c g h rest same fails =
    ap (λ f. before out (entering c f rest)) (fits_one g h same)
    ∙ ap (λ (b : Bool). before out (if b then Done c None else if has_no_part h.parts then rest else led h rest)) fails
    ∙ before_none out c

-- it has no parts and holds
pub enters_nothing : (out : List (Linear ℕ)) (c : ℕ) (g h : Linear ℕ) (rest : Entered) → Fits g ≡ Fits h →
    is_contradictory h ≡ false → has_no_part h.parts ≡ true → before out (entering c g rest) ≡ before out rest
enters_nothing out c g h rest same stands none =
    ap (λ f. before out (entering c f rest)) (fits_one g h same)
    ∙ ap (λ (b : Bool). before out (if b then Done c None else if has_no_part h.parts then rest else led h rest)) stands
    ∙ ap (λ (b : Bool). before out (if b then rest else led h rest)) none

-- it stands behind the others
pub enters_behind : (out new : List (Linear ℕ)) (c : ℕ) (g h : Linear ℕ) (rest : Entered) → Fits g ≡ Fits h →
    is_contradictory h ≡ false → has_no_part h.parts ≡ false → new ≡ out ++ h ∷ [] →
    before out (entering c g rest) ≡ before new rest
enters_behind out new c g h rest same stands some is =
    ap (λ f. before out (entering c f rest)) (fits_one g h same)
    ∙ ap (λ (b : Bool). before out (if b then Done c None else if has_no_part h.parts then rest else led h rest)) stands
    ∙ ap (λ (b : Bool). before out (if b then rest else led h rest)) some
    ∙ sym (before_more out h rest)
    ∙ ap (λ l. before l rest) (sym is)

-- whether there is a part, by the length
pub no_part_by : (ps : List (ℕ × ℤ)) → has_no_part ps ≡ (length ps == 0)
no_part_by [] = refl
no_part_by (p ∷ ps) = sym (eqb-suc-zero (length ps))

-- a sum that leaves the range
pub sum_outside : (limit : ℕ) (out : List (Linear ℕ)) (outcome : Outcome (Linear ℕ)) (next : Linear ℕ → Entered) (e : NumError)
    (r : Entry) (rest : List Item) → Explains outcome e → TellsError e r → before out (with_result outcome next) ≡ going limit r rest
sum_outside limit out outcome next (error.Beyond op y z) r rest leaves tells =
    ap (λ o. before out (with_result o next)) leaves ∙ before_outside out op y z ∙ ap (λ x. going limit x rest) (sym tells)
sum_outside limit out outcome next error.Memory r rest leaves tells = absurd tells

-- the next of a list
pub turn_of : (whole : Entered) (limit : ℕ) (item : Linear ℕ → Item) (i : ℕ) (fs : List (Linear ℕ)) (f : Linear ℕ) (out : List (Linear ℕ))
    (c : ℕ) (e : Entry) → whole ≡ before out (entered limit (map item (drop i fs)) c) → i < length fs → f ≡ get_or fs i f →
    ((rest : List Item) → before out (entered limit (item f ∷ rest) c) ≡ going limit e rest) →
    whole ≡ going limit e (map item (drop (i + 1) fs))
turn_of whole limit item i fs f out c e so_far within here goes =
    so_far
    ∙ ap (λ l. before out (entered limit (map item l) c)) (drop-cons fs i f within)
    ∙ ap (λ g. before out (entered limit (item g ∷ map item (drop (suc i) fs)) c)) (sym here)
    ∙ goes (map item (drop (suc i) fs))
    ∙ ap (λ n. going limit e (map item (drop n fs))) (sym (add-one i))

-- the end of a list
pub end_of : (whole : Entered) (limit : ℕ) (item : Linear ℕ → Item) (i : ℕ) (fs : List (Linear ℕ)) (out : List (Linear ℕ)) (c : ℕ) →
    whole ≡ before out (entered limit (map item (drop i fs)) c) → length fs ≤ i → whole ≡ Done c (Some out)
end_of whole limit item i fs out c so_far past =
    so_far
    ∙ ap (λ l. before out (entered limit (map item l) c)) (drop_of_length-le fs past)
    ∙ before_done out c

-- a list that was entered so far
pub goes_list : (whole : Entered) (limit : ℕ) (e : Entry) (items : List Item) (fs : Vec (Linear ℕ) Global) (c : ℕ) →
    whole ≡ going limit e items → e ≡ entry.List fs c → whole ≡ before fs.items (entered limit items c)
goes_list whole limit e items fs c goes is = goes ∙ ap (λ x. going limit x items) is

-- the next of forms that are left
pub turn_left : (whole : Entered) (limit : ℕ) (item : Linear ℕ → Item) (left next : List (Linear ℕ)) (f : Linear ℕ)
    (out : List (Linear ℕ)) (c : ℕ) (e : Entry) → whole ≡ before out (entered limit (map item left) c) → left ≡ f ∷ next →
    ((rest : List Item) → before out (entered limit (item f ∷ rest) c) ≡ going limit e rest) →
    whole ≡ going limit e (map item next)
turn_left whole limit item left next f out c e so_far is goes =
    so_far ∙ ap (λ l. before out (entered limit (map item l) c)) is ∙ goes (map item next)

-- the end of forms that are left
pub end_left : (whole : Entered) (limit : ℕ) (item : Linear ℕ → Item) (left : List (Linear ℕ)) (out : List (Linear ℕ)) (c : ℕ) →
    whole ≡ before out (entered limit (map item left) c) → left ≡ [] → whole ≡ Done c (Some out)
end_left whole limit item left out c so_far none =
    so_far ∙ ap (λ l. before out (entered limit (map item l) c)) none ∙ before_done out c

-- nothing more is counted
pub count_passed : (limit c : ℕ) (out : List (Linear ℕ)) (o : Outcome (Linear ℕ)) (rest : List Item) → limit ≤ c →
    before out (entered limit (Count o ∷ rest) c) ≡ Passed
count_passed limit c out o rest past =
    ap (λ (b : Bool). before out (if b then with_result o (λ (f : Linear ℕ). entering (suc c) (tightened f) (entered limit rest (suc c)))
    else Passed))
    (false_from_ne_true (nat_lt c limit) (λ lt. let below = (Decides-ltb c limit).0 lt in absurd (omega arith)))
    ∙ before_passed out

-- one more is
pub counts_one : (limit c : ℕ) (out : List (Linear ℕ)) (o : Outcome (Linear ℕ)) (rest : List Item) → c < limit →
    before out (entered limit (Count o ∷ rest) c)
    ≡ before out (with_result o (λ (f : Linear ℕ). entering (c + 1) (tightened f) (entered limit rest (c + 1))))
counts_one limit c out o rest below =
    ap (λ (b : Bool). before out (if b then with_result o (λ (f : Linear ℕ). entering (suc c) (tightened f) (entered limit rest (suc c)))
    else Passed))
    ((Decides-ltb c limit).1 below)
    ∙ ap (λ n. before out (with_result o (λ (f : Linear ℕ). entering n (tightened f) (entered limit rest n)))) (sym (add-one c))

-- what enters of a sum
abbrev pub SumEnters : List (Linear ℕ) → ℕ → Result (Linear ℕ) NumError → Entry → Type 0
SumEnters out c sum e =
    (limit : ℕ) (rest : List Item) (outcome : Outcome (Linear ℕ)) → Returns outcome sum →
    before out (with_result outcome (λ (f : Linear ℕ). entering c (tightened f) (entered limit rest c))) ≡ going limit e rest

-- what enters of an item
abbrev pub ItemEnters : ℕ → List (Linear ℕ) → Item → ℕ → Entry → Type 0
ItemEnters limit out item c e = (rest : List Item) → before out (entered limit (item ∷ rest) c) ≡ going limit e rest

-- a sum that is counted
pub sum_enters : {E : Type 0} (limit c : ℕ) (out : List (Linear ℕ)) (o : Outcome (Linear ℕ)) (sum : Result (Linear ℕ) NumError)
    (r : Result Entry E) → c < limit → Returns o sum → IfOk r (SumEnters out (c + 1) sum) → IfOk r (ItemEnters limit out (Count o) c)
sum_enters limit c out o sum (Ok e) below returns enters = λ rest. counts_one limit c out o rest below ∙ enters limit rest o returns
sum_enters limit c out o sum (Err x) below returns enters = tt

-- a form that stays
pub form_stays : {E : Type 0} (limit c : ℕ) (out : List (Linear ℕ)) (item : Item) (f : Linear ℕ) (r : Result Entry E) → item ≡ Stay f →
    IfOk r (λ e. (limit : ℕ) (rest : List Item) → before out (entered limit (Stay f ∷ rest) c) ≡ going limit e rest) →
    IfOk r (ItemEnters limit out item c)
form_stays limit c out item f (Ok e) is stays = λ rest. ap (λ i. before out (entered limit (i ∷ rest) c)) is ∙ stays limit rest
form_stays limit c out item f (Err x) is stays = tt

-- an item that is another
pub item_is : {E : Type 0} (limit c : ℕ) (out : List (Linear ℕ)) (item other : Item) (r : Result Entry E) → item ≡ other →
    IfOk r (ItemEnters limit out other c) → IfOk r (ItemEnters limit out item c)
item_is limit c out item other r is enters = subst (λ i. IfOk r (ItemEnters limit out i c)) (sym is) enters

-- an error of a sum
pub sum_fails : {E : Type 0} (out : List (Linear ℕ)) (c : ℕ) (sum : Result (Linear ℕ) NumError) (e : NumError) (r : Result Entry E) →
    sum ≡ Err e → IfOk r (TellsError e) → IfOk r (SumEnters out c sum)
sum_fails out c sum e (Ok x) is tells = λ limit rest outcome returns.
    sum_outside limit out outcome (λ (f : Linear ℕ). entering c (tightened f) (entered limit rest c)) e x rest
    (subst (Returns outcome) is returns) tells
sum_fails out c sum e (Err x) is tells = tt
