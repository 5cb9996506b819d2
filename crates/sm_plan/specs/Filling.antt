-- Private: terms with their slots replaced, while they are made part by part.
use Rattle.std.specs.Prelude.{◌≡◌, ◌<◌, ◌+◌, ℕ, zero, suc, IsTrue, Option, Some, None, is_some, if◌then◌else◌, List, [], ◌∷◌, length, map, slice_get}
use Rattle.sm_syntax.specs.claim.ConflictFree.{Copy}
use Rattle.sm_term.specs.declared.term.Term.TheVariants as row
use Rattle.sm_term.specs.declared.term.Terms.{Terms}
use Rattle.sm_term.specs.declared.term.BodyId.{BodyId}
use Rattle.sm_syntax.specs.declared.tree.Name.{Name}
use Rattle.sm_syntax.specs.declared.program.Outputs.{Outputs}
use Rattle.sm_syntax.specs.trees.Programs.{outputs_of}
use Rattle.sm_term.specs.Fitting.{term_fits}
use Rattle.sm_term.specs.Slots.{fill_term}
use Rattle.sm_term.specs.Symbolic.{SymbolicStore}
use Rattle.sm_term.specs.Tables.{TableValue, trees_in, sorts_in, codes_in, tree_at, tree_in, IsTermWithin, AreBefore}
use Rattle.sm_term.specs.declared.term.TermId.{TermId}
use Rattle.sm_plan.specs.declared.filling.Filling.{Filling}
use Rattle.sm_plan.specs.declared.filling.Filling.TheVariants.{There, Made, Part}
use Rattle.sm_plan.specs.declared.filling.Found.{Found}
use Rattle.sm_plan.specs.declared.filling.Found.TheVariants as found
use Rattle.sm_plan.specs.declared.filling.Parts.{Parts}
use Rattle.sm_plan.specs.declared.filling.Parts.TheVariants as parts

-- a number has the tree of term n with its slots replaced
abbrev pub IsFilled : TableValue → (Copy → SymbolicStore) → ℕ → TermId → Type 0
IsFilled v s n id = slice_get (trees_in v) id.0 ≡ Some (fill_term s (tree_at (trees_in v) n))

-- a number that is known for n has the tree of n with its slots replaced, and n is of the table
abbrev pub AreKnown : TableValue → (Copy → SymbolicStore) → (ℕ → Option TermId) → Type 0
AreKnown v s known =
    (n : ℕ) (id : TermId) → known n ≡ Some id → (n < length (trees_in v)) × IsFilled v s n id

-- a part of term n that isn't known
abbrev pub IsOpenPart : (ℕ → Option TermId) → ℕ → ℕ → Type 0
IsOpenPart known n p = (p < n) × (known p ≡ None)

-- term n with its slots replaced: a number that has it, or a term that may be put in, or a part
-- that isn't known
abbrev pub IsFilling : TableValue → (Copy → SymbolicStore) → (ℕ → Option TermId) → ℕ → Filling →
    Type 0
IsFilling v s known n (There id) = IsFilled v s n id
IsFilling v s known n (Made t) =
    IsTermWithin (sorts_in v) (length (codes_in v)) (length (trees_in v)) t
    × IsTrue (term_fits (sorts_in v) (trees_in v) t)
    × (tree_in (codes_in v) (trees_in v) t ≡ fill_term s (tree_at (trees_in v) n))
IsFilling v s known n (Part p) = IsOpenPart known n p

-- the number of term n with its slots replaced, or a part that isn't known
abbrev pub IsFound : TableValue → (Copy → SymbolicStore) → (ℕ → Option TermId) → ℕ → Found → Type 0
IsFound v s known n (found.Number id) = IsFilled v s n id
IsFound v s known n (found.Part p) = IsOpenPart known n p

-- the numbers of all parts, or one that isn't known
abbrev pub ArePartsKnown : (ℕ → Option TermId) → List TermId → Parts → Type 0
ArePartsKnown known args (parts.Known ids) =
    map (λ (t : TermId). known t.0) args ≡ map (λ (t : TermId). Some t) ids.list.items
ArePartsKnown known args (parts.Unknown p) =
    ((n : ℕ) → AreBefore n args → p < n) × (known p ≡ None)

-- a summary over the numbers of its arguments, or an argument that isn't known
abbrev pub IsSummary : (ℕ → Option TermId) → BodyId → Name → Outputs → Terms → Filling → Type 0
IsSummary known body x from args (There id) = ⊥
IsSummary known body x from args (Made t) =
    (names : Outputs) × (ids : Terms) × (t ≡ row.Fun body x names ids)
    × (outputs_of names ≡ outputs_of from) × ArePartsKnown known args.list.items (parts.Known ids)
IsSummary known body x from args (Part p) = ArePartsKnown known args.list.items (parts.Unknown p)

-- the number that a store has for a name, or else the name's start
abbrev pub at_name : Option TermId → Name → Filling
at_name None x = Made (row.Start x)
at_name (Some t) x = There t

-- numbers that descend from one to another
abbrev pub Descends : ℕ → List ℕ → ℕ → Type 0
Descends from [] to = to < from
Descends from (n ∷ ns) to = (n < from) × Descends n ns to

-- the way from t down to a number
abbrev pub IsWay : ℕ → List ℕ → ℕ → Type 0
IsWay t [] next = next ≡ t
IsWay t (n ∷ ns) next = (n ≡ t) × Descends n ns next

-- no number of the way is known
abbrev pub AreOpen : (ℕ → Option TermId) → List ℕ → Type 0
AreOpen known [] = Unit {0}
AreOpen known (n ∷ ns) = (known n ≡ None) × AreOpen known ns

-- how many numbers below a bound aren't known
abbrev pub unknown_below : (ℕ → Option TermId) → ℕ → ℕ
unknown_below known zero = 0
unknown_below known (suc n) = (if is_some (known n) then 0 else 1) + unknown_below known n
