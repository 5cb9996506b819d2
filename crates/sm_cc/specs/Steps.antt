-- Private: steps that explain why two places are equal, and how they are taken from a log.
use Rattle.std.specs.Prelude.{◌≡◌, ℕ, ◌+◌, ◌<◌, ◌≤◌, ◌⊎◌, Bool, true, slice_get, length, Option, Some, List, [], ◌∷◌, ◌++◌}
use Rattle.std.specs.Option.{option_map}
use Rattle.sm_cc.specs.declared.log.Step.{Step}
use Rattle.sm_cc.specs.declared.explain.StepsBuilder.{StepsBuilder}
use Rattle.sm_cc.specs.Log.{Placed, IsGivenAs, Derives, known_at, Known, Equal, Unequal, Rule, Refl, Sym, Trans, Subst, Alike, Apart, Cong, Hit, Miss, Why, Given, By, Entry}
use Rattle.sm_cc.specs.Closures.{placed_of, Closure, Equation}

-- a fact was given under a number
abbrev pub IsGiven : Placed → ℕ → Known → Type 0
IsGiven v fact (Equal i j) = IsGivenAs v.board.equal v.equal_facts fact i j
IsGiven v fact (Unequal i j) = IsGivenAs v.board.unequal v.unequal_facts fact i j

-- what a step says
abbrev pub step_says : List Step → ℕ → Option Known
step_says steps n = option_map (λ (s : Step). s.known) (slice_get steps n)

-- a fact has a number: it was given under it, or one of the first m steps says it, of which the
-- first has the number `start`
abbrev pub IsStated : Placed → ℕ → List Step → ℕ → ℕ → Known → Type 0
IsStated v start steps m n known =
    IsGiven v n known
    ⊎ ((k : ℕ) × (n ≡ start + k) × (k < m) × (step_says steps k ≡ Some known))

-- each step follows from what was given and from earlier steps
abbrev pub StepsFollow : Placed → ℕ → List Step → Type 0
StepsFollow v start steps =
    (m : ℕ) (s : Step) → slice_get steps m ≡ Some s →
    Derives v.board.rows (IsStated v start steps m) s.rule s.known

-- steps, of which the first has the number `start`, explain why two places are equal
pub record ExplainPlaces (v : Placed) (start : ℕ) (steps : List Step) (i j : ℕ) : Type 0 where
  pub follow : StepsFollow v start steps
  pub before : List Step
  pub last : Step
  pub ends : steps ≡ before ++ last ∷ []
  pub told : last.known ≡ Equal i j

-- the numbers of the facts that a rule takes
abbrev pub numbers_of : Rule → List ℕ
numbers_of Refl = []
numbers_of (Sym n) = n ∷ []
numbers_of (Trans m n) = m ∷ n ∷ []
numbers_of (Subst m n) = m ∷ n ∷ []
numbers_of Alike = []
numbers_of Apart = []
numbers_of (Cong ns) = ns.items
numbers_of (Hit n) = n ∷ []
numbers_of (Miss n) = n ∷ []

-- the numbers of the entries that one follows from
abbrev pub numbers_in : Why → List ℕ
numbers_in (Given fact) = []
numbers_in (By rule) = numbers_of rule

-- each number is below this one
abbrev pub AreBelow : ℕ → List ℕ → Type 0
AreBelow m [] = Unit {0}
AreBelow m (n ∷ ns) = (n < m) × AreBelow m ns

-- an entry is marked
abbrev pub IsMarked : List Bool → ℕ → Type 0
IsMarked marks n = slice_get marks n ≡ Some true

-- each of these entries is marked
abbrev pub AreMarked : List Bool → List ℕ → Type 0
AreMarked marks [] = Unit {0}
AreMarked marks (n ∷ ns) = IsMarked marks n × AreMarked marks ns

-- these are marked, and no others
pub record Marks (before after : List Bool) (ns : List ℕ) : Type 0 where
  pub count : length after ≡ length before
  pub kept : (k : ℕ) → IsMarked before k → IsMarked after k
  pub marked : AreMarked after ns
  pub others :
      (m : ℕ) → AreBelow m ns → (k : ℕ) → m ≤ k → slice_get after k ≡ slice_get before k

-- of the entries from this one on, what a marked one follows from is marked
abbrev pub AreClosedFrom : List Entry → List Bool → ℕ → Type 0
AreClosedFrom entries marks m =
    (k : ℕ) (e : Entry) → m ≤ k → slice_get entries k ≡ Some e → IsMarked marks k →
    AreMarked marks (numbers_in e.why)

-- more is marked
pub record MarksMore (before after : List Bool) : Type 0 where
  pub count : length after ≡ length before
  pub kept : (k : ℕ) → IsMarked before k → IsMarked after k

-- an entry has a number
abbrev pub IsNumber : List ℕ → ℕ → ℕ → Type 0
IsNumber numbers n x = slice_get numbers n ≡ Some x

-- these have these
abbrev pub AreNumbers : List ℕ → List ℕ → List ℕ → Type 0
AreNumbers numbers [] [] = Unit {0}
AreNumbers numbers (n ∷ ns) (x ∷ xs) = IsNumber numbers n x × AreNumbers numbers ns xs
AreNumbers numbers ns xs = ⊥

-- a rule with the numbers that its entries have
abbrev pub IsRenumbered : List ℕ → Rule → Rule → Type 0
IsRenumbered numbers Refl Refl = Unit {0}
IsRenumbered numbers (Sym n) (Sym x) = IsNumber numbers n x
IsRenumbered numbers (Trans m n) (Trans x y) = IsNumber numbers m x × IsNumber numbers n y
IsRenumbered numbers (Subst m n) (Subst x y) = IsNumber numbers m x × IsNumber numbers n y
IsRenumbered numbers Alike Alike = Unit {0}
IsRenumbered numbers Apart Apart = Unit {0}
IsRenumbered numbers (Cong ns) (Cong xs) = AreNumbers numbers ns.items xs.items
IsRenumbered numbers (Hit n) (Hit x) = IsNumber numbers n x
IsRenumbered numbers (Miss n) (Miss x) = IsNumber numbers n x
IsRenumbered numbers rule other = ⊥

-- a step is added, with its number
pub record AddsStep (start : ℕ) (before after : StepsBuilder) (n : ℕ) (from : Rule) (known : Known)
    : Type 0 where
  pub numbers : after.numbers ≡ before.numbers
  pub step : Step
  pub steps : after.steps.items ≡ before.steps.items ++ step ∷ []
  pub told : step.known ≡ known
  pub rule : IsRenumbered before.numbers.items from step.rule
  pub number : n ≡ start + length before.steps.items

-- an entry has a number: that of what was given, or of a step that is added
abbrev pub NumbersEntry : ℕ → StepsBuilder → StepsBuilder → ℕ → Why → Known → Type 0
NumbersEntry start before after n (Given fact) known = (n ≡ fact) × (after ≡ before)
NumbersEntry start before after n (By rule) known = AddsStep start before after n rule known

-- an entry has a number under which its fact is stated
abbrev pub HasNumber : Placed → ℕ → StepsBuilder → ℕ → Known → Type 0
HasNumber v start d n k =
    (x : ℕ) × IsNumber d.numbers.items n x
    × IsStated v start d.steps.items (length d.steps.items) x k

-- the marked ones of the first m entries have numbers
pub record IsDraft (v : Placed) (entries : List Entry) (marks : List Bool) (start m : ℕ) (d : StepsBuilder)
    : Type 0 where
  pub count : length d.numbers.items ≡ m
  pub follow : StepsFollow v start d.steps.items
  pub stated : (n : ℕ) (k : Known) →
      n < m → IsMarked marks n → known_at entries n ≡ Some k → HasNumber v start d n k

-- the equation of a place and its label has a number
abbrev pub RootHasNumber : Closure → ℕ → StepsBuilder → ℕ → Type 0
RootHasNumber c start d i =
    (r : Equation) → slice_get c.roots.items i ≡ Some r →
    HasNumber (placed_of c) start d r.entry (Equal r.left r.right)
