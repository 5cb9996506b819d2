-- Private: a log of what is known of places, each fact by a rule from facts with numbers.
use Rattle.std.specs.Prelude.{◌≡◌, ℕ, ◌<◌, IsTrue, not, slice_get, length, Option, Some, List, [], ◌∷◌}
use Rattle.std.specs.Option.{option_map}
use Rattle.std.specs.Ordering.{int_eq}
pub use Rattle.sm_cc.specs.declared.log.Known.{Known}
pub use Rattle.sm_cc.specs.declared.log.Known.TheVariants.{Equal, Unequal}
pub use Rattle.sm_cc.specs.declared.log.Rule.{Rule}
use Rattle.sm_cc.specs.declared.log.Rule.TheVariants as rule
pub use Rattle.sm_cc.specs.declared.log.Why.{Why}
use Rattle.sm_cc.specs.declared.log.Why.TheVariants as why
pub use Rattle.sm_cc.specs.declared.log.Entry.{Entry}
use Rattle.sm_cc.specs.Rows.{Board, rows_pass, shapes_pass, one_head, Row, Element}
pub use Rattle.sm_cc.specs.declared.log.Rule.TheVariants.{Alike, Apart, Cong, Hit, Miss, Refl, Subst, Sym, Trans}
pub use Rattle.sm_cc.specs.declared.log.Why.TheVariants.{By, Given}

-- what is seen of classes over places: the board, and the number under which each pair was given
pub record Placed : Type 0 where
  pub board : Board
  pub equal_facts : List ℕ
  pub unequal_facts : List ℕ

-- two places are there
abbrev pub AreIn : List Row → ℕ → ℕ → Type 0
AreIn rows i j = (i < length rows) × (j < length rows)

-- a row has an element
abbrev pub HasElement : List Row → ℕ → Element → Type 0
HasElement rows i e = (r : Row) × (slice_get rows i ≡ Some r) × (r.element ≡ Some e)

-- a pair was given under a number
abbrev pub IsGivenAs : List (ℕ × ℕ) → List ℕ → ℕ → ℕ → ℕ → Type 0
IsGivenAs pairs facts fact i j =
    (n : ℕ) × (slice_get pairs n ≡ Some (i, j)) × (slice_get facts n ≡ Some fact)

-- the facts with these numbers say in order that places are equal
abbrev pub SayEqual : (ℕ → Known → Type 0) → List ℕ → List ℕ → List ℕ → Type 0
SayEqual has [] [] [] = Unit {0}
SayEqual has (n ∷ ns) (i ∷ is) (j ∷ js) = has n (Equal i j) × SayEqual has ns is js
SayEqual has ns is js = ⊥

-- a rule gives a fact from facts with numbers
abbrev pub Derives : List Row → (ℕ → Known → Type 0) → Rule → Known → Type 0
Derives rows has rule.Refl (Equal i j) = (i ≡ j) × (i < length rows)
Derives rows has (rule.Sym n) (Equal i j) = has n (Equal j i)
Derives rows has (rule.Sym n) (Unequal i j) = has n (Unequal j i)
Derives rows has (rule.Trans m n) (Equal i j) =
    (k : ℕ) × has m (Equal i k) × has n (Equal k j)
Derives rows has (rule.Subst m n) (Unequal i j) =
    (k : ℕ) × has m (Unequal k j) × has n (Equal k i)
Derives rows has rule.Alike (Equal i j) =
    IsTrue (rows_pass rows i j (λ r s. shapes_pass r s int_eq))
Derives rows has rule.Apart (Unequal i j) =
    IsTrue (rows_pass rows i j (λ r s. shapes_pass r s (λ y z. not (int_eq y z))))
Derives rows has (rule.Cong ns) (Equal i j) =
    (r : Row) × (s : Row) × (slice_get rows i ≡ Some r) × (slice_get rows j ≡ Some s)
    × IsTrue (one_head r s) × SayEqual has ns.items r.arguments.items s.arguments.items
Derives rows has (rule.Hit n) (Equal i j) =
    (e : Element) × HasElement rows i e × (j < length rows)
    × has n (Equal e.index e.other) × (j ≡ e.written)
Derives rows has (rule.Miss n) (Equal i j) =
    (e : Element) × HasElement rows i e × (j < length rows)
    × has n (Unequal e.index e.other) × (j ≡ e.before)
Derives rows has other known = ⊥

-- a fact was given, or follows from facts with numbers
abbrev pub Follows : Placed → (ℕ → Known → Type 0) → Why → Known → Type 0
Follows v has (why.Given fact) (Equal i j) =
    IsGivenAs v.board.equal v.equal_facts fact i j × AreIn v.board.rows i j
Follows v has (why.Given fact) (Unequal i j) =
    IsGivenAs v.board.unequal v.unequal_facts fact i j × AreIn v.board.rows i j
Follows v has (why.By rule) known = Derives v.board.rows has rule known

-- what an entry says
abbrev pub known_at : List Entry → ℕ → Option Known
known_at entries n = option_map (λ (e : Entry). e.known) (slice_get entries n)

-- an entry before this one says a fact
abbrev pub Before : List Entry → ℕ → ℕ → Known → Type 0
Before entries m n known = (n < m) × (known_at entries n ≡ Some known)

-- each entry follows from earlier ones
abbrev pub AllFollow : Placed → List Entry → Type 0
AllFollow v entries =
    (m : ℕ) (e : Entry) → slice_get entries m ≡ Some e → Follows v (Before entries m) e.why e.known
