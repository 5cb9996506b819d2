-- A walk over the parts of a term goes down to a part without a number, or up with one number more.
use Rattle.sm_write.proofs.Imports.{◌≡◌, ◌≢◌, ℕ, ◌<◌, true, false, nat_eq, Option, Some, None, Ok, List, [], ◌∷◌, ◌++◌, length, refl, ap, sym, subst, ◌∙◌, ⊎_elim, update, update_here, update_apart, cases_Bool, Decides-eqb, Sorts, AreApart, TableValue, trees_in, tree_at, TermId, Tree, Start, Havoc, Slot, Cell, Read, Write, Neg, Add, Sub, Mul, Fun, State, TermLine, IsTermLineWithin, Pending, Progress, term_made, Subject, IsLineOf, IsOpenPart, IsBuilt, IsAtom, Seen, KeepsNames, Extends, IsSet, AreBuiltAt, Walks, WriterValue, Stands, AreSeenNamed, Adds, Names, IsNamed}
use Rattle.sm_term.specs.Terms.{Lit}
use Rattle.sm_write.proofs.WriterSteps.{adds_none, adds_twice}

-- an atom that is built is of the kind
pub built_atom : (K : Tree → Type 0) (t : Tree) → IsAtom t → IsBuilt K t → K t
built_atom K (Lit z) a b = absurd a
built_atom K (Start x) a b = absurd a
built_atom K (Havoc k c x) a b = b
built_atom K (Slot c x) a b = absurd a
built_atom K Cell a b = absurd a
built_atom K (Read t i) a b = absurd a
built_atom K (Write t i e) a b = absurd a
built_atom K (Neg t) a b = absurd a
built_atom K (Add t u) a b = absurd a
built_atom K (Sub t u) a b = absurd a
built_atom K (Mul t u) a b = absurd a
built_atom K (Fun c x args) a b = b

-- names are kept
pub kept_none : (names : Names) → KeepsNames names names
kept_none names t n e = e

pub kept_twice : (a b c : Names) → KeepsNames a b → KeepsNames b c → KeepsNames a c
kept_twice a b c first second t n e = second t n (first t n e)

-- a name for a term that had none
pub kept_gains : (names more : Names) (t : ℕ) (m : TermId) → ((q : ℕ) → more q ≡ update nat_eq names t (Some m) q) → names t ≡ None →
    KeepsNames names more
kept_gains names more t m gains none q n e =
    ⊎_elim
    (λ (s : nat_eq q t ≡ true).
    let same : q ≡ t = (Decides-eqb q t).0 s in
    let clash : ◌≡◌ {A = Option TermId} (Some n) None = sym e ∙ (ap names same ∙ none) in
    absurd cc)
    (λ (s : nat_eq q t ≡ false).
    let other : q ≢ t = λ (r : q ≡ t). let true_is : nat_eq q t ≡ true = (Decides-eqb q t).1 r in absurd cc in
    gains q ∙ (update_apart names t (Some m) q other ∙ e))
    (cases_Bool (nat_eq q t))

-- nothing was written
pub extends_none : (s : Subject) (trees : List Tree) (w : WriterValue) (p : Progress) → Stands s trees w p → Extends s trees w w p
extends_none s trees w p at = record { after = p; stands = at; adds = adds_none p; kept = kept_none w.names }

-- more after more
pub extends_twice : (s : Subject) (trees : List Tree) (u v w : WriterValue) (p : Progress) → (a : Extends s trees u v p) →
    Extends s trees v w a.after → Extends s trees u w p
extends_twice s trees u v w p a b = record {
  after = b.after;
  stands = b.stands;
  adds = adds_twice p a.after b.after a.adds b.adds;
  kept = kept_twice u.names v.names w.names a.kept b.kept;
}

-- what was seen is named still
pub seen_kept : (trees : List Tree) (a b : Names) (seen : List State) → KeepsNames a b → AreSeenNamed trees a seen → AreSeenNamed trees b seen
seen_kept trees a b seen kept named t atom h =
    let n = named t atom h in
    (n.0, n.1, n.2, (n.3.0, kept n.0 n.3.0 n.3.1))

-- a writer that wrote terms can name as before
pub set_later : (s : Subject) (v : TableValue) (u w : WriterValue) (seen : List State) (p : Progress) → IsSet s v u seen p →
    (e : Extends s (trees_in v) u w p) → IsSet s v w seen e.after
set_later s v u w seen p set e = record {
  sorts = set.sorts;
  stands = e.stands;
  due = (set.due.0, (set.due.1.0, e.adds.pending ∙ set.due.1.1));
  named = seen_kept (trees_in v) u.names w.names seen e.kept set.named;
}

-- one more that waits, and one less
built_end : (v : TableValue) (seen : List State) (ts : List ℕ) (t : ℕ) → AreBuiltAt v seen ts → IsBuilt (Seen seen) (tree_at (trees_in v) t) →
    AreBuiltAt v seen (ts ++ t ∷ [])
built_end v seen [] t all one = (one, tt)
built_end v seen (u ∷ ts) t all one = (all.0, built_end v seen ts t all.1 one)

built_front : (v : TableValue) (seen : List State) (ts : List ℕ) (t : ℕ) → AreBuiltAt v seen (ts ++ t ∷ []) →
    AreBuiltAt v seen ts × IsBuilt (Seen seen) (tree_at (trees_in v) t)
built_front v seen [] t all = (tt, all.0)
built_front v seen (u ∷ ts) t all = let rest = built_front v seen ts t all.1 in ((all.0, rest.0), rest.1)

-- it goes down
pub walk_down : (v : TableValue) (old new : WriterValue) (t : ℕ) (waiting later : List ℕ) (next p : ℕ) → Walks v old new t waiting next →
    later ≡ waiting ++ next ∷ [] → IsOpenPart v new.names next p → Walks v old new t later p
walk_down v old new t waiting later next p walks is part s seen at set built =
    let w = walks s seen at set built in
    record {
      extends = w.extends;
      built = part.built seen w.built;
      others = subst (AreBuiltAt v seen) (sym is) (built_end v seen waiting next w.others w.built);
    }

-- what a line that was added leads to
abbrev pub AddsTerm : WriterValue → WriterValue → ℕ → TermLine → Type 0
AddsTerm old new t line =
    (s : Subject) (trees : List Tree) (p : Progress) (due : Pending) (rest : List Pending) → Stands s trees old p →
    p.pending ≡ due ∷ rest → t < length trees → IsTermLineWithin line → term_made s.sorts p.terms due line ≡ Ok (tree_at trees t) →
    Stands s trees new (record p { terms = p.terms ++ tree_at trees t ∷ [] })

-- terms that are added
adds_term : (p : Progress) (t : Tree) → Adds p (record p { terms = p.terms ++ t ∷ [] })
adds_term p t = record { nodes = refl; pending = refl; terms = (t ∷ [], refl); forms = (adds_none p).forms }

-- a term without a number that is built of what was seen is no atom
no_atom : (v : TableValue) (names : Names) (seen : List State) (t : ℕ) → AreApart (trees_in v) → AreSeenNamed (trees_in v) names seen →
    t < length (trees_in v) → names t ≡ None → IsBuilt (Seen seen) (tree_at (trees_in v) t) → IsAtom (tree_at (trees_in v) t) → ⊥
no_atom v names seen t apart named inside none built atom =
    let there = named (tree_at (trees_in v) t) atom (built_atom (Seen seen) (tree_at (trees_in v) t) atom built) in
    let same : there.0 ≡ t = apart there.0 t there.1 inside there.2 in
    let clash : ◌≡◌ {A = Option TermId} (Some there.3.0) None = sym there.3.1 ∙ (ap names same ∙ none) in
    absurd cc

-- it goes up: the line of the term was written
pub walk_written : (v : TableValue) (old mid new : WriterValue) (t : ℕ) (waiting : List ℕ) (next : ℕ) (line : TermLine) (m : TermId) →
    AreApart (trees_in v) → Walks v old mid t waiting next → mid.names next ≡ None → IsLineOf v mid.names next line →
    AddsTerm mid new next line → ((q : ℕ) → new.names q ≡ update nat_eq mid.names next (Some m) q) → next < length (trees_in v) →
    Walks v old new t waiting next
walk_written v old mid new t waiting next line m apart walks none makes adds gains inside s seen p set built =
    let w = walks s seen p set built in
    let e = w.extends in
    let here = set_later s v old mid seen p set e in
    let atom = no_atom v mid.names seen next apart here.named inside none w.built in
    let made = makes e.after.terms here.due.0 e.stands.names atom in
    let is : term_made s.sorts e.after.terms here.due.0 line ≡ Ok (tree_at (trees_in v) next) =
    ap (λ (sorts : Sorts). term_made sorts e.after.terms here.due.0 line) here.sorts ∙ made.1 in
    let stands = adds s (trees_in v) e.after here.due.0 here.due.1.0 e.stands here.due.1.1 inside made.0 is in
    record {
      extends = record {
        after = record e.after { terms = e.after.terms ++ tree_at (trees_in v) next ∷ [] };
        stands = stands;
        adds =
            adds_twice p e.after (record e.after { terms = e.after.terms ++ tree_at (trees_in v) next ∷ [] }) e.adds
            (adds_term e.after (tree_at (trees_in v) next));
        kept = kept_twice old.names mid.names new.names e.kept (kept_gains mid.names new.names next m gains none);
      };
      built = w.built;
      others = w.others;
    }

-- a walk goes on at the term that waited last
pub walk_up : (v : TableValue) (old new : WriterValue) (t : ℕ) (waiting before : List ℕ) (next n : ℕ) → Walks v old new t waiting next →
    waiting ≡ before ++ n ∷ [] → Walks v old new t before n
walk_up v old new t waiting before next n walks is s seen p set built =
    let w = walks s seen p set built in
    let both = built_front v seen before n (subst (AreBuiltAt v seen) is w.others) in
    record { extends = w.extends; built = both.1; others = both.0 }

-- a name that was given
pub gained : (names more : Names) (t : ℕ) (m : TermId) → ((q : ℕ) → more q ≡ update nat_eq names t (Some m) q) → more t ≡ Some m
gained names more t m gains = gains t ∙ update_here names t (Some m)

pub gained_at : (names more : Names) (k : ℕ) (t m : TermId) → ((q : ℕ) → more q ≡ update nat_eq names k (Some m) q) → k ≡ t.0 → IsNamed more t
gained_at names more k t m gains e = (m, subst (λ (q : ℕ). more q ≡ Some m) e (gained names more k m gains))
