-- What is read of names, declarations, outputs and hole numbers is what the grammar says.
use Rattle.sm_text.proofs.Imports.{◌≡◌, ℕ, ◌<◌, pos, negsuc, refl, sym, ap, ◌∙◌, subst, arith, Bool, true, false, ◌&&◌, Option, Some, None, List, [], ◌∷◌, ◌++◌, length, append_assoc, nat_tests, Sort, Num, Arr, Marked, plain, word, Symbol, Mark, IsHoleNumber, declares, AreNames, AreDeclarations, AreOutputs, with_sort, rest, ◌>>◌, skip, refuse, stands, Expected}
use Rattle.std.specs.Prelude.{nat_le, if◌then◌else◌}
use Rattle.std.proofs.lemmas.List.{append-nil}
use denote.Enum.Bare.{sameb}
use Rattle.sm_syntax.specs.contracts.symbol.Mark.{the_type}
use Rattle.sm_syntax.specs.declared.symbol.Mark.TheVariants as mark
use Rattle.sm_syntax.specs.declared.symbol.Symbol.TheVariants as s
use Rattle.sm_syntax.specs.declared.tree.Name.{Name}
use Rattle.sm_syntax.specs.text.TaskGrammar as task
use Rattle.sm_text.specs.rules.Reading as r
use Rattle.sm_text.proofs.Sound.Parsers.{Possible, Describes, DescribesAt, Both, Is, IsMark, bind, both, weaken, possibly-behind, give}
use Rattle.sm_text.proofs.Sound.Choices.{at_mark, refused_at, choose, after, expect_told}
use Rattle.sm_text.proofs.Sound.Gathered.{Gathers, none, more, gathered}

-- one name
abbrev pub IsName : List Marked → Name → Type 0
IsName us x = us ≡ plain (s.Name x) ∷ []

is_this_name : (x : Name) (us : List Marked) (y : Name) → Is x us y → IsName (plain (s.Name x) ∷ us) y
is_this_name x us y i = let none = i.none in let same = i.same in cc

some_name : Possible IsName
some_name = let x : Name = record { 0 = 0 } in record { list = plain (s.Name x) ∷ []; value = x; fits = refl }

pub name_told : Describes r.name IsName
unfolding r.name
name_told = choose some_name by
  where
    by : (o : Option Symbol) → DescribesAt o (r.name_by o) IsName
    by None = refused_at IsName some_name None
    by (Some (s.Mark m)) = refused_at IsName some_name (Some (s.Mark m))
    by (Some (s.Number z)) = refused_at IsName some_name (Some (s.Number z))
    by (Some (s.Name x)) = after (s.Name x) (is_this_name x) (give x)

-- a comma and a name
abbrev pub IsNextName : List Marked → Name → Type 0
IsNextName us x = us ≡ word mark.Comma ∷ plain (s.Name x) ∷ []

is_next_name : (us : List Marked) (x : Name) → Both (IsMark mark.Comma) (λ _. IsName) us x → IsNextName us x
is_next_name us x b = let parts = b.parts in let one = b.one in let two = b.two in rw (parts, one, two) refl

-- a comma and a name are at least one symbol
pub takes_next_name : (us : List Marked) (x : Name) → IsNextName us x → 0 < length us
takes_next_name us x e = rw e (omega arith)

pub next_name_told : Describes r.next_name IsNextName
unfolding r.next_name
next_name_told = weaken is_next_name (both (expect_told mark.Comma) name_told)

-- names after a first one, in the order of the text
pub record NamesBehind (x : Name) (before : List ℕ) (us : List Marked) (last : List ℕ) : Type 0 where
  pub others : List ℕ
  pub same : last ≡ before ++ others
  pub names : AreNames (plain (s.Name x) ∷ us) (x.0 ∷ others)

one_behind : (x y : Name) (before : List ℕ) (us vs : List Marked) (last : List ℕ) → us ≡ word mark.Comma ∷ plain (s.Name y) ∷ [] →
    NamesBehind y (r.with_name before y) vs last → NamesBehind x before (us ++ vs) last
one_behind x y before us vs last e n =
    let F : List Marked → Type 0 = λ ts. AreNames (plain (s.Name x) ∷ (ts ++ vs)) (x.0 ∷ y.0 ∷ n.others) in
    record {
      others = y.0 ∷ n.others;
      same = n.same ∙ append_assoc before (y.0 ∷ []) n.others;
      names = subst F (sym e) (task.more x n.names);
    }

names_behind : {before : List ℕ} {us : List Marked} {last : List ℕ} → Gathers IsNextName r.with_name before us last → (x : Name) →
    NamesBehind x before us last
names_behind (none before) x = record { others = []; same = sym (append-nil before); names = task.last x }
names_behind (more {us = us} {vs = vs} {x = y} {before = before} {last = last} p rest) x =
    one_behind x y before us vs last p (names_behind rest y)

are_names : (us : List Marked) (xs : List ℕ) → Both IsName (λ x. Gathers IsNextName r.with_name (x.0 ∷ [])) us xs → AreNames us xs
are_names us xs b =
    let n = names_behind b.two b.value in
    let F : List Marked → Type 0 = λ ts. AreNames ts xs in
    let G : List ℕ → Type 0 = λ ys. AreNames (plain (s.Name b.value) ∷ b.behind) ys in
    subst F (sym (b.parts ∙ ap (λ (l : List Marked). l ++ b.behind) b.one)) (subst G (sym n.same) n.names)

pub names_told : Describes r.names AreNames
unfolding r.names r.more_names
names_told = weaken are_names
    (bind name_told (λ x. gathered (stands mark.Comma) r.next_name r.with_name IsNextName next_name_told takes_next_name (x.0 ∷ [])))

-- names up to a semicolon
pub record IsNamesToEnd (us : List Marked) (xs : List ℕ) : Type 0 where
  pub list : List Marked
  pub split : us ≡ list ++ word mark.Semicolon ∷ []
  pub names : AreNames list xs

is_names_to_end : (us : List Marked) (xs : List ℕ) → Both AreNames (λ ys. Both (IsMark mark.Semicolon) (λ _. Is ys)) us xs →
    IsNamesToEnd us xs
is_names_to_end us xs b =
    let F : List ℕ → Type 0 = λ ys. AreNames b.front ys in
    record {
      list = b.front;
      split = b.parts ∙ ap (λ (l : List Marked). b.front ++ l) (b.two.parts ∙ ap (λ (l : List Marked). l ++ b.two.behind) b.two.one
          ∙ ap (λ (l : List Marked). word mark.Semicolon ∷ l) b.two.two.none);
      names = subst F b.two.two.same b.one;
    }

pub names_to_end_told : Describes r.names_to_end IsNamesToEnd
unfolding r.names_to_end
names_to_end_told = weaken is_names_to_end (bind names_told (λ xs. both (expect_told mark.Semicolon) (give xs)))

-- a declaration, before the others
pub record IsDeclaration (us : List Marked) (ds : List (ℕ × Sort)) : Type 0 where
  pub some : 0 < length us
  pub goes : (vs : List Marked) (es : List (ℕ × Sort)) → AreDeclarations vs es → AreDeclarations (us ++ vs) (ds ++ es)

is_declaration : (sort : Sort) (us : List Marked) (ds : List (ℕ × Sort)) → Both IsNamesToEnd (λ xs. Is (with_sort sort xs)) us ds →
    IsDeclaration (word (declares sort) ∷ us) ds
is_declaration sort us ds b = record { some = omega arith; goes = goes }
  where
    line : us ≡ b.one.list ++ word mark.Semicolon ∷ []
    line = b.parts ∙ ap (λ (l : List Marked). b.front ++ l) b.two.none ∙ append-nil b.front ∙ b.one.split

    goes : (vs : List Marked) (es : List (ℕ × Sort)) → AreDeclarations vs es → AreDeclarations (word (declares sort) ∷ us ++ vs) (ds ++ es)
    goes vs es others =
        let F : List Marked → Type 0 = λ ts. AreDeclarations (word (declares sort) ∷ ts) (ds ++ es) in
        let G : List (ℕ × Sort) → Type 0 =
        λ ys. AreDeclarations (word (declares sort) ∷ (b.one.list ++ word mark.Semicolon ∷ vs)) (ys ++ es) in
        subst F (sym (ap (λ (l : List Marked). l ++ vs) line ∙ append_assoc b.one.list (word mark.Semicolon ∷ []) vs))
        (subst G b.two.same (task.more sort b.one.names others))

declared_told : (sort : Sort) → Describes (r.declared sort) (λ us ds. IsDeclaration (word (declares sort) ∷ us) ds)
unfolding r.declared
declared_told sort = weaken (is_declaration sort) (bind names_to_end_told (λ xs. give (with_sort sort xs)))

some_declaration : Possible IsDeclaration
some_declaration = possibly-behind (word mark.Var) (declared_told Num).possible

declares_arrays : (m : Mark) (b : Bool) → sameb the_type m mark.Array ≡ b →
    DescribesAt (Some (s.Mark m)) (if b then skip >> r.declared Arr else refuse Expected) IsDeclaration
declares_arrays m false e = refused_at IsDeclaration some_declaration (Some (s.Mark m))
declares_arrays m true e = at_mark IsDeclaration m mark.Array e (declared_told Arr)

declares_some : (m : Mark) (b : Bool) → sameb the_type m mark.Var ≡ b →
    DescribesAt (Some (s.Mark m))
    (if b then skip >> r.declared Num else (if sameb the_type m mark.Array then skip >> r.declared Arr else refuse Expected)) IsDeclaration
declares_some m false e = declares_arrays m (sameb the_type m mark.Array) refl
declares_some m true e = at_mark IsDeclaration m mark.Var e (declared_told Num)

pub declaration_told : Describes r.declaration IsDeclaration
unfolding r.declaration
declaration_told = choose some_declaration by
  where
    by : (o : Option Symbol) → DescribesAt o (r.declaration_by o) IsDeclaration
    by None = refused_at IsDeclaration some_declaration None
    by (Some (s.Mark m)) = declares_some m (sameb the_type m mark.Var) refl
    by (Some (s.Number z)) = refused_at IsDeclaration some_declaration (Some (s.Number z))
    by (Some (s.Name x)) = refused_at IsDeclaration some_declaration (Some (s.Name x))

-- what declarations add to those before
pub record DeclarationsBehind (before : List (ℕ × Sort)) (us : List Marked) (last : List (ℕ × Sort)) : Type 0 where
  pub others : List (ℕ × Sort)
  pub same : last ≡ before ++ others
  pub declared : AreDeclarations us others

declarations_behind : {before last : List (ℕ × Sort)} {us : List Marked} → Gathers IsDeclaration ◌++◌ before us last →
    DeclarationsBehind before us last
declarations_behind (none before) = record { others = []; same = sym (append-nil before); declared = task.none }
declarations_behind (more {us = us} {vs = vs} {x = ds} {before = before} {last = last} p rest) = one_more (declarations_behind rest)
  where
    one_more : DeclarationsBehind (before ++ ds) vs last → DeclarationsBehind before (us ++ vs) last
    one_more n = record {
      others = ds ++ n.others;
      same = n.same ∙ append_assoc before ds n.others;
      declared = p.goes vs n.others n.declared;
    }

are_declarations : (us : List Marked) (ds : List (ℕ × Sort)) → Gathers IsDeclaration ◌++◌ [] us ds → AreDeclarations us ds
are_declarations us ds b =
    let n = declarations_behind b in
    let F : List (ℕ × Sort) → Type 0 = λ es. AreDeclarations us es in
    subst F (sym n.same) n.declared

pub declarations_told : Describes r.declarations AreDeclarations
unfolding r.declarations r.more_declarations
declarations_told = weaken are_declarations
    (gathered r.begins_declaration r.declaration ◌++◌ IsDeclaration declaration_told (λ us ds i. i.some) [])

are_outputs : (us : List Marked) (xs : List ℕ) → Both (IsMark mark.Output) (λ _. IsNamesToEnd) us xs → AreOutputs us xs
are_outputs us xs b =
    let F : List Marked → Type 0 = λ ts. AreOutputs ts xs in
    subst F (sym (b.parts ∙ ap (λ (l : List Marked). l ++ b.behind) b.one ∙ ap (λ (l : List Marked). word mark.Output ∷ l) b.two.split))
    (task.outputs b.two.names)

pub outputs_told : Describes r.outputs AreOutputs
unfolding r.outputs
outputs_told = weaken are_outputs (both (expect_told mark.Output) names_to_end_told)

-- the number of a hole
pub record IsHole (us : List Marked) (h : ℕ) : Type 0 where
  pub split : us ≡ plain (s.Number (pos h)) ∷ []
  pub inside : IsHoleNumber h

is_hole : (n : ℕ) → IsHoleNumber n → (us : List Marked) (h : ℕ) → Is n us h → IsHole (plain (s.Number (pos n)) ∷ us) h
is_hole n inside us h i =
    let F : ℕ → Type 0 = λ k. IsHole (plain (s.Number (pos n)) ∷ us) k in
    subst F i.same (record { split = ap (λ (l : List Marked). plain (s.Number (pos n)) ∷ l) i.none; inside = inside })

hole_inside : (n : ℕ) → (nat_le 1 n && nat_le n 999) ≡ true → IsHoleNumber n
hole_inside n e = (grind (arith, nat_tests), grind (arith, nat_tests))

some_hole : Possible IsHole
some_hole = record { list = plain (s.Number (pos 1)) ∷ []; value = 1; fits = record { split = refl; inside = (omega arith, omega arith) } }

hole_by_number : (n : ℕ) (b : Bool) → (nat_le 1 n && nat_le n 999) ≡ b →
    DescribesAt (Some (s.Number (pos n))) (r.hole_if (if b then Some n else None)) IsHole
hole_by_number n false e = refused_at IsHole some_hole (Some (s.Number (pos n)))
hole_by_number n true e = after (s.Number (pos n)) (is_hole n (hole_inside n e)) (give n)

pub hole_number_told : Describes r.hole_number IsHole
unfolding r.hole_number
hole_number_told = choose some_hole by
  where
    by : (o : Option Symbol) → DescribesAt o (r.hole_by o) IsHole
    by None = refused_at IsHole some_hole None
    by (Some (s.Mark m)) = refused_at IsHole some_hole (Some (s.Mark m))
    by (Some (s.Number (pos n))) = hole_by_number n (nat_le 1 n && nat_le n 999) refl
    by (Some (s.Number (negsuc n))) = refused_at IsHole some_hole (Some (s.Number (negsuc n)))
    by (Some (s.Name x)) = refused_at IsHole some_hole (Some (s.Name x))
