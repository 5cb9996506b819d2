-- No public clause cites this file.
-- How names, declarations, outputs and hole numbers are read.
use Rattle.std.specs.Prelude.{ℕ, ℤ, pos, negsuc, nat_le, Bool, true, false, ◌&&◌, ◌||◌, if◌then◌else◌, Option, Some, None, List, [], ◌∷◌, ◌++◌}
use denote.Enum.Bare.{sameb}
use Rattle.sm_syntax.specs.contracts.symbol.Mark.{the_type}
use Rattle.sm_syntax.specs.declared.symbol.Mark.{Mark}
use Rattle.sm_syntax.specs.declared.symbol.Mark.TheVariants as mark
use Rattle.sm_syntax.specs.declared.symbol.Symbol.{Symbol}
use Rattle.sm_syntax.specs.declared.symbol.Symbol.TheVariants as s
use Rattle.sm_syntax.specs.declared.tree.Name.{Name}
use Rattle.sm_syntax.specs.declared.tree.Sort.{Sort}
use Rattle.sm_syntax.specs.declared.tree.Sort.TheVariants.{Num, Arr}
use Rattle.sm_syntax.specs.text.TaskGrammar.{with_sort}
use Rattle.sm_text.specs.rules.Parsers.{Parser, ◌>>=◌, ◌>>◌, pure, peek, skip, refuse, expect, stands, gather, Expected}

-- whether a name stands there
abbrev pub begins_name : Option Symbol → Bool
begins_name None = false
begins_name (Some (s.Mark m)) = false
begins_name (Some (s.Number z)) = false
begins_name (Some (s.Name x)) = true

-- a name
abbrev pub name_by : Option Symbol → Parser Name
name_by None = refuse Expected
name_by (Some (s.Mark m)) = refuse Expected
name_by (Some (s.Number z)) = refuse Expected
name_by (Some (s.Name x)) = skip >> pure x

unfoldable pub name : Parser Name
name = peek >>= name_by

-- a comma and a name
unfoldable pub next_name : Parser Name
next_name = expect mark.Comma >> name

-- one more name
abbrev pub with_name : List ℕ → Name → List ℕ
with_name xs x = xs ++ x.0 ∷ []

-- the names after those that were read
unfoldable pub more_names : List ℕ → Parser (List ℕ)
more_names before = gather (stands mark.Comma) next_name with_name before

-- names with commas between them
unfoldable pub names : Parser (List ℕ)
names = do
  x ← name
  more_names (x.0 ∷ [])

-- names up to the semicolon after them
unfoldable pub names_to_end : Parser (List ℕ)
names_to_end = do
  xs ← names
  expect mark.Semicolon
  pure xs

-- the names of a declaration, after its word
unfoldable pub declared : Sort → Parser (List (ℕ × Sort))
declared sort = do
  xs ← names_to_end
  pure (with_sort sort xs)

-- a declaration that begins with a mark
abbrev pub declaration_at : Mark → Parser (List (ℕ × Sort))
declaration_at m =
    if sameb the_type m mark.Var then skip >> declared Num else
    (if sameb the_type m mark.Array then skip >> declared Arr else refuse Expected)

abbrev pub declaration_by : Option Symbol → Parser (List (ℕ × Sort))
declaration_by None = refuse Expected
declaration_by (Some (s.Number z)) = refuse Expected
declaration_by (Some (s.Name x)) = refuse Expected
declaration_by (Some (s.Mark m)) = declaration_at m

unfoldable pub declaration : Parser (List (ℕ × Sort))
declaration = peek >>= declaration_by

-- whether a declaration begins there
abbrev pub begins_declaration : Option Symbol → Bool
begins_declaration o = stands mark.Var o || stands mark.Array o

-- the declarations after those that were read
unfoldable pub more_declarations : List (ℕ × Sort) → Parser (List (ℕ × Sort))
more_declarations before = gather begins_declaration declaration ◌++◌ before

-- all declarations
unfoldable pub declarations : Parser (List (ℕ × Sort))
declarations = more_declarations []

-- the outputs
unfoldable pub outputs : Parser (List ℕ)
outputs = expect mark.Output >> names_to_end

-- the number of a hole, from 1 to 999
abbrev pub hole_of : ℤ → Option ℕ
hole_of (pos n) = if nat_le 1 n && nat_le n 999 then Some n else None
hole_of (negsuc n) = None

abbrev pub hole_if : Option ℕ → Parser ℕ
hole_if None = refuse Expected
hole_if (Some h) = skip >> pure h

abbrev pub hole_by : Option Symbol → Parser ℕ
hole_by None = refuse Expected
hole_by (Some (s.Mark m)) = refuse Expected
hole_by (Some (s.Name x)) = refuse Expected
hole_by (Some (s.Number z)) = hole_if (hole_of z)

unfoldable pub hole_number : Parser ℕ
hole_number = peek >>= hole_by
