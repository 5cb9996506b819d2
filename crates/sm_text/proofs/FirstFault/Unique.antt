-- At most one fault is the first: its place is the least, its rank there the lowest, and a text has one lexical fault.
use Rattle.sm_text.proofs.Imports.{◌≡◌, ℕ, sym, ap, ◌∙◌, arith, Some, LexFault, LexKind, Grammar, Source, IsFault, place_of, rank_of, TextError, OneFirstFault}
use Rattle.sm_syntax.specs.declared.token.LexKind.TheVariants as kind
use Rattle.sm_text.specs.declared.error.TextError.TheVariants as error

-- the error of a lexical fault
lexical : LexKind → ℕ → TextError
lexical kind.BadByte place = error.BadByte place
lexical kind.WideNumber place = error.WideNumber place
lexical kind.BadToken place = error.BadToken place

same_fault : (f g : LexFault) → Some f ≡ Some g → lexical f.kind f.place ≡ lexical g.kind g.place
unfolding lexical
same_fault f g e = let same : f ≡ g = cc in ap (λ (h : LexFault). lexical h.kind h.place) same

-- a fault of the rules, by its rank and its place
expected_at : (e : TextError) (place : ℕ) → rank_of e ≡ 1 → place_of e ≡ place → e ≡ error.Expected place
expected_at (error.BadByte p) place r e = absurd (omega (arith, r))
expected_at (error.WideNumber p) place r e = absurd (omega (arith, r))
expected_at (error.BadToken p) place r e = absurd (omega (arith, r))
expected_at (error.Expected p) place r e = ap error.Expected e
expected_at (error.Nested p) place r e = absurd (omega (arith, r))
expected_at error.Memory place r e = absurd (omega (arith, r))

nested_at : (e : TextError) (place : ℕ) → rank_of e ≡ 2 → place_of e ≡ place → e ≡ error.Nested place
nested_at (error.BadByte p) place r e = absurd (omega (arith, r))
nested_at (error.WideNumber p) place r e = absurd (omega (arith, r))
nested_at (error.BadToken p) place r e = absurd (omega (arith, r))
nested_at (error.Expected p) place r e = absurd (omega (arith, r))
nested_at (error.Nested p) place r e = ap error.Nested e
nested_at error.Memory place r e = absurd (omega (arith, r))

module _ (spells : Grammar) (source : Source) where
  -- a lexical fault, by that of the text
  lexical_at : (e : TextError) (f : LexFault) → rank_of e ≡ 0 → source.fault ≡ Some f → IsFault spells source e → e ≡ lexical f.kind f.place
  unfolding lexical
  lexical_at (error.BadByte p) f r is x = same_fault (record { kind = kind.BadByte; place = p }) f (sym x ∙ is)
  lexical_at (error.WideNumber p) f r is x = same_fault (record { kind = kind.WideNumber; place = p }) f (sym x ∙ is)
  lexical_at (error.BadToken p) f r is x = same_fault (record { kind = kind.BadToken; place = p }) f (sym x ∙ is)
  lexical_at (error.Expected p) f r is x = absurd (omega (arith, r))
  lexical_at (error.Nested p) f r is x = absurd (omega (arith, r))
  lexical_at error.Memory f r is x = absurd x

  alike : (e f : TextError) → IsFault spells source e → IsFault spells source f → rank_of f ≡ rank_of e → place_of f ≡ place_of e → f ≡ e
  unfolding lexical
  alike (error.BadByte p) f x y r e = lexical_at f (record { kind = kind.BadByte; place = p }) r x y
  alike (error.WideNumber p) f x y r e = lexical_at f (record { kind = kind.WideNumber; place = p }) r x y
  alike (error.BadToken p) f x y r e = lexical_at f (record { kind = kind.BadToken; place = p }) r x y
  alike (error.Expected p) f x y r e = expected_at f p r e
  alike (error.Nested p) f x y r e = nested_at f p r e
  alike error.Memory f x y r e = absurd x

pub one_first_fault : (spells : Grammar) → OneFirstFault spells
one_first_fault spells source e f x y =
    let before = x.least f y.stands in
    let after = y.least e x.stands in
    let place : place_of e ≡ place_of f = omega (arith, before, after) in
    let lower = x.order f y.stands (sym place) in
    let higher = y.order e x.stands place in
    sym (alike spells source e f x.stands y.stands (omega (arith, lower, higher)) (sym place))
