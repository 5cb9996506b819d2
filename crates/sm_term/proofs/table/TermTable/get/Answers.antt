use Rattle.sm_term.proofs.Imports.{◌≡◌, ◌<◌, ℕ, IsTrue, List, [], length, map, Some, slice_get, sym, ap, subst, get_or_from_slice_get, sort_of, Sorts, declared_of, code_of, Code, block_of, TableValue, trees_behind, trees_in, sorts_in, codes_in, tree_in, tree_at, IsTermWithin, Term, term_fits, AreTermsSound}
use Rattle.sm_term.specs.declared.term.Term.TheVariants.{Cell}
use Rattle.sm_term.proofs.TreesLemmas.{length-trees}
use Rattle.sm_term.proofs.TablesLemmas.{StandsAt, row_at}
use Rattle.sm_term.proofs.table.TermTable.get.Goals as goal

-- the number is a place among the keys
inside : (codes : List Code) (keys : List Term) (table : TableValue) (n : ℕ) → trees_behind codes [] keys ≡ trees_in table → n < length (trees_in table) → n < length keys
inside codes keys table n same h = subst (λ m. n < m) (length-trees codes [] keys) (subst (λ l. n < length l) (sym same) h)

pub get-requires : goal.get-requires
get-requires c =
    let codes = map code_of (map block_of c.self.inside.bodies) in
    inside codes c.self.inside.terms c.args.self.now c.args.t.0 (ap trees_in c.self.view_is) c.requires

-- the row that stands at a number
pub row_got : (sorts : Sorts) (codes : List Code) (keys : List Term) (n : ℕ) (t : Term) → AreTermsSound sorts codes [] keys → n < length keys → slice_get keys n ≡ Some t → StandsAt sorts codes (trees_behind codes [] keys) n t
row_got sorts codes keys n t sound h found =
    subst (StandsAt sorts codes (trees_behind codes [] keys) n) (get_or_from_slice_get keys n t Cell found) (row_at sorts codes keys sound n h)

pub returns-clause-tree : goal.returns-clause-tree
returns-clause-tree c =
    let keys = c.self.inside.terms in
    let codes = map code_of (map block_of c.self.inside.bodies) in
    let at = inside codes keys c.args.self.now c.args.t.0 (ap trees_in c.self.view_is) c.requires in
    let place = row_got (sort_of (declared_of c.self.inside.decls)) codes keys c.args.t.0 c.get.result.now c.self.invariant.1.sound at c.get.ensures in
    subst (λ v. tree_in (codes_in v) (trees_in v) c.get.result.now ≡ tree_at (trees_in v) c.args.t.0) c.self.view_is (sym place.tree)

pub returns-clause-before : goal.returns-clause-before
returns-clause-before c =
    let keys = c.self.inside.terms in
    let codes = map code_of (map block_of c.self.inside.bodies) in
    let at = inside codes keys c.args.self.now c.args.t.0 (ap trees_in c.self.view_is) c.requires in
    let place = row_got (sort_of (declared_of c.self.inside.decls)) codes keys c.args.t.0 c.get.result.now c.self.invariant.1.sound at c.get.ensures in
    subst (λ v. IsTermWithin (sorts_in v) (length (codes_in v)) c.args.t.0 c.get.result.now) c.self.view_is place.before

pub returns-clause-fits : goal.returns-clause-fits
returns-clause-fits c =
    let keys = c.self.inside.terms in
    let codes = map code_of (map block_of c.self.inside.bodies) in
    let at = inside codes keys c.args.self.now c.args.t.0 (ap trees_in c.self.view_is) c.requires in
    let place = row_got (sort_of (declared_of c.self.inside.decls)) codes keys c.args.t.0 c.get.result.now c.self.invariant.1.sound at c.get.ensures in
    subst (λ v. IsTrue (term_fits (sorts_in v) (trees_in v) c.get.result.now)) c.self.view_is place.fit
