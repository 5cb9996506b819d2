-- The last terms of the table, with all of its bodies.
use Rattle.sm_term.proofs.Imports.{◌≡◌, [], map, drop, take, length, sym, ap, subst, ◌∙◌, arith, sort_of, declared_of, code_of, block_of, body_code, contents_of, trees_behind, trees_in, sorts_in, codes_in, AreTermsSound, AreCodesSorted}
use Rattle.sm_term.proofs.TreesLemmas.{length-trees}
use Rattle.sm_term.proofs.TailsLemmas.{two_maps, tail_trees, tail_sound}
use Rattle.sm_term.proofs.table.TermTable.tail.Goals as goal

pub part_from-requires : goal.part_from-requires
part_from-requires c =
    let codes = map code_of (map block_of c.self.inside.bodies) in
    let many = ap length c.as_slice-2.ensures.values in
    let long = length-trees codes [] c.self.inside.terms in
    let whole = ap (λ v. length (trees_in v)) c.self.view_is in
    omega (arith, many, long, whole, c.requires)

pub returns-clause-codes : goal.returns-clause-codes
returns-clause-codes c = c.in_ok-blocks.ensures ∙ ap (map body_code) c.as_slice.ensures.values ∙ two_maps c.self.inside.bodies ∙ ap codes_in c.self.view_is

pub returns-clause-trees : goal.returns-clause-trees
returns-clause-trees c =
    let codes = map code_of (map block_of c.self.inside.bodies) in
    let keys = c.self.inside.terms in
    let same_codes = c.in_ok-blocks.ensures ∙ ap (map body_code) c.as_slice.ensures.values ∙ two_maps c.self.inside.bodies in
    let rows = c.in_ok-list.ensures ∙ ap (map contents_of) (c.part_from.ensures ∙ ap (drop c.args.from) c.as_slice-2.ensures.values) in
    subst (λ v. trees_behind (map code_of c.in_ok-blocks.blocks.items) (take c.args.from (trees_in v)) c.in_ok-list.list.items ≡ drop c.args.from (trees_in v)) c.self.view_is
    (tail_trees codes _ same_codes keys c.args.from _ rows)

pub returns-clause-sound : goal.returns-clause-sound
returns-clause-sound c =
    let sorts = sort_of (declared_of c.self.inside.decls) in
    let codes = map code_of (map block_of c.self.inside.bodies) in
    let keys = c.self.inside.terms in
    let same_codes = c.in_ok-blocks.ensures ∙ ap (map body_code) c.as_slice.ensures.values ∙ two_maps c.self.inside.bodies in
    let rows = c.in_ok-list.ensures ∙ ap (map contents_of) (c.part_from.ensures ∙ ap (drop c.args.from) c.as_slice-2.ensures.values) in
    subst (λ v. AreTermsSound (sorts_in v) (map code_of c.in_ok-blocks.blocks.items) (take c.args.from (trees_in v)) c.in_ok-list.list.items × AreCodesSorted (sorts_in v) (map code_of c.in_ok-blocks.blocks.items)) c.self.view_is
    (tail_sound sorts codes _ same_codes keys c.args.from _ rows c.self.invariant.1.sound, subst (AreCodesSorted sorts) (sym same_codes) c.self.invariant.1.codes_sorted)
