use Rattle.sm_suggest.proofs.Imports.{◌≡◌, ℕ, List, length, map, sym, ap, ◌∙◌, arith, Copy, holes_of, copy_named, code_of, lists_of, Task, choices, chosen}
use Rattle.sm_suggest.proofs.ChoicesLemmas.{as_many}
use Rattle.sm_suggest.proofs.CombinedLemmas.{combined}
use Rattle.sm_suggest.proofs.combining.combine_fillings.Goals as goal

pub chosen-requires : goal.chosen-requires
chosen-requires c =
    let len : c.len.result ≡ length c.in_ok-holes.holes.items = omega (arith, c.len.ensures, c.in_ok-holes.holes.ok.0) in
    let many = as_many c.in_ok-copies.copies.items c.len.result c.args.k c.in_ok-copies.ensures in
    ap length c.deref-2.ensures.value ∙ many ∙ len ∙ sym (ap length c.deref.ensures.value)

pub returns : goal.returns
returns c =
    let task = c.args.task.now in
    let lists = lists_of task.lists in
    let holes : c.deref.result.now ≡ holes_of (code_of task.shared.body) = c.deref.ensures.value ∙ c.in_ok-holes.ensures in
    let len : c.len.result ≡ length c.in_ok-holes.holes.items = omega (arith, c.len.ensures, c.in_ok-holes.holes.ok.0) in
    let count = len ∙ ap length c.in_ok-holes.ensures in
    let copies = ap (map copy_named) c.deref-2.ensures.value ∙ c.in_ok-copies.ensures ∙ ap (λ (n : ℕ). choices n c.args.k) count in
    let candidate =
    c.in_ok-with_candidate.ensures.candidate ∙ c.in_ok-candidate.ensures
    ∙ ap (λ (hs : List ℕ). chosen lists hs (map copy_named c.deref-2.result.now)) holes
    ∙ ap (λ (cs : List Copy). chosen lists (holes_of (code_of task.shared.body)) cs) copies in
    let made : Task = record {
      shared = c.in_ok-copy_program.field-0;
      assumed = c.in_ok-copy_assumed.field-0;
      lists = c.in_ok-with_candidate.field-0;
    } in
    combined task made c.args.k c.in_ok-copy_program.ensures c.in_ok-copy_assumed.ensures c.in_ok-with_candidate.ensures.base
    c.in_ok-with_candidate.ensures.a c.in_ok-with_candidate.ensures.b candidate
