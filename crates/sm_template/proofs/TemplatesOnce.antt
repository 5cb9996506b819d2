-- No template of a name stands twice, and templates depend on declarations and literals alone.
use Rattle.sm_template.proofs.Imports.{◌≡◌, List, ◌++◌, ap, flat_map, fun_ext, Code, Fillings, Copy, Parts, Assertion, loop_guard, loop_body, only_in, distinct, guard_templates, literals_of, same_formula, name_templates, written_templates, names_written}
use Rattle.sm_moves.specs.CopySets.{members}
use Rattle.sm_template.specs.TemplateLaws.{BlockTemplatesStandOnce, LoopTemplatesStandOnce, TemplatesDependOnTwo}
use Rattle.sm_template.proofs.BoundsLemmas.{distinct_behind, guard_bounds, all_bounds, bounds_new}
use Rattle.sm_template.proofs.NameRepeats.{templates_once}
use Rattle.sm_template.proofs.RepeatsLemmas.{distinct_same}

pub block_once : BlockTemplatesStandOnce
block_once t code numbered = distinct_same same_formula (written_templates t code) (templates_once t numbered code)

pub loop_once : LoopTemplatesStandOnce
loop_once t set code numbered =
    let bodies = only_in set (λ (c : Copy). loop_body (code c)) in
    let guards = λ (c : Copy). guard_templates (loop_guard (code c)) c in
    distinct_behind same_formula (written_templates t bodies) (flat_map guards (members set)) (templates_once t numbered bodies)
    (bounds_new (literals_of t) (names_written t.declared bodies) (flat_map guards (members set))
    (all_bounds guards (λ (c : Copy). guard_bounds (loop_guard (code c)) c) (members set)))

written_same : (t u : Parts) (code : Copy → Code) → t.declared ≡ u.declared → literals_of t ≡ literals_of u →
    written_templates t code ≡ written_templates u code
written_same t u code d l = λ k. flat_map (name_templates (l k)) (names_written (d k) code)

literals_same : (t u : Parts) → ((c : Copy) → t.fillings c ≡ u.fillings c) → literals_of t ≡ literals_of u
literals_same t u f =
    ap
    (λ (fillings : Copy → Fillings).
    literals_of (record {
      names = t.names;
      declared = t.declared;
      outputs = t.outputs;
      assumed = t.assumed;
      shared = t.shared;
      fillings = fillings;
    }))
    (fun_ext f)

pub depend_on_two : TemplatesDependOnTwo
depend_on_two t u set code d f =
    let l = literals_same t u f in
    let bodies = only_in set (λ (c : Copy). loop_body (code c)) in
    let guards = flat_map (λ (c : Copy). guard_templates (loop_guard (code c)) c) (members set) in (
      ap (distinct same_formula) (written_same t u code d l),
      ap (λ (fs : List Assertion). distinct same_formula (fs ++ guards)) (written_same t u bodies d l),
    )
