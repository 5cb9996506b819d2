-- The forms that are left go in behind those so far.
use Rattle.sm_exact.proofs.Imports.{map, [], sym, ap, ◌∙◌, arith, nil_from_length, entered, eliminated_item, before}
use Rattle.sm_exact.proofs.EntryLemmas.{turn_left, end_left, goes_list, going_other}
use Rattle.sm_exact.proofs.equation.eliminate_all.Goals as goal

pub loop-f-init : goal.loop-f-init
loop-f-init c =
    let item = eliminated_item c.args.e.now c.args.t in
    ap (λ l. entered c.args.steps (map item l) c.args.count) (sym c.into_iter-f-iterator.ensures.into_iter_gives.0)
    ∙ ap (λ l. before l (entered c.args.steps (map item c.into_iter-f-iterator.result.rest.items) c.args.count))
    (sym c.in_ok-out.ensures.items)

pub loop-f-preserved : goal.loop-f-preserved
loop-f-preserved c =
    let item = eliminated_item c.args.e.now c.args.t in
    let whole = entered c.args.steps (map item c.args.forms.items) c.args.count in
    let goes = turn_left whole c.args.steps item c.loop-f.f-iterator.rest.items c.next.new.self.rest.items c.in-Some.f c.loop-f.out.items
    c.loop-f.counted c.in_ok-other.other c.loop-f.invariant c.in-Some.ensures.steps.0 c.in_ok-other.ensures in
    goes_list whole c.args.steps c.in_ok-other.other (map item c.next.new.self.rest.items) c.in-List.forms c.in-List.count goes c.in-List.is

pub returns-in_default : goal.returns-in_default
returns-in_default c =
    let item = eliminated_item c.args.e.now c.args.t in
    let whole = entered c.args.steps (map item c.args.forms.items) c.args.count in
    let goes = turn_left whole c.args.steps item c.loop-f.f-iterator.rest.items c.next.new.self.rest.items c.in-Some.f c.loop-f.out.items
    c.loop-f.counted c.in_ok-other.other c.loop-f.invariant c.in-Some.ensures.steps.0 c.in_ok-other.ensures in
    goes ∙ going_other c.args.steps c.in_ok-other.other (map item c.next.new.self.rest.items) c.in_default.not-List

pub returns : goal.returns
returns c =
    let item = eliminated_item c.args.e.now c.args.t in
    let whole = entered c.args.steps (map item c.args.forms.items) c.args.count in
    let rest = c.loop-f.f-iterator.rest in
    end_left whole c.args.steps item rest.items c.loop-f.out.items c.loop-f.counted c.loop-f.invariant
    (nil_from_length rest.items (omega (arith, rest.ok.0, c.in-None.ensures.steps.0)))
