-- The walk goes on as the visit of the branch tells, and both parts begin from the same facts and the same base.
use Rattle.sm_solve.proofs.Imports.{◌≡◌, ◌+◌, ◌-◌, ◌*◌, ◌<◌, ℕ, List, [], ◌∷◌, ◌++◌, length, take, IfOk, sym, ap, subst, ◌∙◌, arith, length-append, Assertion, numbered, assertion_in, Formula, AreFormsSorted, trees_in, sorts_in, Visit, branch_of, all_numbered, assertions_in, AreFormulasWithin, split_told, Walked, AreNamed, NamesNoMore, walk_from, by_classes, by_split, TellsVisit, ShowsVisit, IsVisitCounted, TellsEnd, ShowsEnd, IsEndCounted, facts_count}
use Rattle.std.proofs.Common.{Some}
use Rattle.sm_solve.proofs.BasesLemmas.{led_same, led_longer}
use Rattle.sm_solve.proofs.NamingLemmas.{named_more}
use Rattle.sm_solve.proofs.SortedLemmas.{sorted_more, told_sorted}
use Rattle.sm_solve.proofs.WalkingLemmas.{walk_next, cut_back}
use Rattle.sm_solve.proofs.walking.+walk.Goals as goal

pub walk_from-visit_branch-requires-clause-led : goal.walk_from-visit_branch-requires-clause-led
walk_from-visit_branch-requires-clause-led t c =
    let led = c.requires.led in (
      led.0,
      led.1,
      led_same led.0 c.args.cx.now.table.now c.args.cx.now.terms.now.list.items c.args.facts.now.items c.as_slice.result.now c.as_slice.ensures.value led.2,
    )

pub walk_from-walk_on-requires : goal.walk_from-walk_on-requires
walk_from-walk_on-requires t c =
    let sorts = sorts_in c.args.cx.now.table.now in
    let trees = trees_in c.args.cx.now.table.now in
    let whole : 4 * c.args.room ≡ t = c.decreases in
    let less : 4 * (c.args.room - 1) + 3 < t = omega arith in
    let led = c.requires.led in
    let shows = subst (λ (fs : List Formula). ShowsVisit sorts trees (assertions_in sorts trees (all_numbered fs)) c.in_ok-visit.visit)
    c.as_slice.ensures.value c.in_ok-visit.ensures.shows in
    let still = c.in_ok-visit.ensures.stays led.0 led.1 in (
      less,
      (
        c.requires.forms,
        (
          c.requires.whole,
          (
            c.requires.within,
            (
              c.requires.sorted,
              (
                shows,
                (
                  c.in_ok-visit.ensures.counted,
                  ((led.0, still, led.2), c.requires.named),
                ),
              ),
            ),
          ),
        ),
      ),
    )

pub walk_from-returns-clause-tells : goal.walk_from-returns-clause-tells
walk_from-returns-clause-tells t c =
    let table = c.args.cx.now.table.now in
    let sorts = sorts_in table in
    let trees = trees_in table in
    let all = assertions_in sorts trees (all_numbered c.args.facts.now.items) in
    let go = walk_from sorts trees c.args.cx.now.reach (c.args.room - 1) in
    let less : c.args.count < c.args.cx.now.reach.steps = omega arith in
    let next = walk_next sorts trees c.args.cx.now.reach c.args.room c.args.count all c.if-room-eq0.false less in
    let told = subst (λ (fs : List Formula). TellsVisit sorts trees (assertions_in sorts trees (all_numbered fs)) go c.in_ok-visit.visit
    (by_classes go c.args.cx.now.reach (branch_of table fs) (c.args.count + 1))) c.as_slice.ensures.value (c.in_ok-visit.ensures.tells go) in
    c.walk_on.ensures.tells (walk_from sorts trees c.args.cx.now.reach c.args.room c.args.count all)
    (subst (λ (w : Walked). TellsVisit sorts trees all go c.in_ok-visit.visit w) (sym next) told)

pub walk_from-returns-clause-shows : goal.walk_from-returns-clause-shows
walk_from-returns-clause-shows t c =
    let sorts = sorts_in c.args.cx.now.table.now in
    let trees = trees_in c.args.cx.now.table.now in
    let all = assertions_in sorts trees (all_numbered c.args.facts.now.items) in
    let room : c.args.room - 1 + 1 ≡ c.args.room = omega arith in
    subst (λ (n : ℕ). IfOk c.walk_on.result (ShowsEnd sorts trees all n)) room c.walk_on.ensures.shows

pub walk_from-returns-clause-stays : goal.walk_from-returns-clause-stays
walk_from-returns-clause-stays t c = λ v from. c.walk_on.ensures.stays v (c.in_ok-visit.ensures.stays v from)

pub walk_on-walk_parts-requires : goal.walk_on-walk_parts-requires
walk_on-walk_parts-requires t c =
    let sorts = sorts_in c.args.cx.now.table.now in
    let trees = trees_in c.args.cx.now.table.now in
    let all = assertions_in sorts trees (all_numbered c.args.facts.now.items) in
    let whole : 4 * c.args.room + 3 ≡ t = c.decreases in
    let less : 4 * c.args.room + 2 < t = omega arith in
    let counted = subst (IsVisitCounted c.args.cx.now.reach.steps) c.in-Split.is c.requires.counted in
    let shows = subst (ShowsVisit sorts trees all) c.in-Split.is c.requires.shows in
    (less, (c.requires.forms, (c.requires.whole, (c.requires.within, (c.requires.sorted, (counted, (c.requires.led, (shows.0, (shows.1, (c.requires.named, shows.2))))))))))

pub walk_on-returns-in-Split-clause-tells : goal.walk_on-returns-in-Split-clause-tells
walk_on-returns-in-Split-clause-tells t c = λ w told.
    let sorts = sorts_in c.args.cx.now.table.now in
    let trees = trees_in c.args.cx.now.table.now in
    let all = assertions_in sorts trees (all_numbered c.args.facts.now.items) in
    let go = walk_from sorts trees c.args.cx.now.reach c.args.room in
    let is : w ≡ by_split go all (split_told sorts trees (Some c.in-Split.split)) c.in-Split.at =
    subst (λ (v : Visit). TellsVisit sorts trees all go v w) c.in-Split.is told in
    subst (λ (v : Walked). IfOk c.walk_parts.result (λ e. TellsEnd sorts trees e v)) (sym is) c.walk_parts.ensures.tells

pub walk_part-walk_from-requires : goal.walk_part-walk_from-requires
walk_part-walk_from-requires t c =
    let table = c.args.cx.now.table.now in
    let sorts = sorts_in table in
    let trees = trees_in table in
    let all = assertions_in sorts trees (all_numbered c.args.facts.now.items) in
    let whole : 4 * c.args.room + 1 ≡ t = c.decreases in
    let less : 4 * c.args.room < t = omega arith in
    let within = c.in_ok-add_with_parts.ensures.within (length trees) c.requires.within c.requires.formula in
    let sorted = subst (AreFormsSorted sorts) (sym (c.in_ok-add_with_parts.ensures.added sorts trees))
    (sorted_more sorts all (assertion_in sorts trees (numbered c.args.f)) c.requires.sorted c.requires.formula_sorted) in
    let led = c.requires.led in
    let more = led_longer led.0 table c.args.cx.now.terms.now.list.items c.args.facts.now.items c.add_with_parts.new.facts.items
    c.in_ok-add_with_parts.ensures.longer led.2 in
    let named = subst (AreNamed trees) (sym (c.in_ok-add_with_parts.ensures.added sorts trees))
    (named_more trees all (assertion_in sorts trees (numbered c.args.f)) c.requires.named c.requires.names) in
    (less, (c.requires.forms, (c.requires.whole, (within, (sorted, (c.requires.counted, ((led.0, led.1, more), named)))))))

pub walk_part-led_end-requires : goal.walk_part-led_end-requires
walk_part-led_end-requires t c =
    let longer = c.in_ok-add_with_parts.ensures.longer in
    let all = ap length (c.as_slice.ensures.value ∙ c.in_ok-end.ensures.kept ∙ longer.1) in
    let both = length-append c.args.facts.now.items longer.0 in
    omega arith

pub walk_part-returns-clause-shows : goal.walk_part-returns-clause-shows
walk_part-returns-clause-shows t c =
    let sorts = sorts_in c.args.cx.now.table.now in
    let trees = trees_in c.args.cx.now.table.now in
    let before = assertions_in sorts trees (all_numbered c.args.facts.now.items) in
    let last = assertion_in sorts trees (numbered c.args.f) in
    let many = facts_count sorts trees c.args.facts.now.items in
    let place : c.len-from.result ≡ length before = omega arith in
    let added = c.in_ok-add_with_parts.ensures.added sorts trees in
    let are = ap (λ (fs : List Formula). assertions_in sorts trees (all_numbered fs)) (c.as_slice.ensures.value ∙ c.in_ok-end.ensures.kept)
    ∙ added in
    let shows = subst (λ (fs : List Assertion). ShowsEnd sorts trees fs c.args.room c.in_ok-end.end) added c.in_ok-end.ensures.shows in
    c.in_ok-led.ensures.shows sorts trees c.args.room before (last ∷ []) place are shows

pub walk_part-returns-clause-kept : goal.walk_part-returns-clause-kept
walk_part-returns-clause-kept t c =
    let from = c.len-from.result in
    let place : from ≡ length c.args.facts.now.items = omega arith in
    c.truncate.ensures.items ∙ ap (λ (fs : List Formula). take from fs) c.in_ok-end.ensures.kept
    ∙ cut_back from c.args.facts.now.items c.add_with_parts.new.facts.items place c.in_ok-add_with_parts.ensures.longer

pub walk_parts-walk_part-requires : goal.walk_parts-walk_part-requires
walk_parts-walk_part-requires t c =
    let sorts = sorts_in c.args.cx.now.table.now in
    let trees = trees_in c.args.cx.now.table.now in
    let all = assertions_in sorts trees (all_numbered c.args.facts.now.items) in
    let whole : 4 * c.args.room + 2 ≡ t = c.decreases in
    let less : 4 * c.args.room + 1 < t = omega arith in
    let sorted = told_sorted sorts trees all c.args.split c.len.ensures.sorted c.requires.split c.requires.line c.requires.sorted in (
      less,
      (
        c.requires.forms,
        (
          c.requires.whole,
          (
            c.requires.within,
            (
              c.requires.sorted,
              (
                c.requires.counted,
                (
                  c.requires.led,
                  (c.requires.split.1.0, (sorted.0, (c.requires.named, c.requires.names.0))),
                ),
              ),
            ),
          ),
        ),
      ),
    )

pub walk_parts-walk_part-requires-in-Closed : goal.walk_parts-walk_part-requires-in-Closed
walk_parts-walk_part-requires-in-Closed t c =
    let sorts = sorts_in c.args.cx.now.table.now in
    let trees = trees_in c.args.cx.now.table.now in
    let all = assertions_in sorts trees (all_numbered c.args.facts.now.items) in
    let whole : 4 * c.args.room + 2 ≡ t = c.decreases in
    let less : 4 * c.args.room + 1 < t = omega arith in
    let sorted = told_sorted sorts trees all c.args.split c.len.ensures.sorted c.requires.split c.requires.line c.requires.sorted in
    let back = sym c.in_ok-at.ensures.kept in
    let within = subst (λ (fs : List Formula). AreFormulasWithin (length trees) (all_numbered fs)) back c.requires.within in
    let still = subst (λ (fs : List Formula). AreFormsSorted sorts (assertions_in sorts trees (all_numbered fs))) back c.requires.sorted in
    let named = subst (λ (fs : List Formula). AreNamed trees (assertions_in sorts trees (all_numbered fs))) back c.requires.named in
    let names = subst (λ (fs : List Formula). NamesNoMore (assertions_in sorts trees (all_numbered fs))
    (assertion_in sorts trees (numbered c.args.split.second))) back c.requires.names.1 in
    let counted = subst (IsEndCounted c.args.cx.now.reach.steps) c.in-Closed.is c.in_ok-at.ensures.counted in
    let led = c.requires.led in
    let same = led_same led.0 c.args.cx.now.table.now c.args.cx.now.terms.now.list.items c.args.facts.now.items c.walk_part.new.facts.items
    c.in_ok-at.ensures.kept led.2 in (
      less,
      (
        c.requires.forms,
        (
          c.requires.whole,
          (
            within,
            (
              still,
              (
                counted,
                (
                  (led.0, c.in_ok-at.ensures.stays led.0 led.1, same),
                  (c.requires.split.1.1, (sorted.1, (named, names))),
                ),
              ),
            ),
          ),
        ),
      ),
    )

pub walk_parts-returns-in_ok-whole-in-Closed-clause-shows : goal.walk_parts-returns-in_ok-whole-in-Closed-clause-shows
walk_parts-returns-in_ok-whole-in-Closed-clause-shows t c =
    let sorts = sorts_in c.args.cx.now.table.now in
    let trees = trees_in c.args.cx.now.table.now in
    let all = assertions_in sorts trees (all_numbered c.args.facts.now.items) in
    let p = assertion_in sorts trees (numbered c.args.split.first) in
    let q = assertion_in sorts trees (numbered c.args.split.second) in
    let first = subst (ShowsEnd sorts trees (all ++ p ∷ []) c.args.room) c.in-Closed.is c.in_ok-at.ensures.shows in
    let second = subst (λ (fs : List Formula).
    ShowsEnd sorts trees (assertions_in sorts trees (all_numbered fs) ++ q ∷ []) c.args.room c.in_ok-end-in-Closed.end)
    c.in_ok-at.ensures.kept c.in_ok-end-in-Closed.ensures.shows in
    c.in_ok-whole-in-Closed.ensures.shows sorts trees c.args.room all p q c.requires.split.0 c.requires.line first second

pub walk_parts-returns-in_ok-whole-in-Closed-clause-stays : goal.walk_parts-returns-in_ok-whole-in-Closed-clause-stays
walk_parts-returns-in_ok-whole-in-Closed-clause-stays t c = λ v from.
    c.in_ok-end-in-Closed.ensures.stays v (c.in_ok-at.ensures.stays v from)

pub walk_parts-returns-in_err-whole-in-Closed-clause-stays : goal.walk_parts-returns-in_err-whole-in-Closed-clause-stays
walk_parts-returns-in_err-whole-in-Closed-clause-stays t c = λ v from.
    c.in_ok-end-in-Closed.ensures.stays v (c.in_ok-at.ensures.stays v from)

pub walk_parts-returns-in_err-end-in-Closed-clause-stays : goal.walk_parts-returns-in_err-end-in-Closed-clause-stays
walk_parts-returns-in_err-end-in-Closed-clause-stays t c = λ v from.
    c.in_err-end-in-Closed.ensures.stays v (c.in_ok-at.ensures.stays v from)
