-- Each part of the mini-product, from those below it.
use Rattle.sm_product.proofs.Imports.{◌≡◌, ◌==◌, ◌+◌, ◌*◌, ◌<◌, ℕ, bit_and, Bool, true, if◌then◌else◌, List, [], ◌∷◌, ◌++◌, map, refl, sym, ap, ◌∙◌, subst, arith, map-append, IfOk-weaker, IfErr-weaker, fun_ext, Code, Copy, Parts, IsWellSorted, copy_named, trees_in, sorts_in, subsets, with_copy, has, set_of, loop_body, forms_in, widens_twice, forms_stay, forms_ready, by_second_block, only_in, Summaries, Forks, Loops, moved_on, IsMoveWithin, codes_in, move_in, IsSiteOf, TellsSketch, ProductError, forking, looped, sketch_size, sketch_in, AreSketchesReady, sketch_stays, sketch_ready, sketches_stay, sketches_ready, turn_of, HaveLoops, drawn, side_by_side, statements_left, IsFilled, moves_before, first_taken, TellsBeyond, TellAllBeyond, IsTaken}
use Rattle.std.proofs.Common.{IfOk, IfErr}
use Rattle.std.proofs.lemmas.Bool.{eq-eqb}
use Rattle.sm_moves.specs.declared.moves.Move.{Move}
use Rattle.sm_moves.proofs.MaskLemmas.{mask_within, mask_inhabited}
use Rattle.sm_sketch.specs.declared.sketch.Sketch as own
use Rattle.sm_sketch.specs.Sketches.{Sketch}
use Rattle.sm_product.proofs.BranchesDrawn.{no_room_for_next, no_room_for_one, no_room_beside, no_room_for_other, none_loops, no_room_for_turns, no_room_after}
use Rattle.sm_product.proofs.BranchesLeft.{first_way, second_way, have_loops, after_loops, one_turn, first_sorted, second_sorted, turn_sorted}
use Rattle.sm_product.proofs.MiniDrawn.{all_drawn, last_beyond, all_beyond}
use Rattle.sm_product.proofs.PartsDrawn.{still_drawn, still_sited, still_sorted, fork_drawn, loops_drawn}
use Rattle.sm_product.proofs.RoomLemmas.{err_is, no_memory, limit_beyond}
use Rattle.sm_product.proofs.StraightLemmas.{straight_sorted}
use Rattle.sm_product.proofs.TurnsDrawn.{one_told, none_left, one_taken, sketches_push, up_to_more, up_to_last, up_to_taken, up_to_told}
use Rattle.sm_product.proofs.mini.Drawing.+mini.Goals as goal

-- straight moves, and the move behind them
pub draw-draw_last-requires : goal.draw-draw_last-requires
draw-draw_last-requires t c =
    let whole : 8 * statements_left (codes_in c.args.rests.now) + 5 ≡ t = c.decreases in
    let fewer = c.follow.ensures.fewer in
    let less : 8 * statements_left (codes_in c.follow.new.rests) + 4 < t = omega (arith, whole, fewer) in
    let sorted = c.follow.ensures.sorted (sorts_in c.args.table.now) c.requires.sorted in
    let made = c.in_ok-straight.ensures in (
      less,
      (
        c.requires.set,
        (
          c.requires.site,
          (
            sorted,
            (
              c.follow.ensures.filled,
              (
                c.requires.next,
                (
                  c.requires.room,
                  (made.branches, (made.within, made.last)),
                ),
              ),
            ),
          ),
        ),
      ),
    )

pub draw-returns-in_err-straight-clause-err : goal.draw-returns-in_err-straight-clause-err
draw-returns-in_err-straight-clause-err t c = λ (p : Parts) (site : IsSiteOf p c.args.self.now.site.now).
    let v = c.args.table.now in
    no_memory c.args.room (side_by_side p (set_of c.args.self.now.set) (codes_in c.args.rests.now) (sketch_in (sorts_in v) (trees_in v) c.args.next))
    c.from_residual.result c.from_residual.ensures.1

pub draw-returns-in_err-below-clause-err : goal.draw-returns-in_err-below-clause-err
draw-returns-in_err-below-clause-err t c = λ (p : Parts) (site : IsSiteOf p c.args.self.now.site.now).
    let v = c.args.table.now in
    let after = sketch_in (sorts_in v) (trees_in v) c.args.next in
    let set = set_of c.args.self.now.set in
    let old = codes_in c.args.rests.now in
    let new = codes_in c.follow.new.rests in
    let ms = map move_in c.in_ok-straight.straight.moves.items in
    let m = move_in c.in_ok-straight.straight.last in
    let x = c.in_err-below.field-0.0 in
    err_is (λ (e : ProductError). TellsBeyond c.args.room e (side_by_side p set old after))
    c.from_residual-in_err-below.result x c.from_residual-in_err-below.ensures.1
    (last_beyond p set old new after ms m c.follow.ensures.filled c.in_ok-straight.ensures.last (c.in_ok-straight.ensures.drawn p after)
    c.args.room x (c.in_err-below.ensures.err p site))

pub draw-returns-clause-drawn : goal.draw-returns-clause-drawn
draw-returns-clause-drawn t c = λ (p : Parts) (site : IsSiteOf p c.args.self.now.site.now).
    let v = c.args.table.now in
    let w = c.draw_last.new.table in
    let after = sketch_in (sorts_in v) (trees_in v) c.args.next in
    let set = set_of c.args.self.now.set in
    let old = codes_in c.args.rests.now in
    let new = codes_in c.follow.new.rests in
    let ms = map move_in c.in_ok-straight.straight.moves.items in
    let m = move_in c.in_ok-straight.straight.last in
    let below = sketch_in (sorts_in w) (trees_in w) c.in_ok-below.below in
    IfOk-weaker c.put_all_before.result (λ (s : own.Sketch). sketch_in (sorts_in w) (trees_in w) s ≡ moves_before ms below)
    (λ (s : own.Sketch). sketch_in (sorts_in w) (trees_in w) s ≡ side_by_side p set old after)
    (λ (s : own.Sketch) (e : sketch_in (sorts_in w) (trees_in w) s ≡ moves_before ms below).
    all_drawn p set old new after ms m c.follow.ensures.filled c.in_ok-straight.ensures.last (c.in_ok-straight.ensures.drawn p after)
    (sketch_in (sorts_in w) (trees_in w) s) below (c.in_ok-below.ensures.drawn p site) e)
    (c.put_all_before.ensures.drawn (sorts_in w) (trees_in w))

pub draw-returns-clause-err : goal.draw-returns-clause-err
draw-returns-clause-err t c = λ (p : Parts) (site : IsSiteOf p c.args.self.now.site.now).
    let v = c.args.table.now in
    let w = c.draw_last.new.table in
    let after = sketch_in (sorts_in v) (trees_in v) c.args.next in
    let set = set_of c.args.self.now.set in
    let old = codes_in c.args.rests.now in
    let new = codes_in c.follow.new.rests in
    let ms = map move_in c.in_ok-straight.straight.moves.items in
    let m = move_in c.in_ok-straight.straight.last in
    let below = sketch_in (sorts_in w) (trees_in w) c.in_ok-below.below in
    IfErr-weaker c.put_all_before.result (λ (e : ProductError). TellsSketch e (moves_before ms below))
    (λ (e : ProductError). TellsBeyond c.args.room e (side_by_side p set old after))
    (λ (e : ProductError) (h : TellsSketch e (moves_before ms below)).
    all_beyond p set old new after ms m c.follow.ensures.filled c.in_ok-straight.ensures.last (c.in_ok-straight.ensures.drawn p after)
    c.args.room e below c.requires.room (c.in_ok-below.ensures.drawn p site) h)
    (c.put_all_before.ensures.err (sorts_in w) (trees_in w) c.in_ok-below.ensures.ready)

-- a move after which not one state follows
pub draw_last-draw_fork-requires : goal.draw_last-draw_fork-requires
draw_last-draw_fork-requires t c =
    let whole : 8 * statements_left (codes_in c.args.rests.now) + 4 ≡ t = c.decreases in
    let less : 8 * statements_left (codes_in c.args.rests.now) + 3 < t = omega (arith, whole) in
    let last = sym (ap move_in c.in-Fork.is) ∙ c.requires.last in (
      less,
      (c.requires.set, (c.requires.site, (c.requires.sorted, (c.requires.filled, (c.requires.next, (c.requires.room, last)))))),
    )

pub draw_last-draw_loops-requires : goal.draw_last-draw_loops-requires
draw_last-draw_loops-requires t c =
    let whole : 8 * statements_left (codes_in c.args.rests.now) + 4 ≡ t = c.decreases in
    let less : 8 * statements_left (codes_in c.args.rests.now) + 3 < t = omega (arith, whole) in
    let last = sym (ap move_in c.in-Loops.is) ∙ c.requires.last in
    let left = subst IsMoveWithin c.in-Loops.is c.requires.within in (
      less,
      (c.requires.set, (left, (c.requires.site, (c.requires.sorted, (c.requires.filled, (c.requires.next, (c.requires.room, last))))))),
    )

pub draw_last-returns-in-Fork-clause-drawn : goal.draw_last-returns-in-Fork-clause-drawn
draw_last-returns-in-Fork-clause-drawn t c = λ (p : Parts) (site : IsSiteOf p c.args.self.now.site.now).
    let v = c.args.table.now in
    let w = c.draw_fork.new.table in
    let after = sketch_in (sorts_in v) (trees_in v) c.args.next in
    subst (λ (m : Move). IfOk c.draw_fork.result (λ (s : own.Sketch). sketch_in (sorts_in w) (trees_in w) s
    ≡ drawn p (set_of c.args.self.now.set) (codes_in c.args.rests.now) after (side_by_side p) (move_in m)))
    (sym c.in-Fork.is) (c.draw_fork.ensures.drawn p site)

pub draw_last-returns-in-Fork-clause-err : goal.draw_last-returns-in-Fork-clause-err
draw_last-returns-in-Fork-clause-err t c = λ (p : Parts) (site : IsSiteOf p c.args.self.now.site.now).
    let v = c.args.table.now in
    let after = sketch_in (sorts_in v) (trees_in v) c.args.next in
    subst (λ (m : Move). IfErr c.draw_fork.result (λ (e : ProductError). TellsBeyond c.args.room e
    (drawn p (set_of c.args.self.now.set) (codes_in c.args.rests.now) after (side_by_side p) (move_in m))))
    (sym c.in-Fork.is) (c.draw_fork.ensures.err p site)

pub draw_last-returns-in-Loops-clause-drawn : goal.draw_last-returns-in-Loops-clause-drawn
draw_last-returns-in-Loops-clause-drawn t c = λ (p : Parts) (site : IsSiteOf p c.args.self.now.site.now).
    let v = c.args.table.now in
    let w = c.draw_loops.new.table in
    let after = sketch_in (sorts_in v) (trees_in v) c.args.next in
    subst (λ (m : Move). IfOk c.draw_loops.result (λ (s : own.Sketch). sketch_in (sorts_in w) (trees_in w) s
    ≡ drawn p (set_of c.args.self.now.set) (codes_in c.args.rests.now) after (side_by_side p) (move_in m)))
    (sym c.in-Loops.is) (c.draw_loops.ensures.drawn p site)

pub draw_last-returns-in-Loops-clause-err : goal.draw_last-returns-in-Loops-clause-err
draw_last-returns-in-Loops-clause-err t c = λ (p : Parts) (site : IsSiteOf p c.args.self.now.site.now).
    let v = c.args.table.now in
    let after = sketch_in (sorts_in v) (trees_in v) c.args.next in
    subst (λ (m : Move). IfErr c.draw_loops.result (λ (e : ProductError). TellsBeyond c.args.room e
    (drawn p (set_of c.args.self.now.set) (codes_in c.args.rests.now) after (side_by_side p) (move_in m))))
    (sym c.in-Loops.is) (c.draw_loops.ensures.err p site)

pub draw_last-returns-in-Done-clause-drawn : goal.draw_last-returns-in-Done-clause-drawn
draw_last-returns-in-Done-clause-drawn t c = λ (p : Parts) (site : IsSiteOf p c.args.self.now.site.now).
    let v = c.args.table.now in
    let after = sketch_in (sorts_in v) (trees_in v) c.args.next in
    sym (ap (λ (m : Move). drawn p (set_of c.args.self.now.set) (codes_in c.args.rests.now) after (side_by_side p) (move_in m)) c.in-Done.is)

-- a fork
pub draw_fork-draw_first-requires : goal.draw_fork-draw_first-requires
draw_fork-draw_first-requires t c =
    let whole : 8 * statements_left (codes_in c.args.rests.now) + 3 ≡ t = c.decreases in
    let less : 8 * statements_left (codes_in c.args.rests.now) + 2 < t = omega (arith, whole) in (
      less,
      (
        c.requires.set,
        (c.requires.site, (c.requires.sorted, (c.requires.filled, (c.requires.next, (c.requires.room, c.requires.last))))),
      ),
    )

pub draw_fork-returns-in_err-one-clause-err : goal.draw_fork-returns-in_err-one-clause-err
draw_fork-returns-in_err-one-clause-err t c = λ (p : Parts) (site : IsSiteOf p c.args.self.now.site.now).
    let v = c.args.table.now in
    let after = sketch_in (sorts_in v) (trees_in v) c.args.next in
    let k = copy_named c.args.copy in
    err_is (λ (e : ProductError). TellsBeyond c.args.room e
    (drawn p (set_of c.args.self.now.set) (codes_in c.args.rests.now) after (side_by_side p) (Forks k)))
    c.from_residual.result c.in_err-one.field-0.0 c.from_residual.ensures.1 (c.in_err-one.ensures.err p site)

-- of `one` over the table in which it is drawn
pub draw_fork-returns-in_err-for_other-clause-err : goal.draw_fork-returns-in_err-for_other-clause-err
draw_fork-returns-in_err-for_other-clause-err t c = λ (p : Parts) (site : IsSiteOf p c.args.self.now.site.now).
    let v = c.args.table.now in
    let after = sketch_in (sorts_in v) (trees_in v) c.args.next in
    let k = copy_named c.args.copy in
    let set = set_of c.args.self.now.set in
    let r = codes_in c.args.rests.now in
    let x = c.in_err-for_other.field-0.0 in
    err_is (λ (e : ProductError). TellsBeyond c.args.room e (drawn p set r after (side_by_side p) (Forks k)))
    c.from_residual-in_err-for_other.result x c.from_residual-in_err-for_other.ensures.1
    (no_room_beside p set r after k c.args.room x c.in_ok-one.one.extent.nodes
    (c.in_ok-one.ensures.ready.nodes ∙ ap sketch_size (c.in_ok-one.ensures.drawn p site)) c.in_err-for_other.ensures.full)

pub draw_fork-draw-requires : goal.draw_fork-draw-requires
draw_fork-draw-requires t c =
    let v = c.args.table.now in
    let w = c.draw_first.new.table in
    let wider = c.draw_first.ensures.widens in
    let k = copy_named c.args.copy in
    let set = set_of c.args.self.now.set in
    let r = codes_in c.args.rests.now in
    let same : codes_in c.fork.new.rests ≡ with_copy r k (by_second_block (r k)) = fun_ext c.in_ok-fork.ensures in
    let way = second_way set r k c.requires.filled c.requires.last in
    let whole : 8 * statements_left (codes_in c.args.rests.now) + 3 ≡ t = c.decreases in
    let size = ap statements_left same in
    let fewer = way.fewer in
    let less : 8 * statements_left (codes_in c.fork.new.rests) + 5 < t = omega (arith, whole, size, fewer) in
    let sorted = subst (λ (code : Copy → Code). (d : Copy) → IsWellSorted (sorts_in w) (code d)) (sym same)
    (still_sorted v w wider (with_copy r k (by_second_block (r k))) (second_sorted (sorts_in v) r c.requires.sorted k)) in
    let filled = subst (IsFilled set) (sym same) way.filled in
    let next = sketch_ready v w wider c.args.next c.requires.next in
    let other = c.in_ok-for_other.ensures.ok in
    let within = c.requires.room in (
      less,
      (
        c.requires.set,
        (
          still_sited v w wider c.args.self.now.site.now c.requires.site,
          (sorted, (filled, (next, (omega (arith, other.0, within.0), omega (arith, other.1, within.1))))),
        ),
      ),
    )

pub draw_fork-returns-in_err-other-clause-err : goal.draw_fork-returns-in_err-other-clause-err
draw_fork-returns-in_err-other-clause-err t c = λ (p : Parts) (site : IsSiteOf p c.args.self.now.site.now).
    let v = c.args.table.now in
    let w = c.draw_first.new.table in
    let after = sketch_in (sorts_in v) (trees_in v) c.args.next in
    let k = copy_named c.args.copy in
    let set = set_of c.args.self.now.set in
    let r = codes_in c.args.rests.now in
    let x = c.in_err-other.field-0.0 in
    let room = c.in_ok-for_other in
    let second : codes_in c.fork.new.rests ≡ with_copy r k (by_second_block (r k)) = fun_ext c.in_ok-fork.ensures in
    let stays = sketch_stays v w c.draw_first.ensures.widens c.args.next c.requires.next in
    let told = subst (TellsBeyond room.for_other x)
    (ap (λ (code : Copy → Code). side_by_side p set code (sketch_in (sorts_in w) (trees_in w) c.args.next)) second
    ∙ ap (side_by_side p set (with_copy r k (by_second_block (r k)))) stays)
    (c.in_err-other.ensures.err p site) in
    err_is (λ (e : ProductError). TellsBeyond c.args.room e (drawn p set r after (side_by_side p) (Forks k)))
    c.from_residual-in_err-other.result x c.from_residual-in_err-other.ensures.1
    (no_room_for_other p set r after k c.args.room x room.for_other c.in_ok-one.one.extent.nodes
    (c.in_ok-one.ensures.ready.nodes ∙ ap sketch_size (c.in_ok-one.ensures.drawn p site)) room.ensures.ok.0 room.ensures.ok.1 told)

-- what is drawn, over the last table
pub draw_fork-returns-clause-drawn : goal.draw_fork-returns-clause-drawn
draw_fork-returns-clause-drawn t c = λ (p : Parts) (site : IsSiteOf p c.args.self.now.site.now).
    let u = c.args.table.now in
    let v = c.draw_first.new.table in
    let w = c.draw.new.table in
    let after = sketch_in (sorts_in u) (trees_in u) c.args.next in
    let k = copy_named c.args.copy in
    let set = set_of c.args.self.now.set in
    let r = codes_in c.args.rests.now in
    let one = c.in_ok-one.one in
    let other = c.in_ok-other.other in
    let first = first_taken r k in
    let second : codes_in c.fork.new.rests ≡ with_copy r k (by_second_block (r k)) = fun_ext c.in_ok-fork.ensures in
    let stays = sketch_stays u v c.draw_first.ensures.widens c.args.next c.requires.next in
    let one_is = still_drawn v w c.draw.ensures.widens one (side_by_side p set first after) c.in_ok-one.ensures.ready
    (c.in_ok-one.ensures.drawn p site) in
    let other_is = c.in_ok-other.ensures.drawn p site ∙ ap (side_by_side p set (codes_in c.fork.new.rests)) stays in
    IfOk-weaker c.forking.result
    (λ (s : own.Sketch). sketch_in (sorts_in w) (trees_in w) s
    ≡ forking k (sketch_in (sorts_in w) (trees_in w) one) (sketch_in (sorts_in w) (trees_in w) other))
    (λ (s : own.Sketch). sketch_in (sorts_in w) (trees_in w) s ≡ drawn p set r after (side_by_side p) (Forks k))
    (λ (s : own.Sketch) e. fork_drawn p set r k after (sketch_in (sorts_in w) (trees_in w) s) (sketch_in (sorts_in w) (trees_in w) one)
    (sketch_in (sorts_in w) (trees_in w) other) first (codes_in c.fork.new.rests) e one_is other_is refl second)
    (c.forking.ensures.drawn (sorts_in w) (trees_in w))

pub draw_fork-returns-clause-err : goal.draw_fork-returns-clause-err
draw_fork-returns-clause-err t c = λ (p : Parts) (site : IsSiteOf p c.args.self.now.site.now).
    let u = c.args.table.now in
    let v = c.draw_first.new.table in
    let w = c.draw.new.table in
    let after = sketch_in (sorts_in u) (trees_in u) c.args.next in
    let k = copy_named c.args.copy in
    let set = set_of c.args.self.now.set in
    let r = codes_in c.args.rests.now in
    let one = c.in_ok-one.one in
    let other = c.in_ok-other.other in
    let first = first_taken r k in
    let second : codes_in c.fork.new.rests ≡ with_copy r k (by_second_block (r k)) = fun_ext c.in_ok-fork.ensures in
    let stays = sketch_stays u v c.draw_first.ensures.widens c.args.next c.requires.next in
    let one_is = still_drawn v w c.draw.ensures.widens one (side_by_side p set first after) c.in_ok-one.ensures.ready
    (c.in_ok-one.ensures.drawn p site) in
    let other_is = c.in_ok-other.ensures.drawn p site ∙ ap (side_by_side p set (codes_in c.fork.new.rests)) stays in
    let whole = forking k (sketch_in (sorts_in w) (trees_in w) one) (sketch_in (sorts_in w) (trees_in w) other) in
    let is : whole ≡ drawn p set r after (side_by_side p) (Forks k) =
    fork_drawn p set r k after whole (sketch_in (sorts_in w) (trees_in w) one) (sketch_in (sorts_in w) (trees_in w) other)
    first (codes_in c.fork.new.rests) refl one_is other_is refl second in
    IfErr-weaker c.forking.result (λ (e : ProductError). TellsSketch e whole)
    (λ (e : ProductError). TellsBeyond c.args.room e (drawn p set r after (side_by_side p) (Forks k)))
    (λ (e : ProductError) (h : TellsSketch e whole). subst (TellsBeyond c.args.room e) is
    (limit_beyond c.args.room whole e c.requires.room h))
    (c.forking.ensures.err (sorts_in w) (trees_in w) (sketch_ready v w c.draw.ensures.widens one c.in_ok-one.ensures.ready)
    c.in_ok-other.ensures.ready)

pub draw_fork-returns-clause-ready : goal.draw_fork-returns-clause-ready
draw_fork-returns-clause-ready t c =
    let v = c.draw_first.new.table in
    let w = c.draw.new.table in
    c.forking.ensures.ready (sorts_in w) (trees_in w) (sketch_ready v w c.draw.ensures.widens c.in_ok-one.one c.in_ok-one.ensures.ready)
    c.in_ok-other.ensures.ready

-- the first block of a fork
pub draw_first-returns-in_err-for_one-clause-err : goal.draw_first-returns-in_err-for_one-clause-err
draw_first-returns-in_err-for_one-clause-err t c = λ (p : Parts) (site : IsSiteOf p c.args.self.now.site.now).
    let v = c.args.table.now in
    let after = sketch_in (sorts_in v) (trees_in v) c.args.next.now in
    let k = copy_named c.args.copy in
    let set = set_of c.args.self.now.set in
    let r = codes_in c.args.rests.now in
    let x = c.in_err-for_one.field-0.0 in
    err_is (λ (e : ProductError). TellsBeyond c.args.room e (drawn p set r after (side_by_side p) (Forks k)))
    c.from_residual.result x c.from_residual.ensures.1
    (no_room_for_next p set r after k c.args.room x c.args.next.now.extent.nodes c.requires.next.nodes c.in_err-for_one.ensures.full)

pub draw_first-draw-requires : goal.draw_first-draw-requires
draw_first-draw-requires t c =
    let v = c.args.table.now in
    let k = copy_named c.args.copy in
    let set = set_of c.args.self.now.set in
    let r = codes_in c.args.rests.now in
    let same : codes_in c.in_ok-first.first ≡ first_taken r k = fun_ext c.in_ok-first.ensures in
    let way = first_way set r k c.requires.filled c.requires.last in
    let whole : 8 * statements_left r + 2 ≡ t = c.decreases in
    let size = ap statements_left same in
    let fewer = way.fewer in
    let less : 8 * statements_left (codes_in c.in_ok-first.first) + 5 < t = omega (arith, whole, size, fewer) in
    let sorted = subst (λ (code : Copy → Code). (d : Copy) → IsWellSorted (sorts_in v) (code d)) (sym same)
    (first_sorted (sorts_in v) r c.requires.sorted k) in
    let filled = subst (IsFilled set) (sym same) way.filled in
    let next = c.in_ok-after.ensures.ready (sorts_in v) (trees_in v) c.requires.next in
    let one = c.in_ok-for_one.ensures.ok in
    let within = c.requires.room in (
      less,
      (
        c.requires.set,
        (
          c.requires.site,
          (sorted, (filled, (next, (omega (arith, one.0, within.0), omega (arith, one.1, within.1))))),
        ),
      ),
    )

pub draw_first-returns-clause-drawn : goal.draw_first-returns-clause-drawn
draw_first-returns-clause-drawn t c = λ (p : Parts) (site : IsSiteOf p c.args.self.now.site.now).
    let v = c.args.table.now in
    let w = c.draw.new.table in
    let set = set_of c.args.self.now.set in
    let code = first_taken (codes_in c.args.rests.now) (copy_named c.args.copy) in
    let same : codes_in c.in_ok-first.first ≡ code = fun_ext c.in_ok-first.ensures in
    let copied = c.in_ok-after.ensures.drawn (sorts_in v) (trees_in v) in
    subst (λ (q : Sketch). IfOk c.draw.result (λ (s : own.Sketch). sketch_in (sorts_in w) (trees_in w) s ≡ q))
    (ap (λ (d : Copy → Code). side_by_side p set d (sketch_in (sorts_in v) (trees_in v) c.in_ok-after.after)) same
    ∙ ap (side_by_side p set code) copied)
    (c.draw.ensures.drawn p site)

pub draw_first-returns-clause-err : goal.draw_first-returns-clause-err
draw_first-returns-clause-err t c = λ (p : Parts) (site : IsSiteOf p c.args.self.now.site.now).
    let v = c.args.table.now in
    let next = c.args.next.now in
    let after = sketch_in (sorts_in v) (trees_in v) next in
    let k = copy_named c.args.copy in
    let set = set_of c.args.self.now.set in
    let r = codes_in c.args.rests.now in
    let room = c.in_ok-for_one in
    let same : codes_in c.in_ok-first.first ≡ first_taken r k = fun_ext c.in_ok-first.ensures in
    let copied = c.in_ok-after.ensures.drawn (sorts_in v) (trees_in v) in
    let was = side_by_side p set (codes_in c.in_ok-first.first) (sketch_in (sorts_in v) (trees_in v) c.in_ok-after.after) in
    let is : was ≡ side_by_side p set (first_taken r k) after =
    ap (λ (d : Copy → Code). side_by_side p set d (sketch_in (sorts_in v) (trees_in v) c.in_ok-after.after)) same
    ∙ ap (side_by_side p set (first_taken r k)) copied in
    IfErr-weaker c.draw.result (λ (e : ProductError). TellsBeyond room.for_one e was)
    (λ (e : ProductError). TellsBeyond c.args.room e (drawn p set r after (side_by_side p) (Forks k)))
    (λ (e : ProductError) (h : TellsBeyond room.for_one e was).
    no_room_for_one p set r after k c.args.room e room.for_one next.extent.nodes c.requires.next.nodes room.ensures.ok.0 room.ensures.ok.1
    (subst (TellsBeyond room.for_one e) is h))
    (c.draw.ensures.err p site)

-- loops
pub draw_loops-returns-in_err-below-clause-err : goal.draw_loops-returns-in_err-below-clause-err
draw_loops-returns-in_err-below-clause-err t c = λ (p : Parts) (site : IsSiteOf p c.args.self.now.site.now).
    let u = c.args.table.now in
    let after = sketch_in (sorts_in u) (trees_in u) c.args.next in
    let left = set_of c.args.left in
    let x = c.in_err-below.field-0.0 in
    err_is (λ (e : ProductError). TellsBeyond c.args.room e
    (drawn p (set_of c.args.self.now.set) (codes_in c.args.rests.now) after (side_by_side p) (Loops left)))
    c.from_residual.result x c.from_residual.ensures.1
    (none_loops p (set_of c.args.self.now.set) (codes_in c.args.rests.now) after left c.args.room x c.in_err-below.ensures.1)

pub draw_loops-draw_turns-requires : goal.draw_loops-draw_turns-requires
draw_loops-draw_turns-requires t c =
    let u = c.args.table.now in
    let v = c.loop_templates.new.table in
    let wider = c.loop_templates.ensures.widens in
    let r = codes_in c.args.rests.now in
    let whole : 8 * statements_left r + 3 ≡ t = c.decreases in
    let less : 8 * statements_left r + 2 < t = omega (arith, whole) in
    let loops = have_loops (set_of c.args.self.now.set) r (set_of c.args.left) c.requires.filled c.requires.last in
    let below = c.in_ok-below.ensures in
    let within = c.requires.room in (
      less,
      (
        c.requires.left,
        (
          still_sited u v wider c.args.self.now.site.now c.requires.site,
          (
            still_sorted u v wider r c.requires.sorted,
            (c.requires.filled.no_hole, (loops, (omega (arith, below.1, within.0), omega (arith, below.0, within.1)))),
          ),
        ),
      ),
    )

pub draw_loops-returns-in_err-turns-clause-err : goal.draw_loops-returns-in_err-turns-clause-err
draw_loops-returns-in_err-turns-clause-err t c = λ (p : Parts) (site : IsSiteOf p c.args.self.now.site.now).
    let u = c.args.table.now in
    let after = sketch_in (sorts_in u) (trees_in u) c.args.next in
    let set = set_of c.args.self.now.set in
    let left = set_of c.args.left in
    let r = codes_in c.args.rests.now in
    let x = c.in_err-turns.field-0.0 in
    let below = c.in_ok-below in
    err_is (λ (e : ProductError). TellsBeyond c.args.room e (drawn p set r after (side_by_side p) (Loops left)))
    c.from_residual-in_err-turns.result x c.from_residual-in_err-turns.ensures.1
    (no_room_for_turns p set r after left c.args.room x below.below below.ensures.1 below.ensures.0 (c.in_err-turns.ensures.err p site))

pub draw_loops-draw-requires : goal.draw_loops-draw-requires
draw_loops-draw-requires t c =
    let u = c.args.table.now in
    let v = c.loop_templates.new.table in
    let w = c.draw_turns.new.table in
    let wider = widens_twice u v w c.loop_templates.ensures.widens c.draw_turns.ensures.widens in
    let set = set_of c.args.self.now.set in
    let left = set_of c.args.left in
    let r = codes_in c.args.rests.now in
    let same : codes_in c.pass.new.rests ≡ moved_on left r = fun_ext c.pass.ensures in
    let way = after_loops set r left c.requires.filled c.requires.last in
    let whole : 8 * statements_left r + 3 ≡ t = c.decreases in
    let size = ap statements_left same in
    let fewer = way.fewer in
    let less : 8 * statements_left (codes_in c.pass.new.rests) + 5 < t = omega (arith, whole, size, fewer) in
    let sorted = subst (λ (code : Copy → Code). (d : Copy) → IsWellSorted (sorts_in w) (code d)) (sym same)
    (still_sorted u w wider (moved_on left r) (straight_sorted (sorts_in u) r (Summaries left) c.requires.sorted)) in
    let filled = subst (IsFilled set) (sym same) way.filled in
    let next = sketch_ready u w wider c.args.next c.requires.next in (
      less,
      (
        c.requires.set,
        (
          still_sited u w wider c.args.self.now.site.now c.requires.site,
          (sorted, (filled, (next, c.in_ok-turns.ensures.room))),
        ),
      ),
    )

pub draw_loops-returns-in_err-after-clause-err : goal.draw_loops-returns-in_err-after-clause-err
draw_loops-returns-in_err-after-clause-err t c = λ (p : Parts) (site : IsSiteOf p c.args.self.now.site.now).
    let u = c.args.table.now in
    let v = c.loop_templates.new.table in
    let w = c.draw_turns.new.table in
    let wider = widens_twice u v w c.loop_templates.ensures.widens c.draw_turns.ensures.widens in
    let after = sketch_in (sorts_in u) (trees_in u) c.args.next in
    let set = set_of c.args.self.now.set in
    let left = set_of c.args.left in
    let r = codes_in c.args.rests.now in
    let x = c.in_err-after.field-0.0 in
    let below = c.in_ok-below in
    let same : codes_in c.pass.new.rests ≡ moved_on left r = fun_ext c.pass.ensures in
    let stays = sketch_stays u w wider c.args.next c.requires.next in
    let told = subst (TellsBeyond c.draw_turns.new.room x)
    (ap (λ (code : Copy → Code). side_by_side p set code (sketch_in (sorts_in w) (trees_in w) c.args.next)) same
    ∙ ap (side_by_side p set (moved_on left r)) stays)
    (c.in_err-after.ensures.err p site) in
    err_is (λ (e : ProductError). TellsBeyond c.args.room e (drawn p set r after (side_by_side p) (Loops left)))
    c.from_residual-in_err-after.result x c.from_residual-in_err-after.ensures.1
    (no_room_after p set r after left c.args.room x below.below below.ensures.1 below.ensures.0 c.draw_turns.new.room
    (c.in_ok-turns.ensures.taken p site) told)

pub draw_loops-returns-clause-drawn : goal.draw_loops-returns-clause-drawn
draw_loops-returns-clause-drawn t c = λ (p : Parts) (site : IsSiteOf p c.args.self.now.site.now).
    let u = c.args.table.now in
    let v = c.loop_templates.new.table in
    let w = c.draw_turns.new.table in
    let z = c.draw.new.table in
    let wider = widens_twice u v w c.loop_templates.ensures.widens c.draw_turns.ensures.widens in
    let later = widens_twice v w z c.draw_turns.ensures.widens c.draw.ensures.widens in
    let next = sketch_in (sorts_in u) (trees_in u) c.args.next in
    let set = set_of c.args.self.now.set in
    let left = set_of c.args.left in
    let r = codes_in c.args.rests.now in
    let same : codes_in c.pass.new.rests ≡ moved_on left r = fun_ext c.pass.ensures in
    let stays = sketch_stays u w wider c.args.next c.requires.next in
    let after = sketch_in (sorts_in z) (trees_in z) c.in_ok-after.after in
    let after_is = c.in_ok-after.ensures.drawn p site ∙ ap (side_by_side p set (codes_in c.pass.new.rests)) stays in
    let fs = c.in_ok-templates.templates.list.items in
    let ts = forms_in (sorts_in z) (trees_in z) fs in
    let made = forms_stay v z later fs c.in_ok-templates.ensures.ready ∙ c.in_ok-templates.ensures.made p site in
    let turns = sketches_stay w z c.draw.ensures.widens c.in_ok-turns.turns.items c.in_ok-turns.ensures.ready
    ∙ c.in_ok-turns.ensures.drawn p site in
    IfOk-weaker c.looped.result (λ (s : own.Sketch). sketch_in (sorts_in z) (trees_in z) s ≡ looped ts left (turn_of p r) after)
    (λ (s : own.Sketch). sketch_in (sorts_in z) (trees_in z) s ≡ drawn p set r next (side_by_side p) (Loops left))
    (λ (s : own.Sketch) e. loops_drawn p set r left next (sketch_in (sorts_in z) (trees_in z) s) after ts (codes_in c.pass.new.rests)
    e made after_is same)
    (c.looped.ensures.drawn (sorts_in z) (trees_in z) (turn_of p r) turns)

pub draw_loops-returns-clause-err : goal.draw_loops-returns-clause-err
draw_loops-returns-clause-err t c = λ (p : Parts) (site : IsSiteOf p c.args.self.now.site.now).
    let u = c.args.table.now in
    let v = c.loop_templates.new.table in
    let w = c.draw_turns.new.table in
    let z = c.draw.new.table in
    let wider = widens_twice u v w c.loop_templates.ensures.widens c.draw_turns.ensures.widens in
    let later = widens_twice v w z c.draw_turns.ensures.widens c.draw.ensures.widens in
    let next = sketch_in (sorts_in u) (trees_in u) c.args.next in
    let set = set_of c.args.self.now.set in
    let left = set_of c.args.left in
    let r = codes_in c.args.rests.now in
    let same : codes_in c.pass.new.rests ≡ moved_on left r = fun_ext c.pass.ensures in
    let stays = sketch_stays u w wider c.args.next c.requires.next in
    let after = sketch_in (sorts_in z) (trees_in z) c.in_ok-after.after in
    let after_is = c.in_ok-after.ensures.drawn p site ∙ ap (side_by_side p set (codes_in c.pass.new.rests)) stays in
    let fs = c.in_ok-templates.templates.list.items in
    let ts = forms_in (sorts_in z) (trees_in z) fs in
    let made = forms_stay v z later fs c.in_ok-templates.ensures.ready ∙ c.in_ok-templates.ensures.made p site in
    let turns = sketches_stay w z c.draw.ensures.widens c.in_ok-turns.turns.items c.in_ok-turns.ensures.ready
    ∙ c.in_ok-turns.ensures.drawn p site in
    let whole = looped ts left (turn_of p r) after in
    let is = loops_drawn p set r left next whole after ts (codes_in c.pass.new.rests) refl made after_is same in
    IfErr-weaker c.looped.result (λ (e : ProductError). TellsSketch e whole)
    (λ (e : ProductError). TellsBeyond c.args.room e (drawn p set r next (side_by_side p) (Loops left)))
    (λ (e : ProductError) (h : TellsSketch e whole). subst (TellsBeyond c.args.room e) is
    (limit_beyond c.args.room whole e c.requires.room h))
    (c.looped.ensures.err (sorts_in z) (trees_in z) (turn_of p r) turns
    (sketches_ready w z c.draw.ensures.widens c.in_ok-turns.turns.items c.in_ok-turns.ensures.ready) c.in_ok-after.ensures.ready)

pub draw_loops-returns-clause-ready : goal.draw_loops-returns-clause-ready
draw_loops-returns-clause-ready t c =
    let v = c.loop_templates.new.table in
    let w = c.draw_turns.new.table in
    let z = c.draw.new.table in
    let later = widens_twice v w z c.draw_turns.ensures.widens c.draw.ensures.widens in
    c.looped.ensures.ready (sorts_in z) (trees_in z) c.requires.left
    (forms_ready v z later c.in_ok-templates.templates.list.items c.in_ok-templates.ensures.ready)
    (sketches_ready w z c.draw.ensures.widens c.in_ok-turns.turns.items c.in_ok-turns.ensures.ready) c.in_ok-after.ensures.ready

-- the turns
pub draw_turns-draw_turn-requires : goal.draw_turns-draw_turn-requires
draw_turns-draw_turn-requires t c =
    let v = c.args.table.now in
    let w = c.loop-smaller.table in
    let was = c.loop-smaller.invariant in
    let r = codes_in c.args.rests.now in
    let n = c.loop-smaller.smaller in
    let high = c.loop-smaller-test.true in
    let whole : 8 * statements_left r + 2 ≡ t = c.decreases in
    let less : 8 * statements_left r + 1 < t = omega (arith, whole) in (
      less,
      (
        (omega (arith, high), omega (arith, high)),
        (
          c.requires.set,
          (
            still_sited v w was.widens c.args.self.now.site.now c.requires.site,
            (
              still_sorted v w was.widens r c.requires.sorted,
              (c.requires.no_hole, (c.requires.loops, (was.room, was.ready))),
            ),
          ),
        ),
      ),
    )

pub draw_turns-returns-in_err-draw_turn-clause-err : goal.draw_turns-returns-in_err-draw_turn-clause-err
draw_turns-returns-in_err-draw_turn-clause-err t c = λ (p : Parts) (site : IsSiteOf p c.args.self.now.site.now).
    let r = codes_in c.args.rests.now in
    let was = c.loop-smaller.invariant in
    let x = c.in_err-draw_turn.field-0.0 in
    err_is (λ (e : ProductError). TellAllBeyond c.args.room.now e (map (turn_of p r) (subsets (set_of c.args.self.now.set))))
    c.from_residual.result x c.from_residual.ensures.1
    (up_to_told (turn_of p r) c.args.self.now.set c.requires.set c.args.room.now c.loop-smaller.room x c.loop-smaller.smaller
    c.loop-smaller-test.true
    (was.taken p site) (c.in_err-draw_turn.ensures.err p site))

pub draw_turns-loop-smaller-preserved : goal.draw_turns-loop-smaller-preserved
draw_turns-loop-smaller-preserved t c =
    let u = c.args.table.now in
    let v = c.loop-smaller.table in
    let w = c.draw_turn.new.table in
    let was = c.loop-smaller.invariant in
    let done = c.in_ok-draw_turn.ensures in
    let r = codes_in c.args.rests.now in
    let n = c.loop-smaller.smaller in
    record {
      drawn = λ (p : Parts) (site : IsSiteOf p c.args.self.now.site.now).
          done.drawn p site
          ∙ ap (λ (l : List Sketch). l ++ map (λ (m : ℕ). turn_of p r (set_of m))
          (if bit_and (n + 1) c.args.self.now.set == n + 1 then (n + 1) ∷ [] else []))
          (was.drawn p site)
          ∙ sym (up_to_more (turn_of p r) c.args.self.now.set c.requires.set n);
      ready = done.ready;
      taken = λ (p : Parts) (site : IsSiteOf p c.args.self.now.site.now).
          up_to_taken (turn_of p r) c.args.self.now.set c.requires.set c.args.room.now c.loop-smaller.room c.draw_turn.new.room n
          (was.taken p site)
          (done.taken p site);
      room = done.room;
      widens = widens_twice u v w was.widens c.draw_turn.ensures.widens;
    }

pub draw_turns-returns-clause-drawn : goal.draw_turns-returns-clause-drawn
draw_turns-returns-clause-drawn t c = λ (p : Parts) (site : IsSiteOf p c.args.self.now.site.now).
    let high = c.loop-smaller-test.false in
    let low = c.loop-smaller.auto.smaller-end in
    let last : c.loop-smaller.smaller ≡ 15 = omega (arith, high, low) in
    c.loop-smaller.invariant.drawn p site
    ∙ up_to_last (turn_of p (codes_in c.args.rests.now)) c.args.self.now.set c.requires.set c.loop-smaller.smaller last

pub draw_turns-returns-clause-taken : goal.draw_turns-returns-clause-taken
draw_turns-returns-clause-taken t c = λ (p : Parts) (site : IsSiteOf p c.args.self.now.site.now).
    let high = c.loop-smaller-test.false in
    let low = c.loop-smaller.auto.smaller-end in
    let last : c.loop-smaller.smaller ≡ 15 = omega (arith, high, low) in
    subst (IsTaken c.args.room.now c.loop-smaller.room)
    (up_to_last (turn_of p (codes_in c.args.rests.now)) c.args.self.now.set c.requires.set c.loop-smaller.smaller last)
    (c.loop-smaller.invariant.taken p site)

-- one turn
pub draw_turn-draw_body-requires : goal.draw_turn-draw_body-requires
draw_turn-draw_body-requires t c =
    let m = c.args.turning in
    let r = codes_in c.args.rests.now in
    let inside : (bit_and m c.args.self.now.set == m) ≡ true = eq-eqb (bit_and m c.args.self.now.set) m c.if-turning-self.true in
    let within = mask_within m c.args.self.now.set c.requires.turning.1 c.requires.set inside in
    let loops : HaveLoops (set_of m) r = λ (d : Copy) (h : has (set_of m) d ≡ true). c.requires.loops d (within d h) in
    let whole : 8 * statements_left r + 1 ≡ t = c.decreases in
    let less : 8 * statements_left r < t = omega (arith, whole) in
    (less, (c.requires.turning, (c.requires.site, (c.requires.sorted, (c.requires.no_hole, (loops, c.requires.room))))))

pub draw_turn-returns-in_err-turn-clause-err : goal.draw_turn-returns-in_err-turn-clause-err
draw_turn-returns-in_err-turn-clause-err t c = λ (p : Parts) (site : IsSiteOf p c.args.self.now.site.now).
    let m = c.args.turning in
    let r = codes_in c.args.rests.now in
    let inside : (bit_and m c.args.self.now.set == m) ≡ true = eq-eqb (bit_and m c.args.self.now.set) m c.if-turning-self.true in
    let x = c.in_err-turn.field-0.0 in
    err_is (λ (e : ProductError). TellAllBeyond c.args.room.now e
    (map (λ (n : ℕ). turn_of p r (set_of n)) (if bit_and m c.args.self.now.set == m then m ∷ [] else [])))
    c.from_residual.result x c.from_residual.ensures.1
    (subst (λ (b : Bool). TellAllBeyond c.args.room.now x (map (λ (n : ℕ). turn_of p r (set_of n)) (if b then m ∷ [] else [])))
    (sym inside)
    (one_told c.args.room.now x (turn_of p r (set_of m)) (c.in_err-turn.ensures.err p site)))

-- a turn has more nodes than there is room for
pub draw_turn-returns-in_err-room-clause-err : goal.draw_turn-returns-in_err-room-clause-err
draw_turn-returns-in_err-room-clause-err t c = λ (p : Parts) (site : IsSiteOf p c.args.self.now.site.now).
    let m = c.args.turning in
    let r = codes_in c.args.rests.now in
    let inside : (bit_and m c.args.self.now.set == m) ≡ true = eq-eqb (bit_and m c.args.self.now.set) m c.if-turning-self.true in
    let nodes = c.in_ok-turn.ensures.ready.nodes ∙ ap sketch_size (c.in_ok-turn.ensures.drawn p site) in
    let few = c.in_err-room.ensures.1 in
    let x = c.in_err-room.field-0.0 in
    err_is (λ (e : ProductError). TellAllBeyond c.args.room.now e
    (map (λ (n : ℕ). turn_of p r (set_of n)) (if bit_and m c.args.self.now.set == m then m ∷ [] else [])))
    c.from_residual-in_err-room.result x c.from_residual-in_err-room.ensures.1
    (subst (λ (b : Bool). TellAllBeyond c.args.room.now x (map (λ (n : ℕ). turn_of p r (set_of n)) (if b then m ∷ [] else [])))
    (sym inside)
    (none_left c.args.room.now x (turn_of p r (set_of m)) (omega (arith, nodes, few))))

pub draw_turn-returns-in_ok-push-clause-drawn : goal.draw_turn-returns-in_ok-push-clause-drawn
draw_turn-returns-in_ok-push-clause-drawn t c = λ (p : Parts) (site : IsSiteOf p c.args.self.now.site.now).
    let v = c.args.table.now in
    let w = c.draw_body.new.table in
    let m = c.args.turning in
    let r = codes_in c.args.rests.now in
    let old = c.args.turns.now.items in
    let inside : (bit_and m c.args.self.now.set == m) ≡ true = eq-eqb (bit_and m c.args.self.now.set) m c.if-turning-self.true in
    ap (map (sketch_in (sorts_in w) (trees_in w))) c.in_ok-push.ensures.items
    ∙ map-append (sketch_in (sorts_in w) (trees_in w)) old (c.in_ok-turn.turn ∷ [])
    ∙ ap (λ (l : List Sketch). l ++ sketch_in (sorts_in w) (trees_in w) c.in_ok-turn.turn ∷ [])
    (sketches_stay v w c.draw_body.ensures.widens old c.requires.turns)
    ∙ ap (λ (s : Sketch). map (sketch_in (sorts_in v) (trees_in v)) old ++ s ∷ []) (c.in_ok-turn.ensures.drawn p site)
    ∙ sym (ap (λ (b : Bool). map (sketch_in (sorts_in v) (trees_in v)) old
    ++ map (λ (n : ℕ). turn_of p r (set_of n)) (if b then m ∷ [] else [])) inside)

pub draw_turn-returns-in_ok-push-clause-ready : goal.draw_turn-returns-in_ok-push-clause-ready
draw_turn-returns-in_ok-push-clause-ready t c =
    let v = c.args.table.now in
    let w = c.draw_body.new.table in
    let old = c.args.turns.now.items in
    subst (AreSketchesReady (sorts_in w) (trees_in w)) (sym c.in_ok-push.ensures.items)
    (sketches_push (sorts_in w) (trees_in w) old c.in_ok-turn.turn (sketches_ready v w c.draw_body.ensures.widens old c.requires.turns)
    c.in_ok-turn.ensures.ready)

pub draw_turn-returns-in_ok-push-clause-taken : goal.draw_turn-returns-in_ok-push-clause-taken
draw_turn-returns-in_ok-push-clause-taken t c = λ (p : Parts) (site : IsSiteOf p c.args.self.now.site.now).
    let m = c.args.turning in
    let r = codes_in c.args.rests.now in
    let inside : (bit_and m c.args.self.now.set == m) ≡ true = eq-eqb (bit_and m c.args.self.now.set) m c.if-turning-self.true in
    let nodes = c.in_ok-turn.ensures.ready.nodes ∙ ap sketch_size (c.in_ok-turn.ensures.drawn p site) in
    let left = c.in_ok-room.ensures.0 in
    subst (λ (b : Bool). IsTaken c.args.room.now c.in_ok-room.field-0
    (map (λ (n : ℕ). turn_of p r (set_of n)) (if b then m ∷ [] else [])))
    (sym inside)
    (one_taken c.args.room.now c.in_ok-room.field-0 (turn_of p r (set_of m)) (omega (arith, nodes, left)) c.in_ok-room.ensures.1)

-- the bodies of a turn's loops
pub draw_body-draw-requires : goal.draw_body-draw-requires
draw_body-draw-requires t c =
    let v = c.args.table.now in
    let m = set_of c.args.self.now.set in
    let r = codes_in c.args.rests.now in
    let same : codes_in c.in_ok-code.code ≡ only_in m (λ (d : Copy). loop_body (r d)) = fun_ext c.in_ok-code.ensures in
    let way = one_turn r c.requires.no_hole m c.requires.loops m (mask_inhabited c.args.self.now.set c.requires.set.0 c.requires.set.1)
    (λ (d : Copy) h. h) in
    let whole : 8 * statements_left r ≡ t = c.decreases in
    let size = ap statements_left same in
    let fewer = way.fewer in
    let less : 8 * statements_left (codes_in c.in_ok-code.code) + 5 < t = omega (arith, whole, size, fewer) in
    let sorted = subst (λ (code : Copy → Code). (d : Copy) → IsWellSorted (sorts_in v) (code d)) (sym same)
    (turn_sorted (sorts_in v) r c.requires.sorted m) in
    let filled = subst (IsFilled m) (sym same) way.filled in (
      less,
      (
        c.requires.set.1,
        (
          c.requires.site,
          (sorted, (filled, (c.ends.ensures.ready (sorts_in v) (trees_in v), c.requires.room))),
        ),
      ),
    )

pub draw_body-returns-clause-drawn : goal.draw_body-returns-clause-drawn
draw_body-returns-clause-drawn t c = λ (p : Parts) (site : IsSiteOf p c.args.self.now.site.now).
    let v = c.args.table.now in
    let w = c.draw.new.table in
    let m = set_of c.args.self.now.set in
    let r = codes_in c.args.rests.now in
    let bodies = only_in m (λ (d : Copy). loop_body (r d)) in
    let same : codes_in c.in_ok-code.code ≡ bodies = fun_ext c.in_ok-code.ensures in
    subst (λ (q : Sketch). IfOk c.draw.result (λ (s : own.Sketch). sketch_in (sorts_in w) (trees_in w) s ≡ q))
    (ap (λ (d : Copy → Code). side_by_side p m d (sketch_in (sorts_in v) (trees_in v) c.ends.result)) same
    ∙ ap (side_by_side p m bodies) (c.ends.ensures.drawn (sorts_in v) (trees_in v)))
    (c.draw.ensures.drawn p site)

pub draw_body-returns-clause-err : goal.draw_body-returns-clause-err
draw_body-returns-clause-err t c = λ (p : Parts) (site : IsSiteOf p c.args.self.now.site.now).
    let v = c.args.table.now in
    let m = set_of c.args.self.now.set in
    let r = codes_in c.args.rests.now in
    let bodies = only_in m (λ (d : Copy). loop_body (r d)) in
    let same : codes_in c.in_ok-code.code ≡ bodies = fun_ext c.in_ok-code.ensures in
    subst (λ (q : Sketch). IfErr c.draw.result (λ (e : ProductError). TellsBeyond c.args.room e q))
    (ap (λ (d : Copy → Code). side_by_side p m d (sketch_in (sorts_in v) (trees_in v) c.ends.result)) same
    ∙ ap (side_by_side p m bodies) (c.ends.ensures.drawn (sorts_in v) (trees_in v)))
    (c.draw.ensures.err p site)
