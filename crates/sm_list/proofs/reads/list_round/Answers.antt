-- One term more is read.
use Rattle.sm_list.proofs.Imports.{◌≡◌, ◌<◌, ◌+◌, ◌++◌, ◌∷◌, ℕ, suc, List, length, drop, get_or, sym, ap, subst, ◌∙◌, arith, length-map, append_assoc, drop_more, get_or_append_left, get_or_from_slice_get, slice_get_within, Tree, trees_in, tree_at, grows-twice, put_if, read_before, with_reads, trees_at, below_at, tree_of_place}
use Rattle.sm_list.proofs.ReadsLemmas.{reads_on, grown_put_if}
use Rattle.sm_list.proofs.reads.list_round.Goals as goal

pub list_read_before-requires-clause-within : goal.list_read_before-requires-clause-within
list_read_before-requires-clause-within c =
    let ns = c.loop-k.listed in
    let k = c.loop-k.k in
    let n = c.get-n.result.now in
    let found : get_or ns k 0 ≡ n = get_or_from_slice_get ns k n 0 c.get-n.ensures in
    let inside = slice_get_within ns k n c.get-n.ensures in
    subst (λ (m : ℕ). m < length (trees_in c.loop-k.table)) found
    (below_at (length (trees_in c.loop-k.table)) ns c.loop-k.invariant.listed k inside)

pub loop-k-preserved : goal.loop-k-preserved
loop-k-preserved c =
    let trees = trees_in c.loop-k.table in
    let ns = c.loop-k.listed in
    let k = c.loop-k.k in
    let n = c.get-n.result.now in
    let t = tree_at trees n in
    let seen = trees_at (trees_in c.args.table.now) c.args.listed.now in
    let now = trees_at trees ns in
    let new = trees_at (trees_in c.list_read_before.new.table) c.list_read_before.new.listed in
    let more = c.loop-k.invariant.longer.0 in
    let longer : now ≡ seen ++ more = c.loop-k.invariant.longer.1 in
    let found : get_or ns k 0 ≡ n = get_or_from_slice_get ns k n 0 c.get-n.ensures in
    let inside = slice_get_within ns k n c.get-n.ensures in
    let long = length-map c.args.listed.now (tree_at (trees_in c.args.table.now)) in
    let first : k < length seen = omega arith in
    let is : t ≡ get_or seen k t =
    ap (tree_at trees) (sym found) ∙ tree_of_place trees ns k t inside ∙ ap (λ (us : List Tree). get_or us k t) longer
    ∙ get_or_append_left seen more t k first in
    let made : new ≡ put_if (read_before t) now = c.in_ok-list_read_before.ensures.terms in
    let low : reads_on t < suc (reads_on t) = omega arith in
    let grown = grown_put_if t now (reads_on t) low in
    record {
      listed = c.in_ok-list_read_before.ensures.listed;
      grows = grows-twice c.args.table.now c.loop-k.table c.list_read_before.new.table c.loop-k.invariant.grows c.list_read_before.ensures.grows;
      longer = (more ++ grown.more, made ∙ grown.is ∙ ap (λ (us : List Tree). us ++ grown.more) longer ∙ append_assoc seen more grown.more);
      rest =
          ap (with_reads (drop (k + 1) seen)) made
          ∙ ap (λ (u : Tree). with_reads (u ∷ drop (k + 1) seen) now) is
          ∙ ap (λ (us : List Tree). with_reads us now) (sym (drop_more seen k t first))
          ∙ c.loop-k.invariant.rest;
    }
