-- Cell by cell.
use Rattle.sm_replay.proofs.Imports.{◌≡◌, ◌++◌, ℕ, List, ◌∷◌, string_bytes, sym, subst, IsStrictlySortedBy, keys_of, string_cmp, view, Entry, cell_given, number_of_text}
use Rattle.std.proofs.lemmas.Map.Iter.{rest_more, rest_all}
use Rattle.std.specs.Map.Iter.{deref_pair}
use Rattle.sm_replay.proofs.MembersLemmas.{ListsBefore, list_turn, all_listed, rest_sorted}
use Rattle.sm_replay.proofs.input.list_of.Goals as goal

pub loop-key-preserved : goal.loop-key-preserved
loop-key-preserved c =
    let all = c.args.cells.now.entries in
    let e : Entry = (c.in-Some.key.now, c.in-Some.number.now) in
    let rest = c.next.new.self in
    let left : c.loop-key.key-iterator ≡ e ∷ rest =
    rest_more deref_pair c.loop-key.key-iterator rest c.next.result
    (c.in-Some.key, c.in-Some.number) c.in-Some.is c.next.ensures.steps in
    let sorted : IsStrictlySortedBy string_cmp (keys_of (e ∷ rest)) =
    subst (λ (l : List Entry). IsStrictlySortedBy string_cmp (keys_of l)) left c.loop-key.invariant.ordered in
    let before : ListsBefore all (e ∷ rest) c.loop-key.list.items =
    subst (λ (l : List Entry). ListsBefore all l c.loop-key.list.items) left c.loop-key.invariant.before in
    let added : c.add_cell.new.list.items ≡ c.loop-key.list.items ++ cell_given (number_of_text (string_bytes e.0)) (view e.1) =
    subst (λ (t : List ℕ). c.add_cell.new.list.items ≡ c.loop-key.list.items ++ cell_given (number_of_text t) (view e.1))
    c.as_str.ensures.value c.in_ok-add_cell.ensures in
    record {
      before = subst (ListsBefore all rest) (sym added) (list_turn all e rest c.loop-key.list.items sorted before);
      ordered = rest_sorted e rest sorted;
    }

pub returns : goal.returns
returns c =
    let all = c.args.cells.now.entries in
    all_listed all c.loop-key.list.items
    (subst (λ (l : List Entry). ListsBefore all l c.loop-key.list.items)
    (rest_all deref_pair c.loop-key.key-iterator c.next.new.self c.next.result c.in-None.is c.next.ensures.steps)
    c.loop-key.invariant.before)
