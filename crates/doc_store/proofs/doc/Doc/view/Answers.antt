use Rattle.std.proofs.Common.{◌≡◌, ◌<◌, ◌≤◌, ◌++◌, ◌∷◌, ◌∙◌, ap, sym, arith, map, List}
use Rattle.std.specs.FinMap.{len}
use Rattle.model.specs.View.{ViewNode, outline, view_node}
use Rattle.doc_store.specs.Kept.{Kept, state_of}
use Rattle.doc_store.specs.Shown.{node_seen}
use Rattle.doc_store.specs.Views.{still_to_show}
use Rattle.doc_store.proofs.ViewLaws.{next_deeper, next_last, nodes_pushed, one_more_shown, shorter}
use Rattle.doc_store.proofs.doc.Doc.view.Goals as goal
use Rattle.doc_store.proofs.doc.Doc.view.Goals.{After-drop-children-then-next-count, Else-next-count}

deeper : (c : After-drop-children-then-next-count) → still_to_show (state_of c.args.self.now) c.loop-next.stack.items ≡ view_node (outline (state_of c.args.self.now)) c.in-Some.next.depth c.in-Some.next.id ∷ still_to_show (state_of c.args.self.now) c.open_all.new.stack.items
deeper c =
    let s = state_of c.args.self.now in
    let many = c.in_ok-index.ensures.count in
    let rows = ap (λ (d : Kept). d.contents) (sym c.self.view_is) in
    let kids = c.in_ok-children.ensures s rows c.in_ok-index.ensures.finds in
    let less : c.in-Some.next.depth < len s.nodes = omega (arith, c.if-next-count.true, many) in
    ap (still_to_show s) c.in-Some.ensures.items ∙ next_deeper s c.pop.new.self.items c.in-Some.next c.deref.result.now less (c.deref.ensures.value ∙ kids)
    ∙ ap (λ st. view_node (outline s) c.in-Some.next.depth c.in-Some.next.id ∷ still_to_show s st) (sym c.in_ok-open_all.ensures)

pub loop-next-smaller-then-next-count : goal.loop-next-smaller-then-next-count
loop-next-smaller-then-next-count c =
    let s = state_of c.args.self.now in
    shorter (view_node (outline s) c.in-Some.next.depth c.in-Some.next.id) (still_to_show s c.loop-next.stack.items) (still_to_show s c.open_all.new.stack.items) (deeper c)

pub loop-next-preserved-then-next-count : goal.loop-next-preserved-then-next-count
loop-next-preserved-then-next-count c =
    let s = state_of c.args.self.now in
    let rows = ap (λ (d : Kept). d.contents) (sym c.self.view_is) in
    let node = view_node (outline s) c.in-Some.next.depth c.in-Some.next.id in
    ap (λ (ns : List ViewNode). ns ++ still_to_show s c.open_all.new.stack.items) (nodes_pushed node_seen c.loop-next.nodes.items c.in_ok-view_node.field-0 c.push-in-Some.new.self.items node c.in_ok-push-2.ensures.items (c.in_ok-view_node.ensures s rows))
    ∙ one_more_shown (map node_seen c.loop-next.nodes.items) node _ _ _ (deeper c) c.loop-next.invariant

last : (c : Else-next-count) → still_to_show (state_of c.args.self.now) c.loop-next.stack.items ≡ view_node (outline (state_of c.args.self.now)) c.in-Some.next.depth c.in-Some.next.id ∷ still_to_show (state_of c.args.self.now) c.pop.new.self.items
last c =
    let s = state_of c.args.self.now in
    let many = c.in_ok-index.ensures.count in
    let most : len s.nodes ≤ c.in-Some.next.depth = omega (arith, c.if-next-count.false, many) in
    ap (still_to_show s) c.in-Some.ensures.items ∙ next_last s c.pop.new.self.items c.in-Some.next most

pub loop-next-smaller : goal.loop-next-smaller
loop-next-smaller c =
    let s = state_of c.args.self.now in
    shorter (view_node (outline s) c.in-Some.next.depth c.in-Some.next.id) (still_to_show s c.loop-next.stack.items) (still_to_show s c.pop.new.self.items) (last c)

pub loop-next-preserved : goal.loop-next-preserved
loop-next-preserved c =
    let s = state_of c.args.self.now in
    let rows = ap (λ (d : Kept). d.contents) (sym c.self.view_is) in
    let node = view_node (outline s) c.in-Some.next.depth c.in-Some.next.id in
    ap (λ (ns : List ViewNode). ns ++ still_to_show s c.pop.new.self.items) (nodes_pushed node_seen c.loop-next.nodes.items c.in_ok-view_node.field-0 c.push-in-Some.new.self.items node c.in_ok-push-2.ensures.items (c.in_ok-view_node.ensures s rows))
    ∙ one_more_shown (map node_seen c.loop-next.nodes.items) node _ _ _ (last c) c.loop-next.invariant
