use Rattle.std.proofs.Common.{◌++◌, ◌∙◌, ap, string_bytes}
use Rattle.model.specs.Text.{show_text, shown_node}
use Rattle.doc_store.specs.Shown.{node_seen}
use Rattle.outline_show.proofs.LineLaws.{lines_all}
use Rattle.outline_show.proofs.show.show_text.Goals as goal

pub returns : goal.returns
returns c =
    c.from_string.ensures
    ∙ lines_all shown_node node_seen (string_bytes c.new-text.result) (string_bytes c.loop-node.text) c.as_slice-node-items.result.now c.args.view.now c.loop-node.node-index c.loop-node-test.false c.as_slice-node-items.ensures c.loop-node.invariant
    ∙ ap (λ bytes. bytes ++ show_text c.args.view.now) c.new-text.ensures.bytes
