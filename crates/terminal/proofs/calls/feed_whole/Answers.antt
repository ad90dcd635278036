-- What the loop over the input leaves, with its answer.
use Rattle.steps.specs.Steps.{buffers}
use Rattle.terminal.proofs.CallLaws.{state-facts, sizes-fit, fed-bytes}
use Rattle.terminal.proofs.calls.feed_whole.Goals as goal

pub feed_bytes-requires : goal.feed_bytes-requires
feed_bytes-requires c =
    let a = c.args in
    let sizes = sizes-fit a.state.displays.core.rows (buffers a.page.now a.line.now) c.requires.sizes in
    (record { whole = state-facts a.state c.requires.whole; size = sizes.0 }, sizes.1)

pub returns : goal.returns
returns c =
    let a = c.args in
    fed-bytes a.state (buffers a.page.now a.line.now) a.input.now a.reply.now
    (record {
      result = c.feed_bytes.result;
      buffers = buffers c.feed_bytes.new.page c.feed_bytes.new.cells;
      reply = c.feed_bytes.new.reply;
    }) c.feed_bytes.ensures c.requires.whole c.requires.sizes
