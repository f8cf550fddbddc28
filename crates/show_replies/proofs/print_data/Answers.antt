-- `show_replies::print_data`: the reply lies in its buffer. Assumes nothing.
use Rattle.show_common.proofs.Replies.{within}
use Rattle.show_replies.proofs.print_data.Goals as goal

pub slice_bounds-buffer-end : goal.slice_bounds-buffer-end
slice_bounds-buffer-end g c = within _ _ _ _ _ c.put_data.ensures c.unwrap_or-n.ensures c.put_data.auto.buffer
