-- `show_judge::count_request`: the reply lies in its buffer. Assumes nothing.
use Rattle.show_common.proofs.Replies.{within}
use Rattle.show_judge.proofs.count_request.Goals as goal

pub slice_bounds-reply-end : goal.slice_bounds-reply-end
slice_bounds-reply-end g c = within _ _ _ _ _ c.put_data.ensures c.unwrap_or-granted.ensures c.put_data.auto.buffer
