use Rattle.gr_streams.proofs.thread.ReaderThread.start.Goals as goal

pub read-requires-asks-read_each-requires : goal.read-requires-asks-read_each-requires
read-requires-asks-read_each-requires g c κs within = λ _ _ _. rw c.in-Err.ensures.err (λ _ _ _ _ _. (c.requires.unread, c.requires.room))
