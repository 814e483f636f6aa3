use Rattle.gr_threads.proofs.worker.shade.Goals as goal

pub returns-in-Some : goal.returns-in-Some
returns-in-Some g c = λ accesses was. rw c.in-Access.is (c.in_ok-word.ensures.stands accesses was)

pub returns-in_default-2 : goal.returns-in_default-2
returns-in_default-2 g c = λ accesses was. rw c.in-Access.is (c.in_ok-word.ensures.stands accesses was)
